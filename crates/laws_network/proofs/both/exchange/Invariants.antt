use Rattle.std.proofs.Common.{◌≡◌, ◌≤◌, length, take, vec_len, vec_capacity}
use Rattle.endpoint.specs.Calls.{StillMatches}
use Rattle.laws_network.specs.Runs.{DoubtStays, Runs}
use Rattle.laws_network.specs.Sides.{contents}
use Rattle.laws_network.proofs.both.exchange.Given as goal

-- what was done so far
abbrev pub invariant-loop-delivery : goal.invariant-loop-delivery
invariant-loop-delivery g l = record {
  room : length l.deliveries ≤ vec_capacity l.outcomes;
  count : vec_len l.outcomes ≡ l.delivery-index;
  left : StillMatches g.K.Keep.seen l.initial.left l.left g.H.Handler.service;
  right : StillMatches g.L.Keep.seen l.initial.right l.right g.G.Handler.service;
  doubt : DoubtStays (contents (g.K.Keep.seen l.initial.left) (g.L.Keep.seen l.initial.right) l.initial.network)
      (contents (g.K.Keep.seen l.left) (g.L.Keep.seen l.right) l.network);
  runs : Runs g.H.Handler.service g.G.Handler.service (take l.delivery-index l.deliveries) l.outcomes.items
      (contents (g.K.Keep.seen l.initial.left) (g.L.Keep.seen l.initial.right) l.initial.network)
      (contents (g.K.Keep.seen l.left) (g.L.Keep.seen l.right) l.network);
}
