use Rattle.std.proofs.Common.{length, ◌-◌, ◌≡◌, ℕ, ◌≤◌, take, drop}
use Rattle.std.specs.Io.KnownBytes.{Appends, Keeps}
use Rattle.stomp_wire.specs.Pump.{Puts}
use Rattle.stomp_wire.proofs.pump.pump_rest.Given as goal

abbrev pub invariant-loop-count : goal.invariant-loop-count
invariant-loop-count g l = record {
  least : l.gone ≤ l.count;
  most : l.count ≤ length l.bytes;
  run : (first : _) (start : ℕ) → Puts g.L.Link.put_gives l.bytes first start l.initial.link l.gone
      → Puts g.L.Link.put_gives l.bytes first start l.link l.count;
  outgoing : Appends (g.L.Link.outgoing l.initial.link) (g.L.Link.outgoing l.link)
      (take (l.count - l.gone) (drop l.gone l.bytes));
  incoming : Keeps (g.L.Link.incoming l.initial.link) (g.L.Link.incoming l.link);
  counted : g.L.Link.failures l.link ≡ g.L.Link.failures l.initial.link;
}

abbrev pub decreases-loop-count : goal.decreases-loop-count
decreases-loop-count g l = length l.bytes - l.count
