use Rattle.std.proofs.Common.{◌+◌, ◌<◌}
use Rattle.broker_core.specs.Parts.Rising.{StandsAt}
use Rattle.broker_core.specs.Parts.Taking.{Handled, left_in}
use Rattle.broker_core.specs.Serving.{session_of}
use Rattle.broker_core.proofs.broker.Broker.feed.Given as goal

abbrev pub invariant-loop-count : goal.invariant-loop-count
invariant-loop-count g l = record {
  handled : Handled g.row.FULL l.fn.session l.initial.self l.count l.self;
  less : left_in (session_of l.fn.session l.self) + l.count < l.bound;
  stands : StandsAt l.fn.session l.self.sessions l.at;
}
