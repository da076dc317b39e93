use Rattle.std.proofs.Common.{◌≡◌, drop}
use Rattle.stomp_frame.specs.Frames.{value_of}
use Rattle.stomp_client.proofs.session.first_value.Given as goal

abbrev pub invariant-loop-index : goal.invariant-loop-index
invariant-loop-index l = value_of l.name (drop l.index l.header-items) ≡ value_of l.name l.header-items
