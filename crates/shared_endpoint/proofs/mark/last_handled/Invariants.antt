use Rattle.std.proofs.Common.{◌≡◌, None, drop}
use Rattle.shared_endpoint.specs.Mark.{last_handled}
use Rattle.shared_endpoint.proofs.mark.last_handled.Given as goal

abbrev pub invariant-loop-grouped : goal.invariant-loop-grouped
invariant-loop-grouped l = last_handled l.last (drop l.grouped-index l.told) ≡ last_handled None l.fn.told
