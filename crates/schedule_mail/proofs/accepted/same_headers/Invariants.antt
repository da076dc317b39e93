use Rattle.std.proofs.Common.{◌≡◌, drop}
use Rattle.schedule_mail.specs.Accepted.{same_headers}
use Rattle.schedule_mail.proofs.accepted.same_headers.Given as goal

abbrev pub invariant-loop-index : goal.invariant-loop-index
invariant-loop-index l = same_headers l.one l.other ≡ same_headers (drop l.index l.one) (drop l.index l.other)
