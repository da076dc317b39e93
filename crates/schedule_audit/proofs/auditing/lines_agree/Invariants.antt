use Rattle.std.proofs.Common.{take}
use Rattle.schedule_audit.proofs.Tallying.{SoFar}
use Rattle.schedule_audit.proofs.auditing.lines_agree.Given as goal

-- the partners before this one were looked at
abbrev pub invariant-loop-index : goal.invariant-loop-index
invariant-loop-index g l =
    SoFar g.KS.Keep.seen g.KA.Keep.seen l.order l.placed.status (take l.index l.placed.partners) l.agree l.fn.warehouse
    l.warehouse l.fn.billing l.billing
