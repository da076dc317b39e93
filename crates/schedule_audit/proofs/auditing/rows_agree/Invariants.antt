use Rattle.std.proofs.Common.{take}
use Rattle.schedule_audit.proofs.Going.{FarIn}
use Rattle.schedule_audit.proofs.auditing.rows_agree.Given as goal

-- the rows before this one were looked at
abbrev pub invariant-loop-row : goal.invariant-loop-row
invariant-loop-row g l =
    FarIn g.KO.Keep.seen g.KS.Keep.seen g.KA.Keep.seen (take l.row-index l.rows) l.fn.purchasing l.purchasing
    l.fn.warehouse l.warehouse l.fn.billing l.billing
