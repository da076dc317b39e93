use Rattle.std.proofs.Common.{arith}
use Rattle.trade.proofs.Holdings.{finish_changes, free_changes}
use Rattle.trade.proofs.holder.take_line_message.Goals as goal

pub returns-in_err-finish-in-Confirm : goal.returns-in_err-finish-in-Confirm
returns-in_err-finish-in-Confirm g c =
    let changes = finish_changes g.H.Holder.holding g.H.Holder.given c.args.holder.now c.args.sender.now in
    grind (arith, changes)

pub returns-in_err-free-in-Cancel : goal.returns-in_err-free-in-Cancel
returns-in_err-free-in-Cancel g c =
    let changes = free_changes g.H.Holder.holding g.H.Holder.given c.args.holder.now c.args.sender.now in
    grind (arith, changes)
