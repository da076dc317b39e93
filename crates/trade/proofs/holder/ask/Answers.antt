use Rattle.std.proofs.Common.{arith, rules}
use Rattle.std.proofs.lemmas.Grind.{common_steps}
use Rattle.trade.proofs.Holdings.{request_changes}
use Rattle.trade.proofs.holder.ask.Goals as goal

pub returns-in_err-copy : goal.returns-in_err-copy
returns-in_err-copy g c =
    let changes =
    request_changes g.H.Holder.holding g.H.Holder.given c.args.holder.now c.args.order.now c.args.number c.requires.new
    in
    grind (arith, changes)

pub returns-in_err-tell : goal.returns-in_err-tell
returns-in_err-tell g c =
    let changes =
    request_changes g.H.Holder.holding g.H.Holder.given c.args.holder.now c.args.order.now c.args.number c.requires.new
    in
    grind (arith, changes)

pub returns-in-Err : goal.returns-in-Err
returns-in-Err g c =
    let changes =
    request_changes g.H.Holder.holding g.H.Holder.given c.args.holder.now c.args.order.now c.args.number c.requires.new
    in
    (search rules, grind (arith, common_steps), changes)
