use Rattle.std.proofs.Common.{subst, sym}
use Rattle.std.specs.Net.Grammar.{IsIpText}
use Rattle.outbox_broker.proofs.plan.address_of.Goals as goal

pub returns-in-Ok : goal.returns-in-Ok
returns-in-Ok c =
    let made = c.new.ensures in
    (subst (IsIpText c.args.text.now) (sym made.ip) c.in-Ok.ensures, (made.port, made.flowinfo, made.scope_id))

pub returns-in-Err : goal.returns-in-Err
returns-in-Err c = c.in-Err.ensures
