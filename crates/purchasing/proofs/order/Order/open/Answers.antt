use Rattle.std.proofs.Common.{◌≡◌, sym, subst}
use Rattle.trade.specs.Orders.{partners_of}
use Rattle.trade.specs.Sound.{ArePartners}
use Rattle.trade.proofs.Sound.{new_sound}
use Rattle.purchasing.specs.Parts.Partners.{names}
use Rattle.purchasing.proofs.order.Order.open.Goals as goal

pub invariant_of-result : goal.invariant_of-result
invariant_of-result c =
    let made : c.in_ok-to_ask.field-0.items ≡ partners_of c.args.lines.now c.args.account.now c.args.amount =
    rw (← c.as_slice.ensures.value) c.in_ok-to_ask.ensures in
    subst (λ ps. ArePartners (names ps)) (sym made) (new_sound c.args.lines.now c.args.account.now c.args.amount
    c.requires.lines)
