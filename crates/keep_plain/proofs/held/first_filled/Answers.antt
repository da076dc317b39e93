use Rattle.std.proofs.Common.{◌≡◌, Some, None, ap, sym, subst, ◌∙◌}
use Rattle.std.proofs.lemmas.Bool.{cond-true}
use Rattle.base.specs.Order.{pair_cmp, pair_cmp-total}
use Rattle.keep_plain.specs.Listed.{first_key}
use Rattle.keep_plain.specs.Slots.{at, IsFirstFilled}
use Rattle.keep_plain.proofs.Filled.{first_is}
use Rattle.keep_plain.proofs.held.first_filled.Goals as goal

pub returns-then-is_some : goal.returns-then-is_some
returns-then-is_some c =
    let gives = c.into_iter-pair-iterator.ensures.into_iter_gives in
    let here : first_key c.args.pairs.now.entries ≡ Some c.in_ok-copy.field-0 =
    sym (ap first_key gives.0) ∙ sym c.loop-pair.invariant ∙ ap first_key c.in-Some.ensures.steps
    ∙ cond-true _ _ _ (sym c.is_some.ensures ∙ c.if-is_some.true) ∙ ap Some (sym c.in_ok-copy.ensures) in
    subst (IsFirstFilled pair_cmp (at pair_cmp c.args.pairs.now)) here (first_is pair_cmp pair_cmp-total
    c.args.pairs.now gives.5)

pub returns : goal.returns
returns c =
    let gives = c.into_iter-pair-iterator.ensures.into_iter_gives in
    let none : first_key c.args.pairs.now.entries ≡ None =
    sym (ap first_key gives.0) ∙ sym c.loop-pair.invariant ∙ ap first_key c.in-None.ensures.steps.0 in
    subst (IsFirstFilled pair_cmp (at pair_cmp c.args.pairs.now)) none (first_is pair_cmp pair_cmp-total
    c.args.pairs.now gives.5)
