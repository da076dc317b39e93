-- When places are the same, and their order.
use Rattle.std.specs.Prelude.{◌≡◌, Bool, ◌&&◌, ◌==◌, refl}
use Rattle.std.specs.declared.cmp.Ordering.{Ordering}
use Rattle.std.specs.declared.cmp.Ordering.TheVariants.{Less}
use Rattle.std.specs.Ordering.{nat_cmp, then_cmp, on, is_eq, as_partial_cmp}
use Rattle.std.specs.Cmp.{IsEquivalence, IsPartialOrder, IsTotalOrder, on_equiv, and_equiv, then_total, on_total}
use Rattle.std.specs.Cmp.{both_tied}
use Rattle.std.specs.Cmp.{partial_order_from_agreeing_total, nat_cmp_total, nat_eq_equiv, unsigned_ties}
use Rattle.base.specs.Order.{pair_cmp, pair_cmp-total, same_pair, same_pair-equivalence, same_pair-ties}
use Rattle.keep.specs.declared.change.LetterPlace.{LetterPlace}

-- whether two places are one: the same pair and the same number
abbrev pub same_place : LetterPlace → LetterPlace → Bool
same_place a b = same_pair a.pair b.pair && (a.number == b.number)

-- places by their pairs, and then by their numbers
abbrev pub place_cmp : LetterPlace → LetterPlace → Ordering
place_cmp = then_cmp (on (λ x. x.pair) pair_cmp) (on (λ x. x.number) nat_cmp)

-- a place comes before another
abbrev pub IsBefore : LetterPlace → LetterPlace → Type 0
IsBefore a b = place_cmp a b ≡ Less

-- ---- what comparisons owe

pub same_place-equivalence : IsEquivalence same_place
same_place-equivalence = and_equiv (on_equiv (λ (x : LetterPlace). x.pair) same_pair-equivalence)
    (on_equiv (λ (x : LetterPlace). x.number) nat_eq_equiv)

pub place_cmp-total : IsTotalOrder place_cmp
place_cmp-total =
    then_total (on_total (λ (x : LetterPlace). x.pair) pair_cmp-total) (on_total (λ (x : LetterPlace). x.number) nat_cmp_total)

pub same_place-ties : (a b : LetterPlace) → same_place a b ≡ is_eq (place_cmp a b)
same_place-ties a b = both_tied _ _ (pair_cmp a.pair b.pair) (nat_cmp a.number b.number) (same_pair-ties a.pair b.pair)
    (unsigned_ties a.number b.number)

pub place_cmp-partial : IsPartialOrder same_place (as_partial_cmp place_cmp)
place_cmp-partial = partial_order_from_agreeing_total place_cmp place_cmp-total (λ p q. refl) same_place-ties
