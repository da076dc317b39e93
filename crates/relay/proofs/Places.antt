-- The first messages behind a place.
use Rattle.std.proofs.Common.{◌≡◌, ◌⊎◌, inl, inr, ℕ, zero, suc, ◌<◌, List, [], ◌∷◌, Option, Some, None, Ordering, Less}
use Rattle.std.proofs.Common.{Equal, Greater}
use Rattle.std.proofs.Common.{refl, sym, ap, subst, ◌∙◌, arith}
use Rattle.std.specs.Ordering.{nat_cmp, ordering_then}
use Rattle.std.specs.Cmp.{tied_itself, nat_cmp_is}
use Rattle.std.proofs.lemmas.Bool.{cases_eq, cases_lt}
use Rattle.base.specs.Order.{pair_cmp, pair_cmp-total}
use Rattle.base.specs.declared.pair.Pair.{Pair}
use Rattle.envelope.specs.declared.message.Letter.{Letter}
use Rattle.keep.specs.declared.change.LetterPlace.{LetterPlace}
use Rattle.keep.specs.Places.{IsBefore}
use Rattle.keep.specs.Listing.{place_of, IsAfter, AreFirst}
use Rattle.keep.specs.Tables.{Messages}
use Rattle.keep.proofs.Listings.{later_than}
use Rattle.keep.proofs.Places.{pair_cmp-Equal, never_self_pair}

number_less : (k n : ℕ) → nat_cmp k n ≡ Less → k < n
number_less k n h = elim (cases_lt k n) [
  | inl less ↦ less
  | inr more ↦ elim (cases_eq k n) [
    | inl same ↦ let z : Equal ≡ Less = nat_cmp_is k n Equal same ∙ h in cc
    | inr other ↦ let z : Greater ≡ Less = nat_cmp_is k n Greater (omega (arith, more, other)) ∙ h in cc
  ]
]

tie : (p q : Pair) → p ≡ q → pair_cmp p q ≡ Equal
tie p q e = subst (λ x. pair_cmp p x ≡ Equal) e (tied_itself pair_cmp-total p)

-- within a pair places are in order of their numbers
pub numbers_rise : (x y : LetterPlace) → x.pair ≡ y.pair → IsBefore x y → x.number < y.number
numbers_rise x y e h =
    number_less x.number y.number (ap (λ o. ordering_then o (nat_cmp x.number y.number)) (sym (tie x.pair y.pair e))
    ∙ h)

pub before_in_pair : (x y : LetterPlace) → x.pair ≡ y.pair → x.number < y.number → IsBefore x y
before_in_pair x y e h = ap (λ o. ordering_then o (nat_cmp x.number y.number)) (tie x.pair y.pair e)
    ∙ sym (nat_cmp_is x.number y.number Less h)

first_part : (o r : Ordering) → ordering_then o r ≡ Less → (o ≡ Less) ⊎ (o ≡ Equal)
first_part Less r h = inl refl
first_part Equal r h = inr refl
first_part Greater r h = let z : Greater ≡ Less = h in absurd cc

pairs_rise : (x y : LetterPlace) → IsBefore x y → (pair_cmp x.pair y.pair ≡ Less) ⊎ (x.pair ≡ y.pair)
pairs_rise x y h = elim (first_part (pair_cmp x.pair y.pair) (nat_cmp x.number y.number) h) [
  | inl less ↦ inl less
  | inr same ↦ inr (pair_cmp-Equal x.pair y.pair same)
]

-- what stands between two places of a pair is of that pair
pub pair_between_places : (x y z : LetterPlace) → x.pair ≡ z.pair → IsBefore x y → IsBefore y z → x.pair ≡ y.pair
pair_between_places x y z e h k = elim (pairs_rise x y h) [
  | inr same ↦ same
  | inl less ↦ elim (pairs_rise y z k) [
    | inl more ↦ absurd (never_self_pair x.pair
        (pair_cmp-total.trans x.pair y.pair x.pair less (subst (λ p. pair_cmp y.pair p ≡ Less) (sym e) more)))
    | inr last ↦ e ∙ sym last
  ]
]

-- they are the same of messages that are the same behind the place
pub alike : (d e : Messages) (after : Option LetterPlace) (n : ℕ) (ls : List Letter)
    → ((x : LetterPlace) → IsAfter after x → e x.pair x.number ≡ d x.pair x.number) → AreFirst d after n ls
    → AreFirst e after n ls
alike d e after zero [] same are = tt
alike d e after zero (l ∷ ls) same are = absurd are
alike d e after (suc n) [] same are = λ x h. same x h ∙ are x h
alike d e after (suc n) (l ∷ ls) same are = (
  record {
    stands = same (place_of l) are.0.later ∙ are.0.stands;
    later = are.0.later;
    first = λ x h b. same x h ∙ are.0.first x h b;
  },
  alike d e (Some (place_of l)) n ls (λ x h. same x (later_than after (place_of l) x are.0.later h)) are.1,
)

-- and they are those behind an earlier place, where none stands between
pub gap_over : (d : Messages) (after here : Option LetterPlace) (n : ℕ) (ls : List Letter)
    → ((x : LetterPlace) → IsAfter here x → IsAfter after x)
    → ((x : LetterPlace) → IsAfter after x → IsAfter here x ⊎ (d x.pair x.number ≡ None)) → AreFirst d here n ls
    → AreFirst d after n ls
gap_over d after here zero [] wide none are = tt
gap_over d after here zero (l ∷ ls) wide none are = absurd are
gap_over d after here (suc n) [] wide none are =
    λ x h. elim (none x h) [ inl later ↦ are x later | inr none_here ↦ none_here ]
gap_over d after here (suc n) (l ∷ ls) wide none are = (
  record {
    stands = are.0.stands;
    later = wide (place_of l) are.0.later;
    first = λ x h b. elim (none x h) [ inl later ↦ are.0.first x later b | inr none_here ↦ none_here ];
  },
  are.1,
)

pub gap : (d : Messages) (after : Option LetterPlace) (here : LetterPlace) (n : ℕ) (ls : List Letter)
    → ((x : LetterPlace) → IsBefore here x → IsAfter after x)
    → ((x : LetterPlace) → IsAfter after x → IsBefore here x ⊎ (d x.pair x.number ≡ None)) → AreFirst d (Some here) n ls
    → AreFirst d after n ls
gap d after here n ls = gap_over d after (Some here) n ls
