-- Where a number stands among places in order of their numbers.
use Rattle.std.proofs.Common.{◌≡◌, ◌≢◌, ℕ, zero, suc, ◌+◌, ◌<◌, ◌≤◌, Bool, true, not, ltb, leb, eqb}
use Rattle.std.proofs.Common.{List, [], ◌∷◌, ◌++◌}
use Rattle.std.proofs.Common.{length, get_or, Option, Some, None, refl, sym, ap, ◌∙◌, ◌⊎◌, inl, inr, arith}
use Rattle.std.specs.List.{find, list_all, remove, All, AllWithin}
use Rattle.std.specs.List.Sorted.{IsPartitionPoint}
use Rattle.std.specs.Option.{OnSome}
use Rattle.std.proofs.lemmas.Bool.{cases_lt, cond-true, cond-false, and_parts, and_from, ltb-true}
use Rattle.std.proofs.lemmas.Bool.{lt-ltb, le-leb, lt-leb, eq-eqb, ne_eqb, not_from_false, not_from_true}
use Rattle.std.proofs.lemmas.Option.{MatchOption-at_some}
use Rattle.std.proofs.lemmas.List.{get_or_default}
use Rattle.std.proofs.lemmas.List.Elements.{All-head, All-tail, All-from_all_within}
use Rattle.broker_index.specs.declared.places.KeyedPlace.{KeyedPlace}
use Rattle.broker_index.specs.Index.{is_from, without}
use Rattle.broker_index.specs.Places.{IsBefore, IsFrom, are_rising}
use Rattle.broker_index.proofs.Sorting.{list_all-weaker, filter_same, rising-push, rising-filter}

abbrev pub number_of : KeyedPlace → ℕ
number_of p = p.number

-- the index splits the places: those before the number stand before it
abbrev pub Splits : ℕ → List KeyedPlace → ℕ → Type 0
Splits n ps i = IsPartitionPoint (IsBefore n) (IsFrom n) ps i

-- what all pass, the one at an index passes
list_all-at : (p : KeyedPlace → Bool) (ps : List KeyedPlace) (k : ℕ) (d : KeyedPlace) → list_all p ps ≡ true → k < length ps
    → p (get_or ps k d) ≡ true
list_all-at p [] k d all within = absurd (omega arith)
list_all-at p (x ∷ ps) zero d all within = (and_parts (p x) (list_all p ps) all).0
list_all-at p (x ∷ ps) (suc k) d all within =
    list_all-at p ps k d (and_parts (p x) (list_all p ps) all).1 (omega arith)

-- of two places the later has no lower number
pub rises : (ps : List KeyedPlace) (i j : ℕ) (d : KeyedPlace) → are_rising ps ≡ true → i ≤ j → j < length ps
    → number_of (get_or ps i d) ≤ number_of (get_or ps j d)
rises [] i j d rising order within = absurd (omega arith)
rises (x ∷ ps) zero zero d rising order within = omega arith
rises (x ∷ ps) zero (suc j) d rising order within =
    let parts = and_parts (list_all (λ y. ltb x.number y.number) ps) (are_rising ps) rising in
    let above = ltb-true x.number (number_of (get_or ps j d))
    (list_all-at (λ y. ltb x.number y.number) ps j d parts.0 (omega arith)) in
    omega arith
rises (x ∷ ps) (suc i) zero d rising order within = absurd (omega arith)
rises (x ∷ ps) (suc i) (suc j) d rising order within =
    rises ps i j d (and_parts (list_all (λ y. ltb x.number y.number) ps) (are_rising ps) rising).1 (omega arith)
    (omega arith)

-- each number is above that of the place in front of it, so an index behind the first it is as much above the first
pub above_first : (x : KeyedPlace) (ps : List KeyedPlace) (k : ℕ) (d : KeyedPlace) → are_rising (x ∷ ps) ≡ true → k < length (x ∷ ps)
    → x.number + k ≤ number_of (get_or (x ∷ ps) k d)
above_first x ps zero d rising within = omega arith
above_first x [] (suc k) d rising within = absurd (omega arith)
above_first x (y ∷ ps) (suc k) d rising within =
    let parts = and_parts (list_all (λ z. ltb x.number z.number) (y ∷ ps)) (are_rising (y ∷ ps)) rising in
    let step = ltb-true x.number y.number (and_parts (ltb x.number y.number) _ parts.0).0 in
    let more = above_first y ps k d parts.1 (omega arith) in
    omega arith

-- from as many places on as a number is above the first, none is before that number
pub from_first : (n : ℕ) (ps : List KeyedPlace) (p : KeyedPlace) (i : ℕ) → are_rising ps ≡ true → p ≡ get_or ps 0 p
    → n ≤ p.number + i → AllWithin (IsFrom n) ps i (length ps)
from_first n [] p i rising is far k d from upto = absurd (omega arith)
from_first n (x ∷ ps) p i rising is far k d from upto =
    let more = above_first x ps k d rising upto in
    let same : p.number ≡ x.number = ap number_of is in
    omega arith

-- where a place is before a number, so are those up to it
pub before_upto : (n : ℕ) (ps : List KeyedPlace) (i : ℕ) (p : KeyedPlace) → are_rising ps ≡ true → i < length ps
    → p ≡ get_or ps i p → p.number < n → AllWithin (IsBefore n) ps 0 (i + 1)
before_upto n ps i p rising within is before k d from upto =
    let order = rises ps k i d rising (omega arith) within in
    let same : p.number ≡ number_of (get_or ps i d) = ap number_of (is ∙ get_or_default ps i p d within) in
    omega arith

-- where a place isn't before a number, those behind it aren't either
pub from_on : (n : ℕ) (ps : List KeyedPlace) (i : ℕ) (p : KeyedPlace) → are_rising ps ≡ true → i < length ps
    → p ≡ get_or ps i p → n ≤ p.number → AllWithin (IsFrom n) ps i (length ps)
from_on n ps i p rising within is behind k d from upto =
    let order = rises ps i k d rising from upto in
    let same : p.number ≡ number_of (get_or ps i d) = ap number_of (is ∙ get_or_default ps i p d within) in
    omega arith

-- the same index without the first place
splits-tail : (n : ℕ) (x : KeyedPlace) (ps : List KeyedPlace) (i : ℕ) → Splits n (x ∷ ps) (suc i) → Splits n ps i
splits-tail n x ps i splits = (
  λ k d from upto. splits.0 (suc k) d (omega arith) (omega arith),
  λ k d from upto. splits.1 (suc k) d (omega arith) (omega arith),
)

-- the first place from a number on is the one at the index
pub find_at : (n : ℕ) (ps : List KeyedPlace) (i : ℕ) (d : KeyedPlace) → Splits n ps i → i < length ps
    → find (is_from n) ps ≡ Some (get_or ps i d)
find_at n [] i d splits within = absurd (omega arith)
find_at n (x ∷ ps) zero d splits within =
    cond-true (leb n x.number) (Some x) (find (is_from n) ps)
    (le-leb n x.number (splits.1 0 x (omega arith) (omega arith)))
find_at n (x ∷ ps) (suc i) d splits within =
    cond-false (leb n x.number) (Some x) (find (is_from n) ps)
    (lt-leb n x.number (splits.0 0 x (omega arith) (omega arith)))
    ∙ find_at n ps i d (splits-tail n x ps i splits) (omega arith)

-- none is, where the index is behind all
pub find_none : (n : ℕ) (ps : List KeyedPlace) (i : ℕ) → Splits n ps i → length ps ≤ i → find (is_from n) ps ≡ None
find_none n [] i splits past = refl
find_none n (x ∷ ps) zero splits past = absurd (omega arith)
find_none n (x ∷ ps) (suc i) splits past =
    cond-false (leb n x.number) (Some x) (find (is_from n) ps)
    (lt-leb n x.number (splits.0 0 x (omega arith) (omega arith)))
    ∙ find_none n ps i (splits-tail n x ps i splits) (omega arith)

-- each place is before the number, or not before the one that is found
pub least_at : (n : ℕ) (ps : List KeyedPlace) (i : ℕ) (p : KeyedPlace) → are_rising ps ≡ true → Splits n ps i → i < length ps
    → p ≡ get_or ps i p → All (λ (q : KeyedPlace). (q.number < n) ⊎ (p.number ≤ q.number)) ps
least_at n ps i p rising splits within is =
    All-from_all_within (λ (q : KeyedPlace). (q.number < n) ⊎ (p.number ≤ q.number)) ps (λ k d from upto.
    elim (cases_lt k i) [
      | inl early ↦ inl (splits.0 k d from early)
      | inr late ↦
          let order = rises ps i k d rising late upto in
          let same : p.number ≡ number_of (get_or ps i d) = ap number_of (is ∙ get_or_default ps i p d within) in
          inr (omega arith)
    ])

-- places whose numbers are above one are without it
above_without : (n m : ℕ) (ps : List KeyedPlace) → n ≤ m → list_all (λ q. ltb m q.number) ps ≡ true → without n ps ≡ ps
above_without n m ps order above =
    let apart = λ (q : KeyedPlace) (h : ltb m q.number ≡ true). not_from_false (eqb q.number n)
    (ne_eqb q.number n (λ e. omega (arith, ltb-true m q.number h))) in
    filter_same (λ q. not (eqb q.number n)) ps
    (list_all-weaker (λ q. ltb m q.number) (λ q. not (eqb q.number n)) apart ps above)

-- a place of another number stays
without-other : (n : ℕ) (x : KeyedPlace) (ps : List KeyedPlace) → x.number ≢ n → without n (x ∷ ps) ≡ x ∷ without n ps
without-other n x ps other =
    cond-true (not (eqb x.number n)) (x ∷ without n ps) (without n ps)
    (not_from_false (eqb x.number n) (ne_eqb x.number n other))

-- the place at the index has the number: it is taken out
without_at : (n : ℕ) (ps : List KeyedPlace) (i : ℕ) (d : KeyedPlace) → are_rising ps ≡ true → Splits n ps i → i < length ps
    → number_of (get_or ps i d) ≡ n → without n ps ≡ remove ps i
without_at n [] i d rising splits within same = absurd (omega arith)
without_at n (x ∷ ps) zero d rising splits within same =
    let parts = and_parts (list_all (λ y. ltb x.number y.number) ps) (are_rising ps) rising in
    cond-false (not (eqb x.number n)) (x ∷ without n ps) (without n ps)
    (not_from_true (eqb x.number n) (eq-eqb x.number n same))
    ∙ above_without n x.number ps (omega arith) parts.0
without_at n (x ∷ ps) (suc i) d rising splits within same =
    let parts = and_parts (list_all (λ y. ltb x.number y.number) ps) (are_rising ps) rising in
    let before = splits.0 0 x (omega arith) (omega arith) in
    without-other n x ps (λ e. omega arith)
    ∙ ap (λ qs. x ∷ qs) (without_at n ps i d parts.1 (splits-tail n x ps i splits) (omega arith) same)

-- what is left once the place at the index, which has the number, was taken out
pub without-from_remove : (n : ℕ) (ps qs : List KeyedPlace) (i : ℕ) (p : KeyedPlace) (r : Option KeyedPlace) → are_rising ps ≡ true
    → Splits n ps i → i < length ps → p ≡ get_or ps i p → p.number ≡ n → r ≡ Some (get_or ps i p)
    → OnSome r (qs ≡ remove ps i) → qs ≡ without n ps
without-from_remove n ps qs i p r rising splits within is same given taken =
    MatchOption-at_some Unit (λ (_ : KeyedPlace). qs ≡ remove ps i) (get_or ps i p) given taken
    ∙ sym (without_at n ps i p rising splits within (sym (ap number_of is) ∙ same))

-- the place at the index has another number, or there is none: no place has the number
pub without_none : (n : ℕ) (ps : List KeyedPlace) (i : ℕ) (d : KeyedPlace) → are_rising ps ≡ true → Splits n ps i
    → (i < length ps → number_of (get_or ps i d) ≢ n) → without n ps ≡ ps
without_none n [] i d rising splits other = refl
without_none n (x ∷ ps) zero d rising splits other =
    let parts = and_parts (list_all (λ y. ltb x.number y.number) ps) (are_rising ps) rising in
    let differs = other (omega arith) in
    let behind = splits.1 0 x (omega arith) (omega arith) in
    without-other n x ps differs ∙ ap (λ qs. x ∷ qs) (above_without n x.number ps behind parts.0)
without_none n (x ∷ ps) (suc i) d rising splits other =
    let parts = and_parts (list_all (λ y. ltb x.number y.number) ps) (are_rising ps) rising in
    let before = splits.0 0 x (omega arith) (omega arith) in
    without-other n x ps (λ e. omega arith)
    ∙ ap (λ qs. x ∷ qs) (without_none n ps i d parts.1 (splits-tail n x ps i splits) (λ h. other (omega arith)))

-- without a number they rise
pub rising-without : (n : ℕ) (ps : List KeyedPlace) → are_rising ps ≡ true → are_rising (without n ps) ≡ true
rising-without n ps rising = rising-filter number_of (λ q. not (eqb q.number n)) ps rising

all_before : (n : ℕ) (ps : List KeyedPlace) → All (λ (p : KeyedPlace). p.number < n) ps → list_all (λ p. ltb p.number n) ps ≡ true
all_before n [] all = refl
all_before n (x ∷ ps) all =
    and_from (ltb x.number n) (list_all (λ p. ltb p.number n) ps)
    (lt-ltb x.number n (All-head (λ (p : KeyedPlace). p.number < n) x ps all))
    (all_before n ps (All-tail (λ (p : KeyedPlace). p.number < n) x ps all))

-- with one more behind all others they rise
pub rising-behind : (p : KeyedPlace) (ps : List KeyedPlace) → are_rising ps ≡ true → All (λ (q : KeyedPlace). q.number < p.number) ps
    → are_rising (ps ++ p ∷ []) ≡ true
rising-behind p ps rising before = rising-push number_of p ps rising (all_before p.number ps before)
