-- Lines: the line of an order, sums, and what holds of all lines, after one more line and after a line's phase has
-- changed.
use Rattle.std.proofs.Common.{◌≡◌, ℕ, ◌+◌, List, [], ◌∷◌, Bool, true, false, ◌≢◌, refl, ap, arith, sym, ◌∙◌, Some, None}
use Rattle.std.proofs.Common.{inl, inr, subst}
use Rattle.std.specs.Prelude.{sum_by, map, if◌then◌else◌}
use Rattle.std.specs.Cmp.Lexicographic.{slice_cmp}
use Rattle.std.specs.FinMap.{nat_cmp-IsAntisymmetric, slice_cmp-IsAntisymmetric}
use Rattle.std.specs.List.{AllByRecursion}
use Rattle.std.specs.List.Sorted.{IsStrictlySortedBy}
use Rattle.std.specs.Ordering.{nat_cmp, is_lt}
use Rattle.std.specs.declared.cmp.Ordering.{Ordering}
use Rattle.std.specs.declared.cmp.Ordering.TheVariants.{Less, Equal, Greater}
use Rattle.std.proofs.lemmas.Cmp.{nat_list_cmp_total}
use Rattle.std.proofs.lemmas.List.Sums.{sum_by-cons}
use Rattle.base.specs.declared.entity.Kind.TheVariants.{Order}
use Rattle.trade.specs.declared.line_phase.LinePhase.{LinePhase}
use Rattle.base.specs.Entity.{Entity}
use Rattle.base.specs.Order.{same_entity}
use Rattle.trade.specs.Lines.{Line, line_of, is_before, with_line, with_line_phase}
use Rattle.trade.specs.Sound.{HasOneLineEach, AreLinesSound}
use Rattle.activities.proofs.Sameness.{TellsSame, same_entity-same, same_entity-tells, same_entity-comm}

pub line_of-with_same : (l : Line) (ls : List Line) → line_of l.order ls ≡ None
    → line_of l.order (with_line l ls) ≡ Some l
line_of-with_same l [] h = grind (arith, same_entity-same)
line_of-with_same l (k ∷ ks) h = grind (arith, same_entity-same, line_of-with_same l ks)

pub line_of-with_other : (o : Entity) (l : Line) (ls : List Line) → same_entity o l.order ≡ false
    → line_of o (with_line l ls) ≡ line_of o ls
line_of-with_other o l [] h = grind arith
line_of-with_other o l (k ∷ ks) h = grind (arith, line_of-with_other o l ks h)

pub line_of-with_phase_same : (o : Entity) (phase : LinePhase) (l : Line) (ls : List Line) → line_of o ls ≡ Some l
    → line_of o (with_line_phase o phase ls) ≡ Some (record l { phase = phase })
line_of-with_phase_same o phase l [] h = grind arith
line_of-with_phase_same o phase l (k ∷ ks) h = grind (arith, line_of-with_phase_same o phase l ks)

with_phase_other_more : (o s : Entity) (phase : LinePhase) (k : Line) (ks : List Line) → o ≢ s
    → TellsSame s k.order (same_entity s k.order)
    → TellsSame o k.order (same_entity o k.order)
    → line_of o (with_line_phase s phase ks) ≡ line_of o ks
    → line_of o (with_line_phase s phase (k ∷ ks)) ≡ line_of o (k ∷ ks)
with_phase_other_more o s phase k ks h (inl a) (inl b) ih = absurd (h (b.1 ∙ sym a.1))
with_phase_other_more o s phase k ks h (inl a) (inr b) ih = simp (a.0, b.0)
with_phase_other_more o s phase k ks h (inr a) (inl b) ih = simp (a.0, b.0)
with_phase_other_more o s phase k ks h (inr a) (inr b) ih = simp (a.0, b.0, ih)

pub line_of-with_phase_other : (o s : Entity) (phase : LinePhase) (ls : List Line) → o ≢ s
    → line_of o (with_line_phase s phase ls) ≡ line_of o ls
line_of-with_phase_other o s phase [] h = refl
line_of-with_phase_other o s phase (k ∷ ks) h =
    with_phase_other_more o s phase k ks h (same_entity-tells s k.order) (same_entity-tells o k.order)
    (line_of-with_phase_other o s phase ks h)

with_more : (f : Line → ℕ) (l k : Line) (ks : List Line) (t : Bool) → sum_by f (with_line l ks) ≡ f l + sum_by f ks
    → sum_by f (if t then l ∷ k ∷ ks else k ∷ with_line l ks) ≡ f l + sum_by f (k ∷ ks)
with_more f l k ks true ih = sum_by-cons f l (k ∷ ks)
with_more f l k ks false ih =
    let a = sum_by-cons f k (with_line l ks) in
    let b = sum_by-cons f k ks in
    omega arith

pub sum_by-with : (f : Line → ℕ) (l : Line) (ls : List Line) → sum_by f (with_line l ls) ≡ f l + sum_by f ls
sum_by-with f l [] = sum_by-cons f l []
sum_by-with f l (k ∷ ks) = with_more f l k ks (is_before l.order k.order) (sum_by-with f l ks)

with_phase_more : (f : Line → ℕ) (phase : LinePhase) (o : Entity) (l k : Line) (ks : List Line) (t : Bool)
    → (if t then Some k else line_of o ks) ≡ Some l
    → (line_of o ks ≡ Some l → sum_by f (with_line_phase o phase ks) + f l ≡ sum_by f ks
    + f (record l { phase = phase }))
    → sum_by f (if t then record k { phase = phase } ∷ ks else k ∷ with_line_phase o phase ks) + f l
    ≡ sum_by f (k ∷ ks) + f (record l { phase = phase })
with_phase_more f phase o l k ks true h ih =
    let same : k ≡ l = cc in
    let a = sum_by-cons f (record k { phase = phase }) ks in
    let b = sum_by-cons f k ks in
    rw (← same) (omega arith)
with_phase_more f phase o l k ks false h ih =
    let a = sum_by-cons f k (with_line_phase o phase ks) in
    let b = sum_by-cons f k ks in
    let c = ih h in
    omega arith

-- the sums after a line's phase has changed
pub sum_by-with_phase : (f : Line → ℕ) (phase : LinePhase) (o : Entity) (l : Line) (ls : List Line)
    → line_of o ls ≡ Some l
    → sum_by f (with_line_phase o phase ls) + f l ≡ sum_by f ls + f (record l { phase = phase })
sum_by-with_phase f phase o l [] h = absurd (cc)
sum_by-with_phase f phase o l (k ∷ ks) h =
    with_phase_more f phase o l k ks (same_entity o k.order) h (sum_by-with_phase f phase o l ks)

-- ---- one line an order

one_each-before : (l k : Line) (ks : List Line) (b : Bool) → same_entity l.order k.order ≡ false
    → line_of l.order ks ≡ None
    → line_of k.order ks ≡ None → HasOneLineEach ks → HasOneLineEach (with_line l ks)
    → HasOneLineEach (if b then l ∷ k ∷ ks else k ∷ with_line l ks)
one_each-before l k ks true apart none here rest more = (rw apart none, (here, rest))
one_each-before l k ks false apart none here rest more =
    let back : same_entity k.order l.order ≡ false = same_entity-comm k.order l.order ∙ apart in
    (line_of-with_other k.order l ks back ∙ here, more)

-- a line for an order that had none
pub one_each-with : (l : Line) (ls : List Line) → line_of l.order ls ≡ None → HasOneLineEach ls
    → HasOneLineEach (with_line l ls)
one_each-with l [] none h = (refl, tt)
one_each-with l (k ∷ ks) none h = by_case (same_entity l.order k.order) refl (λ rest. one_each-with l ks rest h.1)
  where
    by_case : (t : Bool) → same_entity l.order k.order ≡ t
        → (line_of l.order ks ≡ None → HasOneLineEach (with_line l ks))
        → HasOneLineEach (with_line l (k ∷ ks))
    by_case true e more = let some : line_of l.order (k ∷ ks) ≡ Some k = rw e refl in absurd (cc)
    by_case false e more =
        let rest : line_of l.order ks ≡ None = rw e at none in
        one_each-before l k ks (is_before l.order k.order) e rest h.0 h.1 (more rest)

line_of-phase_none : (o s : Entity) (phase : LinePhase) (ls : List Line) → line_of o ls ≡ None
    → line_of o (with_line_phase s phase ls) ≡ None
line_of-phase_none o s phase [] h = refl
line_of-phase_none o s phase (k ∷ ks) h =
    by_case (same_entity s k.order) (same_entity o k.order) refl refl (line_of-phase_none o s phase ks)
  where
    by_case : (t u : Bool) → same_entity s k.order ≡ t → same_entity o k.order ≡ u
        → (line_of o ks ≡ None → line_of o (with_line_phase s phase ks) ≡ None)
        → line_of o (with_line_phase s phase (k ∷ ks)) ≡ None
    by_case t true e f more = let some : line_of o (k ∷ ks) ≡ Some k = rw f refl in absurd (cc)
    by_case true false e f more = rw (e, f) (rw f at h)
    by_case false false e f more = rw (e, f) (more (rw f at h))

-- a line's phase anew
pub one_each-phase : (s : Entity) (phase : LinePhase) (ls : List Line) → HasOneLineEach ls
    → HasOneLineEach (with_line_phase s phase ls)
one_each-phase s phase [] h = tt
one_each-phase s phase (k ∷ ks) h = by_case (same_entity s k.order) refl (one_each-phase s phase ks h.1)
  where
    by_case : (t : Bool) → same_entity s k.order ≡ t → HasOneLineEach (with_line_phase s phase ks)
        → HasOneLineEach (with_line_phase s phase (k ∷ ks))
    by_case true e more = rw e h
    by_case false e more = rw e (line_of-phase_none k.order s phase ks h.0, more)

-- ---- in order of the orders' keys

abbrev key : Line → List ℕ
key l = l.order.key

abbrev Before : List ℕ → List ℕ → Type 0
Before a b = slice_cmp nat_cmp a b ≡ Less

less_is : (o : Ordering) → is_lt o ≡ true → o ≡ Less
less_is Less h = refl
less_is Equal h = absurd (cc)
less_is Greater h = absurd (cc)

-- a key before another comes before all those behind it
before_all : (a b : List ℕ) (ks : List (List ℕ)) → Before a b → AllByRecursion (Before b) ks
    → AllByRecursion (Before a) ks
before_all a b [] h all = tt
before_all a b (k ∷ ks) h all = (nat_list_cmp_total.trans a b k h all.0, before_all a b ks h all.1)

-- two keys that differ: where the first doesn't come before the second, the second does before the first
other_before : (a b : List ℕ) (o : Ordering) → slice_cmp nat_cmp a b ≡ o → is_lt o ≡ false → a ≢ b → Before b a
other_before a b Less at h apart = absurd (cc)
other_before a b Equal at h apart = absurd (apart (slice_cmp-IsAntisymmetric nat_cmp-IsAntisymmetric a b at))
other_before a b Greater at h apart = nat_list_cmp_total.antisymm b a ∙ rw at refl

-- what comes before a line and before all the others comes before all
all_before-with : (a : List ℕ) (l : Line) (ls : List Line) → Before a (key l) → AllByRecursion (Before a) (map key ls)
    → AllByRecursion (Before a) (map key (with_line l ls))
all_before-with a l [] h all = (h, tt)
all_before-with a l (k ∷ ks) h all = by_case (is_before l.order k.order) (all_before-with a l ks h all.1)
  where
    by_case : (t : Bool) → AllByRecursion (Before a) (map key (with_line l ks))
        → AllByRecursion (Before a) (map key (if t then l ∷ k ∷ ks else k ∷ with_line l ks))
    by_case true rest = (h, all)
    by_case false rest = (all.0, rest)

-- the keys of orders of which the second has no line differ
keys_differ : (l k : Line) (ks : List Line) → l.order.kind ≡ Order → k.order.kind ≡ Order
    → line_of l.order (k ∷ ks) ≡ None → key l ≢ key k
keys_differ l k ks a b none same =
    let e : l.order ≡ k.order = λ i. record { kind = (a ∙ sym b) i; key = same i } in
    let t : same_entity l.order k.order ≡ true = ap (same_entity l.order) (sym e) ∙ same_entity-same l.order in
    let some : line_of l.order (k ∷ ks) ≡ Some k = rw t refl in
    cc

by_keys : (l k : Line) (t : Bool) → is_before l.order k.order ≡ t → is_lt (slice_cmp nat_cmp (key l) (key k)) ≡ t
unfolding is_before
by_keys l k t e = e

in_order-with : (l : Line) (ls : List Line) → l.order.kind ≡ Order → AllByRecursion (λ k. k.order.kind ≡ Order) ls
    → line_of l.order ls ≡ None
    → IsStrictlySortedBy (slice_cmp nat_cmp) (map key ls)
    → IsStrictlySortedBy (slice_cmp nat_cmp) (map key (with_line l ls))
unfolding IsStrictlySortedBy
in_order-with l [] a all none h = (tt, tt)
in_order-with l (k ∷ ks) a all none h =
    by_case (is_before l.order k.order) refl (λ others. in_order-with l ks a all.1 others h.1)
  where
    rest : same_entity l.order k.order ≡ false → line_of l.order ks ≡ None
    rest e = rw e at none

    apart : key l ≢ key k
    apart = keys_differ l k ks a all.0 none

    not_same : same_entity l.order k.order ≡ false
    not_same = by_test (same_entity-tells l.order k.order)
      where
        by_test : TellsSame l.order k.order (same_entity l.order k.order) → same_entity l.order k.order ≡ false
        by_test (inl e) = absurd (apart (ap (λ o. o.key) e.1))
        by_test (inr e) = e.0

    by_case : (t : Bool) → is_before l.order k.order ≡ t
        → (line_of l.order ks ≡ None → IsStrictlySortedBy (slice_cmp nat_cmp) (map key (with_line l ks)))
        → IsStrictlySortedBy (slice_cmp nat_cmp) (map key (with_line l (k ∷ ks)))
    by_case true e more =
        let less : Before (key l) (key k) = less_is _ (by_keys l k true e) in
        rw e ((less, before_all (key l) (key k) (map key ks) less h.0), h)
    by_case false e more = rw e (
      all_before-with (key k) l ks (other_before (key l) (key k) _ refl (by_keys l k false e) apart) h.0,
      more (rest not_same),
    )

all-with : (P : Line → Type 0) (l : Line) (ls : List Line) → P l → AllByRecursion P ls
    → AllByRecursion P (with_line l ls)
all-with P l [] h all = (h, tt)
all-with P l (k ∷ ks) h all = by_case (is_before l.order k.order) (all-with P l ks h all.1)
  where
    by_case : (t : Bool) → AllByRecursion P (with_line l ks)
        → AllByRecursion P (if t then l ∷ k ∷ ks else k ∷ with_line l ks)
    by_case true rest = (h, all)
    by_case false rest = (all.0, rest)

-- ---- all that holds of lines

pub lines_sound-none : AreLinesSound []
unfolding IsStrictlySortedBy
lines_sound-none = record { of_orders = tt; one_each = tt; in_order = tt }

-- a line for an order that had none
pub lines_sound-with : (l : Line) (ls : List Line) → l.order.kind ≡ Order → line_of l.order ls ≡ None → AreLinesSound ls
    → AreLinesSound (with_line l ls)
lines_sound-with l ls a none h = record {
  of_orders = all-with (λ k. k.order.kind ≡ Order) l ls a h.of_orders;
  one_each = one_each-with l ls none h.one_each;
  in_order = in_order-with l ls a h.of_orders none h.in_order;
}

keys-with_phase : (s : Entity) (phase : LinePhase) (ls : List Line) → map key (with_line_phase s phase ls) ≡ map key ls
keys-with_phase s phase [] = refl
keys-with_phase s phase (k ∷ ks) = by_case (same_entity s k.order) (keys-with_phase s phase ks)
  where
    by_case : (t : Bool) → map key (with_line_phase s phase ks) ≡ map key ks
        → map key (if t then record k { phase = phase } ∷ ks else k ∷ with_line_phase s phase ks) ≡ key k ∷ map key ks
    by_case true rest = refl
    by_case false rest = ap (λ keys. key k ∷ keys) rest

of_orders-with_phase : (s : Entity) (phase : LinePhase) (ls : List Line) → AllByRecursion (λ k. k.order.kind ≡ Order) ls
    → AllByRecursion (λ k. k.order.kind ≡ Order) (with_line_phase s phase ls)
of_orders-with_phase s phase [] all = tt
of_orders-with_phase s phase (k ∷ ks) all = by_case (same_entity s k.order) (of_orders-with_phase s phase ks all.1)
  where
    by_case : (t : Bool) → AllByRecursion (λ l. l.order.kind ≡ Order) (with_line_phase s phase ks)
        → AllByRecursion (λ l. l.order.kind ≡ Order) (if t then record k { phase = phase } ∷ ks
        else k ∷ with_line_phase s phase ks)
    by_case true rest = all
    by_case false rest = (all.0, rest)

-- a line's phase anew
pub lines_sound-with_phase : (s : Entity) (phase : LinePhase) (ls : List Line) → AreLinesSound ls
    → AreLinesSound (with_line_phase s phase ls)
lines_sound-with_phase s phase ls h = record {
  of_orders = of_orders-with_phase s phase ls h.of_orders;
  one_each = one_each-phase s phase ls h.one_each;
  in_order = subst (IsStrictlySortedBy (slice_cmp nat_cmp)) (sym (keys-with_phase s phase ls)) h.in_order;
}

-- what keeps lines sound
pub ruleset staying_sound = (lines_sound-none, lines_sound-with, lines_sound-with_phase)
