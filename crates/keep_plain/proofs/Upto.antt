-- The slots of a pair before a place, and what emptying them one after another makes of the messages.
use Rattle.std.proofs.Common.{◌≡◌, inl, inr, ℕ, ◌<◌, ◌≤◌, ◌&&◌, ◌==◌, Bool, true, false, Option, Some, None, Ordering}
use Rattle.std.proofs.Common.{Less, Equal, Greater}
use Rattle.std.proofs.Common.{refl, sym, ap, subst, ◌∙◌, arith, true≢false, if◌then◌else◌}
use Rattle.std.specs.Prelude.{IsSome, nat_le}
use Rattle.std.specs.Ordering.{is_eq, is_lt, nat_cmp, ordering_then}
use Rattle.std.specs.Cmp.{tied_itself, nat_cmp_is}
use Rattle.std.specs.BTreeMap.{BTreeMap, get}
use Rattle.std.proofs.lemmas.Bool.{cases_Bool, cases_eq, cases_lt, ne_eqb, le-leb, lt-leb, and_right}
use Rattle.base.specs.declared.pair.Pair.{Pair}
use Rattle.base.specs.Order.{pair_cmp, pair_cmp-total, same_pair, same_pair-ties}
use Rattle.base.proofs.Entities.{same_pair-Decides}
use Rattle.envelope.specs.declared.message.Message.{Message}
use Rattle.keep.specs.declared.change.LetterPlace.{LetterPlace}
use Rattle.keep.specs.Places.{place_cmp, same_place-ties, IsBefore}
use Rattle.keep.specs.Tables.{Messages, without_upto}
use Rattle.keep_plain.specs.Slots.{at, SetsAt, filled}
use Rattle.keep_plain.specs.Index.{messages_in}
use Rattle.keep_plain.specs.Upto.{NoneBetween, EmptiesFrom}

abbrev place : Pair → ℕ → LetterPlace
place p n = record { pair = p; number = n }

-- places of one pair are ordered by their numbers
pub place_cmp-same : (p : Pair) (k n : ℕ) → place_cmp (place p k) (place p n) ≡ nat_cmp k n
place_cmp-same p k n = ap (λ o. ordering_then o (nat_cmp k n)) (tied_itself pair_cmp-total p)

nat_less : (k n : ℕ) → k < n → nat_cmp k n ≡ Less
nat_less k n h = sym (nat_cmp_is k n Less h)

-- a place comes before another of its pair with a greater number
pub before_same : (p : Pair) (k n : ℕ) → k < n → IsBefore (place p k) (place p n)
before_same p k n h = place_cmp-same p k n ∙ nat_less k n h

less_parts : (o r : Ordering) → ordering_then o r ≡ Less → is_eq o ≡ false → o ≡ Less
less_parts Less r h e = refl
less_parts Equal r h e = absurd (true≢false e)
less_parts Greater r h e = let z : Greater ≡ Less = h in cc

pub number_less : (k n : ℕ) → nat_cmp k n ≡ Less → k < n
number_less k n h = elim (cases_lt k n) [
  | inl less ↦ less
  | inr more ↦ elim (cases_eq k n) [
    | inl same ↦ let z : Equal ≡ Less = nat_cmp_is k n Equal same ∙ h in cc
    | inr other ↦ let z : Greater ≡ Less = nat_cmp_is k n Greater (omega (arith, more, other)) ∙ h in cc
  ]
]

pub unless_some : {A : Type 0} (o : Option A) → (IsSome o → ⊥) → o ≡ None
unless_some None h = refl
unless_some (Some a) h = absurd (h refl)

-- the last slot before a place, as a range gives it
module _ (m : BTreeMap LetterPlace (Option Message)) (last x : LetterPlace) (before : IsBefore last x)
    (greatest : (q : LetterPlace) → IsBefore q x → IsSome (get place_cmp m q) → is_lt (place_cmp last q) ≡ false) where
  none_after : (q : LetterPlace) → IsBefore q x → IsBefore last q → get place_cmp m q ≡ None
  none_after q h l = unless_some _ (λ some. true≢false (sym (ap is_lt l) ∙ greatest q h some))

  pub last_same : same_pair last.pair x.pair ≡ true → (last.number < x.number)
      × NoneBetween m x.pair (λ k. last.number < k) x.number
  last_same same =
      let e : last.pair ≡ x.pair = (same_pair-Decides last.pair x.pair).0 same in
      let l : (p : Pair) → last.pair ≡ p → (k : ℕ) → place_cmp last (place p k) ≡ nat_cmp last.number k =
      λ p h k. subst (λ (q : Pair). place_cmp last (place q k) ≡ nat_cmp last.number k) h
      (place_cmp-same last.pair last.number k) in (
        number_less last.number x.number (sym (l x.pair e x.number) ∙ before),
        λ k after high. none_after (place x.pair k) (before_same x.pair k x.number high)
            (l x.pair e k ∙ nat_less last.number k after),
      )

  pub last_other : same_pair last.pair x.pair ≡ false → NoneBetween m x.pair (λ k. 0 ≤ k) x.number
  last_other other = λ k after high.
      let less : pair_cmp last.pair x.pair ≡ Less =
      less_parts (pair_cmp last.pair x.pair) (nat_cmp last.number x.number) before
      (sym (same_pair-ties last.pair x.pair) ∙ other) in
      none_after (place x.pair k) (before_same x.pair k x.number high) (ap
      (λ o. ordering_then o (nat_cmp last.number k)) less)

-- ---- one slot is emptied, and then those before it

if_none : {A : Type 0} (b : Bool) (o : Option A) → o ≡ None → (if b then None else o) ≡ None
if_none true o h = refl
if_none false o h = h

if_false : {A : Type 0} (b : Bool) (x y : A) → b ≡ false → (if b then x else y) ≡ y
if_false b x y h = ap (λ c. if c then x else y) h

-- a slot that is set, as messages
pub set_at : (x : LetterPlace) (v : Option Message) (old new : BTreeMap LetterPlace (Option Message)) → SetsAt place_cmp x v old new
    → (q : Pair) (k : ℕ)
    → messages_in new q k ≡ (if same_pair x.pair q && (x.number == k) then v else messages_in old q k)
set_at x v old new h q k =
    h (place q k) ∙ ap (λ b. if b then v else messages_in old q k) (sym (same_place-ties x (place q k)))

module _ (x : LetterPlace) (old new : BTreeMap LetterPlace (Option Message)) (h : SetsAt place_cmp x None old new) where
  set_here : messages_in new x.pair x.number ≡ None
  set_here = h x ∙ ap (λ o. if is_eq o then None else at place_cmp old x)
      (place_cmp-same x.pair x.number x.number ∙ sym (nat_cmp_is x.number x.number Equal refl))

  set_none : (q : Pair) (k : ℕ) → messages_in old q k ≡ None → messages_in new q k ≡ None
  set_none q k e = set_at x None old new h q k ∙ if_none _ _ e

  set_number : (q : Pair) (k : ℕ) → (x.number ≡ k → ⊥) → messages_in new q k ≡ messages_in old q k
  set_number q k e =
      set_at x None old new h q k ∙ if_false _ _ _ (and_right (same_pair x.pair q) _ (ne_eqb x.number k e))

  set_pair : (q : Pair) (k : ℕ) → same_pair x.pair q ≡ false → messages_in new q k ≡ messages_in old q k
  set_pair q k e = set_at x None old new h q k ∙ if_false _ _ _ (ap (λ b. b && (x.number == k)) e)

  pub emptied_one : EmptiesFrom x.pair x.number x.number (messages_in old) (messages_in new)
  emptied_one = record {
    gone = λ k a b. subst (λ j. messages_in new x.pair j ≡ None) (omega (arith, a, b)) set_here;
    below = λ k a. set_number x.pair k (λ e. omega (arith, a, e));
    above = λ k a. set_number x.pair k (λ e. omega (arith, a, e));
    others = set_pair;
  }

-- the slot before, where there are none between
pub emptied_more : (p : Pair) (n low high : ℕ) (old mid new : BTreeMap LetterPlace (Option Message))
    → EmptiesFrom p low high (messages_in old) (messages_in mid)
    → n < low → low ≤ high → NoneBetween mid p (λ k. n < k) low → SetsAt place_cmp (place p n) None mid new
    → EmptiesFrom p n high (messages_in old) (messages_in new)
emptied_more p n low high old mid new was less fits none h = record {
  gone = λ k a b. elim (cases_eq n k) [
    | inl same ↦ subst (λ j. messages_in new p j ≡ None) same (set_here (place p n) mid new h)
    | inr other ↦ elim (cases_lt k low) [
      | inl under ↦ set_none (place p n) mid new h p k (ap filled (none k (omega (arith, a, other)) under))
      | inr over ↦ set_none (place p n) mid new h p k (was.gone k over b)
    ]
  ];
  below = λ k a. set_number (place p n) mid new h p k (λ e. omega (arith, a, e)) ∙ was.below k (omega (arith, a, less));
  above = λ k a. set_number (place p n) mid new h p k (λ e. omega (arith, a, e, less, fits)) ∙ was.above k a;
  others = λ q k e. set_pair (place p n) mid new h q k e ∙ was.others q k e;
}

-- none is left before
pub emptied_all : (p : Pair) (low high : ℕ) (old new : BTreeMap LetterPlace (Option Message))
    → EmptiesFrom p low high (messages_in old) (messages_in new)
    → NoneBetween new p (λ k. 0 ≤ k) low → EmptiesFrom p 0 high (messages_in old) (messages_in new)
emptied_all p low high old new was none = record {
  gone = λ k a b. elim (cases_lt k low) [ inl under ↦ ap filled (none k a under) | inr over ↦ was.gone k over b ];
  below = λ k a. absurd (omega (arith, a));
  above = was.above;
  others = was.others;
}

-- and so they are the messages without those up to the number
pub emptied_is : (p : Pair) (n : ℕ) (old new : Messages) → EmptiesFrom p 0 n old new → (q : Pair) (k : ℕ)
    → new q k ≡ without_upto p n old q k
emptied_is p n old new h q k = elim (cases_Bool (same_pair p q)) [
  | inl same ↦ rw same (elim (cases_lt n k) [
    | inl over ↦ subst (λ r. new r k ≡ (if nat_le k n then None else old r k)) ((same_pair-Decides p q).0 same)
        (h.above k over ∙ sym (if_false (nat_le k n) None (old p k) (lt-leb k n over)))
    | inr under ↦ subst (λ r. new r k ≡ (if nat_le k n then None else old r k)) ((same_pair-Decides p q).0 same)
        (h.gone k (omega arith) under ∙ sym (ap (λ b. if b then None else old p k) (le-leb k n under)))
  ])
  | inr other ↦ h.others q k other ∙ sym (if_false (same_pair p q && nat_le k n) None (old q k)
      (ap (λ b. b && nat_le k n) other))
]
