-- The pairs whose next message is held, as marks and messages change.
use Rattle.std.proofs.Common.{◌≡◌, inl, inr, ℕ, ◌+◌, ◌<◌, ◌≤◌, ◌&&◌, ◌==◌, Bool, true, false, Option, Some, None}
use Rattle.std.proofs.Common.{Ordering, Less, Equal, Greater, refl, sym, ap, ◌∙◌, arith, true≢false, if◌then◌else◌}
use Rattle.std.specs.Prelude.{IsSome, is_some, Result, Ok, Err, IfOk}
use Rattle.std.specs.declared.alloc.AllocError.{AllocError}
use Rattle.std.specs.Bool.{then_some}
use Rattle.std.specs.Option.{unwrap_or}
use Rattle.std.specs.Ordering.{is_eq, is_gt, nat_cmp, ordering_then, ordering_reverse}
use Rattle.std.specs.Cmp.{nat_cmp_is}
use Rattle.std.specs.BTreeMap.{BTreeMap, get}
use Rattle.std.proofs.lemmas.Bool.{cases_Bool, cases_lt, eqb-true, eqb-false, eq-eqb, ne_eqb, and_parts}
use Rattle.base.specs.declared.pair.Pair.{Pair}
use Rattle.base.specs.Order.{pair_cmp, pair_cmp-total, same_pair, same_pair-ties}
use Rattle.base.proofs.Entities.{same_pair-Decides}
use Rattle.envelope.specs.declared.message.Message.{Message}
use Rattle.keep.specs.declared.change.LetterPlace.{LetterPlace}
use Rattle.keep.specs.Listing.{IsDrainable, next_held}
use Rattle.keep.specs.Places.{place_cmp, IsBefore}
use Rattle.keep_plain.specs.Slots.{at, filled, SameAt, SetsAt, IsFirstFilled}
use Rattle.keep_plain.specs.Index.{messages_in, handled_at, IsIndexed}
use Rattle.keep_plain.proofs.Upto.{set_at, number_less, before_same, unless_some}

abbrev Drainable : Type 0
Drainable = BTreeMap Pair (Option (Unit {0}))

none_is : {A : Type 0} (o : Option A) → is_some o ≡ false → o ≡ None
none_is None h = refl
none_is (Some a) h = absurd (true≢false h)

-- the first of these pairs is the answer of a drain
first_drains : (handled : BTreeMap Pair (Option ℕ)) (held : BTreeMap LetterPlace (Option Message)) (drainable : Drainable)
    → IsIndexed handled held drainable → (p : Option Pair) → IsFirstFilled pair_cmp (at pair_cmp drainable) p
    → IsDrainable (next_held (messages_in held) (handled_at handled)) p
first_drains handled held drainable i None h = λ q. none_is _ (sym (i q) ∙ ap is_some (h q))
first_drains handled held drainable i (Some p) h =
    (sym (i p) ∙ h.0, λ q less. none_is _ (sym (i q) ∙ ap is_some (h.1 q less)))

-- the first filled slot of the index is the first pair whose next letter is held
pub result_drains : (handled : BTreeMap Pair (Option ℕ)) (held : BTreeMap LetterPlace (Option Message))
    (drainable : Drainable)
    → IsIndexed handled held drainable → (r : Result (Option Pair) AllocError)
    → IfOk r (IsFirstFilled pair_cmp (at pair_cmp drainable))
    → IfOk r (IsDrainable (next_held (messages_in held) (handled_at handled)))
result_drains handled held drainable i (Ok p) h = first_drains handled held drainable i p h
result_drains handled held drainable i (Err e) h = tt

-- the same slots under the same marks
pub same_index : (handled more_handled : BTreeMap Pair (Option ℕ)) (held more_held : BTreeMap LetterPlace (Option Message))
    (drainable more : Drainable)
    → IsIndexed handled held drainable → SameAt pair_cmp handled more_handled → SameAt place_cmp held more_held
    → SameAt pair_cmp drainable more → IsIndexed more_handled more_held more
same_index handled more_handled held more_held drainable more i h k d = λ p.
    ap is_some (d p) ∙ i p ∙ ap (λ n. is_some (messages_in held p (n + 1))) (sym (ap (λ o. unwrap_or o 0) (h p)))
    ∙ ap is_some (sym (k (record { pair = p; number = handled_at more_handled p + 1 })))

-- what was set at a pair, or stands at another
module _ {V : Type 0} (p q : Pair) (v : Option V) (old new : BTreeMap Pair (Option V)) (h : SetsAt pair_cmp p v old new)
  where
    set_here : same_pair p q ≡ true → at pair_cmp new q ≡ v
    set_here same = h q ∙ ap (λ b. if b then v else at pair_cmp old q) (sym (same_pair-ties p q) ∙ same)

    set_other : same_pair p q ≡ false → at pair_cmp new q ≡ at pair_cmp old q
    set_other other = h q ∙ ap (λ b. if b then v else at pair_cmp old q) (sym (same_pair-ties p q) ∙ other)

abbrev here : Unit {0}
here = tt

-- `then_some` gives a value just where its condition is true
pub some_where : (b : Bool) → is_some (then_some b here) ≡ b
some_where true = refl
some_where false = refl

-- a mark is set
pub index_handled : (p : Pair) (n : ℕ) (old new : BTreeMap Pair (Option ℕ)) (held : BTreeMap LetterPlace (Option Message))
    (was now : Drainable) (v : Option (Unit {0}))
    → IsIndexed old held was → SetsAt pair_cmp p (Some n) old new → SetsAt pair_cmp p v was now
    → is_some v ≡ is_some (messages_in held p (n + 1)) → IsIndexed new held now
index_handled p n old new held was now v i h d e = λ q. elim (cases_Bool (same_pair p q)) [
  | inl same ↦
      ap is_some (set_here p q v was now d same) ∙ e
      ∙ ap (λ x. is_some (messages_in held x (n + 1))) ((same_pair-Decides p q).0 same)
      ∙ ap (λ o. is_some (messages_in held q (unwrap_or o 0 + 1))) (sym (set_here p q (Some n) old new h same))
  | inr other ↦
      ap is_some (set_other p q v was now d other) ∙ i q
      ∙ ap (λ o. is_some (messages_in held q (unwrap_or o 0 + 1))) (sym (set_other p q (Some n) old new h other))
]

-- a message is put or taken away
module _ (handled : BTreeMap Pair (Option ℕ)) (x : LetterPlace) (m : Option Message)
    (old new : BTreeMap LetterPlace (Option Message))
    (was : Drainable) (i : IsIndexed handled old was) (h : SetsAt place_cmp x m old new) where
  -- that of another number stays
  not_here : (q : Pair) → (same_pair x.pair q && (x.number == (handled_at handled q + 1))) ≡ false
      → next_held (messages_in new) (handled_at handled) q ≡ next_held (messages_in old) (handled_at handled) q
  not_here q other = set_at x m old new h q (handled_at handled q + 1)
      ∙ ap (λ b. if b then m else messages_in old q (handled_at handled q + 1)) other

  -- the next of its pair
  pub index_next : (now : Drainable) (v : Option (Unit {0})) → SetsAt pair_cmp x.pair v was now → is_some v ≡ is_some m
      → ((handled_at handled x.pair + 1) == x.number) ≡ true → IsIndexed handled new now
  index_next now v d e next = λ q. elim (cases_Bool (same_pair x.pair q)) [
    | inl same ↦
        let number : x.number ≡ handled_at handled q + 1 = sym (eqb-true (handled_at handled x.pair + 1) x.number next)
        ∙ ap (λ p. handled_at handled p + 1) ((same_pair-Decides x.pair q).0 same) in
        ap is_some (set_here x.pair q v was now d same) ∙ e
        ∙ ap (λ b. is_some (if b then m else messages_in old q (handled_at handled q + 1)))
        (sym (ap (λ b. b && (x.number == (handled_at handled q + 1))) same
        ∙ eq-eqb x.number (handled_at handled q + 1) number))
        ∙ ap is_some (sym (set_at x m old new h q (handled_at handled q + 1)))
    | inr other ↦
        ap is_some (set_other x.pair q v was now d other) ∙ i q
        ∙ ap is_some (sym (not_here q (ap (λ b. b && (x.number == (handled_at handled q + 1))) other)))
  ]

  -- another one
  pub index_later : ((handled_at handled x.pair + 1) == x.number) ≡ false → IsIndexed handled new was
  index_later apart = λ q. i q ∙ ap is_some (sym (not_here q (elim (cases_Bool (same_pair x.pair q)) [
    | inl same ↦ ap (λ b. b && (x.number == (handled_at handled q + 1))) same
        ∙ ne_eqb x.number (handled_at handled q + 1)
        (λ e. eqb-false (handled_at handled x.pair + 1) x.number apart
        (ap (λ p. handled_at handled p + 1) ((same_pair-Decides x.pair q).0 same) ∙ sym e))
    | inr other ↦ ap (λ b. b && (x.number == (handled_at handled q + 1))) other
  ])))

-- ---- the place behind another

squeezed : (a b c : Ordering) → ordering_then a b ≡ Less → is_gt (ordering_then (ordering_reverse a) c) ≡ false
    → a ≡ Equal
squeezed Less b c h k = absurd (true≢false k)
squeezed Equal b c h k = refl
squeezed Greater b c h k = let z : Greater ≡ Less = h in cc

not_more : (k n : ℕ) → is_gt (nat_cmp k n) ≡ false → k ≤ n
not_more k n h = elim (cases_lt n k) [
  | inl more ↦ absurd (true≢false (ap is_gt (nat_cmp_is k n Greater more) ∙ h))
  | inr under ↦ omega (arith, under)
]

-- a place behind that of a number and not behind that of the next one is the latter
behind : (p : Pair) (n : ℕ) (y : LetterPlace) → IsBefore (record { pair = p; number = n }) y
    → is_gt (place_cmp y (record { pair = p; number = n + 1 })) ≡ false → (same_pair y.pair p ≡ true)
    × (y.number ≡ n + 1)
behind p n y before upto =
    let tied : pair_cmp p y.pair ≡ Equal =
    squeezed (pair_cmp p y.pair) (nat_cmp n y.number) (nat_cmp y.number (n + 1)) before
    (ap (λ o. is_gt (ordering_then o (nat_cmp y.number (n + 1)))) (sym (pair_cmp-total.antisymm y.pair p)) ∙ upto) in
    let back : pair_cmp y.pair p ≡ Equal = pair_cmp-total.antisymm y.pair p ∙ ap ordering_reverse tied in
    let over : n < y.number =
    number_less n y.number (sym (ap (λ o. ordering_then o (nat_cmp n y.number)) tied) ∙ before) in
    let under : y.number ≤ n + 1 = not_more y.number (n + 1)
    (sym (ap (λ o. is_gt (ordering_then o (nat_cmp y.number (n + 1)))) back) ∙ upto) in
    (same_pair-ties y.pair p ∙ ap is_eq back, omega (arith, over, under))

-- the first slot behind a place, as a range gives it
module _ (m : BTreeMap LetterPlace (Option Message)) (x y : LetterPlace) (slot : Option Message) (before : IsBefore x y)
    (stands : get place_cmp m y ≡ Some slot)
    (least : (q : LetterPlace) → IsBefore x q → IsSome (get place_cmp m q) → is_gt (place_cmp y q) ≡ false) where
  -- is that of the next number, where its pair and its number are those
  pub behind_is : (same_pair y.pair x.pair && ((x.number + 1) == y.number)) ≡ true
      → messages_in m x.pair (x.number + 1) ≡ slot
  behind_is next =
      let parts = and_parts (same_pair y.pair x.pair) ((x.number + 1) == y.number) next in
      ap (λ q. filled (get place_cmp m q)) (sym (place_is y x.pair (x.number + 1)
      ((same_pair-Decides y.pair x.pair).0 parts.0)
      (sym (eqb-true (x.number + 1) y.number parts.1)))) ∙ ap filled stands
    where
      place_is : (z : LetterPlace) (p : Pair) (n : ℕ) → z.pair ≡ p → z.number ≡ n → z ≡ record { pair = p; number = n }
      place_is z p n h k = ap (λ q. record z { pair = q }) h ∙ ap (λ j. record { pair = p; number = j }) k

  -- and otherwise that has no slot
  pub behind_none : (same_pair y.pair x.pair && ((x.number + 1) == y.number)) ≡ false
      → messages_in m x.pair (x.number + 1) ≡ None
  behind_none other =
      ap filled (unless_some (get place_cmp m (record { pair = x.pair; number = x.number + 1 })) (λ some.
      let is = behind x.pair x.number y before (least (record { pair = x.pair; number = x.number + 1 })
      (before_same x.pair x.number (x.number + 1) (omega arith)) some) in
      true≢false (sym (ap (λ b. b && ((x.number + 1) == y.number)) is.0 ∙ eq-eqb (x.number + 1) y.number (sym is.1))
      ∙ other)))
