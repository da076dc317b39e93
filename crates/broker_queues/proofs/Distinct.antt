-- Deliveries that are out have numbers of their own.
use Rattle.std.proofs.Common.{◌≡◌, ◌≤◌, ◌+◌, ℕ, true, false, List, map, Option, Some, sym, ap, ◌∙◌, arith}
use Rattle.std.proofs.Common.{inl, inr, refl}
use Rattle.std.specs.Prelude.{◌⊎◌}
use Rattle.std.proofs.lemmas.Bool.{cases_eq}
use Rattle.broker_book.specs.Books.{Fate, Out}
use Rattle.broker_index.specs.Index.{Kept, with_fate}
use Rattle.broker_queues.specs.Parts.Facts.{AreDistinct, kept_at}
use Rattle.broker_queues.specs.Parts.Fates.{fated, passes}
use Rattle.broker_queues.specs.Parts.Undoing.{is_out_fate}
use Rattle.broker_queues.proofs.Rising.{at_edit, at_edit_other}

-- what is out was out as it is
pub distinct_still : (given later : ℕ) (old new : List Kept) → given ≤ later → AreDistinct given old
    → ((n : ℕ) (k : Kept) (x : ℕ) (j : List ℕ) (a : ℕ) → kept_at n new ≡ Some k → k.fate ≡ Some (Out x j a)
    → kept_at n old ≡ Some k)
    → AreDistinct later new
distinct_still given later old new more d was n m k l x y i j a there here out also =
    let both = d n m k l x y i j a (was n k x i a there out) (was m l y j a here also) out also in
    (both.0, omega (arith, both.1, more))

-- a message is the one whose fate changed, or was there
pub changed_or_was : (n : ℕ) (f : Option Fate) (kept : List Kept) (k : Kept) → kept_at n kept ≡ Some k
    → (m : ℕ) (l : Kept) → kept_at m (map (with_fate n f) kept) ≡ Some l
    → ((m ≡ n) × (l.fate ≡ f)) ⊎ (kept_at m kept ≡ Some l)
changed_or_was n f kept k found m l there = elim (cases_eq m n) [
  | inl same ↦
      let here : kept_at n (map (with_fate n f) kept) ≡ Some (fated f k) =
      at_edit (λ k. k.number) n (fated f) (λ x. refl) kept k found in
      let e : kept_at n (map (with_fate n f) kept) ≡ Some l = rw same at there in
      let both : Some (fated f k) ≡ Some l = sym here ∙ e in
      let is_it : l ≡ fated f k = cc in
      inl (same, ap (λ (y : Kept). y.fate) is_it)
  | inr other ↦ inr (sym (at_edit_other (λ k. k.number) n m (fated f) (λ x. refl) other kept) ∙ there)
]

-- a message isn't out any more
pub distinct_back : (given later n : ℕ) (f : Option Fate) (kept now : List Kept) (k : Kept) → kept_at n kept ≡ Some k
    → AreDistinct given kept → given ≤ later → passes is_out_fate f ≡ false → now ≡ map (with_fate n f) kept
    → AreDistinct later now
distinct_back given later n f kept now k found d more off is = distinct_still given later kept now more d was
  where
    was : (m : ℕ) (l : Kept) (x : ℕ) (j : List ℕ) (a : ℕ) → kept_at m now ≡ Some l → l.fate ≡ Some (Out x j a)
        → kept_at m kept ≡ Some l
    was m l x j a there out = elim (changed_or_was n f kept k found m l (ap (kept_at m) (sym is) ∙ there)) [
      | inl one ↦
          let never : false ≡ true = sym off ∙ ap (λ g. passes is_out_fate g) (sym one.1 ∙ out) in cc
      | inr old ↦ old
    ]

module _ (given later n ack x : ℕ) (i : List ℕ) (kept : List Kept) (k : Kept) (found : kept_at n kept ≡ Some k)
    (d : AreDistinct given kept) (next : ack ≡ given + 1) (high : ack ≤ later) where
  -- what was out has a lower number
  lower : (m : ℕ) (l : Kept) (y : ℕ) (j : List ℕ) (a : ℕ) → kept_at m kept ≡ Some l → l.fate ≡ Some (Out y j a)
      → a ≤ given
  lower m l y j a there out = (d m m l l y y j j a there there out out).1

  its_number : (f : Option Fate) (y : ℕ) (j : List ℕ) (a : ℕ) → f ≡ Some (Out x i ack) → f ≡ Some (Out y j a)
      → a ≡ ack
  its_number f y j a is out =
      let same : Some (Out x i ack) ≡ Some (Out y j a) = sym is ∙ out in
      cc

  -- a message goes out under the next number
  pub distinct_out : (now : List Kept) → now ≡ map (with_fate n (Some (Out x i ack))) kept → AreDistinct later now
  distinct_out now is m o l p y z j q a there here out also =
      elim (changed_or_was n (Some (Out x i ack)) kept k found m l (ap (kept_at m) (sym is) ∙ there)) [
        | inl one ↦ elim (changed_or_was n (Some (Out x i ack)) kept k found o p (ap (kept_at o) (sym is) ∙ here)) [
          | inl two ↦ (one.0 ∙ sym two.0, omega (arith, high, its_number l.fate y j a one.1 out))
          | inr old ↦ absurd (omega (arith, next, its_number l.fate y j a one.1 out, lower o p z q a old also))
        ]
        | inr old ↦ elim (changed_or_was n (Some (Out x i ack)) kept k found o p (ap (kept_at o) (sym is) ∙ here)) [
          | inl two ↦ absurd (omega (arith, next, its_number p.fate z q a two.1 also, lower m l y j a old out))
          | inr both ↦
              let same = d m o l p y z j q a old both out also in
              (same.0, omega (arith, next, high, same.1))
        ]
      ]
