-- How kept messages and the living ones of the book go together.
use Rattle.std.proofs.Common.{◌≡◌, ℕ, ◌+◌, Bool, true, false, not, cond, ◌||◌, List, []}
use Rattle.std.proofs.Common.{◌∷◌, ◌++◌, map, Option, Some, None, refl, ap, ◌∙◌, arith, inl, inr}
use Rattle.std.specs.Prelude.{◌==◌, nat_le, filter, count_by}
use Rattle.std.specs.List.{sum_by, list_any}
use Rattle.std.proofs.lemmas.Bool.{cases_Bool, and_parts, eqb-true}
use Rattle.std.proofs.lemmas.List.Sums.{sum_by-cons, sum_by_push}
use Rattle.broker_book.specs.declared.parts.Sent.{Sent}
use Rattle.broker_book.specs.Books.{QueuedMessage, Fate, Ready}
use Rattle.broker_book.specs.Steps.{ready_if}
use Rattle.broker_index.specs.Index.{Kept, with_fate}
use Rattle.broker_queues.specs.Parts.Facts.{rise, kept_at, message_of, living_as, living_of}
use Rattle.broker_queues.specs.Parts.Fates.{passes, weight, fated, turn_if}
use Rattle.broker_queues.proofs.Rising.{sum_edit, sum_filter, sum_zero, none_below, filter_none}

-- ---- counts

pub count_living : (test : QueuedMessage → Bool) (kept : List Kept)
    → count_by test (living_of kept) ≡ sum_by (λ k. weight test (message_of k)) kept
count_living test [] = refl
count_living test (k ∷ kept) = by_fate k.fate (count_living test kept)
  where
    by_fate : (fate : Option Fate) → count_by test (living_of kept) ≡ sum_by (λ k. weight test (message_of k)) kept
        → count_by test (living_of (fated fate k ∷ kept)) ≡ sum_by (λ k. weight test (message_of k))
        (fated fate k ∷ kept)
    by_fate None rest = omega (arith, rest, sum_by-cons (λ k. weight test (message_of k)) (fated None k) kept)
    by_fate (Some fate) rest =
        let m : QueuedMessage = record { number = k.number; sent = k.sent; fate = fate } in
        omega (
          arith,
          rest,
          sum_by-cons (λ k. weight test (message_of k)) (fated (Some fate) k) kept,
          sum_by-cons (λ x. cond (test x) 1 0) m (living_of kept),
        )

-- a message has another fate
pub count_change : (test : QueuedMessage → Bool) (n : ℕ) (fate : Option Fate) (kept : List Kept) (k : Kept)
    → rise (λ k. k.number) 0 kept ≡ true → kept_at n kept ≡ Some k
    → count_by test (living_of (map (with_fate n fate) kept)) + weight test (message_of k)
    ≡ count_by test (living_of kept) + weight test (message_of (fated fate k))
count_change test n fate kept k rises found =
    rw (count_living test (map (with_fate n fate) kept), count_living test kept)
    (sum_edit (λ k. k.number) (λ k. weight test (message_of k)) n (fated fate) 0 kept k rises found)

-- a count by fates alone
pub weight_fate : (test : Fate → Bool) (n : ℕ) (sent : Sent) (fate : Option Fate)
    → weight (λ m. test m.fate) (living_as n sent fate) ≡ cond (passes test fate) 1 0
weight_fate test n sent None = refl
weight_fate test n sent (Some fate) = refl

-- ---- all that pass a test turn to another fate

-- they go
pub living_gone : (test : Fate → Bool) (kept : List Kept)
    → living_of (map (turn_if None test) kept) ≡ filter (λ m. not (test m.fate)) (living_of kept)
living_gone test [] = refl
living_gone test (k ∷ kept) = by_fate k.fate (living_gone test kept)
  where
    by_fate : (fate : Option Fate) → living_of (map (turn_if None test) kept)
        ≡ filter (λ m. not (test m.fate)) (living_of kept)
        → living_of (map (turn_if None test) (fated fate k ∷ kept))
        ≡ filter (λ m. not (test m.fate)) (living_of (fated fate k ∷ kept))
    by_fate None rest = rest
    by_fate (Some fate) rest = elim (cases_Bool (test fate)) [
      | inl on ↦ rw on rest
      | inr off ↦ rw off (ap (λ l. record { number = k.number; sent = k.sent; fate = fate } ∷ l) rest)
    ]

-- they are ready again
pub living_back : (test : Fate → Bool) (kept : List Kept)
    → living_of (map (turn_if (Some Ready) test) kept) ≡ map (ready_if test) (living_of kept)
living_back test [] = refl
living_back test (k ∷ kept) = by_fate k.fate (living_back test kept)
  where
    by_fate : (fate : Option Fate) → living_of (map (turn_if (Some Ready) test) kept)
        ≡ map (ready_if test) (living_of kept)
        → living_of (map (turn_if (Some Ready) test) (fated fate k ∷ kept))
        ≡ map (ready_if test) (living_of (fated fate k ∷ kept))
    by_fate None rest = rest
    by_fate (Some fate) rest = elim (cases_Bool (test fate)) [
      | inl on ↦ rw on (ap (λ l. record { number = k.number; sent = k.sent; fate = Ready } ∷ l) rest)
      | inr off ↦ rw off (ap (λ l. record { number = k.number; sent = k.sent; fate = fate } ∷ l) rest)
    ]

-- ---- one more, one fewer

pub count_push : (test : QueuedMessage → Bool) (kept : List Kept) (k : Kept)
    → count_by test (living_of (kept ++ k ∷ [])) ≡ count_by test (living_of kept) + weight test (message_of k)
count_push test kept k =
    rw (
      count_living test (kept ++ k ∷ []),
      count_living test kept,
    ) (sum_by_push (λ l. weight test (message_of l)) kept k)

-- a message without a fate counts nothing
pub weight_gone : (test : QueuedMessage → Bool) (k : Kept) → k.fate ≡ None → weight test (message_of k) ≡ 0
weight_gone test k gone = rw gone refl

pub count_purge : (test : QueuedMessage → Bool) (n : ℕ) (kept : List Kept) (k : Kept)
    → rise (λ k. k.number) 0 kept ≡ true
    → kept_at n kept ≡ Some k → k.fate ≡ None
    → count_by test (living_of (filter (λ k. not (k.number == n)) kept)) ≡ count_by test (living_of kept)
count_purge test n kept k rises found gone =
    rw (count_living test (filter (λ k. not (k.number == n)) kept), count_living test kept)
    (omega (
      arith,
      sum_filter (λ k. k.number) (λ k. weight test (message_of k)) n 0 kept k rises found,
      weight_gone test k gone,
    ))

pub count_zero : (test : QueuedMessage → Bool) (kept : List Kept) → rise (λ k. k.number) 0 kept ≡ true
    → ((n : ℕ) (k : Kept) → kept_at n kept ≡ Some k → weight test (message_of k) ≡ 0)
    → count_by test (living_of kept) ≡ 0
count_zero test kept rises zeros =
    count_living test kept ∙ sum_zero (λ k. k.number) (λ k. weight test (message_of k)) 0 kept rises zeros

-- a message more, ready
pub living_push : (kept : List Kept) (n : ℕ) (sent : Sent) (fate : Fate)
    → living_of (kept ++ record { number = n; sent = sent; fate = Some fate } ∷ [])
    ≡ living_of kept ++ record { number = n; sent = sent; fate = fate } ∷ []
living_push [] n sent fate = refl
living_push (k ∷ kept) n sent fate = by_fate k.fate (living_push kept n sent fate)
  where
    by_fate : (f : Option Fate)
        → living_of (kept ++ record { number = n; sent = sent; fate = Some fate } ∷ [])
        ≡ living_of kept ++ record { number = n; sent = sent; fate = fate } ∷ []
        → living_of (fated f k ∷ kept ++ record { number = n; sent = sent; fate = Some fate } ∷ [])
        ≡ living_of (fated f k ∷ kept) ++ record { number = n; sent = sent; fate = fate } ∷ []
    by_fate None rest = rest
    by_fate (Some f) rest = ap (λ l. record { number = k.number; sent = k.sent; fate = f } ∷ l) rest

-- one that is gone is taken out
pub living_purge : (n low : ℕ) (kept : List Kept) (k : Kept) → rise (λ k. k.number) low kept ≡ true
    → kept_at n kept ≡ Some k → k.fate ≡ None → living_of (filter (λ k. not (k.number == n)) kept) ≡ living_of kept
living_purge n low [] k rises found gone = refl
living_purge n low (l ∷ kept) k rises found gone =
    let parts = and_parts (nat_le low l.number) (rise (λ k. k.number) (l.number + 1) kept) rises in
    elim (cases_Bool (l.number == n)) [
      | inl on ↦
          let same : Some l ≡ Some k = rw on at found in
          let e : l ≡ k = cc in
          let is : l.number ≡ n = eqb-true l.number n on in
          let nothing : l.fate ≡ None = rw e gone in
          let none : kept_at n kept ≡ None = none_below (λ k. k.number) (l.number + 1) n kept parts.1 (omega arith) in
          rw (on, filter_none (λ k. k.number) n kept none, nothing) refl
      | inr off ↦ rw off (consed l.fate (living_purge n (l.number + 1) kept k parts.1 (rw off at found) gone))
    ]
  where
    consed : (f : Option Fate) → living_of (filter (λ k. not (k.number == n)) kept) ≡ living_of kept
        → living_of (fated f l ∷ filter (λ k. not (k.number == n)) kept) ≡ living_of (fated f l ∷ kept)
    consed None rest = rest
    consed (Some f) rest = ap (λ m. record { number = l.number; sent = l.sent; fate = f } ∷ m) rest

-- ---- tests of living messages

-- a test of a message, which nothing passes where there is none
abbrev pub tests : (QueuedMessage → Bool) → Option QueuedMessage → Bool
tests test None = false
tests test (Some m) = test m

pub any_of_living : (test : QueuedMessage → Bool) (kept : List Kept)
    → list_any test (living_of kept) ≡ list_any (λ k. tests test (message_of k)) kept
any_of_living test [] = refl
any_of_living test (k ∷ kept) = by_fate k.fate (any_of_living test kept)
  where
    by_fate : (f : Option Fate) → list_any test (living_of kept) ≡ list_any (λ k. tests test (message_of k)) kept
        → list_any test (living_of (fated f k ∷ kept)) ≡ list_any (λ k. tests test (message_of k)) (fated f k ∷ kept)
    by_fate None rest = rest
    by_fate (Some f) rest = ap (λ b. test (record { number = k.number; sent = k.sent; fate = f }) || b) rest

pub living_append : (xs ys : List Kept) → living_of (xs ++ ys) ≡ living_of xs ++ living_of ys
living_append [] ys = refl
living_append (k ∷ xs) ys = by_fate k.fate (living_append xs ys)
  where
    by_fate : (f : Option Fate) → living_of (xs ++ ys) ≡ living_of xs ++ living_of ys
        → living_of (fated f k ∷ xs ++ ys) ≡ living_of (fated f k ∷ xs) ++ living_of ys
    by_fate None rest = rest
    by_fate (Some f) rest = ap (λ l. record { number = k.number; sent = k.sent; fate = f } ∷ l) rest
