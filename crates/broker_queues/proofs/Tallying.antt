-- How many messages are ready, and how many are out.
use Rattle.std.proofs.Common.{◌≡◌, ◌+◌, ◌-◌, ◌%◌, ◌^◌, ℕ, Bool, not, cond, List, [], ◌∷◌, length, Option, Some}
use Rattle.std.proofs.Common.{None, refl, sym, ap, ◌∙◌, arith, inl, inr}
use Rattle.std.specs.Prelude.{count_by}
use Rattle.std.specs.List.{sum_by}
use Rattle.std.proofs.Math.Nat.{mod-add-mod}
use Rattle.std.proofs.lemmas.Bool.{cases_Bool}
use Rattle.std.proofs.lemmas.List.Sums.{sum_by-cons}
use Rattle.std.proofs.lemmas.Nat.{pow_pos}
use Rattle.broker_book.proofs.Wrapped.{wrapped_less}
use Rattle.broker_book.specs.Books.{Fate, Out, QueuedMessage, Ready, is_ready}
use Rattle.broker_index.specs.Held.{kept_out, out_weight}
use Rattle.broker_index.specs.Index.{Kept}
use Rattle.broker_queues.specs.Parts.Facts.{living_of}
use Rattle.broker_queues.specs.Parts.Fates.{fated}
use Rattle.broker_queues.specs.Parts.Storing.{NoneGone}
use Rattle.broker_queues.specs.Parts.Whole.{Holding, IsSound}
use Rattle.broker_queues.proofs.Waiting.{counts_living}

-- whether a message is out
abbrev is_out : QueuedMessage → Bool
is_out m = not (is_ready m)

-- those that are out are so in the book
pub out_living : (kept : List Kept) → kept_out kept ≡ count_by (λ m. not (is_ready m)) (living_of kept)
out_living [] = refl
out_living (k ∷ kept) = by_fate k.fate (out_living kept)
  where
    by_fate : (f : Option Fate) → kept_out kept ≡ count_by is_out (living_of kept)
        → kept_out (fated f k ∷ kept) ≡ count_by is_out (living_of (fated f k ∷ kept))
    by_fate None rest = omega (arith, rest, sum_by-cons (λ (l : Kept). out_weight l.fate) (fated None k) kept)
    by_fate (Some Ready) rest =
        let m : QueuedMessage = record { number = k.number; sent = k.sent; fate = Ready } in
        omega (
          arith,
          rest,
          sum_by-cons (λ (l : Kept). out_weight l.fate) (fated (Some Ready) k) kept,
          sum_by-cons (λ x. cond (is_out x) 1 0) m (living_of kept),
        )
    by_fate (Some (Out session id number)) rest =
        let m : QueuedMessage = record { number = k.number; sent = k.sent; fate = Out session id number } in
        omega (
          arith,
          rest,
          sum_by-cons (λ (l : Kept). out_weight l.fate) (fated (Some (Out session id number)) k) kept,
          sum_by-cons (λ x. cond (is_out x) 1 0) m (living_of kept),
        )

-- ones are as many as there are
ones : {X : Type 0} (xs : List X) → sum_by (λ _. 1) xs ≡ length xs
ones [] = refl
ones (x ∷ xs) = omega (arith, sum_by-cons (λ _. 1) x xs, ones xs)

-- each message is ready or out
ready_or_out : (ms : List QueuedMessage) → sum_by (λ _. 1) ms ≡ count_by is_ready ms + count_by is_out ms
ready_or_out [] = refl
ready_or_out (m ∷ ms) =
    let one = sum_by-cons (λ (_ : QueuedMessage). 1) m ms in
    let ready = sum_by-cons (λ x. cond (is_ready x) 1 0) m ms in
    let out = sum_by-cons (λ x. cond (is_out x) 1 0) m ms in
    elim (cases_Bool (is_ready m)) [
      | inl on ↦
          let r = ap {B = ℕ} (λ (b : Bool). cond b 1 0) on in
          let o = ap {B = ℕ} (λ (b : Bool). cond (not b) 1 0) on in
          omega (arith, ready_or_out ms, one, ready, out, r, o)
      | inr off ↦
          let r = ap {B = ℕ} (λ (b : Bool). cond b 1 0) off in
          let o = ap {B = ℕ} (λ (b : Bool). cond (not b) 1 0) off in
          omega (arith, ready_or_out ms, one, ready, out, r, o)
    ]

-- where none is gone, those that are kept and not out are ready
pub ready_living : (h : Holding) → IsSound h → NoneGone h.kept → (len out : ℕ) → len ≡ length h.kept
    → out ≡ kept_out h.kept % 2 ^ 64
    → (len + (2 ^ 64 - out)) % 2 ^ 64 ≡ count_by is_ready (living_of h.kept) % 2 ^ 64
ready_living h is none len out all counted =
    let ready = count_by is_ready (living_of h.kept) in
    let others = kept_out h.kept in
    let whole : len ≡ ready + others = omega (
      arith,
      all,
      ones h.kept,
      counts_living (λ _. 1) 0 h.kept is.numbers none,
      ready_or_out (living_of h.kept),
      out_living h.kept,
    ) in
    ap (λ (x : ℕ). (len + (2 ^ 64 - x)) % 2 ^ 64) counted
    ∙ ap (λ (x : ℕ). (x + (2 ^ 64 - others % 2 ^ 64)) % 2 ^ 64) whole
    ∙ sym (mod-add-mod (ready + others) (2 ^ 64) (2 ^ 64 - others % 2 ^ 64))
    ∙ wrapped_less (2 ^ 64) ready others (pow_pos 64)
