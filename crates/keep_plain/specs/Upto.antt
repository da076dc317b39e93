-- The messages of a pair up to a number.
use Rattle.std.specs.Prelude.{◌≡◌, ℕ, ◌<◌, ◌≤◌, false, Option, Some, None}
use Rattle.std.specs.BTreeMap.{BTreeMap, get}
use Rattle.base.specs.Order.{same_pair}
use Rattle.base.specs.declared.pair.Pair.{Pair}
use Rattle.envelope.specs.declared.message.Message.{Message}
use Rattle.keep.specs.declared.change.LetterPlace.{LetterPlace}
use Rattle.keep.specs.Places.{place_cmp}
use Rattle.keep.specs.Tables.{Messages}

-- the pair has no slots of the numbers that come after the one and before the other
abbrev pub NoneBetween : BTreeMap LetterPlace (Option Message) → Pair → (ℕ → Type 0) → ℕ → Type 0
NoneBetween m p After high = (k : ℕ) → After k → k < high → get place_cmp m (record { pair = p; number = k }) ≡ None

-- this is the number of the last slot of the place's pair before it, or there is none
abbrev pub IsLastBefore : BTreeMap LetterPlace (Option Message) → LetterPlace → Option ℕ → Type 0
IsLastBefore m x None = NoneBetween m x.pair (λ k. 0 ≤ k) x.number
IsLastBefore m x (Some n) = (n < x.number) × NoneBetween m x.pair (λ k. n < k) x.number

-- the messages of the pair with numbers from the one up to the other are gone, and the others stay
pub record EmptiesFrom (p : Pair) (low high : ℕ) (old new : Messages) : Type 0 where
  pub gone : (k : ℕ) → low ≤ k → k ≤ high → new p k ≡ None
  pub below : (k : ℕ) → k < low → new p k ≡ old p k
  pub above : (k : ℕ) → high < k → new p k ≡ old p k
  pub others : (q : Pair) (k : ℕ) → same_pair p q ≡ false → new q k ≡ old q k
