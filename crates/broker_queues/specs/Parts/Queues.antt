-- What a step does to the queues of destinations, and to which of them are awake.
use Rattle.std.specs.Prelude.{◌≡◌, ◌≤◌, ◌⊎◌, ℕ, ◌-◌, Bool, true, ◌||◌, if◌then◌else◌, List, find}
use Rattle.std.specs.Prelude.{Option, Some, None, nat_le}
use Rattle.std.specs.Option.{option_map}
use Rattle.std.specs.List.{list_any}
use Rattle.std.specs.Str.{bytes_eq}
use Rattle.broker_index.specs.Index.{Queue, is_from}
use Rattle.broker_index.specs.declared.places.KeyedPlace.{KeyedPlace}
use Rattle.broker_queues.specs.Parts.Facts.{IsPast, queue_of}
use Rattle.broker_queues.specs.Parts.Whole.{Lowers, SameCounts, Wakes}

-- a destination is looked at from this message on, or from an earlier one
pub record LooksFrom (old new : List ℕ → Option Queue) (name : List ℕ) (number : ℕ) : Type 0 where
  pub lowers : Lowers old new
  pub counts : SameCounts old new
  pub from : (queue_of new name).ready_from ≤ number

-- a destination looks for takers from this age on, or from a lower one
pub record TakesFrom (old new : List ℕ → Option Queue) (name : List ℕ) (age : ℕ) : Type 0 where
  pub lowers : Lowers old new
  pub counts : SameCounts old new
  pub from : (queue_of new name).taker_from ≤ age
  pub ready : (d : List ℕ) → (queue_of new d).ready_from ≡ (queue_of old d).ready_from

-- what the queue of a name told, if there is one: its count, and the number from which it looks for a ready message
abbrev pub HasTold : (List ℕ → Option Queue) → List ℕ → Option (ℕ × ℕ) → Type 0
HasTold queues name told = told ≡ option_map (λ q. (q.count, q.ready_from)) (queues name)

-- the count that was told
abbrev pub told_count : Option (ℕ × ℕ) → ℕ
told_count None = 0
told_count (Some t) = t.0

-- whether the number that was told is at most this one
abbrev pub told_from : Option (ℕ × ℕ) → ℕ → Bool
told_from None number = true
told_from (Some t) number = nat_le t.1 number

-- a destination has one living message fewer
pub record CountsFewer (old new : List ℕ → Option Queue) (name : List ℕ) : Type 0 where
  pub lowers : Lowers old new
  pub counts : (d : List ℕ) → (queue_of new d).count ≡ (queue_of old d).count - (if bytes_eq name d then 1 else 0)

-- whether a name is among those that are awake, or all are
abbrev pub awake_in : Bool → List (List ℕ) → List ℕ → Bool
awake_in all names d = all || list_any (λ n. bytes_eq n d) names

-- a destination learns that a message of this number is ready again, or that it has one living message fewer
pub record Marks (again : Bool) (name : List ℕ) (number : ℕ) (old new : List ℕ → Option Queue) (was now : List ℕ → Bool)
    : Type 0 where
  pub lowers : Lowers old new
  pub counts : (d : List ℕ) → (queue_of new d).count ≡ (queue_of old d).count -
      (if again then 0 else (if bytes_eq name d then 1 else 0))
  pub wakes : Wakes was now
  pub from : again ≡ true → (queue_of new name).ready_from ≤ number
  pub awake : again ≡ true → now name ≡ true

-- the first message that a queue lists from where it looks for a ready one
abbrev pub next_of : Queue → Option KeyedPlace
next_of q = find (is_from q.ready_from) q.numbers

-- a destination learns that a subscriber of this age has credit; it wakes, if a message of it may be ready
pub record Credits (name : List ℕ) (age : ℕ) (old new : List ℕ → Option Queue) (was now : List ℕ → Bool) : Type 0 where
  pub lowers : Lowers old new
  pub counts : SameCounts old new
  pub wakes : Wakes was now
  pub from : (queue_of new name).taker_from ≤ age
  pub awake : (now name ≡ true) ⊎ IsPast (queue_of new name)

-- a destination learns that a subscriber of this age has credit
pub record Frees (name : List ℕ) (age : ℕ) (old new : List ℕ → Option Queue) (was now : List ℕ → Bool) : Type 0 where
  pub lowers : Lowers old new
  pub counts : SameCounts old new
  pub wakes : Wakes was now
  pub from : (queue_of new name).taker_from ≤ age
  pub awake : now name ≡ true
