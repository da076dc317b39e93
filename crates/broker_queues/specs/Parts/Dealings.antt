-- What the parts say of the next message that can go out, and of one that does.
use Rattle.std.specs.Prelude.{◌≡◌, ◌≤◌, ◌<◌, ◌⊎◌, ℕ, Bool, true, false, ◌&&◌, List, map, Option, Some, None}
use Rattle.std.specs.Prelude.{Result, Ok, Err}
use Rattle.std.specs.Str.{bytes_eq}
use Rattle.broker_book.specs.declared.parts.Accepted.{Accepted}
use Rattle.broker_book.specs.Books.{Book, is_auto, is_ready_fate}
use Rattle.broker_book.specs.Steps.{Handed, Deal}
use Rattle.std.specs.Prelude.{All, IfSome}
use Rattle.std.specs.Option.{option_map}
use Rattle.broker_index.specs.Index.{Kept, Subscriber, Queue, Sets, ready_from, taken_from, without_entries}
use Rattle.broker_index.specs.declared.places.KeyedPlace.{KeyedPlace}
use Rattle.broker_queues.specs.Parts.Facts.{kept_at, subscriber_at, lists, may_have, queue_of}
use Rattle.broker_queues.specs.Parts.Fates.{passes}
use Rattle.broker_queues.specs.Parts.Storing.{NoneGone}
use Rattle.broker_queues.specs.Parts.Whole.{Holding, IsSound, Picks, SameCounts, book_of}

-- the number of a place, or this one where there is none
abbrev pub number_or : Option KeyedPlace → ℕ → ℕ
number_or None number = number
number_or (Some p) number = p.number

-- the first of these places from a number on that passes a test, among those up to the last number, however they are
-- ordered
abbrev pub FirstOf : (ℕ → Bool) → List KeyedPlace → ℕ → ℕ → Option KeyedPlace → Type 0
FirstOf test places from last None = (m : ℕ) → lists m places ≡ true → from ≤ m → m ≤ last → test m ≡ false
FirstOf test places from last (Some p) = (test p.number ≡ true)
    × ((m : ℕ) → lists m places ≡ true → from ≤ m → m < p.number → test m ≡ false)

-- whether a kept message is ready, and goes to a destination
abbrev pub is_open : List ℕ → Option Kept → Bool
is_open name None = false
is_open name (Some k) = passes is_ready_fate k.fate && bytes_eq k.sent.destination name

-- the same of the one of a number
abbrev pub opens : List Kept → List ℕ → ℕ → Bool
opens kept name number = is_open name (kept_at number kept)

-- whether a subscriber listens on a destination, and may take one message more
abbrev pub is_free : ℕ → List ℕ → Option Subscriber → Bool
is_free given name None = false
is_free given name (Some s) = bytes_eq s.subscription.destination name && may_have given s

-- the same of the one of an age
abbrev pub takes_more : List Subscriber → ℕ → List ℕ → ℕ → Bool
takes_more subscribers given name age = is_free given name (subscriber_at age subscribers)

-- The first ready message of a destination was looked for; its queue looks for one from there on now, and nothing else
-- changed.
pub record SeeksReady (kept : List Kept) (last : ℕ) (name : List ℕ) (old new : List ℕ → Option Queue)
    (found : Option KeyedPlace) : Type 0 where
  pub numbers : (d : List ℕ) → (queue_of new d).numbers ≡ (queue_of old d).numbers
  pub subscribers : (d : List ℕ) → (queue_of new d).subscribers ≡ (queue_of old d).subscribers
  pub count : SameCounts old new
  pub takers : (d : List ℕ) → (queue_of new d).taker_from ≡ (queue_of old d).taker_from
  pub others : (d : List ℕ) → (d ≡ name → ⊥) → (queue_of new d).ready_from ≡ (queue_of old d).ready_from
  pub first : FirstOf (opens kept name) (queue_of old name).numbers (queue_of old name).ready_from last found
  pub from : IfSome found (λ p. (queue_of new name).ready_from ≤ p.number)

-- The same of the oldest subscriber that may take one message more.
pub record SeeksTaker (subscribers : List Subscriber) (given : ℕ) (name : List ℕ) (old new : List ℕ → Option Queue)
    (found : Option
    KeyedPlace) : Type 0 where
  pub last : ℕ
  pub young : All (λ s. s.age < last) subscribers
  pub numbers : (d : List ℕ) → (queue_of new d).numbers ≡ (queue_of old d).numbers
  pub listeners : (d : List ℕ) → (queue_of new d).subscribers ≡ (queue_of old d).subscribers
  pub count : SameCounts old new
  pub ready : (d : List ℕ) → (queue_of new d).ready_from ≡ (queue_of old d).ready_from
  pub others : (d : List ℕ) → (d ≡ name → ⊥) → (queue_of new d).taker_from ≡ (queue_of old d).taker_from
  pub first : FirstOf (takes_more subscribers given name) (queue_of old name).subscribers (queue_of old name).taker_from
      last found
  pub from : IfSome found (λ p. (queue_of new name).taker_from ≤ p.number)

-- A destination looks for ready messages from a number on, and for takers from an age on.
pub record LooksOn (old new : List ℕ → Option Queue) (name : List ℕ) (number age : ℕ) : Type 0 where
  pub between : List ℕ → Option Queue
  pub ready : Sets old between name (option_map (ready_from number) (old name))
  pub takers : Sets between new name (option_map (taken_from age) (between name))

-- One deal was made and taken; or memory was refused, and nothing has changed.
abbrev pub DealsOne : {S E : Type 0} → (S → Handed → S → Type 0) → Book → S → Book → S → Result (Unit {0}) E → Type 0
DealsOne takes old from new to (Ok _) = (d : Handed) × Deal old d new × takes from d to
DealsOne takes old from new to (Err _) = (new ≡ old) × (to ≡ from)

-- The first message that can go out does, to the oldest subscriber that may take it, whose mode is `auto` or not.
abbrev pub HandsOut : {S E : Type 0} → (S → Handed → S → Type 0) → Bool → ℕ → ℕ → Holding → S → Holding → S
    → Result (Unit {0}) E → Type 0
HandsOut takes auto n a old from new to result =
    (accepted : List Accepted) (k : Kept) (s : Subscriber) → IsSound old → Picks old n k a s
    → is_auto s.subscription.mode ≡ auto
    → IsSound new × DealsOne takes (book_of old accepted) from (book_of new accepted) to result

-- and nothing that is gone is kept, where nothing was
abbrev pub HandsWhole : Holding → ℕ → ℕ → Holding → Type 0
HandsWhole old n a new =
    (k : Kept) (s : Subscriber) → IsSound old → Picks old n k a s → NoneGone old.kept → NoneGone new.kept

-- where memory was refused the subscriber notes no delivery that it hadn't noted: those of the message are gone at most
abbrev pub NotesNoMore : {E : Type 0} → List Subscriber → ℕ → ℕ → List Subscriber → Result (Unit {0}) E → Type 0
NotesNoMore old n a new (Ok _) = Unit {0}
NotesNoMore old n a new (Err _) = (new ≡ old) ⊎ (new ≡ map (without_entries a n) old)
