-- Which message goes out next, and to whom.
use Rattle.std.specs.Prelude.{◌≡◌, ◌≤◌, ℕ, Bool, true, false, nat_le, if◌then◌else◌, List, Option, Some, None, Result}
use Rattle.std.specs.Prelude.{Ok, Err}
use Rattle.std.specs.Str.{bytes_eq}
use Rattle.broker_book.specs.declared.parts.Accepted.{Accepted}
use Rattle.broker_book.specs.Books.{Ready, is_auto}
use Rattle.broker_book.specs.Steps.{Handed}
use Rattle.broker_index.specs.Index.{Kept, Subscriber}
use Rattle.broker_index.specs.declared.places.KeyedPlace.{KeyedPlace}
use Rattle.broker_queues.specs.declared.deals.Pick.{Pick}
use Rattle.broker_queues.specs.Parts.Dealings.{DealsOne}
use Rattle.broker_queues.specs.Parts.Facts.{kept_at, subscriber_at, may_have}
use Rattle.broker_queues.specs.Parts.Whole.{Holding, IsSound, Picks, book_of}

-- The parts agree, and no message or subscriber changed.
pub record Rests (old new : Holding) : Type 0 where
  pub sound : IsSound new
  pub kept : new.kept ≡ old.kept
  pub subscribers : new.subscribers ≡ old.subscribers
  pub last : new.last ≡ old.last
  pub given : new.given ≡ old.given

-- A message is ready and goes to a destination, and a subscriber there may take it.
pub record IsDueAt (kept : List Kept) (subscribers : List Subscriber) (given : ℕ) (name : List ℕ) (number : ℕ) : Type 0
  where
    pub message : Kept
    pub there : kept_at number kept ≡ Some message
    pub ready : message.fate ≡ Some Ready
    pub for_it : message.sent.destination ≡ name
    pub age : ℕ
    pub subscriber : Subscriber
    pub sits : subscriber_at age subscribers ≡ Some subscriber
    pub same : bytes_eq subscriber.subscription.destination message.sent.destination ≡ true
    pub may : may_have given subscriber ≡ true

-- A message of this number is ready, and this is the oldest subscriber that may take it.
pub record MayGo (kept : List Kept) (subscribers : List Subscriber) (given n a : ℕ) : Type 0 where
  pub message : Kept
  pub there : kept_at n kept ≡ Some message
  pub ready : message.fate ≡ Some Ready
  pub subscriber : Subscriber
  pub sits : subscriber_at a subscribers ≡ Some subscriber
  pub same : bytes_eq subscriber.subscription.destination message.sent.destination ≡ true
  pub may : may_have given subscriber ≡ true
  pub oldest : (b : ℕ) (t : Subscriber) → subscriber_at b subscribers ≡ Some t
      → bytes_eq t.subscription.destination message.sent.destination ≡ true → may_have given t ≡ true → a ≤ b

-- whether a pick's message has at most this number
abbrev pub is_at_most : Option Pick → ℕ → Bool
is_at_most None number = false
is_at_most (Some p) number = nat_le p.message.number number

-- the pick with the earlier message
abbrev pub earlier : Option Pick → Pick → Pick
earlier None p = p
earlier (Some best) p = if nat_le best.message.number p.message.number then best else p

-- the pick of a message and of a taker, if there is one
abbrev pub pick_of : KeyedPlace → Option KeyedPlace → Option Pick
pick_of message None = None
pick_of message (Some taker) = Some (record { message = message; taker = taker })

-- a pick can be made
abbrev pub IsPick : List Kept → List Subscriber → ℕ → Option Pick → Type 0
IsPick kept subscribers given None = Unit {0}
IsPick kept subscribers given (Some p) = MayGo kept subscribers given p.message.number p.taker.number

-- no message that is due at a destination is before a pick's
abbrev pub Covers : List Kept → List Subscriber → ℕ → List ℕ → Option Pick → Type 0
Covers kept subscribers given name best =
    (number : ℕ) → IsDueAt kept subscribers given name number → is_at_most best number ≡ true

-- One destination was looked at: this is what can be done there, first of all.
pub record Looked (old : Holding) (name : List ℕ) (new : Holding) (found : Option Pick) : Type 0 where
  pub rests : Rests old new
  pub can : IsPick old.kept old.subscribers old.given found
  pub covers : Covers old.kept old.subscribers old.given name found

-- it is so, if the parts agreed
abbrev pub Looks : Holding → List ℕ → Holding → Option Pick → Type 0
Looks old name new found = IsSound old → Looked old name new found

-- a message that can go out, before all others, to the oldest subscriber that may take it; or nothing is due anywhere
abbrev pub IsNext : Holding → Option Pick → Type 0
IsNext h None = (name : List ℕ) (number : ℕ) → IsDueAt h.kept h.subscribers h.given name number → ⊥
IsNext h (Some p) = (k : Kept) × (s : Subscriber) × Picks h p.message.number k p.taker.number s

-- the next deal is chosen, where not all destinations count as awake
abbrev pub Chooses : Holding → Bool → Holding → Option Pick → Type 0
Chooses old all new found = IsSound old → all ≡ false → Rests old new × IsNext new found

-- the next deal; or memory was refused
abbrev pub NextDeal : {E : Type 0} → Holding → Holding → Result (Option Pick) E → Type 0
NextDeal old new (Ok found) = IsSound old → Rests old new × IsNext new found
NextDeal old new (Err _) = IsSound old → Rests old new

-- whether a subscriber, where there is one, gives no answers
abbrev pub is_auto_of : Option Subscriber → Bool
is_auto_of None = false
is_auto_of (Some s) = is_auto s.subscription.mode

-- the first message that can go out does
abbrev pub Hands : {S E : Type 0} → (S → Handed → S → Type 0) → ℕ → ℕ → Holding → S → Holding → S → Result (Unit {0}) E
    → Type 0
Hands takes n a old from new to result =
    (accepted : List Accepted) (k : Kept) (s : Subscriber) → IsSound old → Picks old n k a s
    → IsSound new × DealsOne takes (book_of old accepted) from (book_of new accepted) to result
