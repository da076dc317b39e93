-- A transaction that is under way, and what it takes to undo it.
use Rattle.std.specs.Prelude.{◌≡◌, ◌≤◌, ◌<◌, ◌+◌, ◌-◌, ℕ, Bool, true, false, ◌&&◌, if◌then◌else◌, List, [], ◌∷◌, ◌++◌}
use Rattle.std.specs.Prelude.{Option, Some, None, is_some, Result, Ok, Err}
use Rattle.std.specs.Str.{bytes_eq}
use Rattle.broker_book.specs.declared.fault.QueueFault.{QueueFault}
use Rattle.broker_book.specs.declared.fault.QueueFault.TheVariants.{Memory}
use Rattle.broker_book.specs.declared.parts.Accepted.{Accepted}
use Rattle.broker_book.specs.declared.parts.Action.{Action}
use Rattle.broker_book.specs.declared.parts.Sent.{Sent}
use Rattle.broker_book.specs.declared.parts.Subscription.{Subscription}
use Rattle.broker_book.specs.Books.{Book, Fate, Ready, Out}
use Rattle.broker_book.specs.Steps.{UnlessMemory, apply_of, put_of}
use Rattle.broker_index.specs.Index.{Kept, Queue, Subscriber}
use Rattle.broker_index.specs.Standing.{fate_of}
use Rattle.broker_index.specs.declared.places.Entry.{Entry}
use Rattle.broker_queues.specs.declared.transactions.Logged.{Logged}
use Rattle.broker_queues.specs.Parts.Fates.{counts_in, fate_of_kept, passes}
use Rattle.broker_queues.specs.Parts.Held.{step_of}
use Rattle.broker_queues.specs.Parts.Facts.{AreDistinct, kept_at, subscriber_at, subscriptions_of, lists, notes}
use Rattle.broker_queues.specs.Parts.Facts.{queue_of}
use Rattle.broker_queues.specs.Parts.Undoing.{AreAll, AreTrue, before, mentions}
use Rattle.broker_queues.specs.Parts.Storing.{ListsOnly, NoneGone, PutsNone, Tidies, is_gone}
use Rattle.broker_queues.specs.Parts.Whole.{Changes, Holding, IsSound, Lowers, Puts, book_of}

-- whether a message that may be there goes to a destination
abbrev pub goes_to : List ℕ → Option Kept → Bool
goes_to name None = false
goes_to name (Some k) = bytes_eq k.sent.destination name

-- The subscriber of a noted message is there, has the message noted, and is the one to whom it was out.
pub record IsHeldBy (o : Option Subscriber) (e : Logged) : Type 0 where
  pub holder : Subscriber
  pub there : o ≡ Some holder
  pub ack : ℕ
  pub fate : fate_of e.standing ≡ Some (Out holder.subscription.session holder.subscription.id ack)
  pub noted : notes e.number holder.entries ≡ true

-- the same of each noted message
abbrev pub AreHeld : List Subscriber → List Logged → Type 0
AreHeld subscribers [] = Unit {0}
AreHeld subscribers (e ∷ log) = IsHeldBy (subscriber_at e.age subscribers) e × AreHeld subscribers log

-- What was there when a transaction began is there, but for fates that were noted; what came since is ready, and is
-- listed where it goes.
pub record IsBegun (start : Holding) (log : List Logged) (now : Holding) : Type 0 where
  pub sound : IsSound now
  pub kept : before start.last log now.kept ≡ start.kept
  pub subscriptions : subscriptions_of now.subscribers ≡ subscriptions_of start.subscribers
  pub given : now.given ≡ start.given
  pub distinct : AreDistinct start.given start.kept
  pub last : start.last ≤ now.last
  pub held : AreHeld now.subscribers log
  pub fresh : (n : ℕ) (k : Kept) → kept_at n now.kept ≡ Some k → start.last < n → k.fate ≡ Some Ready
  pub listed : (d : List ℕ) (n : ℕ) → lists n (queue_of now.queues d).numbers ≡ true → start.last < n
      → goes_to d (kept_at n now.kept) ≡ true

-- ---- noting

-- one more note is of this delivery of a message
pub record NotesIt (kept : List Kept) (entry : Entry) (holder : ℕ) (old new : List Logged) : Type 0 where
  pub it : Logged
  pub more : new ≡ old ++ it ∷ []
  pub number : it.number ≡ entry.number
  pub age : it.age ≡ holder
  pub fate : fate_of it.standing ≡ fate_of_kept (kept_at entry.number kept)

-- it was noted if an answer counts for it
abbrev pub NotesIf : List Kept → Entry → ℕ → List Logged → List Logged → Bool → Type 0
NotesIf kept entry age old new true = NotesIt kept entry age old new
NotesIf kept entry age old new false = new ≡ old

-- the same, unless memory was refused
abbrev pub NotesOne : {A E : Type 0} → List Kept → Entry → ℕ → Subscription → Option ℕ → List Logged → List Logged
    → Result A E → Type 0
NotesOne kept entry age s answered old new (Ok _) =
    NotesIf kept entry age old new (passes (counts_in s answered) (fate_of_kept (kept_at entry.number kept)))
NotesOne kept entry age s answered old new (Err _) = new ≡ old

-- What was noted is so, and among these deliveries of a subscriber each is noted for which an answer counts.
pub record Noted (h : Holding) (s : Subscriber) (answered : Option ℕ) (es : List Entry) (old new : List Logged) : Type 0
  where
    pub later : List Logged
    pub more : new ≡ old ++ later
    pub holds : AreTrue h.kept later
    pub held : AreHeld h.subscribers later
    pub all : AreAll (counts_in s.subscription answered) h.kept es later

-- all of a subscriber's were, or memory was refused behind some
abbrev pub NotesAll : {A E : Type 0} → Holding → ℕ → Option ℕ → List Logged → List Logged → Result A E → Type 0
NotesAll h age answered old new (Ok _) = (s : Subscriber) → subscriber_at age h.subscribers ≡ Some s
    → Noted h s answered s.entries old new
NotesAll h age answered old new (Err _) =
    (s : Subscriber) → subscriber_at age h.subscribers ≡ Some s → Noted h s answered [] old new

-- ---- steps of a transaction

-- the book took a step, or the step was refused with this fault, or memory was
abbrev pub Goes : {A : Type 0} → Result Book QueueFault → Book → Result A QueueFault → Type 0
Goes step new (Ok _) = step ≡ Ok new
Goes step new (Err Memory) = Unit {0}
Goes step new (Err fault) = step ≡ Err fault

-- an answer within a transaction can be undone
abbrev pub AnswersNoted : {A : Type 0} → ℕ → ℕ → Bool → Holding → List Logged → Holding → List Logged
    → Result A QueueFault → Type 0
AnswersNoted session ack again old noted new now result =
    ((start : Holding) → IsBegun start noted old → IsBegun start now new)
    × ((accepted : List Accepted) → IsSound old
    → IsSound new × Goes (step_of again (book_of old accepted) session ack) (book_of new accepted) result)

-- something was put behind
pub record Grows {A : Type 0} (old new : List A) : Type 0 where
  pub more : List A
  pub is : new ≡ old ++ more

-- a step of a transaction can be undone
pub record Acts {A : Type 0} (step : Book → Result Book QueueFault) (old : Holding) (noted : List Logged)
    (given : List Accepted)
    (new : Holding) (now : List Logged) (accepted : List Accepted) (result : Result A QueueFault) : Type 0 where
  pub sound : IsSound new
  pub begun : (start : Holding) → IsBegun start noted old → IsBegun start now new
  pub goes : Goes (step (book_of old given)) (book_of new accepted) result
  pub grows : Grows given accepted

-- A SEND was accepted.
pub record Accepts (full : ℕ) (old : Holding) (given : List Accepted) (sent : Sent) (new : Holding)
    (accepted : List Accepted)
    : Type 0 where
  pub sound : IsSound new
  pub puts : Puts old sent new
  pub only : ListsOnly old sent new
  pub step : put_of full (book_of old given) sent ≡ Ok (book_of new accepted)
  pub grows : Grows given accepted

-- or it was refused
abbrev pub PutsAccepted : {A : Type 0} → ℕ → Holding → List Accepted → Sent → Holding → List Accepted
    → Result A QueueFault → Type 0
PutsAccepted full old given sent new accepted (Ok _) = Accepts full old given sent new accepted
PutsAccepted full old given sent new accepted (Err fault) = PutsNone full old sent fault new × (accepted ≡ given)

-- ---- undoing

-- the last message that came is taken out, and its number can be given back
abbrev pub TakesLast : Holding → Holding → Type 0
TakesLast old new = (start : Holding) (log : List Logged) → IsBegun start log old → start.last < old.last
    → IsBegun start log (record new { last = old.last - 1 })

-- the last message that came is gone again
abbrev pub Unputs : Holding → Holding → Type 0
Unputs old new =
    (start : Holding) (log : List Logged) → IsBegun start log old → start.last < old.last → IsBegun start log new

-- all that came behind a number are
abbrev pub UnputsAll : Holding → ℕ → Holding → Type 0
UnputsAll old last new = (start : Holding) (log : List Logged) → IsBegun start log old → start.last ≡ last
    → IsBegun start log new × (new.last ≡ start.last)

-- the fate of a noted message is as it was
abbrev pub PutsBack : Holding → Logged → Holding → Type 0
PutsBack old e new = (start : Holding) (log : List Logged) → IsBegun start (log ++ e ∷ []) old → old.last ≡ start.last
    → IsBegun start log new × (new.last ≡ start.last)

-- A destination that is there has one living message more, if that one was gone and there are fewer than this many.
pub record CountsMore (was : Option Fate) (most : ℕ) (old new : List ℕ → Option Queue) (name : List ℕ) : Type 0 where
  pub lowers : Lowers old new
  pub counts : (is_gone was ≡ true → (is_some (old name) ≡ true) × ((queue_of old name).count < most)) → (d : List ℕ)
      → (queue_of new d).count ≡ (queue_of old d).count + (if is_gone was && bytes_eq name d then 1 else 0)

-- those of all noted messages are
abbrev pub PutsBackAll : Holding → List Logged → Holding → Type 0
PutsBackAll old log new = (start : Holding) → IsBegun start log old → old.last ≡ start.last
    → IsBegun start [] new × (new.last ≡ start.last)

-- the same messages are kept as when a transaction began, and nothing else of the book is other
abbrev pub Undoes : Holding → ℕ → List Logged → Holding → Type 0
Undoes old last log new =
    (start : Holding) → IsBegun start log old → start.last ≡ last → (new.kept ≡ start.kept) × Tidies start new

-- ---- putting away

-- each message that is gone was noted
abbrev pub GoneAreNoted : List Kept → List Logged → Type 0
GoneAreNoted kept log = (n : ℕ) (k : Kept) → kept_at n kept ≡ Some k → is_gone k.fate ≡ true → mentions n log ≡ true

-- where all that is gone was noted, none of it is kept any more
abbrev pub SweepsAll : Holding → List Logged → Holding → Type 0
SweepsAll old log new = IsSound old → AreHeld old.subscribers log → GoneAreNoted old.kept log → NoneGone new.kept

-- a message that is kept and was ready is gone, or there is none
abbrev pub LetsGo : Holding → ℕ → Holding → Bool → Type 0
LetsGo old n new true = (k : Kept) × (kept_at n old.kept ≡ Some k) × (IsSound old → k.fate ≡ Some Ready
    → Changes old n k None new × (new.given ≡ old.given))
LetsGo old n new false = (kept_at n old.kept ≡ None) × (new ≡ old)

-- ---- whole

-- actions were done in order, or refused and nothing has changed
abbrev pub Applies : {A : Type 0} → ℕ → ℕ → List Action → Holding → List Accepted → Holding → List Accepted
    → Result A QueueFault → Type 0
Applies full session actions old accepted new now result = IsSound new
    × UnlessMemory (apply_of full session (book_of old accepted) actions) (book_of old accepted) (book_of new now)
    result
