-- The messages that a broker has, and to whom they are out.
use Rattle.std.specs.Prelude.{◌≡◌, ◌^◌, ◌-◌, ℕ, Bool, true, false, ◌&&◌, ◌||◌, ◌==◌, nat_lt, nat_le, List, [], count_by}
use Rattle.std.specs.List.{list_any}
use Rattle.std.specs.Str.{bytes_eq}
use Rattle.base.specs.declared.limits.TheConstants.{MAX_UNANSWERED}
use Rattle.broker_book.specs.declared.parts.Sent.{Sent}
use Rattle.broker_book.specs.declared.parts.Mode.{Mode}
use Rattle.broker_book.specs.declared.parts.Mode.TheVariants.{Auto, Client, Individual}
use Rattle.broker_book.specs.declared.parts.Subscription.{Subscription}
use Rattle.broker_book.specs.declared.parts.Accepted.{Accepted}

-- ---- messages and fates

-- where a message is: ready, or out to a session's subscription as a delivery of this number
pub data Fate : Type 0 where
  Ready : Fate
  Out : (session : ℕ) → (id : List ℕ) → (number : ℕ) → Fate

-- a message that isn't gone
pub record QueuedMessage : Type 0 where
  pub number : ℕ
  pub sent : Sent
  pub fate : Fate

-- the messages that are ready or out, in order of their numbers; the last numbers that were given to a message and to a
-- delivery; the subscriptions, the oldest first; the SENDs accepted since they were last taken
pub record Book : Type 0 where
  pub living : List QueuedMessage
  pub last : ℕ
  pub given : ℕ
  pub subscriptions : List Subscription
  pub accepted : List Accepted

-- nothing has happened yet
abbrev pub empty_book : Book
empty_book = record { living = []; last = 0; given = 0; subscriptions = []; accepted = [] }

-- whether a fate is ready
abbrev pub is_ready_fate : Fate → Bool
is_ready_fate Ready = true
is_ready_fate (Out session id number) = false

-- whether a message is ready
abbrev pub is_ready : QueuedMessage → Bool
is_ready m = is_ready_fate m.fate

-- whether a fate is out to a session's subscription
abbrev pub out_to : ℕ → List ℕ → Fate → Bool
out_to session id Ready = false
out_to session id (Out s i n) = s == session && bytes_eq i id

-- whether it is out to it as the delivery of this number
abbrev pub out_as : ℕ → List ℕ → ℕ → Fate → Bool
out_as session id number Ready = false
out_as session id number (Out s i n) = s == session && bytes_eq i id && n == number

-- whether it is out to any subscription of a session
abbrev pub out_of : ℕ → Fate → Bool
out_of session Ready = false
out_of session (Out s i n) = s == session

-- whether a message goes to a destination
abbrev pub is_for : List ℕ → QueuedMessage → Bool
is_for destination m = bytes_eq m.sent.destination destination

-- ---- subscriptions

-- whether deliveries want no answer
abbrev pub is_auto : Mode → Bool
is_auto Auto = true
is_auto Client = false
is_auto Individual = false

-- whether an answer to one delivery counts for another one to the same subscription
abbrev pub reaches : Mode → ℕ → ℕ → Bool
reaches Client answered number = nat_le number answered
reaches Auto answered number = number == answered
reaches Individual answered number = number == answered

-- whether a subscription is a session's of this name
abbrev pub is_named : ℕ → List ℕ → Subscription → Bool
is_named session id s = s.session == session && bytes_eq s.id id

-- the messages that are out to a subscription
abbrev pub unanswered : Book → Subscription → ℕ
unanswered b s = count_by (λ m. out_to s.session s.id m.fate) b.living

-- fewer than 16 of them, and a delivery number is left; always in mode `auto`
abbrev pub has_credit : Book → Subscription → Bool
has_credit b s = is_auto s.mode || (nat_lt (unanswered b s) MAX_UNANSWERED && nat_lt b.given (2 ^ 64 - 1))

-- ---- what can be dealt

-- whether a message can go out to a subscription
abbrev pub may_take : Book → QueuedMessage → Subscription → Bool
may_take b m s = bytes_eq s.destination m.sent.destination && has_credit b s

-- whether a message is ready, and can go out to one
abbrev pub is_due : Book → QueuedMessage → Bool
is_due b m = is_ready m && list_any (may_take b m) b.subscriptions

-- no message can go out
abbrev pub IsQuiet : Book → Type 0
IsQuiet b = list_any (is_due b) b.living ≡ false
