-- What a broker keeps, where all of it can be told again, and what else holds of what SENDs brought and of each
-- subscription.
use Rattle.std.specs.List.{AllByRecursion}
use Rattle.stomp_session.specs.Replies.{IsCarried, IsGiven}
use Rattle.broker_book.specs.Books.{Book, QueuedMessage}
use Rattle.broker_book.specs.declared.parts.Accepted.{Accepted}
use Rattle.broker_book.specs.declared.parts.Action.{Action}
use Rattle.broker_book.specs.declared.parts.Action.TheVariants.{Put, Ack as AckOf, Nack as NackOf}
use Rattle.broker_book.specs.declared.parts.Sent.{Sent}
use Rattle.broker_book.specs.declared.parts.Subscription.{Subscription}
use Rattle.broker_tx.specs.Transactions.{Transaction}

-- a MESSAGE can carry what a SEND brought, and it was brought
pub record SentFits (R : Sent → Type 0) (s : Sent) : Type 0 where
  pub carried : IsCarried s.destination s.headers s.body
  pub brought : R s

-- the same of a living message, with its number
pub record MessageFits (R : Sent → Type 0) (m : QueuedMessage) : Type 0 where
  pub sent : SentFits R m.sent
  pub number : IsGiven m.number

-- the same of an accepted SEND
abbrev pub AcceptedFits : (Sent → Type 0) → Accepted → Type 0
AcceptedFits R a = SentFits R a.sent

-- the same of all that live and of all that were accepted, and what holds of each subscription
pub record BookFits (R : Sent → Type 0) (P : Subscription → Type 0) (b : Book) : Type 0 where
  pub living : AllByRecursion (MessageFits R) b.living
  pub subscriptions : AllByRecursion P b.subscriptions
  pub accepted : AllByRecursion (AcceptedFits R) b.accepted

-- what is kept of a SEND can be carried
abbrev pub ActionFits : (Sent → Type 0) → Action → Type 0
ActionFits R (Put sent) = SentFits R sent
ActionFits R (AckOf number) = Unit {0}
ActionFits R (NackOf number) = Unit {0}

-- the same of all that a transaction keeps
abbrev pub TransactionFits : (Sent → Type 0) → Transaction → Type 0
TransactionFits R t = AllByRecursion (ActionFits R) t.actions
