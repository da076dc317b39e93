-- What is said of two sides has one proof at most.
use Rattle.std.proofs.Common.{ℕ, List}
use Rattle.std.proofs.Props.{props}
use Rattle.envelope.specs.declared.message.Message.{Message}
use Rattle.envelope.specs.declared.message.Envelope.{Envelope}
use Rattle.envelope.specs.declared.message.Envelope.TheVariants.{Letter, Settle}
use Rattle.activities.specs.declared.input.JournalRow.{JournalRow}
use Rattle.activities.specs.Reaction.{Reactions}
use Rattle.activities.specs.Service.{Service}
use Rattle.activities.proofs.Propositions.{message-set, prefix-prop}
use Rattle.endpoint.specs.Deeds.{Kept}
use Rattle.laws_network.specs.declared.event.Delivery.{Delivery}
use Rattle.laws_network.specs.declared.event.Outcome.{Outcome}
use Rattle.laws_stores.specs.Writing.{IsTrueIn}
use Rattle.laws_network.specs.Envelopes.{AreAuthentic}
use Rattle.laws_network.specs.Fair.{Follows, IsFair}
use Rattle.laws_network.specs.Runs.{TakenAreHandledIn}
use Rattle.laws_network.specs.Sides.{Sides}

letters-set : IsSet (List (ℕ × Message))
letters-set = hlevel (props, message-set)

authentic-prop : {S C : Type 0} (reactions : Reactions S C) (journal : List (JournalRow C)) (e : Envelope)
    → IsProp (IsTrueIn reactions journal e)
authentic-prop reactions journal (Letter l) = hlevel (props, message-set)
authentic-prop reactions journal (Settle p n) = hlevel props

are_authentic-prop : {S C : Type 0} (reactions : Reactions S C) (journal : List (JournalRow C)) (sent : List Envelope)
    → IsProp (AreAuthentic reactions journal sent)
are_authentic-prop reactions journal sent = hlevel (authentic-prop reactions journal)

follows-prop : {S C D : Type 0} (reactions : Reactions S C) (x : Kept C) (y : Kept D) → IsProp (Follows reactions x y)
follows-prop reactions x y = hlevel (props, message-set, prefix-prop letters-set)

pub fair-prop : {S C T D : Type 0} (one : Service S C) (other : Service T D) (z : Sides S C T D)
    → IsProp (IsFair one other z)
fair-prop one other z = hlevel (follows-prop, are_authentic-prop)

pub taken-prop : {S C T D : Type 0} (one : Service S C) (other : Service T D) (deliveries : List (Delivery C D))
    (outcomes : List Outcome)
    (z : Sides S C T D) → IsProp (TakenAreHandledIn one other deliveries outcomes z)
taken-prop one other deliveries outcomes z = hlevel (props, letters-set)
