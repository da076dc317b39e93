-- What is done with a letter or a settle that is given to the endpoint, and with the next letter of a pair.
use Rattle.std.specs.Prelude.{◌≡◌, ◌⊎◌, ℕ, suc, ◌-◌, ◌^◌, ◌≤◌, Option, Some, None, Result, Ok, Err, ⊤}
use Rattle.base.specs.declared.entity.Kind.{Kind}
use Rattle.base.specs.declared.limits.TheConstants.{MAX_NUMBER}
use Rattle.base.specs.declared.pair.Pair.{Pair}
use Rattle.stomp_frame.specs.Frames.{Content}
use Rattle.stomp_client.specs.declared.fault.ClientFault.TheVariants as client
use Rattle.envelope.specs.Reading.{read_frame}
use Rattle.envelope.specs.declared.fault.EnvelopeFault.{EnvelopeFault}
use Rattle.envelope.specs.declared.fault.EnvelopeFault.TheVariants.{BadEnvelope, Memory}
use Rattle.activities.specs.Journal.{handled_of}
use Rattle.activities.specs.Service.{Service}
use Rattle.keep.specs.Law.{IsServed, IsCallCause}
use Rattle.keep.specs.Seen.{Seen}
use Rattle.endpoint.specs.Arrivals.{DrainMay}
use Rattle.endpoint.specs.Deeds.{Kept, Deed, Nothing}
use Rattle.endpoint.specs.Faults.{end_cause}
use Rattle.endpoint.specs.declared.fault.EndFault.{EndFault}
use Rattle.reception.specs.Deeds.{IsOurs, MayTurnBack}
use Rattle.reception.specs.Faults.{IsWant}
use Rattle.reception.specs.declared.fault.ReceptionFault.{ReceptionFault}
use Rattle.reception.specs.declared.fault.ReceptionFault.TheVariants.{Client, End}
use Rattle.reception.specs.declared.taken.Drained.{Drained}

-- why the replies to a letter aren't made, by the last number of a transaction
abbrev pub IsLetterWant : (transactions : ℕ) → ReceptionFault → Type 0
IsLetterWant transactions (Client client.NumbersUsed) = transactions ≡ 2 ^ 64 - 1
IsLetterWant transactions fault = IsWant fault

-- why no envelope was read of a MESSAGE
abbrev pub IsUnread : Content → EnvelopeFault → Type 0
IsUnread message BadEnvelope = read_frame message ≡ None
IsUnread message Memory = ⊤

-- what is told of the store's use by an endpoint's answer to what a MESSAGE carries
abbrev pub AnswerUse : {E T R : Type 0} → (E → Seen T) → Kind → Content → (old new : E) → Result R EndFault → Type 0
AnswerUse seen kind f old new (Ok _) = IsServed seen old new × IsOurs kind f
AnswerUse seen kind f old new (Err fault) = IsCallCause seen old new (MayTurnBack kind f) (end_cause fault)

-- what is done with the next letter of a pair
abbrev pub PairMay : {S C : Type 0} → Service S C → Pair → Result (Option Drained) ReceptionFault → Kept C → Deed C
    → Type 0
PairMay service pair (Ok (Some drained)) x d =
    (drained.pair ≡ pair) × DrainMay service pair (Ok (Some drained.number)) x d
PairMay service pair (Ok None) x d = (d ≡ Nothing)
    × ((x.held pair (suc (handled_of x.journal pair)) ≡ None) ⊎ (MAX_NUMBER ≤ handled_of x.journal pair))
PairMay service pair (Err (End fault)) x d = DrainMay service pair (Err fault) x d
PairMay service pair (Err _) x d = d ≡ Nothing
