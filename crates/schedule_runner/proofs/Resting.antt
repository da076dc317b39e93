-- What letters and settles do is no command.
use Rattle.std.proofs.Common.{◌≡◌, ℕ, Option, Some, None, refl, sym, subst}
use Rattle.std.specs.Prelude.{Result, Ok, Err, ⊤}
use Rattle.base.specs.declared.pair.Pair.{Pair}
use Rattle.envelope.specs.declared.message.Letter.{Letter}
use Rattle.activities.specs.Service.{Service}
use Rattle.activities.proofs.Sameness.{either}
use Rattle.endpoint.specs.Arrivals.{IngestMay, DrainMay, SettleMay, TakesHeld, row_of_letter, next_letter}
use Rattle.endpoint.specs.Deeds.{Kept, Deed, Nothing, TakesIn, Holds, Settles}
use Rattle.endpoint.specs.declared.answer.Ingested.{Ingested}
use Rattle.endpoint.specs.declared.answer.Ingested.TheVariants as ingested
use Rattle.endpoint.specs.declared.fault.EndFault.{EndFault}
use Rattle.endpoint.specs.declared.fault.EndFault.TheVariants as fault

-- what a deed takes in is no seat's command
abbrev pub IsNoCommand : {C : Type 0} → Deed C → Type 0
IsNoCommand Nothing = ⊤
IsNoCommand (TakesIn row) = (l : Letter) × (row ≡ row_of_letter l)
IsNoCommand (Holds l) = ⊤
IsNoCommand (Settles p n) = ⊤

pub nothing_is : {C : Type 0} (d : Deed C) → d ≡ Nothing → IsNoCommand d
nothing_is d e = subst IsNoCommand (sym e) tt

letter_is : {C : Type 0} (l : Letter) (d : Deed C) → d ≡ TakesIn (row_of_letter l) → IsNoCommand d
letter_is l d e = subst IsNoCommand (sym e) (l, refl)

held_is : {S C : Type 0} (s : Service S C) (p : Pair) (x : Kept C) (d : Deed C) → TakesHeld s p x d → IsNoCommand d
held_is s p x d h = letter_is (next_letter x p h.0) d h.2

pub ingest_rests : {S C : Type 0} (s : Service S C) (l : Letter) (r : Result Ingested EndFault) (x : Kept C)
    (d : Deed C)
    → IngestMay s l r x d → IsNoCommand d
ingest_rests s l (Ok (ingested.Handled pos)) x d may = letter_is l d may.0
ingest_rests s l (Ok (ingested.Repeated handled)) x d may = nothing_is d may.0
ingest_rests s l (Ok ingested.Held) x d may = subst IsNoCommand (sym may) tt
ingest_rests s l (Err fault.TooEarly) x d may = nothing_is d may.0
ingest_rests s l (Err fault.NumberLimit) x d may = nothing_is d may.0
ingest_rests s l (Err fault.StoreFailed) x d may =
    either may (nothing_is d) (λ h. either h (letter_is l d) (λ e. subst IsNoCommand (sym e) tt))
ingest_rests s l (Err fault.Memory) x d may = nothing_is d may
ingest_rests s l (Err fault.NotMine) x d may = nothing_is d may.0
ingest_rests s l (Err fault.Unusable) x d may = nothing_is d may
ingest_rests s l (Err (fault.Business r)) x d may = absurd may
ingest_rests s l (Err fault.NotSent) x d may = absurd may

pub settle_rests : {S C : Type 0} (s : Service S C) (p : Pair) (n : ℕ) (r : Result ℕ EndFault) (x : Kept C) (d : Deed C)
    → SettleMay s p n r x d → IsNoCommand d
settle_rests s p n (Ok mark) x d may = subst IsNoCommand (sym may.0) tt
settle_rests s p n (Err fault.NotSent) x d may = nothing_is d may.0
settle_rests s p n (Err fault.StoreFailed) x d may = either may (nothing_is d) (λ e. subst IsNoCommand (sym e) tt)
settle_rests s p n (Err fault.Memory) x d may = nothing_is d may
settle_rests s p n (Err fault.NotMine) x d may = nothing_is d may.0
settle_rests s p n (Err fault.Unusable) x d may = nothing_is d may
settle_rests s p n (Err (fault.Business r)) x d may = absurd may
settle_rests s p n (Err fault.TooEarly) x d may = absurd may
settle_rests s p n (Err fault.NumberLimit) x d may = absurd may

pub drain_rests : {S C : Type 0} (s : Service S C) (p : Pair) (r : Result (Option ℕ) EndFault) (x : Kept C) (d : Deed C)
    → DrainMay s p r x d → IsNoCommand d
drain_rests s p (Ok (Some n)) x d may = held_is s p x d may.1
drain_rests s p (Ok None) x d may = nothing_is d may.0
drain_rests s p (Err fault.NumberLimit) x d may = nothing_is d may.0
drain_rests s p (Err fault.StoreFailed) x d may = either may (nothing_is d) (held_is s p x d)
drain_rests s p (Err fault.Memory) x d may = nothing_is d may
drain_rests s p (Err fault.NotMine) x d may = nothing_is d may.0
drain_rests s p (Err fault.Unusable) x d may = nothing_is d may
drain_rests s p (Err (fault.Business r)) x d may = absurd may
drain_rests s p (Err fault.TooEarly) x d may = absurd may
drain_rests s p (Err fault.NotSent) x d may = absurd may
