-- Whatever an answer allows takes in only what arrived, or was held.
use Rattle.std.proofs.Common.{◌≡◌, ℕ, Option, Some, None, Result, Ok, Err, sym, subst}
use Rattle.base.specs.declared.pair.Pair.{Pair}
use Rattle.envelope.specs.declared.message.Envelope.{Envelope}
use Rattle.envelope.specs.declared.message.Envelope.TheVariants as envelope
use Rattle.envelope.specs.declared.message.Letter.{Letter}
use Rattle.activities.specs.declared.input.Input.TheVariants.{FromSeat}
use Rattle.activities.specs.Service.{Service}
use Rattle.activities.proofs.Sameness.{either}
use Rattle.base.specs.Entity.{Entity}
use Rattle.endpoint.specs.declared.answer.Committed.{Committed}
use Rattle.endpoint.specs.declared.answer.Ingested.{Ingested}
use Rattle.endpoint.specs.declared.answer.Ingested.TheVariants as ingested
use Rattle.endpoint.specs.declared.fault.EndFault.{EndFault}
use Rattle.endpoint.specs.declared.fault.EndFault.TheVariants.{NotMine, Business, TooEarly, StoreFailed, Memory}
use Rattle.endpoint.specs.declared.fault.EndFault.TheVariants.{Unusable, NumberLimit}
use Rattle.endpoint.specs.declared.fault.EndFault.TheVariants.{NotSent}
use Rattle.endpoint.specs.Arrivals.{IngestMay, DrainMay, SettleMay, TakesHeld, row_of_letter, next_letter}
use Rattle.endpoint.specs.Deeds.{Kept, Deed, Nothing, TakesIn, CommitMay}
use Rattle.laws_stores.specs.Deeds.{DeedIs}
use Rattle.laws_stores.specs.Good.{IsHeldIn}

module _ {S C : Type 0} (s : Service S C) (P : Envelope → Type 0) where
  pub nothing_is : (d : Deed C) → d ≡ Nothing → DeedIs P d
  nothing_is d is = subst (DeedIs P) (sym is) tt

  pub command_is : (e : Entity) (seat : ℕ) (c : C) (d : Deed C)
      → d ≡ TakesIn (record { entity = e; input = FromSeat seat c }) → DeedIs P d
  command_is e seat c d is = subst (DeedIs P) (sym is) tt

  pub commit_is : (e : Entity) (seat : ℕ) (c : C) (r : Result Committed EndFault) (x : Kept C) (d : Deed C)
      → CommitMay s (record { entity = e; input = FromSeat seat c }) r x d → DeedIs P d
  commit_is e seat c (Ok done) x d may = command_is e seat c d may.0
  commit_is e seat c (Err (Business refusal)) x d may = nothing_is d may.0
  commit_is e seat c (Err StoreFailed) x d may = either may (nothing_is d) (command_is e seat c d)
  commit_is e seat c (Err Memory) x d may = nothing_is d may
  commit_is e seat c (Err NotMine) x d may = nothing_is d may
  commit_is e seat c (Err Unusable) x d may = nothing_is d may
  commit_is e seat c (Err NumberLimit) x d may = nothing_is d may
  commit_is e seat c (Err TooEarly) x d may = nothing_is d may
  commit_is e seat c (Err NotSent) x d may = nothing_is d may

  taken_is : (l : Letter) → P (envelope.Letter l) → (d : Deed C) → d ≡ TakesIn (row_of_letter l) → DeedIs P d
  taken_is l here d is = subst (DeedIs P) (sym is) here

  pub ingest_is : (l : Letter) → P (envelope.Letter l) → (r : Result Ingested EndFault) (x : Kept C) (d : Deed C)
      → IngestMay s l r x d
      → DeedIs P d
  ingest_is l here (Ok (ingested.Handled pos)) x d may = taken_is l here d may.0
  ingest_is l here (Ok (ingested.Repeated handled)) x d may = nothing_is d may.0
  ingest_is l here (Ok ingested.Held) x d may = subst (DeedIs P) (sym may) here
  ingest_is l here (Err StoreFailed) x d may =
      either may (nothing_is d) (λ more. either more (taken_is l here d) (λ is. subst (DeedIs P) (sym is) here))
  ingest_is l here (Err TooEarly) x d may = nothing_is d may.0
  ingest_is l here (Err NumberLimit) x d may = nothing_is d may.0
  ingest_is l here (Err Memory) x d may = nothing_is d may
  ingest_is l here (Err NotMine) x d may = nothing_is d may.0
  ingest_is l here (Err Unusable) x d may = nothing_is d may
  ingest_is l here (Err (Business _)) x d may = absurd may
  ingest_is l here (Err NotSent) x d may = absurd may

  pub settle_is : (p : Pair) (n : ℕ) → P (envelope.Settle p n) → (r : Result ℕ EndFault) (x : Kept C) (d : Deed C)
      → SettleMay s p n r x d
      → DeedIs P d
  settle_is p n here (Ok mark) x d may = subst (DeedIs P) (sym may.0) here
  settle_is p n here (Err StoreFailed) x d may = either may (nothing_is d) (λ is. subst (DeedIs P) (sym is) here)
  settle_is p n here (Err NotSent) x d may = nothing_is d may.0
  settle_is p n here (Err Memory) x d may = nothing_is d may
  settle_is p n here (Err NotMine) x d may = nothing_is d may.0
  settle_is p n here (Err Unusable) x d may = nothing_is d may
  settle_is p n here (Err (Business _)) x d may = absurd may
  settle_is p n here (Err TooEarly) x d may = absurd may
  settle_is p n here (Err NumberLimit) x d may = absurd may

  -- what is held has the property
  abbrev pub HeldIs : Kept C → Type 0
  HeldIs x = (e : Envelope) → IsHeldIn x.held e → P e

  held_is : (p : Pair) (x : Kept C) (d : Deed C) → HeldIs x → TakesHeld s p x d → DeedIs P d
  held_is p x d held may =
      taken_is (next_letter x p may.0) (held (envelope.Letter (next_letter x p may.0)) may.1) d may.2

  pub drain_is : (p : Pair) (r : Result (Option ℕ) EndFault) (x : Kept C) (d : Deed C) → HeldIs x → DrainMay s p r x d
      → DeedIs P d
  drain_is p (Ok (Some n)) x d held may = held_is p x d held may.1
  drain_is p (Ok None) x d held may = nothing_is d may.0
  drain_is p (Err StoreFailed) x d held may = either may (nothing_is d) (held_is p x d held)
  drain_is p (Err NumberLimit) x d held may = nothing_is d may.0
  drain_is p (Err Memory) x d held may = nothing_is d may
  drain_is p (Err NotMine) x d held may = nothing_is d may.0
  drain_is p (Err Unusable) x d held may = nothing_is d may
  drain_is p (Err (Business _)) x d held may = absurd may
  drain_is p (Err TooEarly) x d held may = absurd may
  drain_is p (Err NotSent) x d held may = absurd may
