-- What holds where a call was refused.
use Rattle.std.proofs.Common.{◌≡◌, ◌≤◌, Result, Ok, Err, ap, subst, arith}
use Rattle.keep.specs.Law.{Never, IsCall, IsCallCause, IsReadCause, IsWriteCause}
use Rattle.keep.specs.Seen.{Seen, IsSound}
use Rattle.keep.specs.Tables.{Tables}
use Rattle.keep.specs.declared.fault.KeepFault.TheVariants as keep
use Rattle.outbox.specs.Faults.{IsLimit, outbox_cause}
use Rattle.outbox.specs.declared.fault.OutboxFault.{OutboxFault}
use Rattle.outbox.specs.declared.fault.OutboxFault.TheVariants.{Store}
use Rattle.outbox.specs.declared.fault.OutboxFault.TheVariants as outbox
use Rattle.endpoint.specs.declared.fault.EndFault.{EndFault}
use Rattle.endpoint.specs.declared.fault.EndFault.TheVariants.{NotMine, Business, TooEarly, StoreFailed, Memory}
use Rattle.endpoint.specs.declared.fault.EndFault.TheVariants.{Unusable, NumberLimit}
use Rattle.endpoint.specs.declared.fault.EndFault.TheVariants.{NotSent}
use Rattle.endpoint.specs.Calls.{IfRefused, KeepsTables}
use Rattle.endpoint.specs.Faults.{end_cause, end_of, outbox_fault_of}
use Rattle.endpoint.proofs.Links.{same_stays}

-- one fact of a refusal makes another
pub if_refused : {R : Type 0} (A B : Type 0) (result : Result R EndFault) → (A → B) → IfRefused result A
    → IfRefused result B
if_refused A B (Ok r) so a = tt
if_refused A B (Err StoreFailed) so a = tt
if_refused A B (Err NotMine) so a = so a
if_refused A B (Err (Business _)) so a = so a
if_refused A B (Err TooEarly) so a = so a
if_refused A B (Err Memory) so a = so a
if_refused A B (Err Unusable) so a = so a
if_refused A B (Err NumberLimit) so a = so a
if_refused A B (Err NotSent) so a = so a

-- what holds anyway
pub holds_anyway : {R : Type 0} (A : Type 0) (result : Result R EndFault) → A → IfRefused result A
holds_anyway A (Ok r) a = tt
holds_anyway A (Err StoreFailed) a = tt
holds_anyway A (Err NotMine) a = a
holds_anyway A (Err (Business _)) a = a
holds_anyway A (Err TooEarly) a = a
holds_anyway A (Err Memory) a = a
holds_anyway A (Err Unusable) a = a
holds_anyway A (Err NumberLimit) a = a
holds_anyway A (Err NotSent) a = a

module _ {E S C : Type 0} (seen : E → Seen (Tables S C)) (old new : E) where
  abbrev Same : Type 0
  Same = (seen new).tables ≡ (seen old).tables

  -- a read that was refused
  pub read_keeps : (R : Type 0) (fault : EndFault) → IsReadCause seen old new (λ _. Never) (end_cause fault)
      → IsCallCause seen old new Never (end_cause fault) → IfRefused {R = R} (Err fault) Same
  read_keeps R Memory r call = r
  read_keeps R StoreFailed r call = tt
  read_keeps R Unusable r call = ap (λ k. (seen k).tables) call.1
  read_keeps R NotMine r call = absurd call.1
  read_keeps R (Business _) r call = absurd call.1
  read_keeps R TooEarly r call = absurd call.1
  read_keeps R NumberLimit r call = absurd call.1
  read_keeps R NotSent r call = absurd call.1

  -- numbers of letters that couldn't be had
  pub sending_keeps : (R : Type 0) (Why : Tables S C → OutboxFault → Type 0) (fault : OutboxFault)
      → IsCallCause seen old new IsLimit (outbox_cause fault) → IsReadCause seen old new Why (outbox_cause fault)
      → IfRefused {R = R} (Err (outbox_fault_of fault)) Same
  sending_keeps R Why (Store keep.Memory) call r = r
  sending_keeps R Why (Store keep.Failed) call r = tt
  sending_keeps R Why (Store keep.WrongFile) call r = absurd call.1
  sending_keeps R Why outbox.NumberLimit call r = r.1

  -- a transaction that was refused
  pub write_keeps : (R : Type 0) (to : Tables S C → Tables S C) (fault : EndFault)
      → IsCallCause seen old new Never (end_cause fault) → IsWriteCause seen old new to (end_cause fault)
      → IfRefused {R = R} (Err fault) Same
  write_keeps R to Memory call w = w
  write_keeps R to StoreFailed call w = tt
  write_keeps R to Unusable call w = ap (λ k. (seen k).tables) call.1
  write_keeps R to NotMine call w = absurd call.1
  write_keeps R to (Business _) call w = absurd call.1
  write_keeps R to TooEarly call w = absurd call.1
  write_keeps R to NumberLimit call w = absurd call.1
  write_keeps R to NotSent call w = absurd call.1

  -- the call that a caller sees: where the tables stay a stop leaves no others
  pub keeps_tables : {R : Type 0} (was : IsSound (seen old)) (is : IsSound (seen new)) (May : EndFault → Type 0)
      (result : Result R EndFault)
      → IsCall seen old new May (end_of result) → (seen old).doubt ≤ (seen new).doubt
      → ((seen new).doubt ≡ 0 → IfRefused result Same) → KeepsTables seen old new result
  keeps_tables was is May (Ok r) call above same clean = tt
  keeps_tables was is May (Err StoreFailed) call above same clean = tt
  keeps_tables was is May (Err Memory) call above same clean = (
    same clean,
    λ again. same_stays seen old new was is call (omega (arith, above, clean)) clean (same clean),
  )
  keeps_tables was is May (Err Unusable) call above same clean =
      (same clean, λ again t l. subst (λ k. (seen k).may_leave t) call.1 l)
  keeps_tables was is May (Err NotMine) call above same clean = (
    same clean,
    λ again. same_stays seen old new was is call.0 (omega (arith, above, clean)) clean (same clean),
  )
  keeps_tables was is May (Err (Business _)) call above same clean = (
    same clean,
    λ again. same_stays seen old new was is call.0 (omega (arith, above, clean)) clean (same clean),
  )
  keeps_tables was is May (Err TooEarly) call above same clean = (
    same clean,
    λ again. same_stays seen old new was is call.0 (omega (arith, above, clean)) clean (same clean),
  )
  keeps_tables was is May (Err NumberLimit) call above same clean = (
    same clean,
    λ again. same_stays seen old new was is call.0 (omega (arith, above, clean)) clean (same clean),
  )
  keeps_tables was is May (Err NotSent) call above same clean = (
    same clean,
    λ again. same_stays seen old new was is call.0 (omega (arith, above, clean)) clean (same clean),
  )
