-- What a service may write.
use Rattle.envelope.specs.declared.message.Envelope.{Envelope}
use Rattle.activities.specs.Service.{Service}
use Rattle.keep.specs.Tables.{Tables}
use Rattle.laws_stores.specs.Writing.{IsTrueIn}

-- what is true by the journal in each content that a stop may leave of a service's store
abbrev pub IsTrue : {S C : Type 0} → Service S C → (Tables S C → Type 0) → Envelope → Type 0
IsTrue {S} {C} service may_leave e = (u : Tables S C) → may_leave u → IsTrueIn service.reactions u.journal e
