-- What the parts of a call on letters do.
use Rattle.std.specs.Prelude.{◌≡◌, ℕ, ◌<◌, ◌≤◌, ◌+◌, Option, Some, None, Result}
use Rattle.envelope.specs.declared.message.Letter.{Letter}
use Rattle.activities.specs.Service.{Service}
use Rattle.keep.specs.Law.{IsCall, Tells}
use Rattle.keep.specs.Seen.{Seen}
use Rattle.keep.specs.Tables.{Tables}
use Rattle.endpoint.specs.declared.fault.EndFault.{EndFault}
use Rattle.endpoint.specs.Arrivals.{IsDone}
use Rattle.endpoint.specs.Calls.{IfRefused}
use Rattle.endpoint.specs.Deeds.{Kept, Deed}
use Rattle.endpoint.specs.Faults.{end_of}
use Rattle.endpoint.specs.Matches.{AllMatchWithin}

-- a part that is called where `Premise` holds of the tables does a deed that its answer allows, and the tables match
-- their journal again; that a refusal leaves the tables needs neither
abbrev pub Works : {E S C R : Type 0} → (E → Seen (Tables S C)) → E → E → ℕ → Service S C → (EndFault → Type 0)
    → (Tables S C → Type 0)
    → (Result R EndFault → Kept C → Deed C → Type 0) → Result R EndFault → Type 0
Works seen old new ahead service Reason Premise may result =
    Tells seen old new (IsCall seen old new Reason (end_of result))
    (IfRefused result ((seen new).tables ≡ (seen old).tables)
    × (AllMatchWithin ahead service (seen old).may_leave → Premise (seen old).tables
    → IsDone ahead service may (seen old).tables (seen new).tables (seen new).may_leave result
    × AllMatchWithin ahead service
    (seen new).may_leave))

-- a letter is the next of its pair
abbrev pub IsNext : {S C : Type 0} → Letter → Tables S C → Type 0
IsNext l t = l.number ≡ t.handled l.pair + 1

-- a letter came too early, and is near enough to be held
abbrev pub IsEarly : {S C : Type 0} → ℕ → Letter → Tables S C → Type 0
IsEarly ahead l t = (t.handled l.pair + 1 < l.number) × (l.number ≤ t.handled l.pair + ahead)

-- a letter is held
abbrev pub Waits : {S C : Type 0} → Letter → Tables S C → Type 0
Waits l t = t.held l.pair l.number ≡ Some l.message

-- none of its number is held
abbrev pub IsMissing : {S C : Type 0} → Letter → Tables S C → Type 0
IsMissing l t = t.held l.pair l.number ≡ None
