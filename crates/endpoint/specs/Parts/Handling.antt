-- How a row is taken in.
use Rattle.std.specs.Prelude.{◌≡◌, ℕ, List, [], ◌∷◌, ◌++◌, IsSome, Result, ⊤}
use Rattle.base.specs.declared.entity.Kind.{Kind}
use Rattle.base.specs.declared.pair.Pair.{Pair}
use Rattle.activities.specs.declared.input.JournalRow.{JournalRow}
use Rattle.activities.specs.Follow.{HasNextNumber}
use Rattle.activities.specs.Journal.{handled_of, IsSeated}
use Rattle.activities.specs.Service.{Service}
use Rattle.keep.specs.declared.change.Change.{Change}
use Rattle.keep.specs.declared.change.Change.TheVariants.{State, Journal}
use Rattle.keep.specs.Law.{Tells}
use Rattle.keep.specs.Seen.{Seen}
use Rattle.keep.specs.Tables.{Tables, changed}
use Rattle.endpoint.specs.declared.answer.Committed.{Committed}
use Rattle.endpoint.specs.declared.fault.EndFault.{EndFault}
use Rattle.endpoint.specs.Calls.{IsCommitCall, IsCommit, IfRefused}
use Rattle.endpoint.specs.Matches.{MayBeHeld, AllMatchWithin}

-- none of these changes sets the row of an entity, or adds one to the journal
abbrev pub SetNoRow : {S C : Type 0} → List (Change S C) → Type 0
SetNoRow [] = ⊤
SetNoRow (State e row ∷ cs) = ⊥
SetNoRow (Journal position row ∷ cs) = ⊥
SetNoRow (c ∷ cs) = SetNoRow cs

-- The first changes of a row that is taken in touch handled marks and held letters alone. The marks are then those of
-- the journal with the row, and letters are held that may be then. A command is from a seat, and a letter is the next
-- of its pair.
pub record Prepares {S C : Type 0} (ahead : ℕ) (kind : Kind) (old : Tables S C) (row : JournalRow C)
    (first : List (Change S C)) : Type 0
  where
    pub seated : IsSeated row.input
    pub next : HasNextNumber old.journal row.entity row.input
    pub journal : (changed first old).journal ≡ old.journal
    pub entity : (changed first old).entity ≡ old.entity
    pub unsettled : (changed first old).unsettled ≡ old.unsettled
    pub sent : (changed first old).sent ≡ old.sent
    pub settled : (changed first old).settled ≡ old.settled
    pub handled : (p : Pair) → (changed first old).handled p ≡ handled_of (old.journal ++ row ∷ []) p
    pub held : (p : Pair) (n : ℕ) → IsSome ((changed first old).held p n)
        → MayBeHeld ahead kind (handled_of (old.journal ++ row ∷ []) p) p n

-- a row is taken in, where these changes go with it; that a refusal leaves the tables needs no tables that match
abbrev pub Handles : {E S C : Type 0} → (E → Seen (Tables S C)) → E → E → ℕ → Service S C → JournalRow C
    → List (Change S C)
    → Result Committed EndFault → Type 0
Handles seen old new ahead service row first result =
    Tells seen old new (IsCommitCall seen old new service.kind row result)
    (IfRefused result ((seen new).tables ≡ (seen old).tables)
    × (AllMatchWithin ahead service (seen old).may_leave → Prepares ahead service.kind (seen old).tables row first
    → IsCommit ahead service (seen old).tables row (changed first (seen old).tables).held (seen new).tables
    (seen new).may_leave result))
