-- The rule of the marks, and what each step tells a seat.
use Rattle.std.specs.Prelude.{◌≡◌, ◌⊎◌, ℕ, ◌+◌, ◌-◌, ◌≤◌, List, [], ◌∷◌, ◌++◌, length, slice_index}
use Rattle.std.specs.List.{All, Contains}
use mathlib.Core.Option.{some}
use lib.ListN.{get_elem?}
use Rattle.atomic_table.specs.Table.{State, Me, Step}
use Rattle.marks.specs.declared.rule.Entry.{Entry}
use Rattle.marks.specs.declared.rule.View.{View}
use Rattle.marks.specs.Entries.{entry, greatest, WasRaised}

-- the view of a seat that has raised and read nothing, with so many parts
abbrev pub unused : ℕ → View
unused parts = record { parts = parts; raised = []; read = [] }

-- a view with one part less, one entry raised more, one entry read more
abbrev pub with_part_less : View → View
with_part_less v = record { parts = v.parts - 1; raised = v.raised; read = v.read }

abbrev pub with_raised : View → Entry → View
with_raised v e = record { parts = v.parts; raised = v.raised ++ e ∷ []; read = v.read }

abbrev pub with_read : View → Entry → View
with_read v e = record { parts = v.parts; raised = v.raised; read = v.read ++ e ∷ [] }

-- what two seats know, the second's first
abbrev pub joint : View → View → View
joint v w = record { parts = v.parts + w.parts; raised = w.raised ++ v.raised; read = w.read ++ v.read }

-- the sum over all views
abbrev pub total : (View → ℕ) → List View → ℕ
total f [] = 0
total f (v ∷ vs) = f v + total f vs

-- no mark is below what the seat raised or read there; a seat with no part has done neither
pub record IsTold (words : List ℕ) (v : View) : Type 0 where
  pub raised : (place : ℕ) → greatest place v.raised ≤ slice_index words place
  pub read : (place : ℕ) → greatest place v.read ≤ slice_index words place
  pub idle : v.parts ≡ 0 → v ≡ unused 0

-- the number is 0, or some seat raised it there
abbrev pub WasRaisedBySome : List View → Entry → Type 0
WasRaisedBySome views e =
    (e.number ≡ 0) ⊎ ((id : ℕ) × (v : View) × (get_elem? views id ≡ some v) × Contains v.raised e)

-- The rule, which holds between any two steps: the seats' parts are those that were given, each mark is 0 or was raised, and
-- each seat knows no more than is so
pub record IsKept (seats places : ℕ) (s : State Unit View) : Type 0 where
  pub parts : total (λ v. v.parts) s.views ≡ seats
  pub count : length s.words ≡ places
  pub told : (id : ℕ) (v : View) → get_elem? s.views id ≡ some v → IsTold s.words v
  pub marks : (place : ℕ) → WasRaisedBySome s.views (entry place (slice_index s.words place))
  pub read : (id : ℕ) (v : View) → get_elem? s.views id ≡ some v → All (WasRaisedBySome s.views) v.read

-- ---- what a step tells

-- the seat has raised one number more
abbrev pub Raises : Step Unit → Me Unit View → ℕ → Me Unit View → Type 0
Raises s m n w = w ≡ (with_raised m.0 (entry s.word s.first), m.1)

-- the number is no less than all that the seat raised or read there, and it has read that number more
abbrev pub Reads : Step Unit → Me Unit View → ℕ → Me Unit View → Type 0
Reads s m n w =
    (greatest s.word m.0.raised ≤ n) × (greatest s.word m.0.read ≤ n) × (w ≡ (with_read m.0 (entry s.word n), m.1))

-- the mark is the greatest number raised there and no less than all that was read there, and what was read was raised
abbrev pub IsSettled : (place mark : ℕ) → View → Type 0
IsSettled place mark v =
    (mark ≡ greatest place v.raised) × (greatest place v.read ≤ mark) × All (WasRaised v.raised) v.read

-- the number is what the mark came to, and the seat knows it already
abbrev pub Settles : Step Unit → Me Unit View → ℕ → Me Unit View → Type 0
Settles s m n w = IsSettled s.word n m.0 × (w ≡ m)
