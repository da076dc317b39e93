-- What becomes of the journal's rows, one by one, where version 1's commands are written as those of today.
use Rattle.std.specs.Prelude.{◌≡◌, ◌≢◌, ℕ, ◌+◌, ◌≤◌, ◌<◌, pos, List, [], ◌∷◌, Option, Some, None}
use Rattle.sqlite.specs.declared.types.Value.{Value}
use Rattle.sqlite.specs.declared.types.Value.TheVariants.{Int, Text}
use Rattle.sqlite_trees.specs.Tree.{rowid}
use Rattle.sqlite_value.specs.Order.{Row, column}
use Rattle.activities.specs.declared.input.Input.{Input}
use Rattle.sql_bodies.specs.FirstVersion.{read_first_order_command}
use Rattle.sql_bodies.specs.Reading.{read_order_command}
use Rattle.trade.specs.declared.commands.OrderCommand.{OrderCommand}
use Rattle.keep_sqlite.specs.Migration.{first_orders, first_row_in}
use Rattle.keep_sqlite.specs.Orders.{orders}
use Rattle.keep_sqlite.specs.Tables.{input_of, row_in}

-- the input of a row as `read_journal_inside` shows it, with this body, by what is read of bodies
abbrev pub shown_input : (List ℕ → Option OrderCommand) → Row → Value → Input OrderCommand
shown_input read x body = input_of read (column x 2) (column x 3) (column x 4) body

-- with this body a shown row is read today as version 1 read it with its own; with none, as it stands
abbrev pub IsBodyOfToday : Row → Option (List ℕ) → Type 0
IsBodyOfToday x None =
    shown_input read_order_command x (column x 5) ≡ shown_input read_first_order_command x (column x 5)
IsBodyOfToday x (Some body) =
    shown_input read_order_command x (Text body) ≡ shown_input read_first_order_command x (column x 5)

-- the same of an answer's one row
abbrev pub IsBodyOfOne : List Row → Option (List ℕ) → Type 0
IsBodyOfOne [] body = ⊥
IsBodyOfOne (x ∷ []) body = IsBodyOfToday x body
IsBodyOfOne (_ ∷ _ ∷ _) body = ⊥

-- the second row stands where the first stood; at this position it is read today as the first was in version 1, and at
-- any other it is the first
pub record IsRenewedAt (position : ℕ) (before after : Row) : Type 0 where
  pub place : rowid after ≡ rowid before
  pub here : rowid before ≡ Int (pos position) → row_in orders after ≡ first_row_in first_orders before
  pub elsewhere : rowid before ≢ Int (pos position) → after ≡ before

-- as above, for the first positions, so many of them
pub record IsRenewedUpto (count : ℕ) (before after : Row) : Type 0 where
  pub place : rowid after ≡ rowid before
  pub done : (k : ℕ) → k < count → rowid before ≡ Int (pos (k + 1))
      → row_in orders after ≡ first_row_in first_orders before
  pub rest : (k : ℕ) → count ≤ k → rowid before ≡ Int (pos (k + 1)) → after ≡ before
