-- The rows of a table, what a write makes of them, and what a read shows.
use Rattle.std.specs.Prelude.{◌≡◌, ◌≢◌, ◌⊎◌, IsTrue, ℕ, ℤ, pos, Bool, true, false, not, ◌&&◌, ◌||◌, [], ◌∷◌, ◌++◌}
use Rattle.std.specs.Prelude.{List, map, filter, flat_map, Option, IsPermutation, IsSorted}
use Rattle.std.specs.List.{AllByRecursion, list_all}
use Rattle.std.specs.Ordering.{is_eq, is_le, is_ge, is_gt}
use Rattle.std.specs.declared.cmp.Ordering.{Ordering}
use Rattle.sqlite.specs.declared.types.Value.{Value}
use Rattle.sqlite.specs.declared.types.Value.TheVariants.{Int, Text}
use Rattle.sqlite_value.specs.declared.keys.Collation.TheVariants.{Binary}
use Rattle.sqlite_value.specs.declared.keys.Key.{Key as Direction}
use Rattle.sqlite_value.specs.Order.{Row, column, value_cmp}
use Rattle.sqlite_sql.specs.declared.ops.BinaryOp.TheVariants.{Arith, Coalesce, Compare}
use Rattle.sqlite_sql.specs.declared.ops.ArithOp.TheVariants.{Add}
use Rattle.sqlite_sql.specs.declared.ops.CompareOp.TheVariants.{Eq}
use Rattle.sqlite_sql.specs.Ops.{binary, is_null, is_true}
use Rattle.sqlite_sql.specs.Query.{key_cmp, limited, or_nulls}
use Rattle.sqlite_trees.specs.Tree.{rowid, IsTable}
use Rattle.sqlite_trees.specs.View.{is_int}
use Rattle.sqlite_rules.specs.Edit.{next_rowid}
use Rattle.sqlite_rules.specs.Lists.{Has}
use Rattle.sqlite.specs.Effect.{IsDatabase}
use Rattle.sqlite.specs.State.{State, Shows}

-- ---- keys, and the cells of rows

-- these columns have these values; a row's column 0 is its rowid
abbrev pub Key : Type 0
Key = List (ℕ × Value)

abbrev pub has_key : Key → Row → Bool
has_key key r = list_all (λ (c : ℕ × Value). is_eq (value_cmp (column r c.0) c.1)) key

abbrev pub text_key : List ℕ → Key
text_key k = (1, Text k) ∷ []

abbrev pub pair_key : List ℕ → List ℕ → Key
pair_key s r = (1, Text s) ∷ (2, Text r) ∷ []

abbrev pub place_key : List ℕ → List ℕ → ℤ → Key
place_key s r n = (1, Text s) ∷ (2, Text r) ∷ (3, Int n) ∷ []

-- the columns of a row behind its rowid
abbrev pub Cells : Type 0
Cells = List Value

abbrev pub pair_cells : List ℕ → List ℕ → Cells
pair_cells s r = Text s ∷ Text r ∷ []

abbrev pub place_cells : List ℕ → List ℕ → ℤ → Cells
place_cells s r n = Text s ∷ Text r ∷ Int n ∷ []

abbrev pub letter_cells : List ℕ → List ℕ → ℤ → List ℕ → Cells
letter_cells s r n b = Text s ∷ Text r ∷ Int n ∷ Text b ∷ []

abbrev pub marks_cells : List ℕ → List ℕ → ℤ → ℤ → Cells
marks_cells s r sent settled = Text s ∷ Text r ∷ Int sent ∷ Int settled ∷ []

-- the row is one of the pair, up to that number
abbrev pub is_upto : List ℕ → List ℕ → ℤ → Row → Bool
is_upto s r n x = has_key (pair_key s r) x && (not (is_null (column x 3)) && is_le (value_cmp (column x 3) (Int n)))

-- ---- what a write makes of the rows

-- the rowids are integers that rise
pub record IsRising (rows : List Row) : Type 0 where
  pub numbered : AllByRecursion (λ r. IsTrue (is_int (rowid r))) rows
  pub ordered : IsTable rows

-- the rows that pass are gone, and no other
pub record IsCut (p : Row → Bool) (rows after : List Row) : Type 0 where
  pub each : (x : Row) → Has after x → Has rows x × (p x ≡ false)
  pub kept : (x : Row) → Has rows x → p x ≡ false → Has after x

-- this row stands in place of those that pass
pub record IsSet (p : Row → Bool) (new : Row) (rows after : List Row) : Type 0 where
  pub passes : p new ≡ true
  pub each : (x : Row) → Has after x → (x ≡ new) ⊎ (Has rows x × (p x ≡ false))
  pub here : Has after new
  pub kept : (x : Row) → Has rows x → p x ≡ false → Has after x

-- a row of these cells, under some rowid, stands in place of those of the key
abbrev pub Puts : Key → Cells → List Row → List Row → Type 0
Puts key cells rows after = (id : ℤ) × IsSet (has_key key) (Int id ∷ cells) rows after

-- a row of these cells stands behind the others, under the next rowid
abbrev pub Adds : Cells → List Row → List Row → Type 0
Adds cells rows after = after ≡ rows ++ (Int (next_rowid rows) ∷ cells) ∷ []

-- one table is changed, and no other, and the database is sound again
pub record Edits (tree : ℕ) (Becomes : List Row → List Row → Type 0) (old new : State) : Type 0 where
  pub rows : Becomes (old.now.trees tree) (new.now.trees tree)
  pub rising : IsRising (new.now.trees tree)
  pub others : AllByRecursion (λ t. t.tree ≢ tree → new.now.trees t.tree ≡ old.now.trees t.tree) old.now.schema.tables
  pub same_schema : new.now.schema ≡ old.now.schema
  pub sound : IsDatabase new.now
  pub shown : Shows old new new.now old.committed true

-- ---- what a read shows

-- a read leaves all as it was, where the connection is still open
pub record Stays (old new : State) : Type 0 where
  pub was_open : IsTrue new.is_open → IsTrue old.is_open
  pub now_is : IsTrue new.is_open → new.now ≡ old.now
  pub committed_is : IsTrue new.is_open → new.committed ≡ old.committed

-- the first of these, in order, and what is shown of each; all of them where there is no limit
pub record AreInOrder {X : Type 0} (cmp : X → X → Ordering) (limit : Option ℕ) (show : X → Row) (xs : List X)
    (items : List Row) : Type 0 where
  pub all : List X
  pub same : IsPermutation xs all
  pub sorted : IsSorted cmp all
  pub shown : items ≡ map show (limited limit all)

abbrev pub up : Direction
up = record { collation = Binary; descending = false }

abbrev pub down : Direction
down = record { collation = Binary; descending = true }

-- by the first columns of the row
abbrev pub by_text : Row → Row → Ordering
by_text = key_cmp 1 (up ∷ [])

abbrev pub by_pair : Row → Row → Ordering
by_pair = key_cmp 1 (up ∷ up ∷ [])

abbrev pub by_place : Row → Row → Ordering
by_place = key_cmp 1 (up ∷ up ∷ up ∷ [])

-- by the rowid
abbrev pub by_position : Row → Row → Ordering
by_position = key_cmp 0 (up ∷ [])

abbrev pub by_position_down : Row → Row → Ordering
by_position_down = key_cmp 0 (down ∷ [])

-- a letter's columns
abbrev pub shown_letter : Row → Row
shown_letter r = column r 1 ∷ column r 2 ∷ column r 3 ∷ column r 4 ∷ []

-- the row stands behind that place
abbrev pub is_after : List ℕ → List ℕ → ℤ → Row → Bool
is_after s r n x = is_ge (value_cmp (column x 1) (Text s))
    && (is_gt (value_cmp (column x 1) (Text s)) || is_gt (value_cmp (column x 2) (Text r)) || is_eq
    (value_cmp (column x 2) (Text r)) && is_gt (value_cmp (column x 3) (Int n)))

-- a row of the journal, without its unused cell
abbrev pub shown_entry : Row → Row
shown_entry r = column r 0 ∷ column r 2 ∷ column r 3 ∷ column r 4 ∷ column r 5 ∷ column r 6 ∷ []

-- the row has that position or a later one
abbrev pub is_from : ℤ → Row → Bool
is_from n x = is_ge (value_cmp (column x 0) (Int n))

-- the row's position is between these two
abbrev pub is_within : ℤ → ℤ → Row → Bool
is_within first last x = is_from first x && (not (is_null (column x 0)) && is_le (value_cmp (column x 0) (Int last)))

-- ---- held letters that are next

abbrev pub sql_eq : Value → Value → Bool
sql_eq a b = is_true (binary (Compare Eq Binary) a b)

-- a mark of the pair of a held letter, as SQL tests it
abbrev pub is_mark_of : Row → Row → Bool
is_mark_of h m = sql_eq (column h 1) (column m 1) && (sql_eq (column h 2) (column m 2) && true)

-- its number is one more than the mark, which is 0 where there is none, as SQL tests it
abbrev pub is_next : Row → Row → Bool
is_next h m = sql_eq (column h 3) (binary (Arith Add) (binary Coalesce (column m 3) (Int (pos 0))) (Int (pos 1)))

-- each held letter that is next, with its mark or no column
abbrev pub next_held : List Row → List Row → List (Row × Row)
next_held helds marks = flat_map (λ h. map (λ m. (h, m)) (filter (is_next h) (or_nulls (filter (is_mark_of h) marks))))
    helds
