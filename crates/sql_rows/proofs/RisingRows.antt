-- The rows of each table of a store stand in order.
use Rattle.std.proofs.Common.{◌≡◌, ◌+◌, inl, inr, ℕ, pos, List, [], ◌∷◌, filter, Bool, true}
use Rattle.std.proofs.Common.{false, true≢false, Result, Ok, Err, IfOk, IsTrue, arith, refl, sym, ap, subst, ◌∙◌}
use Rattle.std.specs.List.{AllByRecursion, AllZip}
use Rattle.std.specs.Ordering.{is_eq}
use Rattle.std.specs.Cmp.{tied_itself}
use Rattle.sqlite.specs.declared.types.Value.TheVariants.{Int}
use Rattle.sqlite.specs.Effect.{IsDatabase}
use Rattle.sqlite_catalog.specs.Listing.{IsTableRow, is_table_row}
use Rattle.sqlite_rules.specs.Lists.{Has}
use Rattle.sqlite_rules.proofs.ListLemmas.{has_filtered}
use Rattle.sqlite_rules.proofs.PlaceLemmas.{row_at_is}
use Rattle.sqlite_schema.specs.declared.schema.Schema.{Schema}
use Rattle.sqlite_schema.specs.declared.schema.Table.{Table as SqlTable}
use Rattle.sqlite_trees.specs.Objects.{IsListed, catalog_tree, number_in, row_for, shape_code}
use Rattle.sqlite_trees.specs.Tree.{Trees, has_rowid}
use Rattle.sqlite_trees.specs.View.{IsOrdered, IsShaped}
use Rattle.sqlite_trees.specs.declared.store.Shape.{Shape}
use Rattle.sqlite_trees.specs.declared.store.Shape.TheVariants.{Absent, Table, Index, Pageless, FrozenTable}
use Rattle.sqlite_trees.specs.declared.store.Shape.TheVariants.{FrozenIndex}
use Rattle.sqlite_value.specs.Order.{Row, column, value_cmp}
use Rattle.sqlite_value.proofs.OrderLemmas.{value_cmp_total}
use Rattle.sql_rows.specs.Tables.{IsRising}

is_table : (s : Shape) → shape_code s ≡ 1 → s ≡ Table
is_table Absent e = absurd (omega arith)
is_table Table e = refl
is_table (Index o) e = absurd (omega arith)
is_table Pageless e = absurd (omega arith)
is_table FrozenTable e = absurd (omega arith)
is_table (FrozenIndex o) e = absurd (omega arith)

module _ (trees : Trees) (shape : ℕ → Shape) (reals : ℕ → ℕ) (ordered : IsOrdered shape trees)
    (listed : IsListed (trees catalog_tree) shape reals) where
  abbrev objects : List Row
  objects = trees catalog_tree

  in_order : IsShaped Table objects
  in_order = subst (λ s. IsShaped s objects) listed.itself.0 (ordered catalog_tree)

  one_rising : (x : Row) (t : SqlTable) → Has objects x → IsTableRow x t → IsRising (trees t.tree)
  one_rising x t h it =
      let d = it.described in
      let own : has_rowid (pos (t.tree + 1)) x ≡ true = ap (λ v. is_eq (value_cmp v (Int (pos (t.tree + 1))))) d.id
      ∙ ap is_eq (tied_itself value_cmp_total (Int (pos (t.tree + 1)))) in
      let found : row_for objects t.tree ≡ x = row_at_is objects (pos (t.tree + 1)) x in_order.0 h own in
      let low = d.low in
      let code : shape_code (shape t.tree) ≡ 1 = listed.shapes t.tree (λ e. omega (arith, e, low))
      (λ e. omega (arith, e, low)) ∙ ap (λ r. number_in (column r 5)) found ∙ d.shape_is in
      let rows = subst (λ s. IsShaped s (trees t.tree)) (is_table (shape t.tree) code) (ordered t.tree) in
      record { numbered = rows.1; ordered = rows.0 }

  all_rising : (rows : List Row) (tables : List SqlTable) → ((x : Row) → Has rows x → Has objects x)
      → AllZip IsTableRow rows tables → AllByRecursion (λ t. IsRising (trees t.tree)) tables
  all_rising [] [] within each = tt
  all_rising [] (t ∷ tables) within each = absurd each
  all_rising (x ∷ rows) [] within each = absurd each
  all_rising (x ∷ rows) (t ∷ tables) within each =
      (one_rising x t (within x (inl refl)) each.0, all_rising rows tables (λ y h. within y (inr h)) each.1)

  pub are_rising : (schema : Schema) → IsDatabase (record { schema = schema; trees = trees })
      → AllByRecursion (λ t. IsRising (trees t.tree)) schema.tables
  are_rising schema sound = all_rising (filter is_table_row objects) schema.tables
      (λ x h. (has_filtered is_table_row objects x h).0) sound.lists.listed.tables

-- ---- of what a call gave

-- three facts of a good result give a fourth
pub if_ok_thrice : {A E : Type 0} {P Q R W : A → Type 0} (r : Result A E) → IfOk r P → IfOk r Q → IfOk r R
    → ((a : A) → P a → Q a → R a → W a) → IfOk r W
if_ok_thrice (Ok a) p q r f = f a p q r
if_ok_thrice (Err e) p q r f = tt

-- a store that isn't broken is open
pub open_if_whole : (is_open is_broken : Bool) → (is_open ≡ false → IsTrue is_broken) → is_broken ≡ false
    → IsTrue is_open
open_if_whole true is_broken shut whole = refl
open_if_whole false is_broken shut whole = absurd (true≢false (sym (shut refl) ∙ whole))
