-- What a write of one table leaves of the others.
use Rattle.std.proofs.Common.{◌≡◌, ◌≢◌, ◌≤◌, ◌<◌, ℕ, List, [], ◌∷◌, refl, sym, subst, arith, inl, inr}
use Rattle.std.proofs.Common.{◌==◌, true}
use Rattle.std.specs.Prelude.{nat_le}
use Rattle.std.specs.List.{AllByRecursion}
use Rattle.std.proofs.lemmas.Bool.{cases_Bool}
use Rattle.std.proofs.lemmas.Bool.Decides.{nat_tests}
use Rattle.sqlite_trees.specs.Tree.{Trees}
use Rattle.sqlite_schema.specs.declared.schema.Schema.{Schema}
use Rattle.sqlite_schema.specs.declared.schema.Table.{Table}
use Rattle.sql_rows.specs.Schema.{IsService, schema_of, journal, outbox, out_marks, in_marks, held}
use Rattle.sql_rows.specs.declared.service.Service.{Service}
use Rattle.sql_rows.specs.declared.service.Service.TheVariants.{Purchasing, Warehouse, Billing}
use Rattle.sql_rows.specs.Tables.{IsRising}
use Rattle.keep_sqlite.specs.Filing.{own_tables, KeepsOwn}
use Rattle.keep_sqlite.specs.Ready.{AreRising}

-- the five tables that all services have, and then their own
abbrev pub common_tables : Schema → List Table
common_tables schema = journal ∷ outbox ∷ out_marks ∷ in_marks ∷ held ∷ own_tables schema

pub common_first : (s : Schema) → IsService s → s.tables ≡ common_tables s
common_first s is = subst (λ x. x.tables ≡ common_tables x) (sym is.is) (go is.service)
  where
    go : (service : Service) → (schema_of service).tables ≡ common_tables (schema_of service)
    go Purchasing = refl
    go Warehouse = refl
    go Billing = refl

-- the table is as it was, unless it is the one of that tree
abbrev pub IsLeft : ℕ → Trees → Trees → Table → Type 0
IsLeft tree old new t = t.tree ≢ tree → new t.tree ≡ old t.tree

pub rising_after : (tree : ℕ) (old new : Trees) → IsRising (new tree) → (ts : List Table)
    → AllByRecursion (IsLeft tree old new) ts → AllByRecursion (λ (t : Table). IsRising (old t.tree)) ts
    → AllByRecursion (λ (t : Table). IsRising (new t.tree)) ts
rising_after tree old new here [] left up = tt
rising_after tree old new here (t ∷ ts) left up = (
  elim (cases_Bool (t.tree == tree)) [
    | inl same ↦ subst (λ n. IsRising (new n)) (let e = same in grind (arith, nat_tests)) here
    | inr other ↦ subst IsRising (sym (left.0 (λ e. let o = other in grind (arith, nat_tests)))) up.0
  ],
  rising_after tree old new here ts left.1 up.1,
)

own_left : (tree : ℕ) (old new : Trees) → tree < 9 → (ts : List Table)
    → AllByRecursion (λ (t : Table). nat_le 9 t.tree ≡ true) ts → AllByRecursion (IsLeft tree old new) ts
    → AllByRecursion (λ (t : Table). new t.tree ≡ old t.tree) ts
own_left tree old new low [] apart left = tt
own_left tree old new low (t ∷ ts) apart left = (
  left.0 (λ e. let a = apart.0 in let le : 9 ≤ t.tree = grind (arith, nat_tests) in
      omega (arith, e, le, low)),
  own_left tree old new low ts apart.1 left.1,
)

-- what is left of the tables of a service by a write of one common table
pub record Frame (schema : Schema) (tree : ℕ) (old new : Trees) : Type 0 where
  pub journal : 0 ≢ tree → new 0 ≡ old 0
  pub outbox : 1 ≢ tree → new 1 ≡ old 1
  pub out_marks : 3 ≢ tree → new 3 ≡ old 3
  pub in_marks : 5 ≢ tree → new 5 ≡ old 5
  pub held : 7 ≢ tree → new 7 ≡ old 7
  pub own : KeepsOwn schema old new

pub frame : (schema : Schema) → IsService schema
    → AllByRecursion (λ (t : Table). nat_le 9 t.tree ≡ true) (own_tables schema)
    → (tree : ℕ) (old new : Trees) → tree < 9 → AllByRecursion (IsLeft tree old new) schema.tables
    → Frame schema tree old new
frame schema is apart tree old new low left =
    let each = subst (AllByRecursion (IsLeft tree old new)) (common_first schema is) left in
    record {
      journal = each.0;
      outbox = each.1.0;
      out_marks = each.1.1.0;
      in_marks = each.1.1.1.0;
      held = each.1.1.1.1.0;
      own = own_left tree old new low (own_tables schema) apart each.1.1.1.1.1;
    }

-- the journal's rows are in order of their positions
pub journal_rises : (schema : Schema) → IsService schema → (db : Trees) → AreRising schema db → IsRising (db 0)
journal_rises schema is db rising =
    (subst (AllByRecursion (λ (t : Table). IsRising (db t.tree))) (common_first schema is) rising).0

pub outbox_rises : (schema : Schema) → IsService schema → (db : Trees) → AreRising schema db → IsRising (db 1)
outbox_rises schema is db rising =
    (subst (AllByRecursion (λ (t : Table). IsRising (db t.tree))) (common_first schema is) rising).1.0
