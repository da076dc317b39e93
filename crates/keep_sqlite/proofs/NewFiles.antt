-- A file that was just made.
use Rattle.std.proofs.Common.{◌≡◌, pos, List, [], ◌∷◌, ◌++◌, map, length, false, Result, Ok, Err, OnOk}
use Rattle.std.proofs.Common.{refl, sym, ap, subst, ◌∙◌, arith, ◌⊎◌, inl, inr, true}
use Rattle.std.specs.List.{AllByRecursion}
use Rattle.sqlite.specs.declared.types.Value.TheVariants.{Null, Int, Text}
use Rattle.sqlite_value.specs.Order.{Row}
use Rattle.sqlite_trees.specs.Tree.{Trees}
use Rattle.sqlite_schema.specs.declared.schema.Table.{Table}
use Rattle.sqlite.specs.Effect.{Database}
use Rattle.sqlite.specs.State.{State, HasCleanDisk, Shows, Survives}
use Rattle.keep.specs.Tables.{empty}
use Rattle.sql_rows.specs.declared.service.Service.{Service}
use Rattle.sql_rows.specs.declared.service.Service.TheVariants.{Purchasing, Warehouse, Billing}
use Rattle.sql_rows.specs.Schema.{schema_of, common_tables, own_tables, about_tree, name_of, IsNew, Founds}
use Rattle.sql_rows.specs.Tables.{IsRising}
use Rattle.keep_sqlite.specs.Filing.{Filing}
use Rattle.keep_sqlite.specs.Tables.{tables_of, marks_in, messages_in, row_in}
use Rattle.keep_sqlite.specs.Ready.{AreNumbered, IsFiled, IsReady}

pub no_rows : (rows : List Row) → rows ≡ [] → IsRising rows
no_rows rows is = subst IsRising (sym is) (record { numbered = tt; ordered = tt })

pub one_row : (rows : List Row) (more : Row) → rows ≡ (Int (pos 1) ∷ more) ∷ [] → IsRising rows
one_row rows more is = subst IsRising (sym is) (record { numbered = (refl, tt); ordered = (tt, tt) })

all_rise : (service : Service) (db : Trees)
    → AllByRecursion (λ (t : Table). db t.tree ≡ []) (common_tables ++ own_tables service)
    → db (about_tree service) ≡ (Int (pos 1) ∷ Null ∷ Int (pos 2) ∷ Text (name_of service) ∷ []) ∷ []
    → AllByRecursion (λ (t : Table). IsRising (db t.tree)) (schema_of service).tables
all_rise Purchasing db none one = (
  no_rows _ none.0,
  (
    no_rows _ none.1.0,
    (
      no_rows _ none.1.1.0,
      (
        no_rows _ none.1.1.1.0,
        (no_rows _ none.1.1.1.1.0, (no_rows _ none.1.1.1.1.1.0, (no_rows _ none.1.1.1.1.1.1.0, (one_row _ _ one, tt)))),
      ),
    ),
  ),
)
all_rise Warehouse db none one = (
  no_rows _ none.0,
  (
    no_rows _ none.1.0,
    (
      no_rows _ none.1.1.0,
      (
        no_rows _ none.1.1.1.0,
        (no_rows _ none.1.1.1.1.0, (no_rows _ none.1.1.1.1.1.0, (no_rows _ none.1.1.1.1.1.1.0, (one_row _ _ one, tt)))),
      ),
    ),
  ),
)
all_rise Billing db none one = (
  no_rows _ none.0,
  (
    no_rows _ none.1.0,
    (
      no_rows _ none.1.1.0,
      (
        no_rows _ none.1.1.1.0,
        (no_rows _ none.1.1.1.1.0, (no_rows _ none.1.1.1.1.1.0, (no_rows _ none.1.1.1.1.1.1.0, (one_row _ _ one, tt)))),
      ),
    ),
  ),
)

module _ {S C : Type 0} (f : Filing S C) (db : Database) (new : IsNew f.is_service.service db) where
  new_filed : IsFiled f.schema 0 db
  new_filed = record {
    is = new.schema ∙ sym f.is_service.is;
    rising = subst (λ s. AllByRecursion (λ (t : Table). IsRising (db.trees t.tree)) s.tables) (sym f.is_service.is)
        (all_rise f.is_service.service db.trees new.empty new.about);
    counted = sym (ap length new.empty.0);
    numbered = subst (AreNumbered 1) (sym new.empty.0) tt;
  }

  new_tables : tables_of f db.trees ≡ empty
  new_tables = λ i. record {
    journal = map (row_in f) (new.empty.0 i);
    entity = λ e. f.nothing db.trees new.empty.1.1.1.1.1 e i;
    unsettled = messages_in (new.empty.1.0 i);
    sent = marks_in 3 (new.empty.1.1.0 i);
    settled = marks_in 4 (new.empty.1.1.0 i);
    handled = marks_in 3 (new.empty.1.1.1.0 i);
    held = messages_in (new.empty.1.1.1.1.0 i);
  }

module _ {S C X E : Type 0} (f : Filing S C) (service : Service) (is : service
    ≡ f.is_service.service) (begun staged new : State) where
  pub founded : (r : Result X E) → Founds service begun staged → OnOk r (Shows staged new staged.now staged.now false)
      → OnOk r (IsReady f.schema 0 new × (tables_of f new.now.trees ≡ empty))
  founded (Ok x) founds shown =
      let made = subst (λ s. IsNew s staged.now) is founds.is_new in (
        record {
          is_open = shown.is_open;
          settled = shown.now_is ∙ sym shown.committed_is;
          filed = subst (IsFiled f.schema 0) (sym shown.now_is) (new_filed f staged.now made);
        },
        ap (λ (d : Database). tables_of f d.trees) shown.now_is ∙ new_tables f staged.now made,
      )
  founded (Err e) founds shown = tt

-- the second of four facts of a good result
pub shown_of : {X E : Type 0} (A B D F : Type 0) (r : Result X E) → OnOk r (A × B × D × F) → OnOk r B
shown_of A B D F (Ok x) h = h.1
shown_of A B D F (Err e) h = tt

module _ {S C : Type 0} (f : Filing S C) (service : Service) (is : service ≡ f.is_service.service)
    (begun staged new : State) where
  -- what a stop leaves behind the commit was there before, or is the new tables
  pub founded_may : (old : State) → begun ≡ record old { in_transaction = true }
      → (HasCleanDisk staged → Founds service begun staged) → Survives begun staged (λ _. ⊥)
      → Survives staged new (λ db. db ≡ staged.now.trees) → (db : Trees) → HasCleanDisk new → new.may_leave db
      → old.may_leave db ⊎ (tables_of f db ≡ empty)
  founded_may old begins founds first second db clean may =
      let sent : HasCleanDisk staged = let e = second.clean in omega (arith, e, clean) in
      elim (second.crash clean db may) [
        | inl kept ↦ elim (first.crash sent db kept) [
          | inl was ↦ inl (subst (λ (s : State). s.may_leave db) begins was)
          | inr none ↦ absurd none
        ]
        | inr same ↦ inr (ap (tables_of f) same
            ∙ new_tables f staged.now (subst (λ s. IsNew s staged.now) is (founds sent).is_new))
      ]
