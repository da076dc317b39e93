-- From what a connection leaves to what the store leaves. The lemmas stand here, since ghost fields name them.
use Rattle.std.specs.Prelude.{◌≡◌, ℕ, ◌+◌, IsTrue, List, [], ◌∷◌, Bool, Option, None}
use Rattle.std.proofs.Common.{refl, ap, sym, ◌∙◌}
use Rattle.std.proofs.Math.Logic.{∥∥₁_map}
use base.Stored.{Coded, Coded-set}
use native.Mathlib.Nat.{ℕ_set}
use mathlib.Core.Bool.{Bool-set}
use mathlib.Core.HLevel.{Π_prop}
use Rattle.sqlite_trees.specs.Tree.{Trees}
use Rattle.sqlite_trees.specs.View.{doubt}
use Rattle.sqlite_trees.specs.Props.{Trees-set, Ordering-set, AllByRecursion-prop, IsAscending-prop}
use Rattle.sqlite.specs.declared.types.Value.{Value}
use Rattle.sqlite_value.specs.contracts.value.Value as value
use Rattle.sqlite_schema.specs.declared.schema.Schema.{Schema}
use Rattle.sqlite_schema.specs.declared.schema.Table.{Table}
use Rattle.sqlite_schema.specs.contracts.schema.Schema.{the_row}
use Rattle.sqlite_value.specs.Order.{Row}
use Rattle.sqlite.specs.Effect.{Database}
use Rattle.sqlite.specs.State.{State, HasCleanDisk}
use Rattle.keep.specs.Seen.{Seen, IsSound}
use Rattle.keep.specs.Tables.{Tables}
use Rattle.sql_rows.specs.Tables.{IsRising}
use Rattle.base.specs.Entity.{Entity}
use Rattle.last_states.specs.Known.{Knows, Knows-prop}
use Rattle.keep_sqlite.specs.Filing.{Filing}
use Rattle.keep_sqlite.specs.Tables.{tables_of}
use Rattle.keep_sqlite.specs.Ready.{AreNumbered, IsFiled, IsReady}

-- ---- what is known of a connection is a proposition

Value-set : IsSet Value
Value-set = Coded-set value.the_row.coded

Schema-set : IsSet Schema
Schema-set = Coded-set the_row.coded

Database-set : IsSet Database
Database-set a b p q = λ i j. record {
  schema = Schema-set a.schema b.schema (ap (λ (d : Database). d.schema) p) (ap (λ (d : Database). d.schema) q) i j;
  trees = Trees-set a.trees b.trees (ap (λ (d : Database). d.trees) p) (ap (λ (d : Database). d.trees) q) i j;
}

IsRising-prop : (rows : List Row) → IsProp (IsRising rows)
IsRising-prop rows a b = λ i. record {
  numbered = AllByRecursion-prop _ (λ r. Bool-set _ _) rows a.numbered b.numbered i;
  ordered = IsAscending-prop _ (λ x y. Ordering-set _ _) rows a.ordered b.ordered i;
}

AreNumbered-prop : (n : ℕ) (rows : List Row) → IsProp (AreNumbered n rows)
AreNumbered-prop n [] a b = λ i. tt
AreNumbered-prop n (r ∷ rows) a b = λ i. (Value-set _ _ a.0 b.0 i, AreNumbered-prop (n + 1) rows a.1 b.1 i)

module _ (schema : Schema) (count : ℕ) where
  IsFiled-prop : (db : Database) → IsProp (IsFiled schema count db)
  IsFiled-prop db a b = λ i. record {
    is = Schema-set _ _ a.is b.is i;
    rising = AllByRecursion-prop _ (λ (t : Table). IsRising-prop (db.trees t.tree)) schema.tables a.rising b.rising i;
    counted = ℕ_set _ _ a.counted b.counted i;
    numbered = AreNumbered-prop 1 (db.trees 0) a.numbered b.numbered i;
  }

  IsReady-prop : (s : State) → IsProp (IsReady schema count s)
  IsReady-prop s a b = λ i. record {
    is_open = Bool-set _ _ a.is_open b.is_open i;
    settled = Database-set _ _ a.settled b.settled i;
    filed = IsFiled-prop s.now a.filed b.filed i;
  }

  pub ready_prop : (s : State) → IsProp (HasCleanDisk s → IsTrue s.is_open → IsReady schema count s)
  ready_prop s = Π_prop (λ _. Π_prop (λ _. IsReady-prop s))

-- ---- what is known of states

-- it is a proposition, so that a ghost field may have it
pub kept_prop : {S : Type 0} → Coded S → (s : State) (known rows : Entity → Option S)
    → IsProp (HasCleanDisk s → IsTrue s.is_open → Knows known rows)
kept_prop coded s known rows = Π_prop (λ _. Π_prop (λ _. Knows-prop coded known rows))

-- ---- the law of a store

module _ {S C : Type 0} (filing : Filing S C) where
  -- a stop may leave rows that read as these tables
  pub record LeavesTables (may_leave : Trees → Type 0) (t : Tables S C) : Type 0 where
    pub db : Trees
    pub may : may_leave db
    pub reads : t ≡ tables_of filing db

  -- what callers see of a store with this connection
  abbrev pub seen_of : State → Bool → ℕ → Seen (Tables S C)
  seen_of s usable failures = record {
    tables = tables_of filing s.now.trees;
    may_leave = LeavesTables s.may_leave;
    failures = failures;
    usable = usable;
    doubt = doubt s.is_clean;
    armed = None;
  }

  only_now : (now committed : Database) (may_leave : Trees → Type 0) (t : Tables S C)
      → ((db : Trees) → may_leave db → db ≡ committed.trees) → now ≡ committed → LeavesTables may_leave t
      → t ≡ tables_of filing now.trees
  only_now now committed may_leave t settled same left =
      left.reads ∙ ap (tables_of filing) (settled left.db left.may ∙ sym (ap (λ (d : Database). d.trees) same))

  stays : (now committed : Database) (may_leave : Trees → Type 0) → may_leave committed.trees → now ≡ committed
      → LeavesTables may_leave (tables_of filing now.trees)
  stays now committed may_leave may same = record {
    db = committed.trees;
    may = may;
    reads = ap (λ (d : Database). tables_of filing d.trees) same;
  }

  leaves : (may_leave : Trees → Type 0) → ∥ ((db : Trees) × may_leave db) ∥₁
      → ∥ ((t : Tables S C) × LeavesTables may_leave t) ∥₁
  leaves may_leave some =
      ∥∥₁_map some (λ it. (tables_of filing it.0, record { db = it.0; may = it.1; reads = refl }))

  -- from what holds of its connection, and the laws of its store
  pub seen_sound : (s : State) (usable : Bool) (failures count : ℕ)
      → (HasCleanDisk s → IsTrue s.is_open → IsReady filing.schema count s)
      → (IsTrue usable → HasCleanDisk s → IsTrue s.is_open)
      → (IsTrue s.is_open → (db : Trees) → s.may_leave db → db ≡ s.committed.trees)
      → (IsTrue s.is_open → s.may_leave s.committed.trees)
      → (HasCleanDisk s → ∥ ((db : Trees) × s.may_leave db) ∥₁) → IsSound (seen_of s usable failures)
  seen_sound s usable failures count sound live settled stayed survives = record {
    only_now = λ clean used t left.
        only_now s.now s.committed s.may_leave t (settled (live used clean)) (sound clean (live used clean)).settled
        left;
    stays = λ clean used.
        stays s.now s.committed s.may_leave (stayed (live used clean)) (sound clean (live used clean)).settled;
    leaves = λ clean. leaves s.may_leave (survives clean);
  }
