-- What CREATE TABLE makes of the database.
use Rattle.std.proofs.Common.{◌≡◌, ℕ, List, [], ◌∷◌, ◌++◌, true, false, None, Ok, Err, Result, OnOk, arith, sym, ap, subst}
use Rattle.std.proofs.Common.{◌∙◌}
use Rattle.std.specs.List.{AllByRecursion}
use Rattle.sqlite.specs.Command.TheVariants.{CreateTable}
use Rattle.sqlite.specs.Change.{created, next_tree, KeepsRows}
use Rattle.sqlite.specs.Compile.{table_defined_by}
use Rattle.sqlite.specs.Does.{Tally, lacks_sequence}
use Rattle.sqlite.specs.Effect.{Database, IsDatabase}
use Rattle.sqlite.specs.Listing.{understood}
use Rattle.sqlite.specs.Schema.{Schema}
use Rattle.sqlite.specs.State.{State, ExecutesInside, Shows, Writes}
use Rattle.sqlite.specs.Table.{Table}
use Rattle.sqlite.specs.Tree.{Trees}
use Rattle.sqlite.specs.declared.error.Error.{Error}
use Rattle.sqlite.proofs.Callers.{IsPlain, command_of, statement_of, runs_as}
use Rattle.sqlite.proofs.StateLemmas.{survives_then}
use Rattle.sql_rows.specs.Schema.{schema_with, AreMade, Makes, IsUnderWay}
use Rattle.sql_rows.proofs.Steps.{went, same_value}

-- under that schema the text is one that makes the table
pub record Defines (schema : Schema) (sql : List ℕ) (table : Table) : Type 0 where
  pub is : command_of (understood schema sql) ≡ CreateTable
  pub whole : statement_of sql (understood schema sql) ≡ sql
  pub plain : IsPlain (understood schema sql)
  pub defined : table_defined_by sql ≡ Ok (record table { tree = 0 })

pub all_append : {X : Type 0} (P : X → Type 0) (xs ys : List X) → AllByRecursion P xs → AllByRecursion P ys
    → AllByRecursion P (xs ++ ys)
all_append P [] ys a b = b
all_append P (x ∷ xs) ys a b = (a.0, all_append P xs ys a.1 b)

pub front : {X : Type 0} (P : X → Type 0) (xs ys : List X) → AllByRecursion P (xs ++ ys) → AllByRecursion P xs
front P [] ys all = tt
front P (x ∷ xs) ys all = (all.0, front P xs ys all.1)

pub back : {X : Type 0} (P : X → Type 0) (xs ys : List X) → AllByRecursion P (xs ++ ys) → AllByRecursion P ys
back P [] ys all = all
back P (x ∷ xs) ys all = back P xs ys all.1

pub still_empty : (tables : List Table) (old new : Trees) → AllByRecursion (λ t. new t.tree ≡ old t.tree) tables
    → AllByRecursion (λ t. old t.tree ≡ []) tables → AllByRecursion (λ t. new t.tree ≡ []) tables
still_empty [] old new same none = tt
still_empty (t ∷ tables) old new same none = (same.0 ∙ none.0, still_empty tables old new same.1 none.1)

-- one table is made behind those that there are, which have the rows that they had
pub record IsMade (schema : Schema) (table : Table) (old new : State) : Type 0 where
  pub schema_is : new.now.schema ≡ created schema table
  pub empty : new.now.trees (next_tree schema) ≡ []
  pub others : KeepsRows schema.tables old.now.trees new.now.trees
  pub sound : IsDatabase new.now

pub makes_one : (schema : Schema) (table : Table) (sql : List ℕ) → Defines schema sql table
    → lacks_sequence (created schema table) ≡ false → (old new : State) (count : ℕ) → old.now.schema ≡ schema
    → ExecutesInside 0 sql [] old new (Ok count) → IsMade schema table old new
makes_one schema table sql says uncounted old new count has h =
    let ran = runs_as sql [] old new schema has CreateTable says.is says.plain count h.0 in
    let w = subst (λ t. Writes old new None CreateTable t [] count) says.whole ran in
    let all = went w.changed in
    let first = went all.1 in
    let made = first.1 in
    let both : Ok made.table ≡ Ok (record table { tree = 0 }) = sym made.defined ∙ says.defined in
    let same : made.table ≡ record table { tree = 0 } = same_value both in
    let becomes : first.0.schema ≡ created schema table = made.is ∙ ap (λ s. created s made.table) has
    ∙ ap (created schema) same in
    let plain : lacks_sequence first.0.schema ≡ false = ap lacks_sequence becomes ∙ uncounted in
    let now : new.now ≡ first.0 = ap (λ (p : Tally × Database). p.1) (same_value all.2)
    ∙ same_value (rw plain at first.2) in
    let kept = subst (λ (s : Schema). KeepsRows s.tables old.now.trees first.0.trees) has made.others in
    let none = subst (λ s. first.0.trees (next_tree s) ≡ []) has made.empty in
    record {
      schema_is = ap (λ (d : Database). d.schema) now ∙ becomes;
      empty = subst (λ (d : Database). d.trees (next_tree schema) ≡ []) (sym now) none;
      others = subst (λ (d : Database). KeepsRows schema.tables old.now.trees d.trees) (sym now) kept;
      sound = w.sound;
    }

-- a CREATE TABLE that succeeds adds its table after the others, without rows
pub creates : (tables : List Table) (table : Table) (sql : List ℕ) → Defines (schema_with tables) sql table
    → schema_with (tables ++ table ∷ []) ≡ created (schema_with tables) table
    → lacks_sequence (created (schema_with tables) table) ≡ false → (old new : State) (result : Result ℕ Error)
    → AreMade tables old.now → ExecutesInside 0 sql [] old new result
    → OnOk result (Makes (tables ++ table ∷ []) old new)
creates tables table sql says next uncounted old new (Err e) was h = tt
creates tables table sql says next uncounted old new (Ok count) was h =
    let schema = schema_with tables in
    let it = makes_one schema table sql says uncounted old new count was.schema h in
    let empty : AllByRecursion (λ t. new.now.trees t.tree ≡ []) (created schema table).tables =
    all_append (λ t. new.now.trees t.tree ≡ []) schema.tables (record table { tree = next_tree schema } ∷ [])
    (still_empty schema.tables old.now.trees new.now.trees it.others was.empty) (it.empty, tt) in
    record {
      made = record {
        schema = it.schema_is ∙ sym next;
        empty = subst (λ (s : Schema). AllByRecursion (λ t. new.now.trees t.tree ≡ []) s.tables) (sym next) empty;
      };
      sound = it.sound;
      shown = h.1;
    }

-- ---- one step behind the other

pub then_shows : {old mid new : State} → Shows old mid mid.now old.committed true
    → Shows mid new new.now mid.committed true → Shows old new new.now old.committed true
then_shows a b = record {
  was_open = a.was_open;
  is_open = b.is_open;
  now_is = b.now_is;
  committed_is = b.committed_is ∙ a.committed_is;
  mode = b.mode;
}

-- tables made after others are tables made
pub then_makes : {first second : List Table} {old mid new : State} → Makes first old mid → Makes second mid new
    → Makes second old new
then_makes a b = record { made = b.made; sound = b.sound; shown = then_shows a.shown b.shown }

-- two steps of one transaction are steps of it
pub then_goes_on : {old mid new : State} → IsUnderWay old mid → IsUnderWay mid new → IsUnderWay old new
then_goes_on {old} {mid} {new} a b = record {
  kept = λ clean.
      let late = b.kept clean in
      let early = a.kept (omega (arith, b.survives.clean)) in
      record {
        was_open = λ live. early.was_open (late.was_open live);
        committed = λ live. late.committed live
            ∙ early.committed (late.was_open live);
      };
  survives = survives_then old mid new _ _ (λ _. ⊥) (λ _ db none. none) (λ _ db none. none) a.survives b.survives;
}
