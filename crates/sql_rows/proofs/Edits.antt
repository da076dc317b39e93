-- What a write of one table makes of the database, whatever the table.
use Rattle.std.proofs.Common.{◌≡◌, ◌≢◌, inl, inr, ℕ, ℤ, pos, ◌+ℤ◌, ◌<ℤ◌, List, [], ◌∷◌, ◌++◌, ◌/◌, fold, slice_get}
use Rattle.std.proofs.Common.{length, Bool, true, false, Some, None, Ok, Err, Result, OnOk, refl, sym, ap, subst, ◌∙◌}
use Rattle.std.proofs.Common.{arith, Less, map, filter, drop, cond, IsPermutation}
use Rattle.std.proofs.lemmas.Int.{ints}
use Rattle.std.proofs.lemmas.Bool.Decides.{nat_tests}
use Rattle.std.specs.Ordering.{is_eq, int_cmp}
use Rattle.std.specs.List.{AllByRecursion, list_all}
use Rattle.sqlite.specs.declared.types.Value.TheVariants.{Null, Int}
use Rattle.sqlite.specs.declared.error.Error.{Error}
use Rattle.sqlite.specs.Order.{Row}
use Rattle.sqlite.specs.Source.TheVariants.{Values}
use Rattle.sqlite.specs.Command.TheVariants.{Insert, InsertOr, Update, Delete}
use Rattle.sqlite.specs.Cast.{cast_row}
use Rattle.sqlite.specs.Edit.{edit_of}
use Rattle.sqlite.specs.Rowids.TheVariants.{Chosen, Given}
use Rattle.sqlite.specs.Rows.{mended, stamped}
use Rattle.sqlite_schema.specs.declared.command.Conflict.TheVariants.{Replace}
use Rattle.sqlite_value.specs.Order.{value_cmp}
use Rattle.sqlite_value.proofs.OrderLemmas.{value_cmp-Int}
use Rattle.sqlite_value.specs.declared.keys.Collation.TheVariants.{Binary}
use Rattle.sqlite_trees.specs.Tree.{Trees, rowid, put_row, IsTable}
use Rattle.sqlite_trees.specs.View.{is_int}
use Rattle.sqlite_trees.proofs.TreeLemmas.{all-put_row, IsTable-put_row}
use Rattle.sqlite_sql.specs.Ops.{binary, is_true}
use Rattle.sqlite_sql.specs.declared.ops.BinaryOp.TheVariants.{Compare}
use Rattle.sqlite_sql.specs.declared.ops.CompareOp.TheVariants.{Eq}
use Rattle.sqlite_sql.specs.Term.{Term, eval_all, holds}
use Rattle.sqlite_sql.specs.Query.{IsAnswer, Query, output, output_cmp}
use Rattle.sqlite_sql.specs.Program.{overlay}
use Rattle.sqlite_rules.specs.Lists.{Has}
use Rattle.sqlite_rules.specs.Keys.{AreConflicts, conflicts}
use Rattle.sqlite_rules.specs.Calls.{ids_of}
use Rattle.sqlite_rules.specs.Probe.{AreFound}
use Rattle.sqlite_rules.specs.Edit.{id_in, are_fresh, without_all, next_rowid, with_rowid, put_all}
use Rattle.sqlite_rules.specs.Edit.{edited as edited_by}
use Rattle.sqlite_rules.proofs.PlaceLemmas.{given, next_is_free}
use Rattle.sqlite_rules.proofs.ListLemmas.{all_from, has_filtered}
use Rattle.sqlite_rules.proofs.ProbeLemmas.{rowid_query, found_rowids}
use Rattle.sqlite_rules.proofs.TableLemmas.{int_is}
use Rattle.sqlite.specs.Schema.{Schema}
use Rattle.sqlite.specs.Table.{Table}
use Rattle.sqlite.specs.Effect.{Database, IsDatabase, Answers, value_rows}
use Rattle.sqlite.specs.State.{State, Shows, ExecutesInside, KeepsCommit}
use Rattle.sql_rows.specs.Tables.{Key, has_key, Cells, IsRising, IsCut, IsSet, Puts, Adds, Edits}
use Rattle.sql_rows.proofs.Queries.{every, ids, rows_of}
use Rattle.sql_rows.proofs.Selects.{in_order, kept_rows, map_map}
use Rattle.sql_rows.proofs.Updating.{changed, changed_rising, each_same, put_back}
use Rattle.sql_rows.proofs.Rows.{cut, cut_rising, set, set_rising, none_of}
use Rattle.sql_rows.proofs.Tests.{key_test, sql_key, AreSolid, eq_test, Joined, joined_is}
use Rattle.sql_rows.proofs.Steps.{Says, simple, Idle, deletes, replaces, inserts, updates}

-- what is committed stays, whatever the statement answers
pub keeps : (sql : List ℕ) (given : Row) (old new : State) (r : Result ℕ Error) → ExecutesInside 0 sql given old new r
    → KeepsCommit old new
keeps sql given old new (Ok count) h = record { was_open = λ _. h.1.was_open; committed = λ _. h.1.committed_is }
keeps sql given old new (Err e) (inl (ran, inl same)) = record
    { was_open = λ _. same.0.was_open; committed = λ _. same.0.committed_is }
keeps sql given old new (Err e) (inl (ran, inr undone)) = record
    { was_open = undone.was_open; committed = λ live. (undone.undone live).1 }
keeps sql given old new (Err e) (inr ended) = record
    { was_open = λ _. ended.2.0.was_open; committed = λ _. ended.2.0.committed_is }

is_fresh_id : (rows : List Row) (rest : Row) (r : Row) → IsRising rows → Has rows r
    → is_true (binary (Compare Eq Binary) (rowid r) (Int (next_rowid rows))) ≡ false
is_fresh_id rows rest r rising h =
    eq_test (rowid r) (Int (next_rowid rows)) tt ∙ none_of (λ x. is_eq (value_cmp (rowid x) (Int (next_rowid rows))))
    rows r (next_is_free Chosen rows rest rising.ordered rising.numbered) h

-- ---- a row behind all others

lower_than : (a b c : ℤ) → int_cmp a b ≡ Less → b <ℤ c → a <ℤ c
lower_than a b c p q = grind (arith, ints, nat_tests)

lower_is : (a b : ℤ) → a <ℤ b → int_cmp a b ≡ Less
lower_is a b h = grind (arith, ints, nat_tests)

abbrev step_rowid : ℤ → Row → ℤ
step_rowid n r = id_in (rowid r) +ℤ pos 1

below_next : (x : Row) (rows : List Row) → IsTable (x ∷ rows)
    → AllByRecursion (λ r. is_int (rowid r) ≡ true) (x ∷ rows)
    → AllByRecursion (λ r. id_in (rowid r) <ℤ fold step_rowid (step_rowid (pos 1) x) rows) (x ∷ rows)
below_next x [] up keyed = (omega (arith, ints), tt)
below_next x (y ∷ rows) up keyed =
    let later = below_next y rows up.1 keyed.1 in
    let lower = rw (
      int_is (rowid x) keyed.0,
      int_is (rowid y) keyed.1.0,
      value_cmp-Int (id_in (rowid x))
          (id_in (rowid y)),
    ) at up.0.0 in
    (lower_than (id_in (rowid x)) (id_in (rowid y)) _ lower later.0, later)

put_last : (next : ℤ) (cells : Cells) (rows : List Row) → AllByRecursion (λ r. is_int (rowid r) ≡ true) rows
    → AllByRecursion (λ r. id_in (rowid r) <ℤ next) rows
    → put_row (Int next ∷ cells) rows ≡ rows ++ (Int next ∷ cells) ∷ []
put_last next cells [] keyed below = refl
put_last next cells (r ∷ rows) keyed below =
    let less : value_cmp (rowid r) (Int next)
    ≡ Less = rw (int_is (rowid r) keyed.0, value_cmp-Int (id_in (rowid r)) next)
    (lower_is (id_in (rowid r)) next below.0) in
    rw less (ap (λ l. r ∷ l) (put_last next cells rows keyed.1 below.1))

added_last : (cells : Cells) (rows : List Row) → IsRising rows → put_row (Int (next_rowid rows) ∷ cells) rows
    ≡ rows ++ (Int (next_rowid rows) ∷ cells) ∷ []
added_last cells [] rising = refl
added_last cells (r ∷ rows) rising = put_last (next_rowid (r ∷ rows)) cells (r ∷ rows) rising.numbered
    (below_next r rows rising.ordered rising.numbered)

-- ---- the writes

module _ (schema : Schema) (at : ℕ) (own_table : Table)
    (there : slice_get schema.tables at ≡ Some (simple own_table)) (idle : Idle schema at own_table)
    (old new : State) (has : old.now.schema ≡ schema) (rising : IsRising (old.now.trees own_table.tree)) where
  abbrev tree : ℕ
  tree = own_table.tree

  abbrev rows : List Row
  rows = old.now.trees tree

  -- what any write of the table says of the state
  edited : (Becomes : List Row → List Row → Type 0) (next : Trees) → new.now ≡ record { schema = schema; trees = next }
      → Shows old new new.now old.committed true → IsDatabase new.now
      → Becomes rows (next tree) → IsRising (next tree)
      → AllByRecursion (λ t. t.tree ≢ tree → next t.tree ≡ old.now.trees t.tree) schema.tables
      → Edits tree Becomes old new
  edited Becomes next now shown sound becomes rises others = record {
    rows = subst (λ (d : Database). Becomes rows (d.trees tree)) (sym now) becomes;
    rising = subst (λ (d : Database). IsRising (d.trees tree)) (sym now) rises;
    others = subst (λ (d : Database). AllByRecursion (λ t. t.tree ≢ tree → d.trees t.tree ≡ old.now.trees t.tree)
        old.now.schema.tables) (sym now)
        (subst (λ (s : Schema). AllByRecursion (λ t. t.tree ≢ tree → next t.tree ≡ old.now.trees t.tree) s.tables)
        (sym has) others);
    same_schema = ap (λ (d : Database). d.schema) now ∙ sym has;
    sound = sound;
    shown = shown;
  }

  -- a row that is put by REPLACE stands for those of its key
  module _ (key : Key) (solid : AreSolid key) (cells : Cells)
      (joined : (id : ℤ) (r : Row) → conflicts None schema.indexes (simple own_table) (Int id ∷ cells) r
      ≡ Joined (is_true (binary (Compare Eq Binary) (rowid r) (Int id))) (sql_key key r))
      (own : (id : ℤ) → has_key key (Int id ∷ cells) ≡ true) where
    abbrev new_row : Row
    new_row = Int (next_rowid rows) ∷ cells

    conflict_test : (r : Row) → Has rows r → conflicts None schema.indexes (simple own_table) new_row r
        ≡ has_key key r
    conflict_test r h = joined (next_rowid rows) r
        ∙ ap (λ x. Joined x (sql_key key r)) (is_fresh_id rows cells r rising h) ∙ joined_is (sql_key key r)
        ∙ key_test key r solid

    put_set : (found : List Row) → AreConflicts None schema.indexes (simple own_table) rows new_row found
        → are_fresh (without_all rows (ids_of found)) (new_row ∷ []) ≡ true
        → IsSet (has_key key) new_row rows (put_row new_row (without_all rows (ids_of found))) × IsRising
        (put_row new_row (without_all rows (ids_of found)))
    put_set found f fresh =
        let sound : (x : Row) → Has found x → (r : Row) × Has rows r × (has_key key r ≡ true) × (x ≡ rowid r ∷ []) =
        λ x h. let s = f.sound x h in (s.0, s.1, sym (conflict_test s.0 s.1) ∙ s.2, s.3) in
        let complete : (r : Row) → Has rows r → has_key key r ≡ true
        → Has found (rowid r ∷ []) = λ r h is. f.complete r h (conflict_test r h ∙ is) in (
          set (has_key key) rows found rising sound complete new_row refl (own (next_rowid rows)) fresh,
          set_rising
              (has_key key) rows found rising sound complete new_row refl (own (next_rowid rows)) fresh,
        )

    pub replaced : (sql : List ℕ) (terms : List Term) (width : ℕ) (params source : Row)
        → Says schema sql (InsertOr at Replace (Values terms width) [])
        → value_rows (stamped (simple own_table) params) width (length terms / width) terms ≡ source ∷ []
        → ((rows : List Row) → with_rowid Chosen rows
        (cast_row (simple own_table) (mended Replace (simple own_table) source))
        ≡ Int (next_rowid rows) ∷ cells)
        → ((id : ℤ) → cast_row (simple own_table) (Int id ∷ cells) ≡ Int id ∷ cells)
        → (result : Result ℕ Error) → ExecutesInside 0 sql params old new result
        → OnOk result (Edits tree (Puts key cells) old new)
    replaced sql terms width params source says sourced made fixed (Err e) h = tt
    replaced sql terms width params source says sourced made fixed (Ok count) h =
        let put = replaces schema at own_table there idle params source (λ id. Int id ∷ cells) made fixed old sql
        terms width new count has says sourced h in
        let did = put.2 in
        let it = put_set did.0 did.1 did.3 in
        edited (Puts key cells) put.0 put.1 h.1 put.3
        (next_rowid rows, subst (IsSet (has_key key) new_row rows) (sym did.2) it.0)
        (subst IsRising (sym did.2) it.1) did.4

  -- a row that is put by INSERT stands behind the others
  pub added : (cells : Cells) (sql : List ℕ) (terms : List Term) (width : ℕ) (params source : Row)
      → Says schema sql (Insert at (Values terms width))
      → value_rows (stamped (simple own_table) params) width (length terms / width) terms ≡ source ∷ []
      → with_rowid Chosen rows (cast_row (simple own_table) source) ≡ Int (next_rowid rows) ∷ cells
      → (result : Result ℕ Error) → ExecutesInside 0 sql params old new result
      → OnOk result (Edits tree (Adds cells) old new)
  added cells sql terms width params source says sourced made (Err e) h = tt
  added cells sql terms width params source says sourced made (Ok count) h =
      let put = inserts schema at own_table there idle sql terms width params source (Int (next_rowid rows) ∷ cells)
      old new count has says sourced made h in
      let behind = put.2 ∙ added_last cells rows rising in
      edited (Adds cells) put.0 put.1 h.1 put.4 behind
      (record {
        numbered = subst (AllByRecursion (λ r. is_int (rowid r) ≡ true)) (sym put.2)
            (all-put_row _ (Int (next_rowid rows) ∷ cells) rows refl rising.numbered);
        ordered = subst IsTable (sym put.2) (IsTable-put_row (Int (next_rowid rows) ∷ cells) rows rising.ordered);
      }) put.3

  -- the rows that DELETE takes
  module _ (terms : List Term) (p : Row → Bool) (params : Row)
      (test : (r : Row) → list_all (holds (params ∷ r ∷ [])) terms ≡ p r) (real : overlay old.now.trees [] tree ≡ rows)
    where
      taken : (found : List Row) → IsAnswer (ids tree terms) (overlay old.now.trees []) params found
          → AreFound terms rows params found
      taken found a =
          let b : IsAnswer (rowid_query tree terms) (overlay old.now.trees []) params found =
          record {
            staged = a.staged;
            grouped = a.grouped;
            kept = a.kept;
            distinct = a.distinct;
            ordered = a.ordered;
            same = a.same;
            sorted = a.sorted;
            shown = a.shown;
          } in
          subst (λ l. AreFound terms l params found) real
          (found_rowids tree terms (overlay old.now.trees []) params found b)

      without : (found : List Row) → Answers (record { schema = schema; trees = old.now.trees })
          (record { lets = []; body = ids tree terms }) params found
          → IsCut p rows (without_all rows (ids_of found)) × IsRising (without_all rows (ids_of found))
      without found asked =
          let f = taken found (asked.answer Null) in
          let sound : (x : Row) → Has found x → (r : Row) × Has rows r × (p r ≡ true) × (x ≡ rowid r ∷ []) = λ x h.
          let s = f.sound x h in (s.0, s.1, sym (test s.0) ∙ s.2, s.3) in
          let complete : (r : Row) → Has rows r → p r ≡ true
          → Has found (rowid r ∷ []) = λ r h is. f.complete r h (test r ∙ is) in
          (cut p rows found rising sound complete, cut_rising p rows found rising sound complete)

      pub deleted : (sql : List ℕ) → Says schema sql (Delete at (record { lets = []; body = ids tree terms }))
          → (result : Result ℕ Error) → ExecutesInside 0 sql params old new result
          → OnOk result (Edits tree (IsCut p) old new)
      deleted sql says (Err e) h = tt
      deleted sql says (Ok count) h =
          let gone = deletes schema at own_table there idle sql (record { lets = []; body = ids tree terms }) params
          old new count has says h in
          let made = without gone.2 gone.3 in
          edited (IsCut p) gone.0 gone.1 h.1 gone.6 (subst (IsCut p rows) (sym gone.4) made.0)
          (subst IsRising (sym gone.4) made.1) gone.5

  -- the rows that UPDATE gives other values, each under its rowid, where those that pass have one order alone
  module _ (terms project : List Term) (p : Row → Bool) (f : Row → Row) (params : Row)
      (test : (r : Row) → list_all (holds (params ∷ r ∷ [])) terms ≡ p r) (real : overlay old.now.trees [] tree ≡ rows)
      (shows : (r : Row) → eval_all project (params ∷ r ∷ []) ≡ rowid r ∷ f r)
      (keeps : (r : Row) → rowid (f r) ≡ rowid r)
      (fixed : (r : Row) → Has rows r → cast_row (simple own_table) (f r) ≡ f r)
      (alone : (found : List Row) → IsPermutation (filter p rows) found → found ≡ filter p rows) where
    abbrev query : Query
    query = rows_of tree terms project [] every

    abbrev hits : List Row
    hits = filter p rows

    abbrev source : Row → Row
    source r = rowid r ∷ f r

    sources_are : (found : List Row) → Answers (record { schema = schema; trees = old.now.trees })
        (record { lets = []; body = query }) params found
        → found ≡ map source hits
    sources_are found asked =
        let env = λ (r : Row). params ∷ r ∷ [] in
        let it = in_order query refl refl refl params env hits (overlay old.now.trees [])
        (kept_rows (λ r. list_all (holds (env r)) terms) p env (overlay old.now.trees [] tree) test
        ∙ ap (λ l. map env (filter p l)) real)
        (λ a b. output_cmp query (output query (env a)) (output query (env b))) source None (λ a b. refl) shows refl found
        (asked.answer Null) in
        it.shown ∙ ap (map source) (alone it.all it.same)

    news_are : map (λ s. cast_row (simple own_table) (drop 1 s)) (map source hits) ≡ map f hits
    news_are = map_map (λ s. cast_row (simple own_table) (drop 1 s)) source hits
        ∙ each_same (λ r. cast_row (simple own_table) (f r)) f hits
        (all_from (λ r. cast_row (simple own_table) (f r) ≡ f r) hits
        (λ r h. fixed r (has_filtered p rows r h).0))

    rows_are : (found : List Row) → found ≡ map source hits
        → edited_by old.now.trees (edit_of old.now.trees (simple own_table) (ids_of found) Given 1 found)
        ≡ map (changed p f keeps) rows
    rows_are found is =
        let ids : ids_of found ≡ ids_of hits = ap ids_of is ∙ map_map (λ r. id_in (rowid r)) source hits in
        let news : map (λ s. cast_row (simple own_table) (drop 1 s)) found ≡ map f hits =
        ap (map (λ s. cast_row (simple own_table) (drop 1 s))) is ∙ news_are in
        ap (put_all (without_all rows (ids_of found))) (given (without_all rows (ids_of found))
        (map (λ s. cast_row (simple own_table) (drop 1 s)) found) ∙ news)
        ∙ ap (λ l. put_all (without_all rows l) (map f hits)) ids
        ∙ put_back p f keeps rows rising.ordered rising.numbered

    pub updated : (sql : List ℕ) → Says schema sql (Update at (record { lets = []; body = query }))
        → (result : Result ℕ Error) → ExecutesInside 0 sql params old new result
        → OnOk result (Edits tree (λ before after. after ≡ map (λ r. cond (p r) (f r) r) before) old new)
    updated sql says (Err e) h = tt
    updated sql says (Ok count) h =
        let put = updates schema at own_table there idle sql (record { lets = []; body = query }) params old new count
        has says h in
        let becomes = put.4 ∙ rows_are put.2 (sources_are put.2 put.3) in
        edited (λ before after. after ≡ map (λ r. cond (p r) (f r) r) before) put.0 put.1 h.1 put.6 becomes
        (subst IsRising (sym becomes) (changed_rising p f keeps rows rising)) put.5
