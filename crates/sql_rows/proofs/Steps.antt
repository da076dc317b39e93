-- The steps of a write of one table, whatever the table.
use Rattle.std.proofs.Common.{◌≡◌, ◌≢◌, ◌⊎◌, inl, inr, ℕ, ℤ, List, [], ◌∷◌, ◌/◌, map, length, slice_get, true, false}
use Rattle.std.proofs.Common.{Some, None, Ok, Err, Result, sym, ap, subst, ◌∙◌}
use Rattle.std.specs.List.{AllByRecursion}
use Rattle.sqlite.specs.Order.{Row}
use Rattle.sqlite.specs.Source.TheVariants.{Values}
use Rattle.sqlite.specs.Command.{Command}
use Rattle.sqlite.specs.Command.TheVariants.{Insert, InsertOr, Update, Delete}
use Rattle.sqlite_schema.specs.declared.command.Conflict.TheVariants.{Replace}
use Rattle.sqlite_schema.specs.declared.schema.Keys.{Keys}
use Rattle.sqlite_schema.specs.declared.program.Program.{Program}
use Rattle.sqlite_sql.specs.Term.{Term}
use Rattle.sqlite_rules.specs.Keys.{AreConflicts}
use Rattle.sqlite_rules.specs.Calls.{ids_of}
use Rattle.sqlite_rules.specs.Action.{works, Writes}
use Rattle.sqlite.specs.Edit.{edit_of}
use Rattle.sqlite_rules.specs.Edit.{taken_by, are_fresh, without_all, next_rowid, with_rowid, put_all, edited, Applies}
use Rattle.sqlite.specs.Cast.{cast_row}
use Rattle.sqlite.specs.Rowids.TheVariants.{Chosen, Given}
use Rattle.sqlite.specs.Effect.{Database, IsDatabase, Answers, value_rows}
use Rattle.sqlite.specs.Does.{Tally, Does, OnRows, AtPlace}
use Rattle.sqlite.specs.Rows.{Written, Task, TriesEach, Tries, Clears, Puts, nothing, mended, count_of, stamped}
use Rattle.sqlite.specs.Tree.{Trees, put_row}
use Rattle.sqlite.specs.Table.{Table}
use Rattle.sqlite.specs.Schema.{Schema}
use Rattle.sqlite.specs.Listing.{understood}
use Rattle.sqlite.specs.State.{State, mode_of, ExecutesInside}
use Rattle.sqlite.proofs.Callers.{IsPlain, command_of, statement_of, runs_as, one_step}

abbrev pub Says : Schema → List ℕ → Command → Type 0
Says schema sql command = (command_of (understood schema sql) ≡ command) × IsPlain (understood schema sql)

-- a part that gave a value did not stop on the way
pub went : {B E R : Type 0} {b : B} {Stops : E → Type 0} → ((stop : E) × Stops stop × (Ok b ≡ Err stop)) ⊎ R → R
went (inl stopped) = absurd (let e = stopped.2 in cc)
went (inr on) = on

pub same_value : {B E : Type 0} {a b : B} → ◌≡◌ {A = Result B E} (Ok a) (Ok b) → a ≡ b
same_value e = cc

-- the table, where no column is computed or reads the time, and no rowid is counted
abbrev pub simple : Table → Table
simple t = record t { computed = []; stamps = record { places = []; terms = []; formats = [] }; is_counted = false }

module _ (schema : Schema) (at : ℕ) (own_table : Table) where
  abbrev table : Table
  table = simple own_table

  abbrev tree : ℕ
  tree = table.tree

  abbrev pub Idle : Type 0
  Idle = (keys : Keys) (olds news : List Row) → works schema keys 0 tree olds news ≡ []

  abbrev pub Untouched : Trees → Trees → Type 0
  Untouched db next = AllByRecursion (λ t. t.tree ≢ tree → next t.tree ≡ db t.tree) schema.tables

  module _ (there : slice_get schema.tables at ≡ Some table) (idle : Idle) where
    abbrev task : State → Row → Table → Task
    task old params t = record {
      limit = old.step_limit;
      keys = (mode_of old).keys;
      schema = schema;
      table = t;
      params = params;
    }

    -- an edit of the table is one step
    stepped : (keys : Keys) (db next : Trees) (gone : List ℤ) (sources : List Row)
        → Writes schema keys db (edit_of db table gone Given 0 sources) (Ok next)
        → Applies schema keys db (edit_of db table gone Given 0 sources) next
    stepped keys db next gone sources h =
        let edit = edit_of db table gone Given 0 sources in
        one_step schema keys db next edit (idle keys (taken_by db edit) edit.news) h

    pub deletes : (sql : List ℕ) (q : Program) (params : Row) (old new : State) (count : ℕ) → old.now.schema ≡ schema
        → Says schema sql (Delete at q) → ExecutesInside 0 sql params old new (Ok count)
        → (next : Trees) × (new.now ≡ record { schema = schema; trees = next }) × (found : List Row) × Answers
        (record { schema = schema; trees = old.now.trees }) q params found
        × (next tree ≡ without_all (old.now.trees tree) (ids_of found)) × Untouched old.now.trees next × IsDatabase
        new.now
    deletes sql q params old new count has says h =
        let db = old.now.trees in
        let w = runs_as sql params old new schema has (Delete at q) says.0 says.1 count h.0 in
        let text = statement_of sql (understood schema sql) in
        let does = subst (λ s. Does old.step_limit (mode_of old) params (record old.now { schema = s }) text None
        (Delete at q) (Ok (w.tally, new.now))) has w.changed in
        let done = went (subst (λ o. AtPlace (λ t. OnRows (task old params t) (mode_of old) None (Delete at q) db) o
        (Ok (w.tally, new.now))) there does) in
        let now = ap (λ (p : Tally × Database). p.1) (same_value (went (went done.2).2).2) in
        let asked = went done.1 in
        let written = went asked.2 in
        let trees : done.0.trees ≡ written.0 = ap (λ (it : Written). it.trees) (same_value written.2) in
        let step = stepped (mode_of old).keys db written.0 (ids_of asked.0) [] written.1 in (
          written.0,
          now ∙ ap (λ (t : Trees). record { schema = schema; trees = t }) trees,
          asked.0,
          asked.1,
          step.rows,
          step.tables,
          w.sound,
        )

    pub updates : (sql : List ℕ) (q : Program) (params : Row) (old new : State) (count : ℕ) → old.now.schema ≡ schema
        → Says schema sql (Update at q) → ExecutesInside 0 sql params old new (Ok count)
        → (next : Trees) × (new.now ≡ record { schema = schema; trees = next }) × (found : List Row) × Answers
        (record { schema = schema; trees = old.now.trees }) q params found
        × (next tree ≡ edited old.now.trees (edit_of old.now.trees table (ids_of found) Given 1 found))
        × Untouched old.now.trees next × IsDatabase new.now
    updates sql q params old new count has says h =
        let db = old.now.trees in
        let w = runs_as sql params old new schema has (Update at q) says.0 says.1 count h.0 in
        let text = statement_of sql (understood schema sql) in
        let does = subst (λ s. Does old.step_limit (mode_of old) params (record old.now { schema = s }) text None
        (Update at q) (Ok (w.tally, new.now))) has w.changed in
        let done = went (subst (λ o. AtPlace (λ t. OnRows (task old params t) (mode_of old) None (Update at q) db) o
        (Ok (w.tally, new.now))) there does) in
        let now = ap (λ (p : Tally × Database). p.1) (same_value (went (went done.2).2).2) in
        let asked = went done.1 in
        let written = went asked.2 in
        let trees : done.0.trees ≡ written.0 = ap (λ (it : Written). it.trees) (same_value written.2) in
        let edit = edit_of db table (ids_of asked.0) Given 1 asked.0 in
        let step = one_step schema (mode_of old).keys db written.0 edit
        (idle (mode_of old).keys (taken_by db edit) edit.news) written.1 in (
          written.0,
          now ∙ ap (λ (t : Trees). record { schema = schema; trees = t }) trees,
          asked.0,
          asked.1,
          step.rows,
          step.tables,
          w.sound,
        )

    pub inserts : (sql : List ℕ) (terms : List Term) (width : ℕ) (params source new_row : Row) (old new : State)
        (count : ℕ) → old.now.schema ≡ schema → Says schema sql (Insert at (Values terms width))
        → value_rows (stamped table params) width (length terms / width) terms ≡ source ∷ []
        → with_rowid Chosen (old.now.trees tree) (cast_row table source) ≡ new_row
        → ExecutesInside 0 sql params old new (Ok count)
        → (next : Trees) × (new.now ≡ record { schema = schema; trees = next })
        × (next tree ≡ put_row new_row (old.now.trees tree)) × Untouched old.now.trees next × IsDatabase new.now
    inserts sql terms width params source new_row old new count has says sourced made h =
        let db = old.now.trees in
        let command = Insert at (Values terms width) in
        let w = runs_as sql params old new schema has command says.0 says.1 count h.0 in
        let text = statement_of sql (understood schema sql) in
        let does = subst (λ s. Does old.step_limit (mode_of old) params (record old.now { schema = s }) text None
        command (Ok (w.tally, new.now))) has w.changed in
        let done = went (subst (λ o. AtPlace (λ t. OnRows (task old params t) (mode_of old) None command db) o
        (Ok (w.tally, new.now))) there does) in
        let now = ap (λ (p : Tally × Database). p.1) (same_value (went (went done.2).2).2) in
        let given = went done.1 in
        let written = went (went given.2).2 in
        let counted = went written.2 in
        let trees : done.0.trees ≡ written.0 = ap (λ (it : Written). it.trees) (same_value counted.2)
        ∙ same_value counted.1 in
        let edit = edit_of db table [] Chosen 0 given.0 in
        let step = one_step schema (mode_of old).keys db written.0 edit
        (idle (mode_of old).keys (taken_by db edit) edit.news) written.1 in
        let put : put_all (db tree) (Rattle.sqlite_rules.specs.Edit.numbered Chosen (db tree)
        (map (λ s. cast_row table s) given.0)) ≡ put_row new_row (db tree) =
        ap (λ all. put_all (db tree) (Rattle.sqlite_rules.specs.Edit.numbered Chosen (db tree)
        (map (λ s. cast_row table s) all))) (given.1.1 ∙ sourced) ∙ ap (λ r. put_row r (db tree)) made in (
          written.0,
          now ∙ ap (λ (t : Trees). record { schema = schema; trees = t }) trees,
          step.rows
              ∙ put,
          step.tables,
          w.sound,
        )

    module _ (params source : Row) (row : ℤ → Row)
        (made : (rows : List Row) → with_rowid Chosen rows (cast_row table (mended Replace table source))
        ≡ row (next_rowid rows))
        (fixed : (id : ℤ) → cast_row table (row id) ≡ row id) (old : State) where
      abbrev db : Trees
      db = old.now.trees

      abbrev new_row : Row
      new_row = row (next_rowid (db tree))

      putted : (mid : Trees) (w : Written) → Puts (task old params table) new_row mid (Ok w)
          → (w.trees tree ≡ put_row new_row (mid tree)) × (are_fresh (mid tree) (new_row ∷ []) ≡ true) × Untouched mid
          w.trees
      putted mid w h =
          let p = went h in
          let step = stepped (mode_of old).keys mid p.0 [] (new_row ∷ []) p.1 in
          let same : w.trees ≡ p.0 = ap (λ (x : Written). x.trees) (same_value p.2) in (
            ap (λ (t : Trees). t tree) same ∙ step.rows
                ∙ ap (λ r. put_row r (mid tree)) (fixed (next_rowid (db tree))),
            ap (λ r. are_fresh (mid tree) (r ∷ [])) (sym (fixed (next_rowid (db tree)))) ∙ step.fresh,
            subst (Untouched mid) (sym same) step.tables,
          )

      abbrev Did : Trees → Type 0
      Did next = (found : List Row) × AreConflicts None schema.indexes table (db tree) new_row
          found × (next tree ≡ put_row new_row (without_all (db tree) (ids_of found)))
          × (are_fresh (without_all (db tree) (ids_of found)) (new_row ∷ []) ≡ true) × Untouched db next

      both_untouched : (ts : List Table) (a b c : Trees) → AllByRecursion (λ t. t.tree ≢ tree → b t.tree ≡ a t.tree) ts
          → AllByRecursion (λ t. t.tree ≢ tree → c t.tree ≡ b t.tree) ts
          → AllByRecursion (λ t. t.tree ≢ tree → c t.tree ≡ a t.tree) ts
      both_untouched [] a b c h k = tt
      both_untouched (t ∷ ts) a b c h k = (λ apart. k.0 apart ∙ h.0 apart, both_untouched ts a b c h.1 k.1)

      cleared : (w : Written) (found : List Row) → AreConflicts None schema.indexes table (db tree) new_row found
          → Clears (task old params table) Replace new_row db found (Ok w) → Did w.trees
      cleared w [] f h = let p = putted db w h in ([], f, p.0, p.1, p.2)
      cleared w (x ∷ more) f h =
          let c = went h in
          let step = stepped (mode_of old).keys db c.0 (ids_of (x ∷ more)) [] c.1 in
          let mid : c.0 tree ≡ without_all (db tree) (ids_of (x ∷ more)) = step.rows in
          let p = putted c.0 w c.2 in (
            x ∷ more,
            f,
            p.0 ∙ ap (put_row new_row) mid,
            subst (λ l. are_fresh l (new_row ∷ []) ≡ true) mid p.1,
            both_untouched schema.tables db c.0 w.trees step.tables p.2,
          )

      tried : (w : Written) → Tries (task old params table) Replace [] new_row db (Ok w) → Did w.trees
      tried w (inl (unfit, e)) = absurd (let z = e in cc)
      tried w (inr (None, judged, c)) = cleared w c.0 c.1 c.2
      tried w (inr (Some why, judged, e)) = absurd (let z = e in cc)

      each_tried : (top : ℤ) (all : Written × ℤ)
          → TriesEach (task old params table) Replace [] (source ∷ []) top (nothing db) (Ok all) → Did all.0.trees
      each_tried top all h =
          let one = went h in
          let same : all.0.trees ≡ one.0.trees = ap (λ (p : Written × ℤ). p.0.trees) (same_value one.2) in
          subst Did (sym same) (tried one.0 (subst (λ r. Tries (task old params table) Replace [] r db (Ok one.0))
          (made (db tree)) one.1))

      pub replaces : (sql : List ℕ) (terms : List Term) (width : ℕ) (new : State) (count : ℕ) → old.now.schema ≡ schema
          → Says schema sql (InsertOr at Replace (Values terms width) [])
          → value_rows (stamped table params) width (length terms / width) terms ≡ source ∷ []
          → ExecutesInside 0 sql params old new (Ok count)
          → (next : Trees) × (new.now ≡ record { schema = schema; trees = next }) × Did next × IsDatabase new.now
      replaces sql terms width new count has says sourced h =
          let command = InsertOr at Replace (Values terms width) [] in
          let w = runs_as sql params old new schema has command says.0 says.1 count h.0 in
          let text = statement_of sql (understood schema sql) in
          let does = subst (λ s. Does old.step_limit (mode_of old) params (record old.now { schema = s }) text None
          command (Ok (w.tally, new.now))) has w.changed in
          let done = went (subst (λ o. AtPlace (λ t. OnRows (task old params t) (mode_of old) None command db) o
          (Ok (w.tally, new.now))) there does) in
          let now = ap (λ (p : Tally × Database). p.1) (same_value (went (went done.2).2).2) in
          let given = went done.1 in
          let counter = went given.2 in
          let tries = went counter.2 in
          let counts = went tries.2 in
          let trees : done.0.trees ≡ tries.0.0.trees = ap (λ (it : Written). it.trees) (same_value counts.2)
          ∙ same_value counts.1 in (
            tries.0.0.trees,
            now ∙ ap (λ (t : Trees). record { schema = schema; trees = t }) trees,
            each_tried (count_of counter.0) tries.0 (subst
                (λ l. TriesEach (task old params table) Replace [] l (count_of counter.0) (nothing db) (Ok tries.0))
                (given.1.1 ∙ sourced) tries.1),
            w.sound,
          )
