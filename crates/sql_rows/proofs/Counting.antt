-- What a query for the number of rows shows.
use Rattle.std.proofs.Common.{◌≡◌, ◌<◌, ℕ, List, [], ◌∷◌, ◌++◌, map, filter, length, false, Some, refl, sym, ap}
use Rattle.std.proofs.Common.{subst, ◌∙◌, arith, Result, Ok, Err, IfOk, IsPermutation}
use Rattle.std.proofs.lemmas.List.Sorted.{IsPermutation-keeps, length_permutation}
use Rattle.std.specs.List.{AllZip, list_all, swap}
use lib.ListN.{length-map}
use Rattle.sqlite.specs.declared.types.Value.{Value}
use Rattle.sqlite.specs.declared.types.Value.TheVariants.{Null}
use Rattle.sqlite.specs.declared.error.Error.{Error}
use Rattle.sqlite.specs.Schema.{Schema}
use Rattle.sqlite.specs.State.{State, Shown as ShownAs}
use Rattle.sqlite.proofs.Callers.{reads_as}
use Rattle.sqlite_trees.specs.Tree.{Trees}
use Rattle.sqlite_value.specs.Order.{Row}
use Rattle.sqlite_value.specs.declared.keys.Collation.TheVariants.{Binary}
use Rattle.sqlite_sql.specs.Aggregate.{count}
use Rattle.sqlite_sql.specs.declared.aggregate.AggregateOp.TheVariants.{CountRows}
use Rattle.sqlite_sql.specs.Group.{Aggregate, Grouping, IsSummary, Summarizes, value_over}
use Rattle.sqlite_sql.specs.Term.{Term, Env, holds, lit, col}
use Rattle.sqlite_sql.specs.Query.{Query, inner, end, IsAnswer, output, Output, matches}
use Rattle.sqlite_sql.specs.Program.{overlay}
use Rattle.sql_rows.proofs.Queries.{Asks, every, rows_of}

-- a list of one element has one order
pub one_alone : {X : Type 0} (x : X) (ys : List X) → IsPermutation (x ∷ []) ys → ys ≡ x ∷ []
one_alone {X} x ys h = IsPermutation-keeps (x ∷ []) (λ l. l ≡ x ∷ []) refl moved ys h
  where
    at_front : (l : List X) (i j : ℕ) → i ≡ 0 → j ≡ 0 → l ≡ x ∷ [] → swap l i j ≡ x ∷ []
    at_front l i j first second is = rw (is, first, second) refl

    moved : (l : List X) (i j : ℕ) → i < length l → j < length l → l ≡ x ∷ [] → swap l i j ≡ x ∷ []
    moved l i j low high is =
        let n : length l ≡ 1 = ap length is in
        at_front l i j (omega (arith, n, low)) (omega (arith, n, high)) is

-- how many rows there are
abbrev pub counted : Aggregate
counted = record { op = CountRows; distinct = false; collation = Binary; argument = lit Null }

abbrev pub in_all : Grouping
in_all = record { keys = []; collations = []; aggregates = counted ∷ []; having = [] }

abbrev pub count_of : ℕ → List Term → Query
count_of tree terms = record (rows_of tree terms (col 1 0 ∷ []) [] every) { group = Some in_all }

over_all : (group : List Env) (v : Value) → value_over group counted ≡ Some v → v ≡ count (length group)
over_all group v is =
    let e : Some (count (length group)) ≡ Some v = ap (λ n. Some (count n)) (sym (length-map group _)) ∙ is in cc

summary_is : (group : List Env) (row : Row) → IsSummary in_all group row → row ≡ count (length group) ∷ []
summary_is group row h = go h.0 h.1 h.2
  where
    go : (values : Row) → AllZip (λ a v. value_over group a ≡ Some v) (counted ∷ []) values → row ≡ [] ++ values
        → row ≡ count (length group) ∷ []
    go [] none is = absurd none
    go (v ∷ []) one is = is ∙ ap (λ x. x ∷ []) (over_all group v one.0)
    go (v ∷ w ∷ more) two is = absurd two.1

one_group : (params : Row) (all staged : List Env) → Summarizes in_all params all staged
    → staged ≡ (params ∷ (count (length all) ∷ []) ∷ []) ∷ []
one_group params all staged s =
    go s.rows s.having (subst (λ g. AllZip (IsSummary in_all) g s.rows) s.grouping.2 s.summaries)
  where
    go : (rows : List Row)
        → staged ≡ filter (λ env. list_all (holds env) []) (map (λ r. params ∷ r ∷ []) rows)
        → AllZip (IsSummary in_all) (s.grouping.0 ∷ []) rows → staged ≡ (params ∷ (count (length all) ∷ []) ∷ []) ∷ []
    go [] is none = absurd none
    go (r ∷ []) is one =
        is ∙ ap (λ x. (params ∷ x ∷ []) ∷ []) (summary_is s.grouping.0 r one.0
        ∙ ap (λ n. count n ∷ []) (length_permutation all s.grouping.0 s.grouping.1))
    go (r ∷ q ∷ more) is two = absurd two.1

module _ (tree : ℕ) (terms : List Term) (params : Row) where
  abbrev env : Row → Env
  env r = params ∷ r ∷ []

  counts : (trees : Trees) (xs : List Row) → matches trees terms (inner tree end) (params ∷ []) ≡ map env xs
      → (items : List Row) → IsAnswer (count_of tree terms) trees params items
      → items ≡ (count (length xs) ∷ []) ∷ []
  counts trees xs found items a =
      let all = matches trees terms (inner tree end) (params ∷ []) in
      let staged = one_group params all a.staged a.grouped in
      let shown : a.ordered ≡ ([], count (length all) ∷ []) ∷ [] =
      one_alone _ a.ordered (subst (λ l. IsPermutation l a.ordered)
      (a.distinct ∙ ap (map (output (count_of tree terms))) staged) a.same) in
      a.shown ∙ ap (map (λ (o : Output). o.1)) shown
      ∙ ap (λ n. (count n ∷ []) ∷ []) (ap length found ∙ length-map xs env)

  -- what the text shows that asks for how many rows pass
  pub shows_count : (schema : Schema) (sql : List ℕ) (names : List (List ℕ))
      → Asks schema sql (count_of tree terms) names
      → (old new : State) → old.now.schema ≡ schema → (xs : List Row)
      → matches (overlay old.now.trees []) terms (inner tree end) (params ∷ []) ≡ map env xs
      → {X : Type 0} (items : X → List Row) (result : Result X Error)
      → IfOk result (λ v. ShownAs sql params old new (items v))
      → IfOk result (λ v. items v ≡ (count (length xs) ∷ []) ∷ [])
  shows_count schema sql names asks old new has xs found items (Err e) h = tt
  shows_count schema sql names asks old new has xs found items (Ok v) h =
      counts (overlay old.now.trees []) xs found (items v)
      ((reads_as sql params old new schema has _ asks.0.0 asks.0.1 asks.1 (items v) h).answer Null)
