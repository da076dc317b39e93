-- What a SELECT shows, whatever the tables.
use Rattle.std.proofs.Common.{◌≡◌, ◌+◌, ℕ, zero, suc, pos, ◌<◌, List, [], ◌∷◌, ◌++◌, map, filter, flat_map, take, drop}
use Rattle.std.proofs.Common.{unwrap_or, Bool, true, false, cond, Option, Some, None, refl, sym, ap, ap₂, subst}
use Rattle.std.proofs.Common.{Result, Ok, Err, IfOk, ◌∙◌, IsPermutation, IsSorted, is_lt, Ordering}
use Rattle.std.specs.List.{list_all, swap}
use Rattle.std.specs.List.Sorted.{apply_swaps, SwapsInRange}
use lib.ListN.{get_or, set, length-map, get_or-map}
use lib.Seq.{map-set}
use Rattle.sqlite.specs.declared.types.Value.TheVariants.{Null, Int}
use Rattle.sqlite.specs.declared.error.Error.{Error}
use Rattle.sqlite.specs.Schema.{Schema}
use Rattle.sqlite.specs.State.{State, Shown as ShownAs}
use Rattle.sqlite.proofs.Callers.{reads_as}
use Rattle.sqlite_trees.specs.Tree.{Trees}
use Rattle.sqlite_value.specs.Order.{Row}
use Rattle.sqlite_sql.specs.Group.{IsGrouped}
use Rattle.sqlite_sql.specs.Term.{Term, Env, holds, eval, eval_all, lit}
use Rattle.sqlite_sql.specs.Query.{Query, inner, end, IsAnswer, IsKept, output, output_cmp, limited, as_count, Output}
use Rattle.sqlite_sql.specs.Query.{matches}
use Rattle.sqlite_sql.specs.Program.{overlay}
use Rattle.sql_rows.specs.Tables.{AreInOrder}
use Rattle.sql_rows.proofs.Queries.{rows_of, Asks}

-- ---- lists

pub map_map : {X Y Z : Type 0} (g : Y → Z) (f : X → Y) (xs : List X) → map g (map f xs) ≡ map (λ x. g (f x)) xs
map_map g f [] = refl
map_map g f (x ∷ xs) = ap (λ l. g (f x) ∷ l) (map_map g f xs)

pub map_take : {X Y : Type 0} (f : X → Y) (n : ℕ) (xs : List X) → take n (map f xs) ≡ map f (take n xs)
map_take f zero xs = refl
map_take f (suc n) [] = refl
map_take f (suc n) (x ∷ xs) = ap (λ l. f x ∷ l) (map_take f n xs)

module _ {X Y : Type 0} (f : X → Y) where
  swapped : (xs : List X) (i j : ℕ) → map f (swap xs i j) ≡ swap (map f xs) i j
  swapped [] i j = refl
  swapped (d ∷ ys) i j = map-set f (set (d ∷ ys) i (get_or (d ∷ ys) j d)) j (get_or (d ∷ ys) i d)
      ∙ (λ k. set ((map-set f (d ∷ ys) i (get_or (d ∷ ys) j d)
      ∙ ap (set (map f (d ∷ ys)) i) (sym (get_or-map f (d ∷ ys) j d))) k) j (sym (get_or-map f (d ∷ ys) i d) k))

  swaps : (xs : List X) (ps : List (ℕ × ℕ)) → map f (apply_swaps xs ps) ≡ apply_swaps (map f xs) ps
  swaps xs [] = refl
  swaps xs (p ∷ ps) = swapped (apply_swaps xs ps) p.0 p.1 ∙ ap (λ l. swap l p.0 p.1) (swaps xs ps)

  -- what is put in order is a list whose images are in order
  pub unmapped : (xs : List X) (ys : List Y) → IsPermutation (map f xs) ys
      → (zs : List X) × IsPermutation xs zs × (ys ≡ map f zs)
  unmapped xs ys h = (
    apply_swaps xs h.moves,
    record
        { moves = h.moves; below = subst (λ n. SwapsInRange n h.moves) (length-map xs f) h.below; is = refl },
    h.is
        ∙ sym (swaps xs h.moves),
  )

  pub sorted_under : (cmp : Y → Y → Ordering) (at : X → X → Ordering) → ((a b : X) → cmp (f a) (f b) ≡ at a b)
      → (zs : List X) → IsSorted cmp (map f zs) → IsSorted at zs
  sorted_under cmp at same zs h = λ k d low high.
      let it = h k (f d) low (subst (λ n. k + 1 < n) (sym (length-map zs f)) high) in
      ap is_lt (sym (same (get_or zs (k + 1) d) (get_or zs k d))
      ∙ ap₂ cmp (sym (get_or-map f zs (k + 1) d)) (sym (get_or-map f zs k d))) ∙ it

map_limited : {X Y : Type 0} (f : X → Y) (n : Option ℕ) (xs : List X) → limited n (map f xs) ≡ map f (limited n xs)
map_limited f None xs = refl
map_limited f (Some n) xs = map_take f n xs

-- the matches of any FROM are the images of these
module _ {X : Type 0} (q : Query) (ungrouped : q.group ≡ None) (whole : q.distinct ≡ false)
    (start : q.offset ≡ lit (Int (pos 0))) (params : Row) (env : X → Env) where
  pub in_order : (xs : List X) (trees : Trees) → matches trees q.filter q.from (params ∷ []) ≡ map env xs
      → (cmp : X → X → Ordering) (show : X → Row) (n : Option ℕ)
      → ((a b : X) → output_cmp q (output q (env a)) (output q (env b)) ≡ cmp a b)
      → ((x : X) → eval_all q.project (env x) ≡ show x) → as_count (eval q.limit (params ∷ [])) ≡ n
      → (items : List Row) → IsAnswer q trees params items → AreInOrder cmp n show xs items
  in_order xs trees found cmp show n cmp_is show_is limit_is items a =
      let f = λ (x : X). output q (env x) in
      let grouped : a.staged ≡ matches trees q.filter q.from (params ∷ []) = subst
      (λ g. IsGrouped g params (matches trees q.filter q.from (params ∷ [])) a.staged) ungrouped a.grouped in
      let distinct : a.kept ≡ map (output q) a.staged = subst
      (λ d. IsKept d q.collations (map (output q) a.staged) a.kept) whole a.distinct in
      let kept : a.kept ≡ map f xs = distinct ∙ ap (map (output q)) (grouped ∙ found) ∙ map_map (output q) env xs in
      let z = unmapped f xs a.ordered (subst (λ l. IsPermutation l a.ordered) kept a.same) in
      let images : map (λ (o : Output). o.1) a.ordered ≡ map show z.0 = ap (map (λ (o : Output). o.1)) z.2
      ∙ map_map (λ (o : Output). o.1) f z.0 ∙ (λ i. map (λ r. show_is r i) z.0) in
      record {
        all = z.0;
        same = z.1;
        sorted = sorted_under f (output_cmp q) cmp cmp_is z.0 (subst (IsSorted (output_cmp q)) z.2 a.sorted);
        shown = a.shown ∙ ap (λ t. limited (as_count (eval q.limit (params ∷ [])))
            (drop (unwrap_or (as_count (eval t (params ∷ []))) 0) (map (λ (o : Output). o.1) a.ordered))) start
            ∙ ap (λ o. limited o (map (λ (o : Output). o.1) a.ordered)) limit_is ∙ ap (limited n) images
            ∙ map_limited show n z.0;
      }

-- one table
pub kept_rows : {Y : Type 0} (test p : Row → Bool) (env : Row → Y) (rows : List Row) → ((r : Row) → test r ≡ p r)
    → flat_map (λ r. cond (test r) (env r ∷ []) []) rows ≡ map env (filter p rows)
kept_rows test p env [] is = refl
kept_rows test p env (r ∷ rows) is = rw (is r) (go (p r) (kept_rows test p env rows is))
  where
    go : (b : Bool) → flat_map (λ r. cond (test r) (env r ∷ []) []) rows ≡ map env (filter p rows)
        → cond b (env r ∷ []) [] ++ flat_map (λ r. cond (test r) (env r ∷ []) []) rows
        ≡ map env (cond b (r ∷ filter p rows) (filter p rows))
    go true e = ap (λ l. env r ∷ l) e
    go false e = e

-- what a SELECT of one table shows
module _ (schema : Schema) (sql : List ℕ) (tree : ℕ) (terms project order : List Term) (limit : Term)
    (names : List (List ℕ)) (asks : Asks schema sql (rows_of tree terms project order limit) names)
    (p : Row → Bool) (params : Row) (test : (r : Row) → list_all (holds (params ∷ r ∷ [])) terms ≡ p r) where
  abbrev q : Query
  q = rows_of tree terms project order limit

  abbrev env : Row → Env
  env r = params ∷ r ∷ []

  pub shows : (cmp : Row → Row → Ordering) (show : Row → Row) (n : Option ℕ)
      → ((a b : Row) → output_cmp q (output q (env a)) (output q (env b)) ≡ cmp a b)
      → ((r : Row) → eval_all project (env r) ≡ show r)
      → as_count (eval limit (params ∷ [])) ≡ n → (old new : State) → old.now.schema ≡ schema
      → overlay old.now.trees [] tree ≡ old.now.trees tree
      → {X : Type 0} (items : X → List Row) (result : Result X Error)
      → IfOk result (λ v. ShownAs sql params old new (items v))
      → IfOk result (λ v. AreInOrder cmp n show (filter p (old.now.trees tree)) (items v))
  shows cmp show n cmp_is show_is limit_is old new has real items (Err e) h = tt
  shows cmp show n cmp_is show_is limit_is old new has real items (Ok v) h =
      in_order q refl refl refl params env (filter p (old.now.trees tree)) (overlay old.now.trees [])
      (kept_rows (λ x. list_all (holds (env x)) terms) p env (overlay old.now.trees [] tree) test
      ∙ ap (λ l. map env (filter p l)) real)
      cmp show n cmp_is show_is limit_is (items v)
      ((reads_as sql params old new schema has _ asks.0.0 asks.0.1 asks.1 (items v) h).answer Null)

pub whole_table : {Y : Type 0} (env : Row → Y) (rows : List Row) → flat_map (λ (x : Row). env x ∷ []) rows ≡ map env rows
whole_table env [] = refl
whole_table env (x ∷ rows) = ap (λ l. env x ∷ l) (whole_table env rows)

-- what a SELECT of a whole table shows, in any order
module _ (schema : Schema) (sql : List ℕ) (tree : ℕ) (query : Query) (names : List (List ℕ))
    (asks : Asks schema sql query names)
    (of : query.from ≡ inner tree end) (unfiltered : query.filter ≡ []) (ungrouped : query.group ≡ None)
    (whole : query.distinct ≡ false) (start : query.offset ≡ lit (Int (pos 0))) (params : Row) where
  abbrev row_env : Row → Env
  row_env r = params ∷ r ∷ []

  pub shows_all : (cmp : Row → Row → Ordering) (show : Row → Row) (n : Option ℕ)
      → ((a b : Row) → output_cmp query (output query (row_env a)) (output query (row_env b)) ≡ cmp a b)
      → ((r : Row) → eval_all query.project (row_env r) ≡ show r)
      → as_count (eval query.limit (params ∷ [])) ≡ n → (old new : State) → old.now.schema ≡ schema
      → overlay old.now.trees [] tree ≡ old.now.trees tree
      → {X : Type 0} (items : X → List Row) (result : Result X Error)
      → IfOk result (λ v. ShownAs sql params old new (items v))
      → IfOk result (λ v. AreInOrder cmp n show (old.now.trees tree) (items v))
  shows_all cmp show n cmp_is show_is limit_is old new has real items (Err e) h = tt
  shows_all cmp show n cmp_is show_is limit_is old new has real items (Ok v) h =
      let trees = overlay old.now.trees [] in
      let matched : matches trees query.filter query.from (params ∷ []) ≡ map row_env (old.now.trees tree) =
      ap₂ (λ f o. matches trees f o (params ∷ [])) unfiltered of ∙ whole_table row_env (trees tree)
      ∙ ap (map row_env) real in
      in_order query ungrouped whole start params row_env (old.now.trees tree) trees matched
      cmp show n cmp_is show_is limit_is (items v)
      ((reads_as sql params old new schema has _ asks.0.0 asks.0.1 asks.1 (items v) h).answer Null)
