-- What is tested of tables that are found.
use Rattle.std.proofs.Common.{◌≡◌, ℕ, pos, List, [], ◌∷◌, map, length, Bool, None, Result, Ok, Err, IfOk, Ordering}
use Rattle.std.proofs.Common.{IsPermutation, sym, ap, subst, ◌∙◌, ◌≤◌, inl, inr, arith, slice_index_or}
use Rattle.std.specs.Prelude.{IsTrue, IsOkAnd}
use Rattle.std.proofs.lemmas.List.Sorted.{length_permutation}
use lib.ListN.{length-map}
use Rattle.sqlite.specs.declared.types.Value.TheVariants.{Int, Text}
use Rattle.sqlite.specs.Effect.{Database}
use Rattle.sqlite.specs.Start.{FindsIn}
use Rattle.sqlite.specs.State.{State, HasCleanDisk, IsLive, Opens}
use Rattle.sqlite_catalog.specs.Listing.{IsSound}
use Rattle.sqlite_schema.specs.declared.schema.Schema.{Schema}
use Rattle.sqlite_trees.specs.View.{doubt}
use Rattle.sqlite_value.specs.Order.{Row, column}
use Rattle.sqlite_wal.specs.Recovery.{Image}
use Rattle.keep.specs.Tables.{Tables}
use Rattle.sql_rows.specs.Schema.{name_of}
use Rattle.sql_rows.specs.Tables.{AreInOrder}
use Rattle.sql_rows.specs.declared.service.Service.{Service}
use Rattle.sql_rows.proofs.Counting.{one_alone}
use Rattle.keep_sqlite.specs.Filing.{Filing}
use Rattle.keep_sqlite.specs.Found.{TellsVersion, IsTakenOver, IsFoundIn}

abbrev shown : Row → Row
shown x = column x 2 ∷ column x 3 ∷ []

module _ (number : ℕ) (service : Service) (r : Row) (version : column r 0 ≡ Int (pos number))
    (name : column r 1 ≡ Text (name_of service)) (items all : List Row) (is : items ≡ map shown all)
    (one : length items ≡ 1) (at : r ≡ slice_index_or items 0 r) where
  there : length all ≡ 1
  there = sym (length-map all shown) ∙ sym (ap length is) ∙ one

  tells : (rows : List Row) → IsPermutation rows all → TellsVersion number service rows
  tells [] same = absurd (let e = length_permutation [] all same in omega (arith, e, there))
  tells (x ∷ []) same =
      let first : r ≡ shown x = at ∙ ap (λ l. slice_index_or l 0 r) (is ∙ ap (map shown) (one_alone x all same)) in
      record {
        version_is = sym (ap (λ y. column y 0) first) ∙ version;
        name = sym (ap (λ y. column y 1) first) ∙ name;
      }
  tells (x ∷ y ∷ rows) same =
      absurd (let e = length_permutation (x ∷ y ∷ rows) all same in omega (arith, e, there))

-- the one row of an answer tells what the one row of the table does
pub tells_of_table : (cmp : Row → Row → Ordering) (number : ℕ) (service : Service) (rows items : List Row)
    → AreInOrder cmp None shown rows items → length items ≡ 1 → (r : Row) → r ≡ slice_index_or items 0 r
    → {E : Type 0} (result : Result Bool E)
    → IfOk result (λ t. IsTrue t → (column r 0 ≡ Int (pos number)) × (column r 1 ≡ Text (name_of service)))
    → IfOk result (λ t. IsTrue t → TellsVersion number service rows)
tells_of_table cmp number service rows items a one r at (Ok t) h = λ so.
    let cells = h so in tells number service r cells.0 cells.1 items a.all a.shown one at rows a.same
tells_of_table cmp number service rows items a one r at (Err e) h = tt

-- no doubt is forgotten of the connection that was opened
pub opened_clean : {K E X F : Type 0} (of : K → ℕ) (state_of : X → State) (x : X) (opened : Result X F)
    → opened ≡ Ok x → (result : Result K E) → IfOk result (λ k. doubt (state_of x).is_clean ≤ of k)
    → IfOk result (λ k. IsOkAnd opened (λ y. doubt (state_of y).is_clean ≤ of k))
opened_clean of state_of x opened is result h =
    subst (λ o. IfOk result (λ k. IsOkAnd o (λ y. doubt (state_of y).is_clean ≤ of k))) (sym is) h

-- what is taken over of files that were opened is what they held
module _ {S C K E : Type 0} (f : Filing S C) (of : K → ℕ) (tables : K → Tables S C) where
  found_in : (image : Image) (s : State) (result : Result K E) → IfOk result (λ k. doubt s.is_clean ≤ of k)
      → IfOk result (λ k. of k ≡ 0 → IsTakenOver f s (tables k)) → (HasCleanDisk s → Opens s × IsLive s)
      → (HasCleanDisk s → FindsIn image s) → IfOk result (λ k. of k ≡ 0 → IsFoundIn f image (tables k))
  found_in image s (Ok k) early taken opened found = λ none.
      let clean : HasCleanDisk s = omega (arith, early, none) in
      let it = opened clean in
      let held = found clean in
      let sound = (it.1 it.0.is_open).1 in
      record {
        db = s.committed.trees;
        holds = held.holds;
        reads = held.reads;
        tables = elim (taken none) [
          | inl own ↦ inl own
          | inr new ↦ inr (
            subst (λ (x : Schema). IsSound x s.committed.trees)
                (sym (ap (λ (d : Database). d.schema) it.0.clean) ∙ new.0) sound,
            new.1,
          )
        ];
      }
  found_in image s (Err e) early taken opened found = tt

  -- the same, where they were to be opened
  pub found_opened : {X F : Type 0} (image : Image) (state_of : X → State) (opened : Result X F) (result : Result K E)
      → IfOk result (λ k. IsOkAnd opened (λ x. doubt (state_of x).is_clean ≤ of k))
      → IfOk result (λ k. IsOkAnd opened (λ x. of k ≡ 0 → IsTakenOver f (state_of x) (tables k)))
      → IfOk opened (λ x. HasCleanDisk (state_of x) → Opens (state_of x) × IsLive (state_of x))
      → IfOk opened (λ x. HasCleanDisk (state_of x) → FindsIn image (state_of x))
      → IfOk result (λ k. of k ≡ 0 → IsFoundIn f image (tables k))
  found_opened image state_of (Ok x) result early taken opens found = found_in image (state_of x) result early taken opens found
  found_opened image state_of (Err e) (Ok k) early taken opens found = absurd early
  found_opened image state_of (Err e) (Err d) early taken opens found = tt

  -- what holds of the connection that was opened
  pub opened_taken : {X F : Type 0} (state_of : X → State) (x : X) (opened : Result X F) → opened ≡ Ok x
      → (result : Result K E) → IfOk result (λ k. of k ≡ 0 → IsTakenOver f (state_of x) (tables k))
      → IfOk result (λ k. IsOkAnd opened (λ y. of k ≡ 0 → IsTakenOver f (state_of y) (tables k)))
  opened_taken state_of x opened is result h =
      subst (λ o. IfOk result (λ k. IsOkAnd o (λ y. of k ≡ 0 → IsTakenOver f (state_of y) (tables k)))) (sym is) h
