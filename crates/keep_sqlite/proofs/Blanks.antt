-- Files that hold nothing yet are found with empty tables.
use Rattle.std.proofs.Common.{◌≡◌, ℕ, ◌^◌, ◌<◌, ◌≤◌, true, false, List, [], length, take, slice_index, Option, Some, Result, Ok, Err, IfOk}
use Rattle.std.proofs.Common.{unwrap_or, get_or-take, sym, ap, subst, ◌∙◌, inl, inr, arith}
use Rattle.std.proofs.lemmas.List.{length-take}
use Rattle.std.proofs.Math.Logic.{∥∥₁_elim}
use Rattle.sqlite.specs.Files.{IsNothing, IsEmpty, AreFoundIn}
use Rattle.sqlite_pages.specs.PageMap.{PageMap}
use Rattle.sqlite_pool.proofs.ProbeLemmas.{first_byte}
use Rattle.sqlite_pool.specs.File.{header_in, IsSoundFile}
use Rattle.sqlite_pool.specs.Header.{first_page}
use Rattle.sqlite_pool.specs.Stored.{stored_size, used_size, sealed, Adopts}
use Rattle.sqlite_pool.specs.StoredLaws.{trimmed_some}
use Rattle.sqlite_trees.specs.Tree.{Trees}
use Rattle.sqlite_value.specs.Order.{Row}
use Rattle.sqlite_wal.proofs.AppendLemmas.{some_value}
use Rattle.sqlite_wal.proofs.CreateLemmas.{begun_is_not_blank}
use Rattle.sqlite_wal.specs.Recovery.{Image}
use Rattle.keep.specs.Tables.{Tables, empty}
use Rattle.sql_rows.specs.Schema.{about_tree}
use Rattle.sql_rows.specs.declared.service.Service.{Service}
use Rattle.sql_rows.specs.declared.service.Service.TheVariants.{Purchasing, Warehouse, Billing}
use Rattle.keep_sqlite.specs.Filing.{Filing}
use Rattle.keep_sqlite.specs.Found.{TellsOf, AreIn, IsFoundIn}

module _ (size : ℕ) (image : Image) (pages : PageMap) (found : Adopts size image pages)
    (sound : IsSoundFile size pages) where
  -- The first byte of a database is that of its magic. Files that hold nothing have none, or another one there: an opening
  -- that makes a first page writes this byte last.
  has_a_first_byte : IsNothing image → ⊥
  has_a_first_byte nothing =
      let (page, is) = some_value (found.stored 1) found.whole.first in
      let used : pages 1 ≡ Some (take size page) =
      ap (λ (p : PageMap). p 1) (sym found.shows) ∙ trimmed_some size _ 1 page is in
      let head : header_in pages ≡ take 100 (take size page) =
      ap (λ (o : Option (List ℕ)). take 100 (unwrap_or o [])) used in
      let magic = sound.header.0.magic in
      let long : length (take 16 (take 100 (take size page))) ≡ 16 =
      ap (λ (h : List ℕ). length (take 16 h)) (sym head) ∙ ap length magic in
      let large : 16 ≤ size =
      let sixteen = length-take 16 (take 100 (take size page)) in
      let hundred = length-take 100 (take size page) in
      let all = length-take size page in
      omega (arith, long, sixteen, hundred, all) in
      let begins : slice_index page 0 ≡ 83 =
      sym (get_or-take size page 0 0 (omega (arith, large))) ∙ sym (get_or-take 100 (take size page) 0 0 (omega arith))
      ∙ ap (λ (h : List ℕ). slice_index h 0) (sym head) ∙ sym (get_or-take 16 (header_in pages) 0 0 (omega arith))
      ∙ ap (λ (h : List ℕ). slice_index h 0) magic in
      let never = λ (other : ℕ) (some : 0 < other). let gate = first_byte other some in
      begun_is_not_blank (sealed (first_page other)) page (stored_size size) image found.stored found.found is
      (found.whole.sized 1 page is) (omega (arith, large)) (begins ∙ sym gate)
      (λ none. let no = sym gate ∙ none in omega (arith, no)) in
      elim nothing [
        | inl plain ↦ never (used_size 4096 false) (omega arith) plain
        | inr summed ↦ never (used_size 4096 true) (omega arith) summed
      ]

-- such files are read as an empty database
nothing_is_empty : (image : Image) (db : Trees) → IsNothing image → AreFoundIn image db → IsEmpty db
nothing_is_empty image db nothing (inl (size, pages, wanted, found, ours, is)) =
    absurd (∥∥₁_elim ours (λ a b. absurd a) (λ it. has_a_first_byte size image pages found it.file.sound nothing))
nothing_is_empty image db nothing (inr empty) = empty.1

no_row_tells : (service : Service) (rows : List Row) → rows ≡ [] → TellsOf service rows → ⊥
no_row_tells service rows none tells = subst (TellsOf service) none tells

about_is_low : (service : Service) → about_tree service < 2 ^ 32
about_is_low Purchasing = omega arith
about_is_low Warehouse = omega arith
about_is_low Billing = omega arith

module _ {S C : Type 0} (f : Filing S C) where
  empty_tables : (db : Trees) (t : Tables S C) → IsEmpty db → AreIn f db t → t ≡ empty
  empty_tables db t none (inl own) =
      let service = f.is_service.service in
      absurd (no_row_tells service (db (about_tree service)) (none.0 (about_tree service) (about_is_low service)) own.2)
  empty_tables db t none (inr new) = new.1

  -- what files that held nothing are found to hold
  pub nothing_found : (image : Image) (t : Tables S C) → IsNothing image → IsFoundIn f image t → t ≡ empty
  nothing_found image t nothing found =
      empty_tables found.db t (nothing_is_empty image found.db nothing found.reads) found.tables

  -- the same of a store that was opened over them
  pub new_found : {K E : Type 0} (of : K → ℕ) (tables : K → Tables S C) (image : Image) (result : Result K E)
      → IfOk result (λ k. of k ≡ 0 → IsFoundIn f image (tables k))
      → IfOk result (λ k. of k ≡ 0 → IsNothing image → tables k ≡ empty)
  new_found of tables image (Ok k) found = λ none nothing. nothing_found image (tables k) nothing (found none)
  new_found of tables image (Err e) found = tt
