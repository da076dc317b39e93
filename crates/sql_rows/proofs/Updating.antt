-- Rows taken out of a table and put back as others, under the same rowids.
use Rattle.std.proofs.Common.{◌≡◌, ◌⊎◌, inl, inr, ℤ, List, [], ◌∷◌, map, filter, Bool, true, false, true≢false, not, cond}
use Rattle.std.proofs.Common.{refl, sym, ap, ap₂, subst, ◌∙◌, arith, Ordering, Less, Equal, Greater, IsPermutation}
use Rattle.std.proofs.lemmas.List.Sorted.{length_permutation}
use Rattle.std.specs.Prelude.{IsTrue}
use Rattle.std.specs.List.{AllByRecursion}
use Rattle.std.specs.Ordering.{is_eq, ordering_reverse}
use Rattle.std.specs.Cmp.{tied_itself}
use Rattle.sqlite.specs.declared.types.Value.TheVariants.{Int}
use Rattle.sqlite_value.specs.Order.{Row, value_cmp}
use Rattle.sqlite_value.proofs.OrderLemmas.{value_cmp_total}
use Rattle.sqlite_trees.specs.Tree.{rowid, has_rowid, without_rowid, put_row, IsTable}
use Rattle.sqlite_trees.specs.View.{is_int}
use Rattle.sqlite_rules.specs.Edit.{id_in, without_all, put_all}
use Rattle.sqlite_rules.specs.Calls.{ids_of}
use Rattle.sqlite_rules.proofs.TableLemmas.{int_is}
use Rattle.sqlite_keyed.proofs.ListLemmas.{all-filter, all_map, all_weaker, ascending-map, ascending_weaker}
use Rattle.sqlite_keyed.proofs.ListLemmas.{filter_none}
use Rattle.sql_rows.specs.Tables.{IsRising}
use Rattle.sql_rows.proofs.Counting.{one_alone}

-- the rows stand behind that row
abbrev Behind : Row → Row → Type 0
Behind x r = value_cmp (rowid x) (rowid r) ≡ Less

abbrev Above : Row → List Row → Type 0
Above x rows = AllByRecursion (Behind x) rows

abbrev HasInt : Row → Type 0
HasInt r = IsTrue (is_int (rowid r))

turned : (a b : Row) → value_cmp (rowid a) (rowid b) ≡ Less → value_cmp (rowid b) (rowid a) ≡ Greater
turned a b less = value_cmp_total.antisymm (rowid b) (rowid a) ∙ ap ordering_reverse less

above_left : (x : Row) (ids : List ℤ) (rows : List Row) → Above x rows → Above x (without_all rows ids)
above_left x [] rows h = h
above_left x (id ∷ ids) rows h =
    above_left x ids (without_rowid id rows) (all-filter (Behind x) (λ r. not (has_rowid id r)) rows h)

put_first : (new : Row) (rows : List Row) → Above new rows → put_row new rows ≡ new ∷ rows
put_first new [] h = refl
put_first new (r ∷ rows) h = rw (turned new r h.0) refl

put_second : (new x : Row) (rows : List Row) → value_cmp (rowid x) (rowid new) ≡ Less
    → put_row new (x ∷ rows) ≡ x ∷ put_row new rows
put_second new x rows less = rw less refl

drop_later : (id : ℤ) (x : Row) (rows : List Row) → has_rowid id x ≡ false
    → without_rowid id (x ∷ rows) ≡ x ∷ without_rowid id rows
drop_later id x rows other = rw other refl

left_behind : (x : Row) (ids : List ℤ) (rows : List Row) → AllByRecursion (λ id. has_rowid id x ≡ false) ids
    → without_all (x ∷ rows) ids ≡ x ∷ without_all rows ids
left_behind x [] rows other = refl
left_behind x (id ∷ ids) rows other = ap (λ l. without_all l ids) (drop_later id x rows other.0)
    ∙ left_behind x ids (without_rowid id rows) other.1

none_dropped : (id : ℤ) (rows : List Row) → AllByRecursion (λ r. has_rowid id r ≡ false) rows
    → without_rowid id rows ≡ rows
none_dropped id [] other = refl
none_dropped id (r ∷ rows) other = drop_later id r rows other.0 ∙ ap (λ l. r ∷ l) (none_dropped id rows other.1)

drop_first : (id : ℤ) (x : Row) (rows : List Row) → has_rowid id x ≡ true
    → AllByRecursion (λ r. has_rowid id r ≡ false) rows → without_rowid id (x ∷ rows) ≡ rows
drop_first id x rows own other = rw own (none_dropped id rows other)

-- a rowid that is an integer is that of its own row, and of none behind it
abbrev id_of : Row → ℤ
id_of r = id_in (rowid r)

own_id : (x : Row) → is_int (rowid x) ≡ true → has_rowid (id_of x) x ≡ true
own_id x int = ap (λ v. is_eq (value_cmp (rowid x) v)) (sym (int_is (rowid x) int))
    ∙ ap is_eq (tied_itself value_cmp_total (rowid x))

apart_before : (x r : Row) → is_int (rowid r) ≡ true → value_cmp (rowid x) (rowid r) ≡ Less
    → has_rowid (id_of r) x ≡ false
apart_before x r int less = ap (λ v. is_eq (value_cmp (rowid x) v)) (sym (int_is (rowid r) int)) ∙ ap is_eq less

apart_behind : (x r : Row) → is_int (rowid x) ≡ true → value_cmp (rowid x) (rowid r) ≡ Less
    → has_rowid (id_of x) r ≡ false
apart_behind x r int less = ap (λ v. is_eq (value_cmp (rowid r) v)) (sym (int_is (rowid x) int))
    ∙ ap is_eq (turned x r less)

ids_apart : (x : Row) (rows : List Row) → AllByRecursion HasInt rows → Above x rows
    → AllByRecursion (λ id. has_rowid id x ≡ false) (ids_of rows)
ids_apart x [] ints h = tt
ids_apart x (r ∷ rows) ints h = (apart_before x r ints.0 h.0, ids_apart x rows ints.1 h.1)

rows_apart : (x : Row) (rows : List Row) → is_int (rowid x) ≡ true → Above x rows
    → AllByRecursion (λ r. has_rowid (id_of x) r ≡ false) rows
rows_apart x [] int h = tt
rows_apart x (r ∷ rows) int h = (apart_behind x r int h.0, rows_apart x rows int h.1)

pub each_same : {X Y : Type 0} (f g : X → Y) (xs : List X) → AllByRecursion (λ x. f x ≡ g x) xs → map f xs ≡ map g xs
each_same f g [] h = refl
each_same f g (x ∷ xs) h = ap₂ ◌∷◌ h.0 (each_same f g xs h.1)

-- the rows that pass are put back as others
module _ (p : Row → Bool) (f : Row → Row) (keeps : (r : Row) → rowid (f r) ≡ rowid r) where
  abbrev pub changed : Row → Row
  changed r = cond (p r) (f r) r

  put_behind : (x : Row) (rows found : List Row) → Above x found
      → put_all (x ∷ rows) (map f found) ≡ x ∷ put_all rows (map f found)
  put_behind x rows [] h = refl
  put_behind x rows (r ∷ found) h =
      let less : value_cmp (rowid x) (rowid (f r)) ≡ Less = ap (value_cmp (rowid x)) (keeps r) ∙ h.0 in
      ap (λ l. put_all l (map f found)) (put_second (f r) x rows less) ∙ put_behind x (put_row (f r) rows) found h.1

  above_changed : (x : Row) (rows : List Row) → Above x rows → Above (f x) rows
  above_changed x rows h = subst (λ v. AllByRecursion (λ r. value_cmp v (rowid r) ≡ Less) rows) (sym (keeps x)) h

  abbrev put_again : List Row → List Row → List Row
  put_again rows found = put_all (without_all rows (ids_of found)) (map f found)

  pub put_back : (rows : List Row) → IsTable rows → AllByRecursion HasInt rows
      → put_again rows (filter p rows) ≡ map changed rows
  put_back [] up ints = refl
  put_back (x ∷ rows) up ints = go (p x) refl (put_back rows up.1 ints.1)
    where
      go : (b : Bool) → p x ≡ b → put_again rows (filter p rows) ≡ map changed rows
          → put_again (x ∷ rows) (filter p (x ∷ rows)) ≡ map changed (x ∷ rows)
      go true is later =
          let found = filter p rows in
          let left = without_all rows (ids_of found) in
          rw is (ap (λ l. put_all (put_row (f x) (without_all l (ids_of found))) (map f found))
          (drop_first (id_of x) x rows (own_id x ints.0) (rows_apart x rows ints.0 up.0))
          ∙ ap (λ l. put_all l (map f found))
          (put_first (f x) left (above_changed x left (above_left x (ids_of found) rows up.0)))
          ∙ put_behind (f x) left found (above_changed x found (all-filter (Behind x) p rows up.0))
          ∙ ap (λ l. f x ∷ l) later)
      go false is later =
          let found = filter p rows in
          let left = without_all rows (ids_of found) in
          rw is (ap (λ l. put_all l (map f found))
          (left_behind x (ids_of found) rows
          (ids_apart x found (all-filter HasInt p rows ints.1) (all-filter (Behind x) p rows up.0)))
          ∙ put_behind x left found (all-filter (Behind x) p rows up.0)
          ∙ ap (λ l. x ∷ l) later)

  changed_keeps : (r : Row) → rowid (changed r) ≡ rowid r
  changed_keeps r = go (p r)
    where
      go : (b : Bool) → rowid (cond b (f r) r) ≡ rowid r
      go true = keeps r
      go false = refl

  pub changed_rising : (rows : List Row) → IsRising rows → IsRising (map changed rows)
  changed_rising rows rising = record {
    numbered = all_map HasInt changed rows
        (all_weaker HasInt (λ r. HasInt (changed r)) (λ r int. ap is_int (changed_keeps r) ∙ int) rows rising.numbered);
    ordered = ascending-map Behind changed rows
        (ascending_weaker Behind (λ a b. Behind (changed a) (changed b))
        (λ a b less. ap₂ value_cmp (changed_keeps a) (changed_keeps b) ∙ less) rows rising.ordered);
  }

-- ---- at most one row has a rowid

equal_is : (o : Ordering) → is_eq o ≡ true → o ≡ Equal
equal_is Less h = absurd (true≢false (sym h))
equal_is Equal h = refl
equal_is Greater h = absurd (true≢false (sym h))

none_behind : (id : ℤ) (x : Row) (rows : List Row) → has_rowid id x ≡ true → Above x rows
    → AllByRecursion (λ r. has_rowid id r ≡ false) rows
none_behind id x [] own h = tt
none_behind id x (r ∷ rows) own h =
    let less : value_cmp (Int id) (rowid r) ≡ Less = sym (value_cmp_total.congr (rowid x) (Int id) (rowid r)
    (equal_is _ own)) ∙ h.0 in (
      ap is_eq (value_cmp_total.antisymm (rowid r) (Int id) ∙ ap ordering_reverse less),
      none_behind id x rows own h.1,
    )

abbrev AtMostOne : List Row → Type 0
AtMostOne found = (found ≡ []) ⊎ ((x : Row) × (found ≡ x ∷ []))

one_at : (id : ℤ) (rows : List Row) → IsTable rows → AtMostOne (filter (has_rowid id) rows)
one_at id [] up = inl refl
one_at id (x ∷ rows) up = go (has_rowid id x) refl (one_at id rows up.1)
  where
    go : (b : Bool) → has_rowid id x ≡ b → AtMostOne (filter (has_rowid id) rows)
        → AtMostOne (filter (has_rowid id) (x ∷ rows))
    go true is later =
        inr (x, rw is (ap (λ l. x ∷ l) (filter_none (has_rowid id) rows (none_behind id x rows is up.0))))
    go false is later = rw is later

-- so they stand in one order
pub alone_at : (id : ℤ) (rows found : List Row) → IsTable rows → IsPermutation (filter (has_rowid id) rows) found
    → found ≡ filter (has_rowid id) rows
alone_at id rows found up h = elim (one_at id rows up) [
  | inl none ↦ nothing found (subst (λ l. IsPermutation l found) none h) ∙ sym none
  | inr one ↦ one_alone one.0 found (subst (λ l. IsPermutation l found) one.1 h) ∙ sym one.1
]
  where
    nothing : (l : List Row) → IsPermutation [] l → l ≡ []
    nothing [] h = refl
    nothing (x ∷ l) h = let n = length_permutation [] (x ∷ l) h in absurd (omega (arith, n))
