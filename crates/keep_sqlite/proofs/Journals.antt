-- What an answer tells of the journal.
use Rattle.std.proofs.Common.{◌≡◌, ◌≢◌, ◌≤◌, ◌<◌, ℕ, ◌+◌, ◌-◌, min, pos, List, [], ◌∷◌, map, filter, take, drop}
use Rattle.std.proofs.Common.{length, get_or, ◌++◌, true, false}
use Rattle.std.proofs.Common.{Option, Some, None, MatchOption, Result, Ok, Err, IfOk, ℤ, refl, sym, ap, ap₂}
use Rattle.std.proofs.Common.{◌∙◌, Less, Equal, suc, arith, inl, inr}
use Rattle.std.specs.List.{take-map, drop-map}
use Rattle.std.specs.Ordering.{ordering_then, is_ge, int_cmp}
use Rattle.std.proofs.lemmas.Bool.{cases_Bool}
use Rattle.std.proofs.lemmas.Bool.Decides.{nat_tests}
use Rattle.std.proofs.lemmas.Int.{ints}
use Rattle.std.proofs.lemmas.List.{take_all, drop_all, take_more, length-drop, length-map}
use Rattle.std.specs.Prelude.{nat_le, unwrap_or}
use Rattle.sqlite.specs.declared.types.Value.{Value}
use Rattle.sqlite.specs.declared.types.Value.TheVariants.{Null, Int, Text}
use Rattle.sqlite_value.specs.Order.{Row, value_cmp}
use Rattle.sqlite_value.proofs.OrderLemmas.{value_cmp-Int}
use Rattle.sqlite_trees.specs.Tree.{rowid, IsAscending}
use Rattle.sqlite_sql.specs.Query.{as_count}
use Rattle.sqlite_sql.proofs.QueryLemmas.{key_cmp_total}
use Rattle.sqlite_keyed.proofs.ListLemmas.{ascending-filter, ascending_weaker}
use Rattle.sqlite_keyed.proofs.SortLemmas.{sorted_unique}
use Rattle.activities.specs.declared.input.JournalRow.{JournalRow}
use Rattle.sql_rows.specs.Tables.{IsRising, AreInOrder, by_position, is_from, shown_entry, up}
use Rattle.keep_sqlite.specs.Filing.{Filing}
use Rattle.keep_sqlite.specs.Tables.{number_at, text_at, entity_in, input_of, row_of, row_in, shown_row}
use Rattle.base.specs.Entity.{Entity, order_of}
use Rattle.envelope.specs.Reading.{read_entity}
use Rattle.activities.specs.declared.input.Input.{Input}
use Rattle.keep_sqlite.specs.Ready.{AreNumbered}
use Rattle.keep_sqlite.proofs.Changes.{map_behind}

-- ---- values that may be NULL

pub number_is : (v : Value) (o : Option ℕ) → MatchOption o (v ≡ Null) (λ n. (v ≢ Null) × (v ≡ Int (pos n)))
    → number_at v ≡ o
number_is v None is = ap number_at is
number_is v (Some n) is = ap number_at is.1

pub text_is : {X : Type 0} (text : X → List ℕ) (v : Value) (o : Option X)
    → MatchOption o (v ≡ Null) (λ s. (v ≢ Null) × (v ≡ Text (text s)))
    → text_at v ≡ Rattle.std.specs.Option.option_map text o
text_is text v None is = ap text_at is
text_is text v (Some s) is = ap text_at is.1

-- ---- the rows from a position on

ge_is : (m n : ℕ) → is_ge (int_cmp (pos m) (pos n)) ≡ nat_le n m
ge_is m n = grind (arith, ints, nat_tests)

passes : (r : Row) (m n : ℕ) → rowid r ≡ Int (pos m) → is_from (pos n) r ≡ nat_le n m
passes r m n is = ap (λ v. is_ge (value_cmp v (Int (pos n)))) is ∙ ap is_ge (value_cmp-Int (pos m) (pos n)) ∙ ge_is m n

all_from : (n m : ℕ) (rows : List Row) → n ≤ m → AreNumbered m rows → filter (is_from (pos n)) rows ≡ rows
all_from n m [] low h = refl
all_from n m (r ∷ rows) low h =
    let here : is_from (pos n) r ≡ true = passes r m n h.0 ∙ grind (arith, nat_tests) in
    rw here (ap (λ l. r ∷ l) (all_from n (m + 1) rows (omega (arith, low)) h.1))

from_on : (n m : ℕ) (rows : List Row) → AreNumbered m rows → filter (is_from (pos n)) rows ≡ drop (n - m) rows
from_on n m [] h = sym (Rattle.std.proofs.Math.Seq.drop-nil (n - m))
from_on n m (r ∷ rows) h = elim (cases_Bool (nat_le n m)) [
  | inl low ↦
      let le : n ≤ m = (let e = low in grind (arith, nat_tests)) in
      all_from n m (r ∷ rows) le h ∙ ap (λ k. drop k (r ∷ rows)) (sym (none_left le))
  | inr high ↦
      let here : is_from (pos n) r ≡ false = passes r m n h.0 ∙ high in
      let lt : m < n = (let e = high in grind (arith, nat_tests)) in
      rw here (from_on n (m + 1) rows h.1) ∙ ap (λ k. drop k (r ∷ rows)) (sym (one_less lt))
]
  where
    none_left : n ≤ m → n - m ≡ 0
    none_left le = omega (arith, le)

    one_less : m < n → n - m ≡ suc (n - (m + 1))
    one_less lt = omega (arith, lt)

-- a limit that is no lower than the count takes all, as a lower one does
pub limited_by_count : {X : Type 0} (count limit : ℕ) (xs : List X) → length xs ≤ count
    → take (min count limit) xs ≡ take limit xs
limited_by_count count limit xs few = elim (cases_Bool (nat_le limit count)) [
  | inl low ↦ ap (λ k. take k xs) (let e = low in let z : min count limit ≡ limit = grind (arith, nat_tests) in z)
  | inr high ↦
      ap (λ k. take k xs) (let e = high in let z : min count limit ≡ count = grind (arith, nat_tests) in z)
      ∙ take_all count xs few
      ∙ sym (take_all limit xs (let e = high in let z : count ≤ limit = grind (arith, nat_tests) in
      omega (arith, z, few)))
]

-- a position behind the last is as the one right behind it
pub from_by_count : {X : Type 0} (count from top : ℕ) (xs : List X) → length xs ≤ count → from ≤ top
    → drop (min from (min (count + 1) top) - 1) xs ≡ drop (from - 1) xs
from_by_count count from top xs few small = elim (cases_Bool (nat_le from (count + 1))) [
  | inl low ↦
      let e = low in
      let le : from ≤ count + 1 = grind (arith, nat_tests) in
      ap (λ k. drop (k - 1) xs) (omega (arith, le, small))
  | inr high ↦
      let e = high in
      let lt : count + 1 < from = grind (arith, nat_tests) in
      drop_all (min from (min (count + 1) top) - 1) xs (omega (arith, lt, small, few))
      ∙ sym (drop_all (from - 1) xs (omega (arith, lt, few)))
]

-- an answer shows the rows from a position on, so many of them
pub shows_from : (rows : List Row) (numbered : AreNumbered 1 rows) (rising : IsRising rows) (from most : ℕ)
    (items : List Row) → AreInOrder by_position (Some most) shown_entry (filter (is_from (pos from)) rows) items
    → items ≡ map shown_entry (take most (drop (from - 1) rows))
shows_from rows numbered rising from most items a =
    let rises : IsAscending (λ x y. by_position x y ≡ Less) rows =
    ascending_weaker _ _ (λ x y less. ap (λ o. ordering_then o Equal) less) rows rising.ordered in
    let all : a.all ≡ drop (from - 1) rows =
    sorted_unique by_position (key_cmp_total (up ∷ []) 0) (filter (is_from (pos from)) rows) a.all
    (ascending-filter _ (is_from (pos from)) rows rises) a.same a.sorted
    ∙ from_on from 1 rows numbered in
    a.shown ∙ ap (λ l. map shown_entry (take most l)) all

module _ {S C : Type 0} (f : Filing S C) (rows : List Row) (numbered : AreNumbered 1 rows) (rising : IsRising rows)
    (from : ℕ) where
  pub journal_is : (most : ℕ) (items : List Row)
      → AreInOrder by_position (Some most) shown_entry (filter (is_from (pos from)) rows) items
      → map (shown_row f) items ≡ take most (drop (from - 1) (map (row_in f) rows))
  journal_is most items a =
      ap (map (shown_row f)) (shows_from rows numbered rising from most items a)
      ∙ shown (take most (drop (from - 1) rows)) ∙ sym (take-map (row_in f) most (drop (from - 1) rows))
      ∙ ap (take most) (sym (drop-map (row_in f) (from - 1) rows))
    where
      shown : (xs : List Row) → map (shown_row f) (map shown_entry xs) ≡ map (row_in f) xs
      shown [] = refl
      shown (x ∷ xs) = ap (λ l. row_in f x ∷ l) (shown xs)

-- one more is read
pub one_more_read : {X Y : Type 0} (g : X → Y) (xs : List X) (at : ℕ) (x : X) (ys : List Y) (y : Y)
    → at < length xs → x ≡ get_or xs at x
    → ys ≡ map g (take at xs) → y ≡ g x → ys ++ y ∷ [] ≡ map g (take (at + 1) xs)
one_more_read g xs at x ys y in_range is so_far read =
    ap₂ (λ l z. l ++ z ∷ []) so_far (read ∙ ap g is) ∙ sym (map_behind g (take at xs) (get_or xs at x))
    ∙ ap (map g) (sym (take_more xs at x in_range))

module _ {S C : Type 0} (f : Filing S C) (rows : List Row) (count : ℕ) (counted : count ≡ length rows) where
  drop_length : {X : Type 0} (k : ℕ) (xs : List X) → length (drop k xs) ≤ length xs
  drop_length k xs = let e = length-drop k xs in omega (arith, e)

  pub rows_are : {V E : Type 0} (entries : V
      → List (JournalRow C)) (r : Result V E) (numbered : AreNumbered 1 rows) (rising : IsRising rows)
      (from top first most limit : ℕ) (a b : ℤ) → a ≡ pos first → b ≡ pos most → from ≤ top
      → first ≡ min from (min (count + 1) top) → most ≡ min count limit → (items : List Row)
      → AreInOrder by_position (as_count (Int b)) shown_entry (filter (is_from a) rows) items
      → IfOk r (λ v. entries v ≡ map (shown_row f) items)
      → IfOk r (λ v. entries v ≡ take limit (drop (from - 1) (map (row_in f) rows)))
  rows_are entries (Ok v) numbered rising from top first most limit a b at last small start clip items order told =
      let all = map (row_in f) rows in
      let few : length all ≤ count = (let m = length-map rows (row_in f) in omega (arith, m, counted)) in
      told ∙ journal_is f rows numbered rising first most items (rw (at, last) at order)
      ∙ ap (λ k. take most (drop (k - 1) all)) start ∙ ap (take most) (from_by_count count from top all few small)
      ∙ ap (λ n. take n (drop (from - 1) all)) clip
      ∙ limited_by_count count limit (drop (from - 1) all)
      (let d = drop_length (from - 1) all in omega (arith, d, few))
  rows_are entries (Err e) numbered rising from top first most limit a b at last small start clip items order told = tt

-- an entry, from the values of its columns
pub entry_is : {S C : Type 0} (f : Filing S C) (read : List ℕ → Option C) → ((body : List ℕ)
    → f.command body ≡ read body)
    → (a b c d e : Value) (text : List ℕ) (entity : Entity) (input : Input C) → a ≡ Text text
    → Some entity ≡ read_entity text
    → input ≡ input_of read b c d e → record { entity = entity; input = input } ≡ row_of f a b c d e
entry_is {C = C} f read same a b c d e text entity input name known is =
    let as_read : f.command ≡ read = λ i body. same body i in
    let one : entity_in a ≡ entity = ap entity_in name ∙ ap (λ o. unwrap_or o (order_of [])) (sym known) in
    ap₂ (λ x y. record { entity = x; input = y }) (sym one) (is ∙ ap (λ r. input_of r b c d e) (sym as_read))
