-- Where so many rows stand at positions from 1 to that number, these are their positions.
use Rattle.std.proofs.Common.{◌≡◌, ◌<◌, ◌≤◌, ℕ, ℤ, ◌+◌, pos, negsuc, min, List, [], ◌∷◌, filter, length}
use Rattle.std.proofs.Common.{Bool, true}
use Rattle.std.proofs.Common.{◌&&◌, not, Less, refl, sym, ap, subst, ◌∙◌, inl, inr, arith, ◌^◌}
use Rattle.std.specs.Prelude.{IsTrue, nat_le}
use Rattle.std.specs.List.{AllByRecursion}
use Rattle.std.specs.Ordering.{int_cmp, is_ge, is_le}
use Rattle.std.proofs.lemmas.Bool.{cases_Bool}
use Rattle.std.proofs.lemmas.Bool.Decides.{nat_tests}
use Rattle.std.proofs.lemmas.Int.{ints}
use Rattle.sqlite.specs.declared.types.Value.TheVariants.{Int}
use Rattle.sqlite_value.specs.Order.{Row, column, value_cmp}
use Rattle.sqlite_value.proofs.OrderLemmas.{value_cmp-Int}
use Rattle.sqlite_trees.specs.Tree.{rowid, IsTable}
use Rattle.sqlite_trees.specs.View.{is_int}
use Rattle.sqlite_rules.specs.Edit.{id_in}
use Rattle.sqlite_rules.proofs.TableLemmas.{int_is}
use Rattle.sqlite_sql.specs.Ops.{is_null}
use Rattle.sql_rows.specs.Tables.{IsRising, is_from, is_within}
use Rattle.keep_sqlite.specs.Ready.{AreNumbered}
use Rattle.keep_sqlite.specs.Tables.{number_in}
use Rattle.keep_sqlite.proofs.Keys.{and_parts}

-- ---- if as many pass as there are, all do

fewer_pass : {X : Type 0} (p : X → Bool) (xs : List X) → length (filter p xs) ≤ length xs
fewer_pass p [] = omega arith
fewer_pass p (x ∷ xs) =
    let more = fewer_pass p xs in
    elim (cases_Bool (p x)) [
      | inl pass ↦ rw pass (omega (arith, more))
      | inr fail ↦ rw fail (omega (arith, more))
    ]

all_pass : {X : Type 0} (p : X → Bool) (xs : List X) → length (filter p xs) ≡ length xs
    → AllByRecursion (λ x. p x ≡ true) xs
all_pass p [] same = tt
all_pass p (x ∷ xs) same = elim (cases_Bool (p x)) [
  | inl pass ↦ (pass, all_pass p xs (let e = rw pass at same in omega (arith, e)))
  | inr fail ↦ absurd (let e = rw fail at same in let few = fewer_pass p xs in omega (arith, e, few))
]

-- ---- positions

abbrev place : Row → ℕ
place r = number_in (rowid r)

record IsPlaced (low high : ℕ) (r : Row) : Type 0 where
  is : rowid r ≡ Int (pos (place r))
  from : low ≤ place r
  below : place r < high

ge_one : (z : ℤ) → is_ge (int_cmp z (pos 1)) ≡ true → (m : ℕ) × (z ≡ pos m) × (1 ≤ m)
ge_one (pos m) passes = (m, refl, grind (arith, ints, nat_tests))
ge_one (negsuc m) passes = absurd (let p = passes in grind (arith, ints, nat_tests))

le_is : (m n : ℕ) → is_le (int_cmp (pos m) (pos n)) ≡ true → m ≤ n
le_is m n passes = grind (arith, ints, nat_tests)

less_is : (m n : ℕ) → int_cmp (pos m) (pos n) ≡ Less → m < n
less_is m n less = grind (arith, ints, nat_tests)

placed : (r : Row) (z : ℤ) (n : ℕ) → rowid r ≡ Int z → is_within (pos 1) (pos n) r ≡ true → IsPlaced 1 (n + 1) r
placed r z n is passes =
    let upto_n = is_le (value_cmp (column r 0) (Int (pos n))) in
    let both = and_parts (is_from (pos 1) r) (not (is_null (column r 0)) && upto_n) passes in
    let upto = and_parts (not (is_null (column r 0))) upto_n both.1 in
    let as_int : (m : ℤ) → value_cmp (rowid r) (Int m) ≡ int_cmp z m =
    λ m. ap (λ v. value_cmp v (Int m)) is ∙ value_cmp-Int z m in
    let low = ge_one z (sym (ap is_ge (as_int (pos 1))) ∙ both.0) in
    let here : rowid r ≡ Int (pos low.0) = is ∙ ap Int low.1 in
    let at : place r ≡ low.0 = ap number_in here in
    let high = le_is low.0 n (ap (λ (y : ℤ). is_le (int_cmp y (pos n))) (sym low.1)
    ∙ sym (ap is_le (as_int (pos n))) ∙ upto.1) in
    let one = low.2 in
    record {
      is = here ∙ ap (λ k. Int (pos k)) (sym at);
      from = omega (arith, at, one);
      below = omega (arith, at, high);
    }

rises : (low high : ℕ) (r s : Row) → IsPlaced low high r → IsPlaced low high s → value_cmp (rowid r) (rowid s) ≡ Less
    → place r < place s
rises low high r s a b less = less_is (place r) (place s)
    (sym (value_cmp-Int (pos (place r)) (pos (place s)))
    ∙ ap (λ v. value_cmp v (Int (pos (place s)))) (sym a.is) ∙ ap (value_cmp (rowid r)) (sym b.is) ∙ less)

-- there is room for all behind the first
room : (low high : ℕ) (r : Row) (rows : List Row) → AllByRecursion (IsPlaced low high) (r ∷ rows) → IsTable (r ∷ rows)
    → place r + length rows < high
room low high r [] all rising = let h = all.0.below in omega (arith, h)
room low high r (s ∷ rows) all rising =
    let next = rises low high r s all.0 all.1.0 rising.0.0 in
    let rest = room low high s rows all.1 rising.1 in
    omega (arith, next, rest)

later : (low high : ℕ) (r : Row) (rows : List Row) → IsPlaced low high r → AllByRecursion (IsPlaced low high) rows
    → AllByRecursion (λ s. value_cmp (rowid r) (rowid s) ≡ Less) rows → place r ≡ low
    → AllByRecursion (IsPlaced (low + 1) high) rows
later low high r [] first all rising at = tt
later low high r (s ∷ rows) first all rising at =
    let next = rises low high r s first all.0 rising.0 in (
      record { is = all.0.is; from = omega (arith, at, next); below = all.0.below },
      later low high r rows first all.1 rising.1 at,
    )

numbered_from : (low : ℕ) (rows : List Row) → AllByRecursion (IsPlaced low (low + length rows)) rows → IsTable rows
    → AreNumbered low rows
numbered_from low [] all rising = tt
numbered_from low (r ∷ rows) all rising =
    let fits = room low (low + length (r ∷ rows)) r rows all rising in
    let first = all.0.from in
    let at : place r ≡ low = omega (arith, fits, first) in
    let same : low + length (r ∷ rows) ≡ (low + 1) + length rows = omega arith in (
      all.0.is ∙ ap (λ k. Int (pos k)) at,
      numbered_from (low + 1) rows
          (subst (λ h. AllByRecursion (IsPlaced (low + 1) h) rows) same
          (later low (low + length (r ∷ rows)) r rows all.0 all.1 rising.0 at)) rising.1,
    )

all_placed : (n : ℕ) (rows : List Row) → AllByRecursion (λ r. IsTrue (is_int (rowid r))) rows
    → AllByRecursion (λ r. is_within (pos 1) (pos n) r ≡ true) rows → AllByRecursion (IsPlaced 1 (n + 1)) rows
all_placed n [] ints within = tt
all_placed n (r ∷ rows) ints within =
    (placed r (id_in (rowid r)) n (int_is (rowid r) ints.0) within.0, all_placed n rows ints.1 within.1)

-- a count that isn't the greatest tells how many there are
exact : (n len : ℕ) → n ≡ min len 9223372036854775807 → n < 9223372036854775807 → len ≡ n
exact n len is small = let e = is in grind (arith, nat_tests)

-- a journal with as many rows as positions from 1 to their number has just these positions
pub counted : (rows : List Row) (n m : ℕ) → IsRising rows → n ≡ min (length rows) 9223372036854775807
    → n < 9223372036854775807
    → m ≡ min (length (filter (is_within (pos 1) (pos n)) rows)) 9223372036854775807 → m ≡ n
    → (n ≡ length rows) × AreNumbered 1 rows
counted rows n m rising all small within same =
    let total : length rows ≡ n = exact n (length rows) all small in
    let passing : length (filter (is_within (pos 1) (pos n)) rows) ≡ n =
    exact n _ (sym same ∙ within) small in
    let every = all_placed n rows rising.numbered
    (all_pass (is_within (pos 1) (pos n)) rows (passing ∙ sym total)) in
    let high : n + 1 ≡ 1 + length rows = omega (arith, total) in
    (sym total, numbered_from 1 rows (subst (λ h. AllByRecursion (IsPlaced 1 h) rows) high every) rising.ordered)

-- a number below 2^63 that isn't 2^63 - 1 is below that
pub not_greatest : (n : ℕ) (z : ℤ) → z ≡ pos n → n < 2 ^ 63 → (z ≡ pos 9223372036854775807 → ⊥)
    → n < 9223372036854775807
not_greatest n z is small other = elim (cases_Bool (nat_le 9223372036854775807 n)) [
  | inl high ↦
      let le : 9223372036854775807 ≤ n = (let e = high in grind (arith, nat_tests)) in
      absurd (other (is ∙ ap pos (omega (arith, le, small))))
  | inr low ↦ (let e = low in grind (arith, nat_tests))
]
