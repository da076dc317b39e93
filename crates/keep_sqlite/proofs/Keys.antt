-- A row is of one pair, and of one place; and a table has one row of each.
use Rattle.std.proofs.Common.{◌≡◌, ℕ, ℤ, pos, List, [], ◌∷◌, Bool, true, false, ◌&&◌, refl, sym, ap, subst, ◌∙◌}
use Rattle.std.proofs.Common.{true≢false, Ordering, Less, Equal, Greater, arith, inl, inr, Some, slice_get, get_or}
use Rattle.std.specs.List.{AllByRecursion}
use Rattle.std.specs.Prelude.{nat_le}
use Rattle.std.specs.Ordering.{is_eq, is_le, int_cmp}
use Rattle.sqlite_sql.specs.Ops.{is_null}
use Rattle.std.proofs.lemmas.Bool.Decides.{nat_tests}
use Rattle.std.proofs.lemmas.Slice.Eq.{bytes_eq-Decides}
use Rattle.std.proofs.lemmas.Map.Text.{is_eq-slice_cmp}
use Rattle.std.proofs.lemmas.Int.{ints}
use Rattle.sqlite.specs.declared.types.Value.{Value}
use Rattle.sqlite.specs.declared.types.Value.TheVariants.{Null, Int, Real, Text, Blob}
use Rattle.sqlite_value.specs.Order.{Row, column, value_cmp}
use Rattle.sqlite_value.proofs.OrderLemmas.{value_cmp_total, value_cmp-Text, value_cmp-Int}
use Rattle.sqlite_schema.specs.declared.schema.Schema.{Schema}
use Rattle.sqlite_schema.specs.declared.schema.Table.{Table}
use Rattle.sqlite_trees.specs.Tree.{Trees}
use Rattle.sqlite_value.specs.Keys.{plain}
use Rattle.sqlite_catalog.specs.Listing.{IsSound}
use Rattle.sqlite_rules.specs.Lists.{Has}
use Rattle.base.specs.Entity.{Entity, text_of}
use Rattle.base.specs.declared.pair.Pair.{Pair}
use Rattle.base.proofs.Entities.{text_of-injective}
use Rattle.sql_rows.specs.Schema.{IsService, outbox, out_marks, in_marks, held}
use Rattle.sql_rows.specs.Tables.{has_key, text_key, is_upto, IsRising}
use Rattle.keep_sqlite.specs.Tables.{key_of, key_at}
use Rattle.keep_sqlite.specs.Ready.{AreRising}
use Rattle.keep_sqlite.proofs.Frames.{common_tables, common_first}
use Rattle.keep_sqlite.proofs.Lookup.{IsOne}
use Rattle.keep_sqlite.proofs.Unique.{one_row, text_sample, pair_sample, place_sample}

pub equal_is : (o : Ordering) → is_eq o ≡ true → o ≡ Equal
equal_is Less h = absurd (true≢false (sym h))
equal_is Equal h = refl
equal_is Greater h = absurd (true≢false (sym h))

pub and_parts : (a b : Bool) → (a && b) ≡ true → (a ≡ true) × (b ≡ true)
and_parts true b h = (refl, h)
and_parts false b h = absurd (true≢false (sym h))

-- what ties with two values ties them
tied_both : (v a b : Value) → is_eq (value_cmp v a) ≡ true → is_eq (value_cmp v b) ≡ true → value_cmp a b ≡ Equal
tied_both v a b p q = sym (value_cmp_total.congr v a b (equal_is _ p)) ∙ equal_is _ q

one_text : (v : Value) (s t : List ℕ) → is_eq (value_cmp v (Text s)) ≡ true → is_eq (value_cmp v (Text t)) ≡ true
    → s ≡ t
one_text v s t p q = (bytes_eq-Decides s t).0
    (sym (is_eq-slice_cmp s t) ∙ ap is_eq (sym (value_cmp-Text s t) ∙ tied_both v (Text s) (Text t) p q))

same_nat : (m n : ℕ) → int_cmp (pos m) (pos n) ≡ Equal → m ≡ n
same_nat m n e = grind (arith, ints, nat_tests)

one_number : (v : Value) (m n : ℕ) → is_eq (value_cmp v (Int (pos m))) ≡ true
    → is_eq (value_cmp v (Int (pos n))) ≡ true → m ≡ n
one_number v m n p q =
    same_nat m n (sym (value_cmp-Int (pos m) (pos n)) ∙ tied_both v (Int (pos m)) (Int (pos n)) p q)

pub one_key : (r : Row) (j k : List ℕ) → has_key (text_key j) r ≡ true → has_key (text_key k) r ≡ true → j ≡ k
one_key r j k h there = one_text (column r 1) j k (and_parts _ _ h).0 (and_parts _ _ there).0

same_pairs : (p q : Pair) → text_of p.from ≡ text_of q.from → text_of p.to ≡ text_of q.to → p ≡ q
same_pairs p q from to =
    ap (λ (x : Entity). record p { from = x }) (text_of-injective p.from q.from from)
    ∙ ap (λ (x : Entity). record q { to = x }) (text_of-injective p.to q.to to)

pub one_pair : (r : Row) (p q : Pair) → has_key (key_of p) r ≡ true → has_key (key_of q) r ≡ true → p ≡ q
one_pair r p q h k =
    let a = and_parts _ _ h in let b = and_parts _ _ k in
    let c = and_parts _ _ a.1 in let d = and_parts _ _ b.1 in
    same_pairs p q (one_text (column r 1) (text_of p.from) (text_of q.from) a.0 b.0)
    (one_text (column r 2) (text_of p.to) (text_of q.to) c.0 d.0)

pub one_place : (r : Row) (p q : Pair) (m n : ℕ) → has_key (key_at p m) r ≡ true → has_key (key_at q n) r ≡ true
    → (p ≡ q) × (m ≡ n)
one_place r p q m n h k =
    let a = and_parts _ _ h in let b = and_parts _ _ k in
    let c = and_parts _ _ a.1 in let d = and_parts _ _ b.1 in
    let e = and_parts _ _ c.1 in let f = and_parts _ _ d.1 in (
      same_pairs p q (one_text (column r 1) (text_of p.from) (text_of q.from) a.0 b.0)
          (one_text (column r 2) (text_of p.to) (text_of q.to) c.0 d.0),
      one_number (column r 3) m n e.0 f.0,
    )

-- ---- a row up to a number

not_null : (v : Value) (z : ℤ) → is_eq (value_cmp v (Int z)) ≡ true → is_null v ≡ false
unfolding value_cmp
not_null Null z h = absurd (true≢false (sym h))
not_null (Int n) z h = refl
not_null (Real x) z h = refl
not_null (Text t) z h = refl
not_null (Blob b) z h = refl

le_is : (k n : ℕ) → is_le (int_cmp (pos k) (pos n)) ≡ nat_le k n
le_is k n = grind (arith, ints, nat_tests)

-- a value that ties with one number compares as it does
compares : (v : Value) (k n : ℕ) → is_eq (value_cmp v (Int (pos k))) ≡ true
    → is_le (value_cmp v (Int (pos n))) ≡ nat_le k n
compares v k n h =
    ap is_le (value_cmp_total.congr v (Int (pos k)) (Int (pos n)) (equal_is _ h) ∙ value_cmp-Int (pos k) (pos n))
    ∙ le_is k n

-- the row of a place is one of its pair up to any later number, and of no other
pub place_upto : (x : Row) (p q : Pair) (n k : ℕ) → p ≡ q → nat_le k n ≡ true → has_key (key_at q k) x ≡ true
    → is_upto (text_of p.from) (text_of p.to) (pos n) x ≡ true
place_upto x p q n k same low h =
    let a = and_parts _ _ h in
    let b = and_parts _ _ a.1 in
    let c = and_parts _ _ b.1 in
    let from : is_eq (value_cmp (column x 1) (Text (text_of q.from))) ≡ true = a.0 in
    let to : is_eq (value_cmp (column x 2) (Text (text_of q.to))) ≡ true = b.0 in
    let here = not_null (column x 3) (pos k) c.0 in
    let below : is_le (value_cmp (column x 3) (Int (pos n))) ≡ true = compares (column x 3) k n c.0 ∙ low in
    subst (λ (y : Pair). is_upto (text_of y.from) (text_of y.to) (pos n) x ≡ true) (sym same)
    (rw (from, to, here, below) refl)

pub upto_place : (x : Row) (p q : Pair) (n k : ℕ) → is_upto (text_of p.from) (text_of p.to) (pos n) x ≡ true
    → has_key (key_at q k) x ≡ true → (p ≡ q) × (nat_le k n ≡ true)
upto_place x p q n k h there =
    let a = and_parts _ _ there in
    let b = and_parts _ _ a.1 in
    let c = and_parts _ _ b.1 in
    let d = and_parts _ _ h in
    let e = and_parts _ _ d.1 in
    let from : is_eq (value_cmp (column x 1) (Text (text_of q.from))) ≡ true = a.0 in
    let to : is_eq (value_cmp (column x 2) (Text (text_of q.to))) ≡ true = b.0 in
    (one_pair x p q d.0 (rw (from, to) refl), sym (compares (column x 3) k n c.0) ∙ e.1)

-- ---- one row at most of a key, of a pair, and of a place

pub one_of_text : (schema : Schema) (db : Trees) (t : Table) → IsSound schema db → Has schema.tables t
    → slice_get t.uniques 0 ≡ Some (1 ∷ []) → get_or t.orders 0 plain ≡ plain → IsRising (db t.tree) → (k : List ℕ)
    → IsOne (has_key (text_key k)) (db t.tree)
one_of_text schema db t sound listed unique order rises k =
    one_row schema db t (1 ∷ []) sound listed unique order rises (text_key k) (Null ∷ Text k ∷ []) (tt, tt)
    (text_sample k)

module _ (schema : Schema) (service : IsService schema) (db : Trees) (sound : IsSound schema db) (rising : AreRising
    schema db) where
  abbrev Rises : Table → Type 0
  Rises t = IsRising (db t.tree)

  up : AllByRecursion Rises (common_tables schema)
  up = subst (AllByRecursion Rises) (common_first schema service) rising

  listed : (t : Table) → Has (common_tables schema) t → Has schema.tables t
  listed t h = subst (λ ts. Has ts t) (sym (common_first schema service)) h

  of_pair : (t : Table) → Has (common_tables schema) t → slice_get t.uniques 0 ≡ Some (1 ∷ 2 ∷ [])
      → get_or t.orders 0 plain ≡ plain → IsRising (db t.tree) → (p : Pair) → IsOne (has_key (key_of p)) (db t.tree)
  of_pair t h unique order rises p =
      one_row schema db t (1 ∷ 2 ∷ []) sound (listed t h) unique order rises (key_of p)
      (Null ∷ Text (text_of p.from) ∷ Text (text_of p.to) ∷ []) (tt, (tt, tt))
      (pair_sample (text_of p.from) (text_of p.to))

  of_place : (t : Table) → Has (common_tables schema) t → slice_get t.uniques 0 ≡ Some (1 ∷ 2 ∷ 3 ∷ [])
      → get_or t.orders 0 plain ≡ plain → IsRising (db t.tree) → (p : Pair) (n : ℕ)
      → IsOne (has_key (key_at p n)) (db t.tree)
  of_place t h unique order rises p n =
      one_row schema db t (1 ∷ 2 ∷ 3 ∷ []) sound (listed t h) unique order rises (key_at p n)
      (Null ∷ Text (text_of p.from) ∷ Text (text_of p.to) ∷ Int (pos n) ∷ []) (tt, (tt, (tt, tt)))
      (place_sample (text_of p.from) (text_of p.to) (pos n))

  pub one_in_outbox : (p : Pair) (n : ℕ) → IsOne (has_key (key_at p n)) (db 1)
  one_in_outbox = of_place outbox (inr (inl refl)) refl refl up.1.0

  pub one_in_out_marks : (p : Pair) → IsOne (has_key (key_of p)) (db 3)
  one_in_out_marks = of_pair out_marks (inr (inr (inl refl))) refl refl up.1.1.0

  pub one_in_in_marks : (p : Pair) → IsOne (has_key (key_of p)) (db 5)
  one_in_in_marks = of_pair in_marks (inr (inr (inr (inl refl)))) refl refl up.1.1.1.0

  pub one_in_held : (p : Pair) (n : ℕ) → IsOne (has_key (key_at p n)) (db 7)
  one_in_held = of_place held (inr (inr (inr (inr (inl refl))))) refl refl up.1.1.1.1.0
