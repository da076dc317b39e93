-- A database of the schema has one row at most of each key.
use Rattle.std.proofs.Common.{◌≡◌, ℕ, ℤ, List, [], ◌∷◌, Bool, true, false, ◌&&◌, Some, refl, sym, ap₂}
use Rattle.std.proofs.Common.{subst, ◌∙◌, true≢false, Ordering, Less, Equal, Greater, get_or, slice_get}
use Rattle.std.specs.Prelude.{IsTrue}
use Rattle.std.specs.Ordering.{is_ne}
use Rattle.sqlite.specs.declared.types.Value.TheVariants.{Null, Int, Text}
use Rattle.sqlite_value.specs.Order.{Row, value_cmp}
use Rattle.sqlite_value.specs.Keys.{plain, first_key}
use Rattle.sqlite_value.specs.declared.keys.Collation.TheVariants.{Binary}
use Rattle.sqlite_trees.specs.Tree.{Trees, rowid}
use Rattle.sqlite_trees.specs.View.{is_int}
use Rattle.sqlite_sql.specs.Ops.{binary, is_true, from_truth}
use Rattle.sqlite_sql.specs.declared.ops.BinaryOp.TheVariants.{Compare}
use Rattle.sqlite_sql.specs.declared.ops.CompareOp.TheVariants.{Ne}
use Rattle.sqlite_schema.specs.declared.schema.Schema.{Schema}
use Rattle.sqlite_schema.specs.declared.schema.Table.{Table}
use Rattle.sqlite_schema.specs.Rules.{agree, differ, clashes}
use Rattle.sqlite_catalog.specs.Listing.{IsSound}
use Rattle.sqlite_catalog.proofs.AlterLemmas.{keys_are_unique}
use Rattle.sqlite_rules.specs.Lists.{Has}
use Rattle.sqlite_rules.specs.Edit.{id_in}
use Rattle.sqlite_rules.proofs.ListLemmas.{all_has}
use Rattle.sqlite_rules.proofs.KeyLemmas.{agree_back, agree_chain}
use Rattle.sqlite_rules.proofs.PlaceLemmas.{tied_same}
use Rattle.sqlite_rules.proofs.TableLemmas.{int_is}
use Rattle.sql_rows.specs.Tables.{Key, has_key, text_key, pair_key, place_key, IsRising}
use Rattle.sql_rows.proofs.Rows.{none_of}
use Rattle.sql_rows.proofs.Tests.{key_test, sql_key, AreSolid}
use Rattle.keep_sqlite.proofs.Lookup.{IsOne}

is_true_test : (b : Bool) → is_true (from_truth (Some b)) ≡ b
is_true_test true = refl
is_true_test false = refl

ne_int : (m n : ℤ) → is_true (binary (Compare Ne Binary) (Int m) (Int n)) ≡ is_ne (value_cmp (Int m) (Int n))
unfolding binary
ne_int m n = is_true_test _

tied : (o : Ordering) → is_ne o ≡ false → o ≡ Equal
tied Less h = absurd (true≢false h)
tied Equal h = refl
tied Greater h = absurd (true≢false h)

and_false : (a b : Bool) → (a && b) ≡ false → a ≡ true → b ≡ false
and_false a b h is = rw is at h

module _ (schema : Schema) (db : Trees) (t : Table) (places : List ℕ) (sound : IsSound schema db) (listed : Has
    schema.tables t) (unique : slice_get t.uniques 0 ≡ Some places)
    (order : get_or t.orders 0 plain ≡ plain) (rising : IsRising (db t.tree)) where
  -- two rows that agree on the key are one
  pub same_row : (x y : Row) → Has (db t.tree) x → Has (db t.tree) y → agree plain places x places y ≡ true → x ≡ y
  same_row x y h k same =
      let rows = db t.tree in
      let clash : clashes plain places rows y ≡ false = subst (λ o. clashes o places rows y
      ≡ false) order (keys_are_unique schema db t 0 places y sound listed unique k) in
      let differs : differ (rowid x) (rowid y)
      ≡ false = and_false (agree plain places x places y) (differ (rowid x) (rowid y)) (none_of (λ other. agree
      plain places other places y && differ (rowid other) (rowid y)) rows x clash h) same in
      let a : rowid x ≡ Int (id_in (rowid x)) = int_is (rowid x) (all_has (λ r. IsTrue (is_int (rowid r))) rows x
      rising.numbered h) in
      let b : rowid y ≡ Int (id_in (rowid y)) = int_is (rowid y) (all_has (λ r. IsTrue (is_int (rowid r))) rows y
      rising.numbered k) in
      let ints : differ (Int (id_in (rowid x))) (Int (id_in (rowid y))) ≡ false = sym (ap₂ differ a b) ∙ differs in
      let tie : value_cmp (rowid x) (rowid y) ≡ Equal = ap₂ value_cmp a b
      ∙ tied _ (sym (ne_int (id_in (rowid x)) (id_in (rowid y))) ∙ ints) in
      tied_same rows x y rising.ordered h k tie

  -- so one row at most has a key that a row of these values has
  pub one_row : (key : Key) (sample : Row) → AreSolid key → ((r : Row)
      → agree plain places r places sample ≡ sql_key key r) → IsOne (has_key key) (db t.tree)
  one_row key sample solid as_key x y h k p q =
      let a : agree plain places x places sample ≡ true = as_key x ∙ key_test key x solid ∙ p in
      let b : agree plain places y places sample ≡ true = as_key y ∙ key_test key y solid ∙ q in
      same_row x y h k (agree_chain plain places places places x sample y a (agree_back plain places places y sample b))

-- the rows that agree with a sample have its key
pub text_sample : (k : List ℕ) (x : Row)
    → agree plain (1 ∷ []) x (1 ∷ []) (Null ∷ Text k ∷ []) ≡ sql_key (text_key k) x
unfolding first_key
text_sample k x = refl

pub pair_sample : (s r : List ℕ) (x : Row)
    → agree plain (1 ∷ 2 ∷ []) x (1 ∷ 2 ∷ []) (Null ∷ Text s ∷ Text r ∷ []) ≡ sql_key (pair_key s r) x
unfolding first_key
pair_sample s r x = refl

pub place_sample : (s r : List ℕ) (n : ℤ) (x : Row)
    → agree plain (1 ∷ 2 ∷ 3 ∷ []) x (1 ∷ 2 ∷ 3 ∷ []) (Null ∷ Text s ∷ Text r ∷ Int n ∷ [])
    ≡ sql_key (place_key s r n) x
unfolding first_key
place_sample s r n x = refl
