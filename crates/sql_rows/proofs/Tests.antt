-- SQL's tests of a column, as the specs say them.
use Rattle.std.proofs.Common.{◌≡◌, ℕ, ℤ, List, [], ◌∷◌, Bool, true, false, not, ◌&&◌, ◌||◌, cond, Option, Some, None}
use Rattle.std.proofs.Common.{unwrap_or, refl, sym, ap, ap₂, ◌∙◌, arith}
use Rattle.std.specs.List.{list_all, AllByRecursion}
use Rattle.std.specs.Ordering.{is_eq, is_le, is_gt, is_ge}
use Rattle.sqlite.specs.declared.types.Value.{Value}
use Rattle.sqlite.specs.declared.types.Value.TheVariants.{Null, Int, Real, Text, Blob}
use Rattle.sqlite_value.specs.Order.{Row, column, value_cmp}
use Rattle.sqlite_value.proofs.OrderLemmas.{value_cmp-apart, value_cmp_total}
use Rattle.sqlite.specs.Ops.{unary}
use Rattle.sqlite.specs.Cast.{cast}
use Rattle.sqlite.specs.Kind.TheVariants.{Integer}
use Rattle.sqlite_sql.specs.Ops.{binary, is_true, from_truth, truth, and3, or3, is_null}
use Rattle.sqlite_sql.specs.declared.ops.BinaryOp.TheVariants.{Compare, And, Or}
use Rattle.sqlite_sql.specs.declared.ops.CompareOp.TheVariants.{Eq, Le, Gt, Ge}
use Rattle.sqlite_value.specs.declared.keys.Collation.TheVariants.{Binary}
use Rattle.std.specs.Cmp.{tied_itself}
use Rattle.sqlite_sql.specs.Term.{Term, holds, col, op2}
use Rattle.sql_rows.specs.Tables.{Key, has_key, text_key, pair_key, place_key, place_cells, is_upto, is_after, is_from}
use Rattle.sql_rows.specs.Tables.{is_within}
use Rattle.sql_rows.proofs.Queries.{eq}

either : (b : Bool) (x : Value) → cond b x x ≡ x
either true x = refl
either false x = refl

pub cast_null : cast Integer Null ≡ Null
unfolding unary
cast_null = either _ Null

pub cast_int : (n : ℤ) → cast Integer (Int n) ≡ Int n
unfolding unary
cast_int n = either _ (Int n)

is_true_test : (b : Bool) → is_true (from_truth (Some b)) ≡ b
is_true_test true = refl
is_true_test false = refl

-- a value that a key is compared with
abbrev pub IsSolid : Value → Type 0
IsSolid Null = ⊥
IsSolid (Int n) = Unit {0}
IsSolid (Real x) = ⊥
IsSolid (Text s) = Unit {0}
IsSolid (Blob b) = ⊥

eq_int : (v : Value) (n : ℤ) → is_true (binary (Compare Eq Binary) v (Int n)) ≡ is_eq (value_cmp v (Int n))
unfolding binary
eq_int Null n = sym (ap is_eq (value_cmp-apart Null (Int n) (λ e. omega (arith, e))))
eq_int (Int m) n = is_true_test _
eq_int (Real x) n = is_true_test _
eq_int (Text t) n = is_true_test _
eq_int (Blob b) n = is_true_test _

eq_text : (v : Value) (s : List ℕ) → is_true (binary (Compare Eq Binary) v (Text s)) ≡ is_eq (value_cmp v (Text s))
unfolding binary
eq_text Null s = sym (ap is_eq (value_cmp-apart Null (Text s) (λ e. omega (arith, e))))
eq_text (Int m) s = is_true_test _
eq_text (Real x) s = is_true_test _
eq_text (Text t) s = is_true_test _
eq_text (Blob b) s = is_true_test _

pub eq_test : (v w : Value) → IsSolid w → is_true (binary (Compare Eq Binary) v w) ≡ is_eq (value_cmp v w)
eq_test v Null h = absurd h
eq_test v (Int n) h = eq_int v n
eq_test v (Real x) h = absurd h
eq_test v (Text s) h = eq_text v s
eq_test v (Blob b) h = absurd h

le_test : (v : Value) (n : ℤ) → is_true (binary (Compare Le Binary) v (Int n))
    ≡ (not (is_null v) && is_le (value_cmp v (Int n)))
unfolding binary
le_test Null n = refl
le_test (Int m) n = is_true_test _
le_test (Real x) n = is_true_test _
le_test (Text t) n = is_true_test _
le_test (Blob b) n = is_true_test _

-- as SQL tests a key
abbrev pub sql_key : Key → Row → Bool
sql_key key r = list_all (λ (c : ℕ × Value). is_true (binary (Compare Eq Binary) (column r c.0) c.1)) key

abbrev pub AreSolid : Key → Type 0
AreSolid key = AllByRecursion (λ (c : ℕ × Value). IsSolid c.1) key

pub key_test : (key : Key) (r : Row) → AreSolid key → sql_key key r ≡ has_key key r
key_test [] r h = refl
key_test (c ∷ key) r h = ap₂ ◌&&◌ (eq_test (column r c.0) c.1 h.0) (key_test key r h.1)

abbrev pub Joined : Bool → Bool → Bool
Joined x k = (x && true) || (k || false)

pub joined_is : (k : Bool) → Joined false k ≡ k
joined_is true = refl
joined_is false = refl

pub and_true : (b : Bool) → (b && true) ≡ b
and_true true = refl
and_true false = refl

-- ---- OR, AND, > and >=

abbrev sure : Option Bool → Bool
sure o = unwrap_or o false

or_sure : (a b : Option Bool) → is_true (from_truth (or3 a b)) ≡ (sure a || sure b)
or_sure None None = refl
or_sure None (Some true) = refl
or_sure None (Some false) = refl
or_sure (Some true) b = refl
or_sure (Some false) None = refl
or_sure (Some false) (Some true) = refl
or_sure (Some false) (Some false) = refl

and_sure : (a b : Option Bool) → is_true (from_truth (and3 a b)) ≡ (sure a && sure b)
and_sure None None = refl
and_sure None (Some true) = refl
and_sure None (Some false) = refl
and_sure (Some true) None = refl
and_sure (Some true) (Some true) = refl
and_sure (Some true) (Some false) = refl
and_sure (Some false) b = refl

pub or_test : (a b : Value) → is_true (binary Or a b) ≡ (is_true a || is_true b)
unfolding binary
or_test a b = or_sure (truth a) (truth b)

pub and_test : (a b : Value) → is_true (binary And a b) ≡ (is_true a && is_true b)
unfolding binary
and_test a b = and_sure (truth a) (truth b)

gt_text : (v : Value) (s : List ℕ) → is_true (binary (Compare Gt Binary) v (Text s)) ≡ is_gt (value_cmp v (Text s))
unfolding binary
gt_text Null s = sym (ap is_gt (value_cmp-apart Null (Text s) (λ e. omega (arith, e))))
gt_text (Int m) s = is_true_test _
gt_text (Real x) s = is_true_test _
gt_text (Text t) s = is_true_test _
gt_text (Blob b) s = is_true_test _

gt_int : (v : Value) (n : ℤ) → is_true (binary (Compare Gt Binary) v (Int n)) ≡ is_gt (value_cmp v (Int n))
unfolding binary
gt_int Null n = sym (ap is_gt (value_cmp-apart Null (Int n) (λ e. omega (arith, e))))
gt_int (Int m) n = is_true_test _
gt_int (Real x) n = is_true_test _
gt_int (Text t) n = is_true_test _
gt_int (Blob b) n = is_true_test _

ge_text : (v : Value) (s : List ℕ) → is_true (binary (Compare Ge Binary) v (Text s)) ≡ is_ge (value_cmp v (Text s))
unfolding binary
ge_text Null s = sym (ap is_ge (value_cmp-apart Null (Text s) (λ e. omega (arith, e))))
ge_text (Int m) s = is_true_test _
ge_text (Real x) s = is_true_test _
ge_text (Text t) s = is_true_test _
ge_text (Blob b) s = is_true_test _

ge_int : (v : Value) (n : ℤ) → is_true (binary (Compare Ge Binary) v (Int n)) ≡ is_ge (value_cmp v (Int n))
unfolding binary
ge_int Null n = sym (ap is_ge (value_cmp-apart Null (Int n) (λ e. omega (arith, e))))
ge_int (Int m) n = is_true_test _
ge_int (Real x) n = is_true_test _
ge_int (Text t) n = is_true_test _
ge_int (Blob b) n = is_true_test _

-- ---- the tests of the texts

-- the pair's, up to a number
abbrev pub upto_terms : List Term
upto_terms = eq (col 1 1) (col 0 0) ∷ eq (col 1 2) (col 0 1) ∷ op2 (Compare Le Binary) (col 1 3) (col 0 2) ∷ []

pub upto_test : (s r : List ℕ) (n : ℤ) (x : Row) → list_all (holds (place_cells s r n ∷ x ∷ [])) upto_terms
    ≡ is_upto s r n x
upto_test s r n x = rw (eq_test (column x 1) (Text s) tt, eq_test (column x 2) (Text r) tt, le_test (column x 3) n)
    (three (is_eq (value_cmp (column x 1) (Text s))) (is_eq (value_cmp (column x 2) (Text r)))
    (not (is_null (column x 3)) && is_le (value_cmp (column x 3) (Int n))))
  where
    three : (a b c : Bool) → (a && (b && (c && true))) ≡ ((a && (b && true)) && c)
    three true true true = refl
    three true true false = refl
    three true false c = refl
    three false b c = refl

-- those behind a place
abbrev pub after_terms : List Term
after_terms = op2 (Compare Ge Binary) (col 1 1) (col 0 0)
    ∷ op2 Or (op2 Or (op2 (Compare Gt Binary) (col 1 1) (col 0 0)) (op2 (Compare Gt Binary) (col 1 2) (col 0 1)))
    (op2 And (eq (col 1 2) (col 0 1)) (op2 (Compare Gt Binary) (col 1 3) (col 0 2))) ∷ []

pub after_test : (s r : List ℕ) (n limit : ℤ) (x : Row)
    → list_all (holds ((Text s ∷ Text r ∷ Int n ∷ Int limit ∷ []) ∷ x ∷ [])) after_terms ≡ is_after s r n x
after_test s r n limit x =
    ap₂ ◌&&◌ (ge_text (column x 1) s) (and_true _
    ∙ or_test (binary Or (binary (Compare Gt Binary) (column x 1) (Text s))
    (binary (Compare Gt Binary) (column x 2) (Text r)))
    (binary And (binary (Compare Eq Binary) (column x 2) (Text r))
    (binary (Compare Gt Binary) (column x 3) (Int n)))
    ∙ ap₂ ◌||◌ (or_test (binary (Compare Gt Binary) (column x 1) (Text s))
    (binary (Compare Gt Binary) (column x 2) (Text r))
    ∙ ap₂ ◌||◌ (gt_text (column x 1) s) (gt_text (column x 2) r))
    (and_test (binary (Compare Eq Binary) (column x 2) (Text r)) (binary (Compare Gt Binary) (column x 3) (Int n))
    ∙ ap₂ ◌&&◌ (eq_test (column x 2) (Text r) tt) (gt_int (column x 3) n)))

-- those from a position on
abbrev pub from_terms : List Term
from_terms = op2 (Compare Ge Binary) (col 1 0) (col 0 0) ∷ []

pub from_test : (n limit : ℤ) (x : Row) → list_all (holds ((Int n ∷ Int limit ∷ []) ∷ x ∷ [])) from_terms ≡ is_from n x
from_test n limit x = and_true _ ∙ ge_int (column x 0) n

-- those between two positions
abbrev pub within_terms : List Term
within_terms = op2 (Compare Ge Binary) (col 1 0) (col 0 0) ∷ op2 (Compare Le Binary) (col 1 0) (col 0 1) ∷ []

pub within_test : (first last : ℤ) (x : Row)
    → list_all (holds ((Int first ∷ Int last ∷ []) ∷ x ∷ [])) within_terms ≡ is_within first last x
within_test first last x = rw (ge_int (column x 0) first, le_test (column x 0) last)
    (ap (λ b. is_from first x && b)
    (and_true (not (is_null (column x 0)) && is_le (value_cmp (column x 0) (Int last)))))

-- ---- a row has the key of its own cells

pub own_text : (k : List ℕ) (rest : Row) (id : ℤ) → has_key (text_key k) (Int id ∷ Text k ∷ rest) ≡ true
own_text k rest id = let z = tied_itself value_cmp_total in rw (z (Text k)) refl

pub own_pair : (s r : List ℕ) (rest : Row) (id : ℤ) → has_key (pair_key s r) (Int id ∷ Text s ∷ Text r ∷ rest) ≡ true
own_pair s r rest id = let z = tied_itself value_cmp_total in rw (z (Text s), z (Text r)) refl

pub own_place : (s r : List ℕ) (n : ℤ) (rest : Row) (id : ℤ)
    → has_key (place_key s r n) (Int id ∷ Text s ∷ Text r ∷ Int n ∷ rest) ≡ true
own_place s r n rest id = let z = tied_itself value_cmp_total in rw (z (Text s), z (Text r), z (Int n)) refl
