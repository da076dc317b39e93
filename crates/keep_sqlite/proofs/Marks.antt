-- What stands in a row of handled marks: two texts, and a number from 0 to 2^40.
use Rattle.std.proofs.Common.{◌≡◌, ◌≤◌, ◌^◌, ℕ, ℤ, pos, negsuc, List, [], ◌∷◌, drop, Bool, true, false, not}
use Rattle.std.proofs.Common.{inl, inr, Some, refl, sym, ap, subst, ◌∙◌, true≢false, arith}
use Rattle.std.specs.Ordering.{is_le, is_ge, int_cmp}
use Rattle.std.proofs.lemmas.Bool.Decides.{nat_tests}
use Rattle.std.proofs.lemmas.Int.{ints}
use Rattle.sqlite.specs.declared.types.Value.{Value}
use Rattle.sqlite.specs.declared.types.Value.TheVariants.{Null, Int, Real, Text, Blob}
use Rattle.sqlite_value.specs.Order.{Row, column, value_cmp}
use Rattle.sqlite_value.specs.declared.keys.Collation.TheVariants.{Binary}
use Rattle.sqlite_value.proofs.OrderLemmas.{value_cmp-Int}
use Rattle.sqlite_trees.specs.Tree.{Trees}
use Rattle.sqlite_sql.specs.Ops.{binary, is_null, is_false, from_truth}
use Rattle.sqlite_sql.specs.declared.ops.BinaryOp.TheVariants.{Compare, And}
use Rattle.sqlite_sql.specs.declared.ops.CompareOp.TheVariants.{Ge, Le}
use Rattle.sqlite_schema.specs.declared.schema.Constraint.TheVariants.{Datatype, NotNull, Check}
use Rattle.sqlite_schema.specs.declared.schema.Kind.TheVariants as kind
use Rattle.sqlite_schema.specs.declared.schema.Schema.{Schema}
use Rattle.sqlite_schema.specs.Rules.{are_typed, are_present, passes_checks, is_of}
use Rattle.sqlite_catalog.specs.Listing.{IsSound}
use Rattle.sqlite_rules.specs.Lists.{Has}
use Rattle.sqlite_rules.proofs.RuleLemmas.{keeps_at}
use Rattle.sql_rows.specs.Schema.{IsService, in_marks}
use Rattle.keep_sqlite.proofs.Frames.{common_first}
use Rattle.keep_sqlite.proofs.Keys.{and_parts}

-- the marks of a pair
pub record IsMarked (r : Row) : Type 0 where
  pub sender : List ℕ
  pub is_sender : column r 1 ≡ Text sender
  pub receiver : List ℕ
  pub is_receiver : column r 2 ≡ Text receiver
  pub handled : ℕ
  pub is_handled : column r 3 ≡ Int (pos handled)
  pub small : handled ≤ 2 ^ 40

-- ---- one value

pub text_of_kind : (v : Value) → is_of kind.Text v ≡ true → not (is_null v) ≡ true → (s : List ℕ) × (v ≡ Text s)
text_of_kind Null typed there = absurd (true≢false (sym there))
text_of_kind (Int n) typed there = absurd (true≢false (sym typed))
text_of_kind (Real x) typed there = absurd (true≢false (sym typed))
text_of_kind (Text s) typed there = (s, refl)
text_of_kind (Blob b) typed there = absurd (true≢false (sym typed))

int_of_kind : (v : Value) → is_of kind.Integer v ≡ true → not (is_null v) ≡ true → (n : ℤ) × (v ≡ Int n)
int_of_kind Null typed there = absurd (true≢false (sym there))
int_of_kind (Int n) typed there = (n, refl)
int_of_kind (Real x) typed there = absurd (true≢false (sym typed))
int_of_kind (Text s) typed there = absurd (true≢false (sym typed))
int_of_kind (Blob b) typed there = absurd (true≢false (sym typed))

both_hold : (a b : Bool) → not (is_false (binary And (from_truth (Some a)) (from_truth (Some b)))) ≡ true
    → (a ≡ true) × (b ≡ true)
unfolding binary
both_hold true true h = (refl, refl)
both_hold true false h = absurd (true≢false (sym h))
both_hold false b h = absurd (true≢false (sym h))

abbrev between : Value → ℕ → Value
between v most = binary And (binary (Compare Ge Binary) v (Int (pos 0))) (binary (Compare Le Binary) v (Int (pos most)))

between_is : (z : ℤ) (most : ℕ) → between (Int z) most ≡ binary And
    (from_truth (Some (is_ge (value_cmp (Int z) (Int (pos 0))))))
    (from_truth (Some (is_le (value_cmp (Int z) (Int (pos most))))))
unfolding binary
between_is z most = refl

never_negative : (n : ℕ) → is_ge (int_cmp (negsuc n) (pos 0)) ≡ true → ⊥
never_negative n h = grind (arith, ints, nat_tests)

up_to : (n most : ℕ) → is_le (int_cmp (pos n) (pos most)) ≡ true → n ≤ most
up_to n most h = grind (arith, ints, nat_tests)

within : (most : ℕ) (v : Value) (z : ℤ) → v ≡ Int z → not (is_false (between v most)) ≡ true
    → (n : ℕ) × (z ≡ pos n) × (n ≤ most)
within most v z is h =
    let both = both_hold _ _ (subst (λ w. not (is_false w) ≡ true) (between_is z most)
    (subst (λ w. not (is_false (between w most)) ≡ true) is h)) in
    go z (ap is_ge (sym (value_cmp-Int z (pos 0))) ∙ both.0) (ap is_le (sym (value_cmp-Int z (pos most))) ∙ both.1)
  where
    go : (z : ℤ) → is_ge (int_cmp z (pos 0)) ≡ true → is_le (int_cmp z (pos most)) ≡ true
        → (n : ℕ) × (z ≡ pos n) × (n ≤ most)
    go (pos n) low high = (n, refl, up_to n most high)
    go (negsuc n) low high = absurd (never_negative n low)

-- ---- a row

marked : (r : Row) → are_typed in_marks.key 0 in_marks.columns (drop 1 r) ≡ true
    → are_present in_marks.key 0 in_marks.columns r ≡ true → passes_checks in_marks r ≡ true → IsMarked r
marked [] typed present checked = absurd (true≢false (sym present))
marked (id ∷ []) typed present checked = absurd (true≢false (sym present))
marked (id ∷ a ∷ []) typed present checked = absurd (true≢false (sym (and_parts _ _ present).1))
marked (id ∷ a ∷ b ∷ []) typed present checked =
    absurd (true≢false (sym (and_parts _ _ (and_parts _ _ present).1).1))
marked (id ∷ a ∷ b ∷ c ∷ more) typed present checked =
    let t = and_parts _ _ typed in let p = and_parts _ _ present in
    let u = and_parts _ _ t.1 in let q = and_parts _ _ p.1 in
    let v = and_parts _ _ u.1 in let s = and_parts _ _ q.1 in
    let sender = text_of_kind a t.0 p.0 in
    let receiver = text_of_kind b u.0 q.0 in
    let handled = int_of_kind c v.0 s.0 in
    let mark = within (2 ^ 40) c handled.0 handled.1 (and_parts _ _ checked).0 in
    record {
      sender = sender.0;
      is_sender = sender.1;
      receiver = receiver.0;
      is_receiver = receiver.1;
      handled = mark.0;
      is_handled = handled.1 ∙ ap Int mark.1;
      small = mark.2;
    }

module _ (schema : Schema) (service : IsService schema) (db : Trees) (sound : IsSound schema db) where
  pub all_marked : (r : Row) → Has (db 5) r → IsMarked r
  all_marked r there =
      let listed : Has schema.tables in_marks =
      subst (λ ts. Has ts in_marks) (sym (common_first schema service)) (inr (inr (inr (inl refl)))) in
      marked r (and_parts _ _ (keeps_at Datatype schema db in_marks r (sound.obeys.rules Datatype) listed there)).0
      (keeps_at NotNull schema db in_marks r (sound.obeys.rules NotNull) listed there)
      (keeps_at Check schema db in_marks r (sound.obeys.rules Check) listed there)
