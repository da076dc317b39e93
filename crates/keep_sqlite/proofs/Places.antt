-- Rows stand in the order of their pairs and places.
use Rattle.std.proofs.Common.{◌≡◌, ℕ, pos, true, ◌&&◌, ◌||◌, refl, sym, ap, ap₂, ◌∙◌}
use Rattle.std.proofs.Common.{Ordering, Less, Equal, Greater, Option, Some, None, arith, true≢false}
use Rattle.std.specs.Ordering.{is_eq, is_gt, is_ge, nat_cmp, int_cmp, ordering_then, ordering_reverse}
use Rattle.std.specs.Cmp.{tied_itself}
use Rattle.std.proofs.lemmas.Bool.Decides.{nat_tests}
use Rattle.std.proofs.lemmas.Cmp.{alike_right}
use Rattle.std.proofs.lemmas.Int.{ints}
use Rattle.sqlite.specs.declared.types.Value.{Value}
use Rattle.sqlite.specs.declared.types.Value.TheVariants.{Int, Text}
use Rattle.sqlite_value.specs.Order.{Row, column, value_cmp}
use Rattle.sqlite_value.proofs.OrderLemmas.{value_cmp_total, value_cmp-Text, value_cmp-Int}
use Rattle.base.specs.Entity.{Entity, text_of}
use Rattle.base.specs.Order.{entity_cmp, pair_cmp}
use Rattle.base.specs.declared.pair.Pair.{Pair}
use Rattle.keep.specs.declared.change.LetterPlace.{LetterPlace}
use Rattle.keep.specs.Places.{place_cmp, place_cmp-total}
use Rattle.keep.specs.Listing.{IsAfter}
use Rattle.keep.proofs.Places.{place_cmp-Greater}
use Rattle.sql_rows.specs.Tables.{has_key, by_pair, by_place, is_after}
use Rattle.keep_sqlite.specs.Tables.{key_of, key_at}
use Rattle.keep_sqlite.specs.Listing.{is_behind}
use Rattle.keep_sqlite.proofs.Keys.{equal_is, and_parts}

-- the key of the row of a place
abbrev pub IsPlaced : LetterPlace → Row → Type 0
IsPlaced x r = has_key (key_at x.pair x.number) r ≡ true

-- values that tie with two others compare as these
pub compare_as : (v w a b : Value) → is_eq (value_cmp v a) ≡ true → is_eq (value_cmp w b) ≡ true
    → value_cmp v w ≡ value_cmp a b
compare_as v w a b p q =
    value_cmp_total.congr v a w (equal_is _ p) ∙ alike_right value_cmp_total w b a (equal_is _ q)

texts_compare : (v w : Value) (d e : Entity) → is_eq (value_cmp v (Text (text_of d))) ≡ true
    → is_eq (value_cmp w (Text (text_of e))) ≡ true → value_cmp v w ≡ entity_cmp d e
texts_compare v w d e p q =
    compare_as v w (Text (text_of d)) (Text (text_of e)) p q ∙ value_cmp-Text (text_of d) (text_of e)

as_naturals : (m n : ℕ) → int_cmp (pos m) (pos n) ≡ nat_cmp m n
as_naturals m n = grind (arith, ints, nat_tests)

numbers_compare : (v w : Value) (m n : ℕ) → is_eq (value_cmp v (Int (pos m))) ≡ true
    → is_eq (value_cmp w (Int (pos n))) ≡ true → value_cmp v w ≡ nat_cmp m n
numbers_compare v w m n p q =
    compare_as v w (Int (pos m)) (Int (pos n)) p q ∙ value_cmp-Int (pos m) (pos n) ∙ as_naturals m n

then_both : (a b : Ordering) → ordering_then a (ordering_then b Equal) ≡ ordering_then a b
then_both Less b = refl
then_both Equal Less = refl
then_both Equal Equal = refl
then_both Equal Greater = refl
then_both Greater b = refl

then_all : (a b c : Ordering)
    → ordering_then a (ordering_then b (ordering_then c Equal)) ≡ ordering_then (ordering_then a b) c
then_all Less b c = refl
then_all Equal Less c = refl
then_all Equal Equal Less = refl
then_all Equal Equal Equal = refl
then_all Equal Equal Greater = refl
then_all Equal Greater c = refl
then_all Greater b c = refl

pub pairs_compare : (x y : Row) (p q : Pair) → has_key (key_of p) x ≡ true → has_key (key_of q) y ≡ true
    → by_pair x y ≡ pair_cmp p q
pairs_compare x y p q h k =
    let a = and_parts _ _ h in let b = and_parts _ _ k in
    let c = and_parts _ _ a.1 in let d = and_parts _ _ b.1 in
    ap₂ (λ s t. ordering_then s (ordering_then t Equal))
    (texts_compare (column x 1) (column y 1) p.from q.from a.0 b.0)
    (texts_compare (column x 2) (column y 2) p.to q.to c.0 d.0)
    ∙ then_both (entity_cmp p.from q.from) (entity_cmp p.to q.to)

pub places_compare : (x y : Row) (a b : LetterPlace) → IsPlaced a x → IsPlaced b y → by_place x y ≡ place_cmp a b
places_compare x y a b h k =
    let f = and_parts _ _ h in let g = and_parts _ _ k in
    let t = and_parts _ _ f.1 in let u = and_parts _ _ g.1 in
    let m = and_parts _ _ t.1 in let n = and_parts _ _ u.1 in
    ap₂ (λ s o. ordering_then s o) (texts_compare (column x 1) (column y 1) a.pair.from b.pair.from f.0 g.0)
    (ap₂ (λ s o. ordering_then s (ordering_then o Equal))
    (texts_compare (column x 2) (column y 2) a.pair.to b.pair.to t.0 u.0)
    (numbers_compare (column x 3) (column y 3) a.number b.number m.0 n.0))
    ∙ then_all (entity_cmp a.pair.from b.pair.from) (entity_cmp a.pair.to b.pair.to) (nat_cmp a.number b.number)

-- a row is behind a place, where its own comes after that
is_later : (a b c : Ordering) → (is_ge a && (is_gt a || is_gt b || is_eq b && is_gt c))
    ≡ is_gt (ordering_then (ordering_then a b) c)
is_later Less b c = refl
is_later Equal Less c = refl
is_later Equal Equal c = refl
is_later Equal Greater c = refl
is_later Greater b c = refl

pub itself : (v : Value) → is_eq (value_cmp v v) ≡ true
itself v = ap is_eq (tied_itself value_cmp_total v)

after_test : (r : Row) (x a : LetterPlace) → IsPlaced x r
    → is_after (text_of a.pair.from) (text_of a.pair.to) (pos a.number) r ≡ is_gt (place_cmp x a)
after_test r x a h =
    let f = and_parts _ _ h in let t = and_parts _ _ f.1 in let m = and_parts _ _ t.1 in
    rw (
      texts_compare (column r 1) (Text (text_of a.pair.from)) x.pair.from a.pair.from f.0 (itself _),
      texts_compare (column r 2) (Text (text_of a.pair.to)) x.pair.to a.pair.to t.0 (itself _),
      numbers_compare (column r 3) (Int (pos a.number)) x.number a.number m.0 (itself _),
    ) (is_later (entity_cmp x.pair.from a.pair.from) (entity_cmp x.pair.to a.pair.to) (nat_cmp x.number a.number))

greater_is : (o : Ordering) → is_gt o ≡ true → o ≡ Greater
greater_is Less h = absurd (true≢false (sym h))
greater_is Equal h = absurd (true≢false (sym h))
greater_is Greater h = refl

pub after_behind : (after : Option LetterPlace) (r : Row) (x : LetterPlace) → IsPlaced x r → is_behind after r ≡ true
    → IsAfter after x
after_behind None r x h is = tt
after_behind (Some a) r x h is = place_cmp-Greater x a (greater_is _ (sym (after_test r x a h) ∙ is))

pub behind_after : (after : Option LetterPlace) (r : Row) (x : LetterPlace) → IsPlaced x r → IsAfter after x
    → is_behind after r ≡ true
behind_after None r x h is = refl
behind_after (Some a) r x h is = after_test r x a h ∙ ap is_gt (place_cmp-total.antisymm x a ∙ ap ordering_reverse is)
