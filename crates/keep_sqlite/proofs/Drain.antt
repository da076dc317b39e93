-- The first held letter that SQL finds to be next is the one of the first pair that can be drained.
use Rattle.std.proofs.Common.{◌≡◌, ◌≤◌, ◌^◌, ◌⊎◌, inl, inr, ℕ, ◌+◌, pos, List, [], ◌∷◌, map, filter}
use Rattle.std.proofs.Common.{flat_map, true, false, Option, Some, None, Result, Ok, Err, IfOk}
use Rattle.std.proofs.Common.{Less, refl, sym, ap, subst, ◌∙◌}
use Rattle.std.proofs.Common.{true≢false, arith}
use Rattle.std.specs.Prelude.{find, take, nat_lt, IsSome}
use Rattle.std.specs.List.{AllByRecursion}
use Rattle.std.specs.Ordering.{is_eq, is_gt, ordering_reverse}
use Rattle.std.specs.Cmp.{tied_itself, on_total}
use Rattle.std.proofs.lemmas.Bool.Decides.{nat_tests}
use Rattle.std.proofs.lemmas.List.Sorted.{IsPermutation-sym, Contains-permutation}
use Rattle.sqlite.specs.declared.types.Value.{Value}
use Rattle.sqlite.specs.declared.types.Value.TheVariants.{Null, Int, Text}
use Rattle.sqlite_value.specs.Order.{Row, column, value_cmp}
use Rattle.sqlite_value.proofs.OrderLemmas.{value_cmp_total}
use Rattle.sqlite_trees.specs.Tree.{IsAscending}
use Rattle.sqlite_sql.specs.Ops.{binary}
use Rattle.sqlite_sql.specs.Query.{or_nulls}
use Rattle.sqlite_sql.specs.declared.ops.BinaryOp.TheVariants.{Arith, Coalesce}
use Rattle.sqlite_sql.specs.declared.ops.ArithOp.TheVariants.{Add}
use Rattle.sqlite_sql.proofs.QueryLemmas.{key_cmp_total}
use Rattle.sqlite_exec.proofs.PartitionLemmas.{ascending_from_sorted}
use Rattle.sqlite_catalog.specs.Listing.{IsSound}
use Rattle.sqlite_rules.specs.Lists.{Has}
use Rattle.sqlite_rules.proofs.ListLemmas.{all_has, has_filtered, has_kept, has_found, has_contained, contains_had}
use Rattle.sqlite_rules.proofs.ListLemmas.{has_left, has_right, has_either}
use Rattle.sqlite_rules.proofs.ProbeLemmas.{has_mapped, mapped_has}
use Rattle.sqlite.specs.Effect.{Database, IsDatabase}
use Rattle.base.specs.Entity.{text_of}
use Rattle.base.specs.Order.{pair_cmp, pair_cmp-total}
use Rattle.base.specs.declared.pair.Pair.{Pair}
use Rattle.envelope.specs.declared.message.Message.{Message}
use Rattle.keep.specs.Listing.{IsDrainable, next_held}
use Rattle.keep.proofs.Places.{never_self_pair}
use Rattle.sql_rows.specs.Tables.{has_key, AreInOrder, by_pair, up, sql_eq, is_mark_of, is_next}
use Rattle.sql_rows.specs.Tables.{next_held as held_rows}
use Rattle.sql_rows.proofs.Tests.{eq_test}
use Rattle.keep_sqlite.specs.Filing.{Filing}
use Rattle.keep_sqlite.specs.Tables.{key_of, key_at, number_in, mark_in, marks_in, letter_in, messages_in}
use Rattle.keep_sqlite.specs.Listing.{IsPairAt, IsFirstPair}
use Rattle.keep_sqlite.specs.Ready.{IsFiled}
use Rattle.keep_sqlite.proofs.Keys.{one_in_in_marks, one_in_held, one_pair, and_parts, equal_is}
use Rattle.keep_sqlite.proofs.Lookup.{IsOne, found_is, none_is, not_true}
use Rattle.keep_sqlite.proofs.Marks.{IsMarked, all_marked}
use Rattle.keep_sqlite.proofs.Places.{pairs_compare, compare_as, itself}

-- ---- lists

or_nulls_has : (xs : List Row) (x : Row) → Has xs x → Has (or_nulls xs) x
or_nulls_has [] x h = absurd h
or_nulls_has (y ∷ xs) x h = h

from_nulls : (xs : List Row) (x : Row) → Has (or_nulls xs) x → Has xs x ⊎ ((xs ≡ []) × (x ≡ []))
from_nulls [] x (inl e) = inr (refl, e)
from_nulls [] x (inr h) = absurd h
from_nulls (y ∷ xs) x h = inl h

some_of_nulls : (xs : List Row) → (x : Row) × Has (or_nulls xs) x
some_of_nulls [] = ([], inl refl)
some_of_nulls (y ∷ xs) = (y, inl refl)

module _ {X Y : Type 0} (f : X → List Y) where
  flat_has : (xs : List X) (x : X) (y : Y) → Has xs x → Has (f x) y → Has (flat_map f xs) y
  flat_has [] x y there h = absurd there
  flat_has (z ∷ xs) x y (inl same) h = has_left (f z) (flat_map f xs) y (subst (λ w. Has (f w) y) same h)
  flat_has (z ∷ xs) x y (inr later) h = has_right (f z) (flat_map f xs) y (flat_has xs x y later h)

  has_flat : (xs : List X) (y : Y) → Has (flat_map f xs) y → (x : X) × Has xs x × Has (f x) y
  has_flat [] y h = absurd h
  has_flat (z ∷ xs) y h = elim (has_either (f z) (flat_map f xs) y h) [
    | inl here ↦ (z, inl refl, here)
    | inr later ↦ let found = has_flat xs y later in (found.0, inr found.1, found.2)
  ]

-- ---- what SQL tests of two values

text_ties : (v w : Value) (s t : List ℕ) → w ≡ Text s → is_eq (value_cmp v (Text t)) ≡ true
    → is_eq (value_cmp w (Text t)) ≡ true → sql_eq v w ≡ true
text_ties v w s t is p q =
    ap (sql_eq v) is ∙ eq_test v (Text s) tt ∙ ap (λ x. is_eq (value_cmp v x)) (sym is)
    ∙ ap is_eq (compare_as v w (Text t) (Text t) p q) ∙ itself (Text t)

tied_text : (v w : Value) (s t : List ℕ) → w ≡ Text s → sql_eq v w ≡ true → is_eq (value_cmp v (Text t)) ≡ true
    → is_eq (value_cmp w (Text t)) ≡ true
tied_text v w s t is h p =
    let tie : is_eq (value_cmp v w) ≡ true =
    ap (λ x. is_eq (value_cmp v x)) is ∙ sym (eq_test v (Text s) tt) ∙ ap (sql_eq v) (sym is) ∙ h in
    ap is_eq (sym (value_cmp_total.congr v w (Text t) (equal_is _ tie))) ∙ p

coalesced : (n : ℕ) → binary Coalesce (Int (pos n)) (Int (pos 0)) ≡ Int (pos n)
unfolding binary
coalesced n = refl

coalesced_null : binary Coalesce Null (Int (pos 0)) ≡ Int (pos 0)
unfolding binary
coalesced_null = refl

one_more : (n : ℕ) → n ≤ 2 ^ 40 → binary (Arith Add) (Int (pos n)) (Int (pos 1)) ≡ Int (pos (n + 1))
unfolding binary
one_more n small = let fits : nat_lt (n + 1) (2 ^ 63) ≡ true = grind (arith, nat_tests) in rw fits refl

-- a row that tells a pair has its key
pair_told : (r : Row) (p : Pair) → IsPairAt (column r 1 ∷ column r 2 ∷ []) p → has_key (key_of p) r ≡ true
pair_told r p is =
    let z = tied_itself value_cmp_total in
    rw (is.sender, is.receiver, z (Text (text_of p.from)), z (Text (text_of p.to))) refl

-- the key of a place is that of its pair, with the number
abbrev HasNumber : ℕ → Row → Type 0
HasNumber n r = is_eq (value_cmp (column r 3) (Int (pos n))) ≡ true

of_place : (r : Row) (p : Pair) (n : ℕ) → has_key (key_at p n) r ≡ true → (has_key (key_of p) r ≡ true) × HasNumber n r
of_place r p n h =
    let a = and_parts _ _ h in let b = and_parts _ _ a.1 in let c = and_parts _ _ b.1 in
    let from : is_eq (value_cmp (column r 1) (Text (text_of p.from))) ≡ true = a.0 in
    let to : is_eq (value_cmp (column r 2) (Text (text_of p.to))) ≡ true = b.0 in
    (rw (from, to) refl, c.0)

at_place : (r : Row) (p : Pair) (n : ℕ) → has_key (key_of p) r ≡ true → HasNumber n r → has_key (key_at p n) r ≡ true
at_place r p n h number =
    let a = and_parts _ _ h in let b = and_parts _ _ a.1 in
    let from : is_eq (value_cmp (column r 1) (Text (text_of p.from))) ≡ true = a.0 in
    let to : is_eq (value_cmp (column r 2) (Text (text_of p.to))) ≡ true = b.0 in
    rw (from, to, number) refl

-- ---- held letters and marks

module _ (helds marks : List Row) (one_held : (p : Pair) (n : ℕ) → IsOne (has_key (key_at p n)) helds)
    (one_mark : (p : Pair) → IsOne (has_key (key_of p)) marks) (each : (m : Row) → Has marks m → IsMarked m) where
  abbrev next : Pair → Option Message
  next = next_held (messages_in helds) (marks_in 3 marks)

  abbrev found : List (Row × Row)
  found = held_rows helds marks

  abbrev marks_of : Row → List Row
  marks_of h = filter (is_mark_of h) marks

  -- the rows of a held letter in the answer
  abbrev pairs_of : Row → List (Row × Row)
  pairs_of h = map (λ m. (h, m)) (filter (is_next h) (or_nulls (marks_of h)))

  joins : (h m : Row) (p : Pair) → Has marks m → has_key (key_of p) h ≡ true → has_key (key_of p) m ≡ true
      → Has (marks_of h) m
  joins h m p there k l =
      let a = and_parts _ _ k in let b = and_parts _ _ l in
      let c = and_parts _ _ a.1 in let d = and_parts _ _ b.1 in
      let is = each m there in
      let from = text_ties (column h 1) (column m 1) is.sender (text_of p.from) is.is_sender a.0 b.0 in
      let to = text_ties (column h 2) (column m 2) is.receiver (text_of p.to) is.is_receiver c.0 d.0 in
      has_kept (is_mark_of h) marks m there (rw (from, to) refl)

  joined : (h m : Row) (p : Pair) → Has (marks_of h) m → has_key (key_of p) h ≡ true
      → Has marks m × (has_key (key_of p) m ≡ true)
  joined h m p there k =
      let a = and_parts _ _ k in let c = and_parts _ _ a.1 in
      let f = has_filtered (is_mark_of h) marks m there in
      let b = and_parts _ _ f.1 in let d = and_parts _ _ b.1 in
      let is = each m f.0 in
      let from = tied_text (column h 1) (column m 1) is.sender (text_of p.from) is.is_sender b.0 a.0 in
      let to = tied_text (column h 2) (column m 2) is.receiver (text_of p.to) is.is_receiver d.0 c.0 in
      (f.0, rw (from, to) refl)

  -- the mark that a held letter of a pair is joined with is the pair's
  abbrev IsMarkOf : Row → Pair → Type 0
  IsMarkOf m p = (binary Coalesce (column m 3) (Int (pos 0)) ≡ Int (pos (marks_in 3 marks p)))
      × (marks_in 3 marks p ≤ 2 ^ 40)

  mark_of : (h m : Row) (p : Pair) → has_key (key_of p) h ≡ true → Has (or_nulls (marks_of h)) m → IsMarkOf m p
  mark_of h m p k there = elim (from_nulls (marks_of h) m there) [
    | inl some ↦
        let f = joined h m p some k in
        let is = each m f.0 in
        let mark : marks_in 3 marks p ≡ is.handled =
        ap (mark_in 3) (found_is (has_key (key_of p)) marks m (one_mark p) f.0 f.1) ∙ ap number_in is.is_handled in (
          ap (λ v. binary Coalesce v (Int (pos 0))) is.is_handled ∙ coalesced is.handled
              ∙ ap (λ n. Int (pos n)) (sym mark),
          subst (λ n. n ≤ 2 ^ 40) (sym mark) is.small,
        )
    | inr none ↦
        let mark : marks_in 3 marks p ≡ 0 =
        ap (mark_in 3) (none_is (has_key (key_of p)) marks (λ x h'. not_true _ (λ l.
        subst (λ xs. Has xs x) none.0 (joins h x p h' k l)))) in (
          ap (λ r. binary Coalesce (column r 3) (Int (pos 0))) none.1 ∙ coalesced_null
              ∙ ap (λ n. Int (pos n)) (sym mark),
          subst (λ n. n ≤ 2 ^ 40) (sym mark) (omega arith),
        )
  ]

  next_test : (h m : Row) (p : Pair) → has_key (key_of p) h ≡ true → Has (or_nulls (marks_of h)) m
      → is_next h m ≡ is_eq (value_cmp (column h 3) (Int (pos (marks_in 3 marks p + 1))))
  next_test h m p k there =
      let is = mark_of h m p k there in
      ap (λ v. sql_eq (column h 3) (binary (Arith Add) v (Int (pos 1)))) is.0
      ∙ ap (sql_eq (column h 3)) (one_more (marks_in 3 marks p) is.1)
      ∙ eq_test (column h 3) (Int (pos (marks_in 3 marks p + 1))) tt

  -- SQL finds each pair that has a next letter
  finds : (p : Pair) → (next p ≡ None) ⊎ ((x : Row × Row) × Has found x × (has_key (key_of p) x.0 ≡ true))
  finds p = go (find (has_key (key_at p (marks_in 3 marks p + 1))) helds) refl
    where
      go : (o : Option Row) → find (has_key (key_at p (marks_in 3 marks p + 1))) helds ≡ o
          → (next p ≡ None) ⊎ ((x : Row × Row) × Has found x × (has_key (key_of p) x.0 ≡ true))
      go None e = inl (ap letter_in e)
      go (Some h) e =
          let f = has_found (has_key (key_at p (marks_in 3 marks p + 1))) helds h e in
          let key = of_place h p (marks_in 3 marks p + 1) f.1 in
          let m = some_of_nulls (marks_of h) in
          inr (
            (h, m.0),
            flat_has pairs_of helds h (h, m.0) f.0
                (mapped_has (λ r. (h, r)) (filter (is_next h) (or_nulls (marks_of h))) m.0
                (has_kept (is_next h) (or_nulls (marks_of h)) m.0 m.1 (next_test h m.0 p key.0 m.1 ∙ key.1))),
            key.0,
          )

  -- and no other
  has_next : (x : Row × Row) (p : Pair) → Has found x → has_key (key_of p) x.0 ≡ true → IsSome (next p)
  has_next x p there key =
      let f = has_flat pairs_of helds x there in
      let m = has_mapped (λ r. (f.0, r)) (filter (is_next f.0) (or_nulls (marks_of f.0))) x f.2 in
      let is = has_filtered (is_next f.0) (or_nulls (marks_of f.0)) m.0 m.1 in
      let k : has_key (key_of p) f.0 ≡ true = subst (λ r. has_key (key_of p) r ≡ true) (ap (λ y. y.0) m.2) key in
      let number = sym (next_test f.0 m.0 p k is.0) ∙ is.1 in
      let n = marks_in 3 marks p + 1 in
      let here = at_place f.0 p n k number in
      subst (λ o. IsSome (letter_in o)) (sym (found_is (has_key (key_at p n)) helds f.0 (one_held p n) f.1 here)) refl

  abbrev AtMost : Row × Row → Row × Row → Type 0
  AtMost a b = is_gt (by_pair a.0 b.0) ≡ false

  first_is : (x : Row × Row) (rest : List (Row × Row)) (p : Pair) → ((y : Row × Row) → Has found y → Has (x ∷ rest) y)
      → Has found x → AllByRecursion (AtMost x) rest → has_key (key_of p) x.0 ≡ true → IsDrainable next (Some p)
  first_is x rest p all there up key = (
    has_next x p there key,
    λ q less. elim (finds q) [
      | inl none ↦ none
      | inr some ↦ elim (all some.0 some.1) [
        | inl same ↦
            let one = one_pair x.0 q p (subst (λ (y : Row × Row). has_key (key_of q) y.0 ≡ true) same some.2) key in
            absurd (never_self_pair p (subst (λ r. pair_cmp r p ≡ Less) one less))
        | inr more ↦ absurd (true≢false (
            sym (ap is_gt (pair_cmp-total.antisymm p q ∙ ap ordering_reverse less))
            ∙ ap is_gt (sym (pairs_compare x.0 some.0.0 p q key some.2)) ∙ all_has (AtMost x) rest some.0 up more))
      ]
    ],
  )

  pub first_drainable : {E : Type 0} (r : Result (Option Pair) E) (items : List Row)
      → AreInOrder (λ a b. by_pair a.0 b.0) (Some 1) (λ x. column x.0 1 ∷ column x.0 2 ∷ []) found items
      → IfOk r (IsFirstPair items) → IfOk r (IsDrainable next)
  first_drainable (Err e) items a is = tt
  first_drainable (Ok o) items a is = go a.all refl a.shown
    where
      in_all : (y : Row × Row) → Has found y → Has a.all y
      in_all y h = has_contained a.all y (Contains-permutation found a.all y a.same (contains_had found y h))

      from_all : (y : Row × Row) → Has a.all y → Has found y
      from_all y h = has_contained found y
          (Contains-permutation a.all found y (IsPermutation-sym found a.all a.same) (contains_had a.all y h))

      up_all : IsAscending AtMost a.all
      up_all = ascending_from_sorted (λ x y. by_pair x.0 y.0)
          (on_total (λ (x : Row × Row). x.0) (key_cmp_total (up ∷ up ∷ []) 1)) a.all a.sorted

      go : (all : List (Row × Row)) → a.all ≡ all
          → items ≡ map (λ x. column x.0 1 ∷ column x.0 2 ∷ []) (take 1 all) → IsDrainable next o
      go [] same shown =
          subst (IsDrainable next) (sym (subst (λ l. IsFirstPair l o) shown is)) (λ p. elim (finds p) [
            | inl none ↦ none
            | inr some ↦ absurd (subst (λ l. Has l some.0) same (in_all some.0 some.1))
          ])
      go (x ∷ rest) same shown =
          let first = subst (λ l. IsFirstPair l o) shown is in
          let key = pair_told x.0 first.0 first.2 in
          subst (IsDrainable next) (sym first.1) (first_is x rest first.0
          (λ y h. subst (λ l. Has l y) same (in_all y h)) (from_all x (subst (λ l. Has l x) (sym same) (inl refl)))
          (subst (IsAscending AtMost) same up_all).0 key)

module _ {S C : Type 0} (f : Filing S C) (count : ℕ) (db : Database) (filed : IsFiled f.schema count db) (sound :
    IsDatabase db) where
  pub drainable_is : {E : Type 0} (r : Result (Option Pair) E) (items : List Row)
      → AreInOrder (λ a b. by_pair a.0 b.0) (Some 1) (λ x. column x.0 1 ∷ column x.0 2 ∷ [])
      (held_rows (db.trees 7) (db.trees 5)) items
      → IfOk r (IsFirstPair items)
      → IfOk r (IsDrainable (next_held (messages_in (db.trees 7)) (marks_in 3 (db.trees 5))))
  drainable_is =
      let here = subst (λ s. IsSound s db.trees) filed.is sound in
      first_drainable (db.trees 7) (db.trees 5) (one_in_held f.schema f.is_service db.trees here filed.rising)
      (one_in_in_marks f.schema f.is_service db.trees here filed.rising)
      (all_marked f.schema f.is_service db.trees here)
