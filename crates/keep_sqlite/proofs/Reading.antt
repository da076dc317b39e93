-- What the answers of the reads tell of the tables.
use Rattle.std.proofs.Common.{◌≡◌, ◌⊎◌, inr, ℕ, ℤ, pos, List, [], ◌∷◌, map, filter, Bool, Option, Some}
use Rattle.std.proofs.Common.{None, Ok, Err, Result}
use Rattle.std.proofs.Common.{IfOk, refl, sym, ap, subst, ◌∙◌, inl, Ordering, IsPermutation, arith}
use Rattle.std.specs.Prelude.{find}
use Rattle.std.proofs.lemmas.List.Sorted.{length_permutation, IsPermutation-sym, Contains-permutation}
use Rattle.sqlite.specs.declared.types.Value.TheVariants.{Int}
use Rattle.sqlite_value.specs.Order.{Row, column}
use Rattle.sqlite_catalog.specs.Listing.{IsSound}
use Rattle.sqlite_rules.specs.Lists.{Has}
use Rattle.sqlite_rules.proofs.ListLemmas.{has_filtered, has_kept, has_contained, contains_had}
use Rattle.sqlite.specs.Effect.{Database, IsDatabase}
use Rattle.base.specs.Entity.{text_of}
use Rattle.base.specs.declared.pair.Pair.{Pair}
use Rattle.envelope.specs.declared.message.Message.{Message}
use Rattle.sql_rows.specs.Tables.{has_key, place_key, AreInOrder}
use Rattle.keep_sqlite.specs.Filing.{Filing}
use Rattle.keep_sqlite.specs.Tables.{key_of, key_at, number_in, mark_in, marks_in, letter_in, messages_in}
use Rattle.keep_sqlite.specs.Ready.{IsFiled, IsFirstMark, IsFirstCell, IsFirstMessage}
use Rattle.keep_sqlite.proofs.Lookup.{IsOne, found_is, none_is, not_true}
use Rattle.keep_sqlite.proofs.Keys.{one_in_out_marks, one_in_in_marks, one_in_held}

none_left : {X : Type 0} (xs : List X) → IsPermutation xs [] → xs ≡ []
none_left [] h = refl
none_left (x ∷ xs) h = absurd (let e = length_permutation (x ∷ xs) [] h in omega (arith, e))

module _ (p : Row → Bool) (rows : List Row) (one : IsOne p rows) (cmp : Row → Row → Ordering) where
  -- what a SELECT shows of the row that passes: nothing, where none does
  pub shown_row : (show : Row → Row) (items : List Row) → AreInOrder cmp None show (filter p rows) items
      → ((items ≡ []) × (find p rows ≡ None)) ⊎ ((x : Row) × (rest : List Row) × (items ≡ show x ∷ rest)
      × (find p rows ≡ Some x))
  shown_row show items a = go a.all a.same a.shown
    where
      go : (all : List Row) → IsPermutation (filter p rows) all → items ≡ map show all
          → ((items ≡ []) × (find p rows ≡ None)) ⊎ ((x : Row) × (rest : List Row) × (items ≡ show x ∷ rest)
          × (find p rows ≡ Some x))
      go [] same shown =
          let empty = none_left (filter p rows) same in
          inl (
            shown,
            none_is p rows
                (λ x h. not_true _ (λ hit. subst (λ l. Has l x) empty (has_kept p rows x h hit))),
          )
      go (x ∷ more) same shown =
          let there = has_contained _ x (Contains-permutation (x ∷ more) (filter p rows) x
          (IsPermutation-sym (filter p rows) (x ∷ more) same) (contains_had (x ∷ more) x (inl refl))) in
          let f = has_filtered p rows x there in
          inr (x, map show more, shown, found_is p rows x one f.0 f.1)

  pub first_mark : (show : Row → Row) (shown at : ℕ) → ((x : Row) → column (show x) shown ≡ column x at)
      → (items : List Row) (n : ℕ) → AreInOrder cmp None show (filter p rows) items → IsFirstMark shown items n
      → n ≡ mark_in at (find p rows)
  first_mark show shown at shows items n a is = elim (shown_row show items a) [
    | inl none ↦ rw none.1 (subst (λ l. IsFirstMark shown l n) none.0 is)
    | inr some ↦ rw some.3 (ap number_in (sym (subst (λ l. IsFirstMark shown l n) some.2 is) ∙ shows some.0))
  ]

  pub first_cell : (show : Row → Row) (shown at : ℕ) → ((x : Row) → column (show x) shown ≡ column x at)
      → (items : List Row) (z : ℤ) → AreInOrder cmp None show (filter p rows) items → IsFirstCell shown items z
      → number_in (Int z) ≡ mark_in at (find p rows)
  first_cell show shown at shows items z a is = elim (shown_row show items a) [
    | inl none ↦ rw none.1 (ap (λ y. number_in (Int y)) (subst (λ l. IsFirstCell shown l z) none.0 is))
    | inr some ↦ rw some.3 (ap number_in (sym (subst (λ l. IsFirstCell shown l z) some.2 is) ∙ shows some.0))
  ]

  pub first_message : (items : List Row) (m : Option Message)
      → AreInOrder cmp None (λ x. column x 4 ∷ []) (filter p rows) items
      → IsFirstMessage items m → m ≡ letter_in (find p rows)
  first_message items m a is = elim (shown_row (λ x. column x 4 ∷ []) items a) [
    | inl none ↦ rw none.1 (subst (λ l. IsFirstMessage l m) none.0 is)
    | inr some ↦ rw some.3 (subst (λ l. IsFirstMessage l m) some.2 is)
  ]

module _ {S C : Type 0} (f : Filing S C) (count : ℕ) (db : Database) (filed : IsFiled f.schema count db) (sound :
    IsDatabase db)
    (q : Pair) (cmp : Row → Row → Ordering) where
  is_sound : IsSound f.schema db.trees
  is_sound = subst (λ s. IsSound s db.trees) filed.is sound

  pub handled_is : (items : List Row) (n : ℕ)
      → AreInOrder cmp None (λ x. column x 3 ∷ []) (filter (has_key (key_of q)) (db.trees 5)) items
      → IsFirstMark 0 items n → n ≡ marks_in 3 (db.trees 5) q
  handled_is items n a mark =
      first_mark (has_key (key_of q)) (db.trees 5)
      (one_in_in_marks f.schema f.is_service db.trees is_sound filed.rising q) cmp (λ x. column x 3 ∷ []) 0 3 (λ x.
      refl)
      items n a mark

  one_out : IsOne (has_key (key_of q)) (db.trees 3)
  one_out = one_in_out_marks f.schema f.is_service db.trees is_sound filed.rising q

  pub sent_is : (items : List Row) (n : ℕ)
      → AreInOrder cmp None (λ x. column x 3 ∷ column x 4 ∷ []) (filter (has_key (key_of q)) (db.trees 3)) items
      → IsFirstMark 0 items n → n ≡ marks_in 3 (db.trees 3) q
  sent_is items n a mark = first_mark (has_key (key_of q)) (db.trees 3) one_out cmp
      (λ x. column x 3 ∷ column x 4 ∷ []) 0 3 (λ x. refl) items n a mark

  pub settled_is : (items : List Row) (n : ℕ)
      → AreInOrder cmp None (λ x. column x 3 ∷ column x 4 ∷ []) (filter (has_key (key_of q)) (db.trees 3)) items
      → IsFirstMark 1 items n → n ≡ marks_in 4 (db.trees 3) q
  settled_is items n a mark = first_mark (has_key (key_of q)) (db.trees 3) one_out cmp
      (λ x. column x 3 ∷ column x 4 ∷ []) 1 4 (λ x. refl) items n a mark

  pub held_is : {E : Type 0} (k : ℕ) (s t : List ℕ) (z : ℤ) → s ≡ text_of q.from → t ≡ text_of q.to → z ≡ pos k
      → (items : List Row) (r : Result (Option Message) E)
      → AreInOrder cmp None (λ x. column x 4 ∷ []) (filter (has_key (place_key s t z)) (db.trees 7)) items
      → IfOk r (IsFirstMessage items) → IfOk r (λ m. m ≡ messages_in (db.trees 7) q k)
  held_is k s t z from to number items (Ok m) a is =
      first_message (has_key (key_at q k)) (db.trees 7)
      (one_in_held f.schema f.is_service db.trees is_sound filed.rising q k) cmp items m (rw (from, to, number) at a) is
  held_is k s t z from to number items (Err e) a is = tt

  pub sent_cell : (items : List Row) (z : ℤ)
      → AreInOrder cmp None (λ x. column x 3 ∷ column x 4 ∷ []) (filter (has_key (key_of q)) (db.trees 3)) items
      → IsFirstCell 0 items z → number_in (Int z) ≡ marks_in 3 (db.trees 3) q
  sent_cell items z a is = first_cell (has_key (key_of q)) (db.trees 3) one_out cmp
      (λ x. column x 3 ∷ column x 4 ∷ []) 0 3 (λ x. refl) items z a is

  pub settled_cell : (items : List Row) (z : ℤ)
      → AreInOrder cmp None (λ x. column x 3 ∷ column x 4 ∷ []) (filter (has_key (key_of q)) (db.trees 3)) items
      → IsFirstCell 1 items z → number_in (Int z) ≡ marks_in 4 (db.trees 3) q
  settled_cell items z a is = first_cell (has_key (key_of q)) (db.trees 3) one_out cmp
      (λ x. column x 3 ∷ column x 4 ∷ []) 1 4 (λ x. refl) items z a is
