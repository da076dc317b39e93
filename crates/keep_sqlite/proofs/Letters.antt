-- The rows of the outbox that an answer shows tell its first letters.
use Rattle.std.proofs.Common.{◌≡◌, ◌≤◌, ◌<◌, ◌^◌, inl, inr, ℕ, ℤ, ◌+◌, zero, suc, pos, List, [], ◌∷◌, ◌++◌, map}
use Rattle.std.proofs.Common.{filter, IsPermutation}
use Rattle.std.proofs.Common.{take, length, get_or, Bool, false, Option, Some, None, MatchOption, Result, Ok, Err}
use Rattle.std.proofs.Common.{IfOk, Ordering, Less, Equal, Greater, refl, sym, ap, ap₂, subst, ◌∙◌, true≢false, arith}
use Rattle.std.specs.List.{AllZip, IsDistinct}
use Rattle.std.specs.Ordering.{is_eq, is_gt, ordering_reverse}
use Rattle.std.specs.Cmp.{tied_itself}
use Rattle.std.proofs.lemmas.List.{length-map, take_all, take_more}
use Rattle.std.proofs.lemmas.List.Sorted.{IsPermutation-sym, Contains-permutation}
use Rattle.std.proofs.lemmas.Map.Keys.{IsDistinct-IsPermutation}
use Rattle.sqlite.specs.declared.types.Value.TheVariants.{Int, Text}
use Rattle.sqlite_value.specs.Order.{Row, value_cmp}
use Rattle.sqlite_value.proofs.OrderLemmas.{value_cmp_total}
use Rattle.sqlite_trees.specs.Tree.{rowid, IsAscending, IsTable}
use Rattle.sqlite_sql.specs.Query.{as_count, limited}
use Rattle.sqlite_sql.proofs.QueryLemmas.{key_cmp_total}
use Rattle.sqlite_keyed.proofs.ListLemmas.{ascending-filter, ascending_weaker}
use Rattle.sqlite_exec.proofs.PartitionLemmas.{ascending_from_sorted}
use Rattle.sqlite_rules.specs.Lists.{Has}
use Rattle.sqlite_rules.proofs.ListLemmas.{all_has, has_filtered, has_kept, has_contained, contains_had}
use Rattle.sqlite.specs.Effect.{Database, IsDatabase}
use Rattle.sqlite_catalog.specs.Listing.{IsSound}
use Rattle.base.specs.Entity.{text_of}
use Rattle.envelope.specs.declared.message.Letter.{Letter}
use Rattle.keep.specs.declared.change.LetterPlace.{LetterPlace}
use Rattle.keep.specs.Listing.{place_of, IsAfter, AreFirst}
use Rattle.keep.specs.Places.{place_cmp-total, IsBefore}
use Rattle.keep.proofs.Places.{never_self, place_cmp-Equal}
use Rattle.keep.proofs.Listings.{later_than}
use Rattle.sql_rows.specs.Tables.{has_key, AreInOrder, by_place, up, shown_letter, is_after}
use Rattle.keep_sqlite.specs.Filing.{Filing}
use Rattle.keep_sqlite.specs.Tables.{key_at, letter_in, messages_in}
use Rattle.keep_sqlite.specs.Listing.{IsLetterAt, is_behind}
use Rattle.keep_sqlite.specs.Ready.{IsFiled}
use Rattle.keep_sqlite.proofs.Frames.{outbox_rises}
use Rattle.keep_sqlite.proofs.Keys.{one_in_outbox, one_place}
use Rattle.keep_sqlite.proofs.Lookup.{IsOne, found_is, none_is, not_true}
use Rattle.keep_sqlite.proofs.Places.{IsPlaced, places_compare, after_behind, behind_after}

-- ---- lists

pub all_zip_push : {X Y : Type 0} (R : X → Y → Type 0) (xs : List X) (ys : List Y) (x : X) (y : Y) → AllZip R xs ys
    → R x y → AllZip R (xs ++ x ∷ []) (ys ++ y ∷ [])
all_zip_push R [] [] x y h r = (r, tt)
all_zip_push R [] (b ∷ ys) x y h r = absurd h
all_zip_push R (a ∷ xs) [] x y h r = absurd h
all_zip_push R (a ∷ xs) (b ∷ ys) x y h r = (h.0, all_zip_push R xs ys x y h.1 r)

-- one more is read
pub one_more_told : {X Y : Type 0} (R : X → Y → Type 0) (xs : List X) (at : ℕ) (x : X) (ys : List Y) (y : Y)
    → at < length xs → x ≡ get_or xs at x → AllZip R (take at xs) ys → R x y
    → AllZip R (take (at + 1) xs) (ys ++ y ∷ [])
one_more_told R xs at x ys y in_range is so_far told =
    subst (λ l. AllZip R l (ys ++ y ∷ [])) (ap (λ z. take at xs ++ z ∷ []) is ∙ sym (take_more xs at x in_range))
    (all_zip_push R (take at xs) ys x y so_far told)

told_of_shown : {X Y Z : Type 0} (R : X → Y → Type 0) (show : Z → X) (zs : List Z) (ys : List Y)
    → AllZip R (map show zs) ys → AllZip (λ z y. R (show z) y) zs ys
told_of_shown R show [] [] h = tt
told_of_shown R show [] (y ∷ ys) h = absurd h
told_of_shown R show (z ∷ zs) [] h = absurd h
told_of_shown R show (z ∷ zs) (y ∷ ys) h = (h.0, told_of_shown R show zs ys h.1)

-- no limit of SQL is as one above the count
limit_is : {X Y : Type 0} (g : X → Y) (bound : Option ℕ) (limit : ℕ) (xs : List X) (ys : List Y)
    → MatchOption bound (2 ^ 63 ≤ limit) (λ most. most ≡ limit) → length ys < 2 ^ 63 → ys ≡ map g (limited bound xs)
    → ys ≡ map g (take limit xs)
limit_is g None limit xs ys is few shown =
    let count : length ys ≡ length xs = ap length shown ∙ length-map xs g in
    shown ∙ ap (map g) (sym (take_all limit xs (omega (arith, count, is, few))))
limit_is g (Some most) limit xs ys is few shown = shown ∙ ap (λ n. map g (take n xs)) is

-- ---- no row comes twice

abbrev same_id : Row → Row → Bool
same_id a b = is_eq (value_cmp (rowid a) (rowid b))

turned : (o : Ordering) → is_eq (ordering_reverse o) ≡ is_eq o
turned Less = refl
turned Equal = refl
turned Greater = refl

same_either_way : (a b : Row) → same_id a b ≡ same_id b a
same_either_way a b =
    ap is_eq (value_cmp_total.antisymm (rowid a) (rowid b)) ∙ turned (value_cmp (rowid b) (rowid a))

distinct_is : (xs : List Row) → IsAscending (λ a b. same_id a b ≡ false) xs → IsDistinct same_id xs
unfolding IsDistinct
distinct_is [] h = tt
distinct_is (x ∷ xs) h = (h.0, distinct_is xs h.1)

is_distinct : (xs : List Row) → IsDistinct same_id xs → IsAscending (λ a b. same_id a b ≡ false) xs
unfolding IsDistinct
is_distinct [] h = tt
is_distinct (x ∷ xs) h = (h.0, is_distinct xs h.1)

never_twice : (p : Row → Bool) (rows all : List Row) → IsTable rows
    → IsPermutation (filter p rows) all → IsAscending (λ a b. same_id a b ≡ false) all
never_twice p rows all rises same =
    is_distinct all (IsDistinct-IsPermutation same_id same_either_way (filter p rows) all same
    (distinct_is (filter p rows) (ascending-filter _ p rows
    (ascending_weaker _ _ (λ a b less. ap is_eq less) rows rises))))

never_itself : (a b : Row) → same_id a b ≡ false → a ≡ b → ⊥
never_itself a b apart same =
    true≢false (sym (ap is_eq (tied_itself value_cmp_total (rowid b))) ∙ ap (λ r. same_id r b) (sym same) ∙ apart)

-- ---- the first letters

less_if : (o : Ordering) → is_gt o ≡ false → (o ≡ Equal → ⊥) → o ≡ Less
less_if Less h k = refl
less_if Equal h k = absurd (k refl)
less_if Greater h k = absurd (true≢false h)

-- a row that tells a letter has the key of its place
placed : (r : Row) (l : Letter) → IsLetterAt (shown_letter r) l → IsPlaced (place_of l) r
placed r l is =
    let z = tied_itself value_cmp_total in
    rw (
      is.pair.sender,
      is.pair.receiver,
      is.number,
      z (Text (text_of l.pair.from)),
      z (Text (text_of l.pair.to)),
      z (Int (pos l.number)),
    ) refl

abbrev AtMost : Row → Row → Type 0
AtMost a b = is_gt (by_place a b) ≡ false

module _ (rows : List Row) (one : (x : LetterPlace) → IsOne (has_key (key_at x.pair x.number)) rows) where
  same_place_of : (r s : Row) (x y : LetterPlace) → s ≡ r → IsPlaced x r → IsPlaced y s → x ≡ y
  same_place_of r s x y same h k =
      let both = one_place r x.pair y.pair x.number y.number h (subst (IsPlaced y) same k) in
      ap₂ (λ p n. record { pair = p; number = n }) both.0 both.1

  none_there : (x : LetterPlace) → ((r : Row) → Has rows r → IsPlaced x r → ⊥) → messages_in rows x.pair x.number ≡ None
  none_there x never = ap letter_in (none_is (has_key (key_at x.pair x.number)) rows (λ r h. not_true _ (never r h)))

  first_told : (n : ℕ) (after : Option LetterPlace) (all : List Row) (ls : List Letter)
      → AllZip (λ r. IsLetterAt (shown_letter r)) (take n all) ls → IsAscending AtMost all
      → IsAscending (λ a b. same_id a b ≡ false) all → ((r : Row) → Has all r → Has rows r)
      → ((r : Row) (x : LetterPlace) → Has all r → IsPlaced x r → IsAfter after x)
      → ((r : Row) (x : LetterPlace) → Has rows r → IsPlaced x r → IsAfter after x → Has all r)
      → AreFirst (messages_in rows) after n ls
  first_told zero after all [] told rises apart from late there = tt
  first_told zero after all (l ∷ ls) told rises apart from late there = absurd told
  first_told (suc n) after [] [] told rises apart from late there = λ x h. none_there x (λ r k is. there r x k is h)
  first_told (suc n) after [] (l ∷ ls) told rises apart from late there = absurd told
  first_told (suc n) after (r ∷ all) [] told rises apart from late there = absurd told
  first_told (suc n) after (r ∷ all) (l ∷ ls) told rises apart from late there =
      let here : IsPlaced (place_of l) r = placed r l told.0 in
      let later : IsAfter after (place_of l) = late r (place_of l) (inl refl) here in (
        record {
          stands =
              ap letter_in
              (found_is (has_key (key_at l.pair l.number)) rows r (one (place_of l)) (from r (inl refl)) here)
              ∙ ap (λ m. Some m) (sym told.0.message);
          later = later;
          first = λ x h before. none_there x (λ s k is. elim (there s x k is h) [
            | inl same ↦ never_self x (subst (λ y. IsBefore x y) (same_place_of r s (place_of l) x same here is) before)
            | inr more ↦ true≢false (
                sym (ap is_gt (place_cmp-total.antisymm (place_of l) x ∙ ap ordering_reverse before))
                ∙ ap is_gt (sym (places_compare r s (place_of l) x here is))
                ∙ all_has (AtMost r) all s rises.0 more)
          ]);
        },
        first_told n (Some (place_of l)) all ls told.1 rises.1 apart.1 (λ s k. from s (inr k))
            (λ s x k is. less_if _
            (ap is_gt (sym (places_compare r s (place_of l) x here is)) ∙ all_has (AtMost r) all s rises.0 k)
            (λ tie. never_itself r s (all_has (λ b. same_id r b ≡ false) all s apart.0 k)
            (one x r s (from r (inl refl)) (from s (inr k))
            (subst (λ y. IsPlaced y r) (place_cmp-Equal (place_of l) x tie) here) is)))
            (λ s x k is h. elim (there s x k is (later_than after (place_of l) x later h)) [
              | inl same ↦ absurd
                  (never_self x (subst (λ y. IsBefore y x) (same_place_of r s (place_of l) x same here is) h))
              | inr more ↦ more
            ]),
      )

module _ {S C : Type 0} (f : Filing S C) (count : ℕ) (db : Database) (filed : IsFiled f.schema count db) (sound :
    IsDatabase db) where
  pub letters_are : {V E : Type 0} (letters : V → List Letter) (r : Result V E) (after : Option LetterPlace) (limit : ℕ)
      (bound : Option ℕ) → MatchOption bound (2 ^ 63 ≤ limit) (λ most. most ≡ limit) → (items : List Row)
      → length items < 2 ^ 63
      → AreInOrder by_place bound shown_letter (filter (is_behind after) (db.trees 1)) items
      → IfOk r (λ v. AllZip IsLetterAt items (letters v))
      → IfOk r (λ v. AreFirst (messages_in (db.trees 1)) after limit (letters v))
  letters_are letters (Err e) after limit bound clip items few a told = tt
  letters_are letters (Ok v) after limit bound clip items few a told =
      let rows = db.trees 1 in
      let behind = filter (is_behind after) rows in
      let here = subst (λ s. IsSound s db.trees) filed.is sound in
      let one = one_in_outbox f.schema f.is_service db.trees here filed.rising in
      let rises = outbox_rises f.schema f.is_service db.trees filed.rising in
      let in_all : (r : Row) → Has behind r → Has a.all r =
      λ r h. has_contained a.all r (Contains-permutation behind a.all r a.same (contains_had behind r h)) in
      let from_all : (r : Row) → Has a.all r → Has behind r =
      λ r h. has_contained behind r
      (Contains-permutation a.all behind r (IsPermutation-sym behind a.all a.same) (contains_had a.all r h)) in
      first_told rows (λ x. one x.pair x.number) limit after a.all (letters v)
      (told_of_shown IsLetterAt shown_letter (take limit a.all) (letters v)
      (subst (λ l. AllZip IsLetterAt l (letters v))
      (limit_is shown_letter bound limit a.all items clip few a.shown) told))
      (ascending_from_sorted by_place (key_cmp_total (up ∷ up ∷ up ∷ []) 1) a.all a.sorted)
      (never_twice (is_behind after) rows a.all rises.ordered a.same)
      (λ r h. (has_filtered (is_behind after) rows r (from_all r h)).0)
      (λ r x h is. after_behind after r x is (has_filtered (is_behind after) rows r (from_all r h)).1)
      (λ r x h is late. in_all r (has_kept (is_behind after) rows r h (behind_after after r x is late)))

-- where there is no place all rows are behind it
all_behind : (rows : List Row) → filter (is_behind None) rows ≡ rows
all_behind [] = refl
all_behind (r ∷ rows) = ap (λ l. r ∷ l) (all_behind rows)

-- each of the two texts shows the first rows behind a place
module _ {V E : Type 0} (items : V → List Row) (r : Result V E) (rows : List Row) (after : Option LetterPlace) (z limit : ℤ)
    (bound : z ≡ limit) where
  abbrev Shows : ℤ → List Row → Type 0
  Shows n xs = IfOk r (λ v. AreInOrder by_place (as_count (Int n)) shown_letter xs (items v))

  pub behind_none : after ≡ None → Shows z rows → Shows limit (filter (is_behind after) rows)
  behind_none is shown = rw (is, all_behind rows) (subst (λ n. Shows n rows) bound shown)

  pub behind_some : (a : LetterPlace) (s t : List ℕ) (n : ℤ) → after ≡ Some a → s ≡ text_of a.pair.from
      → t ≡ text_of a.pair.to → n ≡ pos a.number → Shows z (filter (is_after s t n) rows)
      → Shows limit (filter (is_behind after) rows)
  behind_some a s t n is from to number shown =
      rw is (rw (from, to, number) at (subst (λ k. Shows k (filter (is_after s t n) rows)) bound shown))
