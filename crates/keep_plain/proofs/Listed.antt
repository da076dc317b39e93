-- Slots in the order of their places: the letters that stand in them.
use Rattle.std.proofs.Common.{◌≡◌, ◌⊎◌, inl, inr, ℕ, suc, append_assoc, ◌++◌, ◌&&◌, Bool, true, false, List, [], ◌∷◌}
use Rattle.std.proofs.Common.{filter}
use Rattle.std.proofs.Common.{take, Option, Some, None, Less, refl, sym, ap, subst, ◌∙◌}
use Rattle.std.specs.Ordering.{is_eq, is_lt, ordering_reverse}
use Rattle.std.specs.Cmp.{tied_itself}
use Rattle.std.specs.List.{AllByRecursion}
use Rattle.std.specs.List.Sorted.{IsStrictlySortedBy}
use Rattle.std.specs.Map.{keys_of}
use Rattle.std.specs.BTreeMap.{BTreeMap, IsOrdered}
use Rattle.std.specs.BTreeMap.Range.{range_contains, entries_between}
use Rattle.std.specs.declared.ops.Bound.TheVariants.{Unbounded}
use Rattle.std.proofs.lemmas.Bool.{cases_Bool}
use Rattle.std.proofs.lemmas.List.{append-nil}
use Rattle.std.proofs.Math.Seq.{take-nil}
use Rattle.envelope.specs.declared.message.Message.{Message}
use Rattle.envelope.specs.declared.message.Letter.{Letter}
use Rattle.keep.specs.declared.change.LetterPlace.{LetterPlace}
use Rattle.keep.specs.Places.{place_cmp, place_cmp-total, IsBefore}
use Rattle.keep.specs.Listing.{place_of, AreFirst}
use Rattle.keep.specs.Sorted.{Has, AreSorted, is_after}
use Rattle.keep.proofs.Listings.{sorted_letters_are_listed}
use Rattle.keep.proofs.Places.{place_cmp-Equal}
use Rattle.keep_plain.specs.Index.{messages_in}
use Rattle.keep_plain.specs.Listed.{letters_at, start_after}
use Rattle.keep_plain.proofs.Filled.{found, skipped, stopped, equal_is}

abbrev Slot : Type 0
Slot = LetterPlace × Option Message

-- each of these places comes after that one
abbrev AllAfter : LetterPlace → List Slot → Type 0
AllAfter x es = AllByRecursion (λ (y : LetterPlace). place_cmp x y ≡ Less) (keys_of es)

abbrev Ordered : List Slot → Type 0
Ordered es = IsStrictlySortedBy place_cmp (keys_of es)

-- ---- the letters are in order

after_letters : (x : LetterPlace) (es : List Slot) → AllAfter x es
    → AllByRecursion (λ k. IsBefore x (place_of k)) (letters_at es)
after_letters x [] a = tt
after_letters x ((y, None) ∷ es) a = after_letters x es a.1
after_letters x ((y, Some m) ∷ es) a = (a.0, after_letters x es a.1)

letters_sorted : (es : List Slot) → Ordered es → AreSorted (letters_at es)
unfolding IsStrictlySortedBy
letters_sorted [] o = tt
letters_sorted ((y, None) ∷ es) o = letters_sorted es o.1
letters_sorted ((y, Some m) ∷ es) o = (after_letters y es o.0, letters_sorted es o.1)

-- ---- and they are the messages

turned : (x y : LetterPlace) → IsBefore x y → is_eq (place_cmp y x) ≡ false
turned x y h = ap is_eq (place_cmp-total.antisymm y x) ∙ ap (λ o. is_eq (ordering_reverse o)) h

among : (P : Letter → Type 0) (ls : List Letter) (l : Letter) → AllByRecursion P ls → Has ls l → P l
among P [] l a h = absurd h
among P (k ∷ ls) l a (inl e) = subst P (sym e) a.0
among P (k ∷ ls) l a (inr h) = among P ls l a.1 h

later_found : (e : Slot) (es : List Slot) (l : Letter) → AllAfter e.0 es → Has (letters_at es) l
    → found place_cmp es (place_of l) ≡ Some l.message → found place_cmp (e ∷ es) (place_of l) ≡ Some l.message
later_found e es l a h f = skipped place_cmp e es (place_of l)
    (turned e.0 (place_of l) (among (λ k. IsBefore e.0 (place_of k)) (letters_at es) l (after_letters e.0 es a) h)) ∙ f

letters_stand : (es : List Slot) → Ordered es → (l : Letter) → Has (letters_at es) l
    → found place_cmp es (place_of l) ≡ Some l.message
unfolding IsStrictlySortedBy
letters_stand [] o l h = absurd h
letters_stand ((y, None) ∷ es) o l h = later_found (y, None) es l o.0 h (letters_stand es o.1 l h)
letters_stand ((y, Some m) ∷ es) o l (inl e) =
    stopped place_cmp (y, Some m) es (place_of l)
    (ap (λ (k : Letter). is_eq (place_cmp (place_of k) y)) e ∙ ap is_eq (tied_itself place_cmp-total y))
    ∙ ap (λ (k : Letter). Some k.message) (sym e)
letters_stand ((y, Some m) ∷ es) o l (inr h) = later_found (y, Some m) es l o.0 h (letters_stand es o.1 l h)

tied : (x y : LetterPlace) → is_eq (place_cmp x y) ≡ true → y ≡ x
tied x y h = sym (place_cmp-Equal x y (equal_is (place_cmp x y) h))

letters_all : (es : List Slot) (x : LetterPlace) → (found place_cmp es x ≡ None)
    ⊎ ((l : Letter) × Has (letters_at es) l × (place_of l ≡ x))
letters_all [] x = inl refl
letters_all ((y, None) ∷ es) x = elim (cases_Bool (is_eq (place_cmp x y))) [
  | inl e ↦ inl (stopped place_cmp (y, None) es x e)
  | inr e ↦ elim (letters_all es x) [ inl none ↦ inl (skipped place_cmp (y, None) es x e ∙ none) | inr some ↦ inr some ]
]
letters_all ((y, Some m) ∷ es) x = elim (cases_Bool (is_eq (place_cmp x y))) [
  | inl e ↦ inr (record { pair = y.pair; number = y.number; message = m }, inl refl, tied x y e)
  | inr e ↦ elim (letters_all es x) [
    | inl none ↦ inl (skipped place_cmp (y, Some m) es x e ∙ none)
    | inr some ↦ inr (some.0, inr some.1, some.2)
  ]
]

-- ---- those after a place

true_and : (b : Bool) → (b && true) ≡ b
true_and true = refl
true_and false = refl

in_range : (after : Option LetterPlace) (l : Letter)
    → range_contains place_cmp (start_after after) Unbounded (place_of l) ≡ is_after after l
in_range None l = refl
in_range (Some a) l = true_and (is_lt (place_cmp a (place_of l)))

-- the letters in a part of the slots are a part of the letters
letters_between : (after : Option LetterPlace) (es : List Slot)
    → letters_at (entries_between place_cmp (start_after after) Unbounded es) ≡ filter (is_after after) (letters_at es)
letters_between after [] = refl
letters_between after ((y, None) ∷ es) = elim (cases_Bool (range_contains place_cmp (start_after after) Unbounded y)) [
  | inl e ↦ rw e (letters_between after es)
  | inr e ↦ rw e (letters_between after es)
]
letters_between after ((y, Some m) ∷ es) =
    let l : Letter = record { pair = y.pair; number = y.number; message = m } in
    elim (cases_Bool (range_contains place_cmp (start_after after) Unbounded y)) [
      | inl e ↦ let k : is_after after l ≡ true =
          sym (in_range after l) ∙ e in rw (e, k) (ap (λ ls. l ∷ ls) (letters_between after es))
      | inr e ↦ let k : is_after after l ≡ false = sym (in_range after l) ∙ e in rw (e, k) (letters_between after es)
    ]

-- the first letters in the slots after a place are the answer of a listing
pub letters_listed : (m : BTreeMap LetterPlace (Option Message)) → IsOrdered place_cmp m
    → (after : Option LetterPlace) (limit : ℕ) (r : List Slot)
    → r ≡ entries_between place_cmp (start_after after) Unbounded m.entries
    → AreFirst (messages_in m) after limit (take limit (letters_at r))
letters_listed m o after limit r e =
    subst (λ ls. AreFirst (messages_in m) after limit (take limit ls)) (sym
    (ap letters_at e ∙ letters_between after m.entries))
    (sorted_letters_are_listed (messages_in m) (letters_at m.entries) (letters_sorted m.entries o)
    (record { stand = letters_stand m.entries o; all = letters_all m.entries }) after limit)

-- ---- a page, letter by letter

-- at the limit the letters found are the page
pub page_full : (xs rest ys : List Letter) (n : ℕ) → n ≡ 0 → xs ++ take n rest ≡ ys → xs ≡ ys
page_full xs rest ys n none e = sym (append-nil xs) ∙ subst (λ k. xs ++ take k rest ≡ ys) none e

-- at the end of the outbox the letters found are the page
pub page_over : (xs rest ys : List Letter) (n : ℕ) → rest ≡ [] → xs ++ take n rest ≡ ys → xs ≡ ys
page_over xs rest ys n none e =
    sym (append-nil xs) ∙ ap (λ l. xs ++ l) (sym (take-nil n)) ∙ subst (λ r. xs ++ take n r ≡ ys) none e

-- one letter more found is one less to find
pub page_more : (xs more rest left ys : List Letter) (l : Letter) (n k : ℕ) → more ≡ xs ++ l ∷ [] → rest ≡ l ∷ left
    → n ≡ suc k
    → xs ++ take n rest ≡ ys → more ++ take k left ≡ ys
page_more xs more rest left ys l n k pushed next one e =
    ap (λ m. m ++ take k left) pushed ∙ append_assoc xs (l ∷ []) (take k left)
    ∙ subst (λ r. xs ++ take (suc k) r ≡ ys) next (subst (λ j. xs ++ take j rest ≡ ys) one e)
