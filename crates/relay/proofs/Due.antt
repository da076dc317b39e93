-- What is due of a page, as the first messages behind a place.
use Rattle.std.proofs.Common.{◌≡◌, ◌⊎◌, inl, inr, ℕ, zero, suc, ◌+◌, ◌<◌, ◌≤◌, Bool, true, false, List, [], ◌∷◌, ◌++◌}
use Rattle.std.proofs.Common.{length, Option, Some}
use Rattle.std.proofs.Common.{None, Ordering, Less, Equal, Greater, refl, sym, ap, subst, ◌∙◌, arith, zero-add}
use Rattle.std.specs.Prelude.{nat_lt, if◌then◌else◌}
use Rattle.std.proofs.lemmas.Bool.{cases_Bool, lt-ltb, le-ltb}
use Rattle.std.proofs.lemmas.Bool.Decides.{Decides-ltb}
use Rattle.base.specs.Order.{same_pair}
use Rattle.base.specs.declared.pair.Pair.{Pair}
use Rattle.base.proofs.Entities.{same_pair-Decides}
use Rattle.envelope.specs.declared.message.Message.{Message}
use Rattle.envelope.specs.declared.message.Letter.{Letter}
use Rattle.keep.specs.declared.change.LetterPlace.{LetterPlace}
use Rattle.keep.specs.Places.{place_cmp, IsBefore}
use Rattle.keep.specs.Listing.{place_of, IsAfter, IsNext, IsNoneAfter, AreFirst}
use Rattle.keep.specs.Pages.{place_behind}
use Rattle.keep.specs.Tables.{Messages, set_mark}
use Rattle.keep.proofs.Listings.{later_than}
use Rattle.keep.proofs.Places.{place_cmp-Equal, place_cmp-Greater}
use Rattle.relay.specs.Filling.{due, unsent}
use Rattle.relay.proofs.Places.{numbers_rise, alike, gap}
use Rattle.relay.proofs.Letters.{due_no, due_yes}
use Rattle.relay.proofs.Sending.{marked}

suc_add : (a k : ℕ) → suc (a + k) ≡ suc a + k
suc_add a k = omega arith

if_none : (b : Bool) (o : Option Message) → o ≡ None → (if b then o else None) ≡ None
if_none true o h = h
if_none false o h = refl

module _ (messages : Messages) where
  unsent_none : (m : Pair → ℕ) (x : LetterPlace) → messages x.pair x.number ≡ None → unsent m messages x.pair x.number ≡ None
  unsent_none m x h = if_none (nat_lt (m x.pair) x.number) (messages x.pair x.number) h

  -- what isn't above its mark isn't due
  pub not_due : (m : Pair → ℕ) (x : LetterPlace) → x.number ≤ m x.pair → unsent m messages x.pair x.number ≡ None
  not_due m x low = ap (λ b. if b then messages x.pair x.number else None) (le-ltb (m x.pair) x.number low)

  -- a letter that is first among the messages and due is first among those due
  next_due : (m : Pair → ℕ) (after : Option LetterPlace) (l : Letter) → IsNext messages after l
      → nat_lt (m l.pair) l.number ≡ true
      → IsNext (unsent m messages) after l
  next_due m after l next e = record {
    stands = ap (λ b. if b then messages l.pair l.number else None) e ∙ next.stands;
    later = next.later;
    first = λ x h b. unsent_none m x (next.first x h b);
  }

  -- one that isn't due is passed over
  passed : (m : Pair → ℕ) (after : Option LetterPlace) (l : Letter) → IsNext messages after l
      → nat_lt (m l.pair) l.number ≡ false
      → (x : LetterPlace) → IsAfter after x → (o : Ordering) → place_cmp x (place_of l) ≡ o
      → IsBefore (place_of l) x ⊎ (unsent m messages x.pair x.number ≡ None)
  passed m after l next e x h Less o = inr (unsent_none m x (next.first x h o))
  passed m after l next e x h Equal o = inr (subst (λ (y : LetterPlace). unsent m messages y.pair y.number ≡ None)
      (sym (place_cmp-Equal x (place_of l) o))
      (ap (λ b. if b then messages l.pair l.number else None) e))
  passed m after l next e x h Greater o = inl (place_cmp-Greater x (place_of l) o)

  skip : (m : Pair → ℕ) (after : Option LetterPlace) (l : Letter) (n : ℕ) (ls : List Letter) → IsNext messages after l
      → nat_lt (m l.pair) l.number ≡ false
      → AreFirst (unsent m messages) (Some (place_of l)) n ls → AreFirst (unsent m messages) after n ls
  skip m after l n ls next e are =
      gap (unsent m messages) after (place_of l) n ls (λ x h. later_than after (place_of l) x next.later h)
      (λ x h. passed m after l next e x h (place_cmp x (place_of l)) refl) are

  -- the mark of a letter that is due changes nothing behind it
  still_due : (m : Pair → ℕ) (l : Letter) → nat_lt (m l.pair) l.number ≡ true → (x : LetterPlace) → IsBefore (place_of l) x
      → unsent m messages x.pair x.number ≡ unsent (set_mark l.pair l.number m) messages x.pair x.number
  still_due m l e x later = elim (cases_Bool (same_pair l.pair x.pair)) [
    | inl same ↦
        let pair : l.pair ≡ x.pair = (same_pair-Decides l.pair x.pair).0 same in
        let rise : l.number < x.number = numbers_rise (place_of l) x pair later in
        let under : m l.pair < l.number = (Decides-ltb (m l.pair) l.number).0 e in
        let mark : m l.pair ≡ m x.pair = ap m pair in
        let now : nat_lt (m x.pair) x.number ≡ true = lt-ltb (m x.pair) x.number (omega (arith, rise, under, mark)) in
        let marked_then : nat_lt (set_mark l.pair l.number m x.pair) x.number ≡ true =
        ap (λ b. nat_lt (if b then l.number else m x.pair) x.number) same ∙ lt-ltb l.number x.number rise in
        ap (λ b. if b then messages x.pair x.number else None) (now ∙ sym marked_then)
    | inr other ↦ ap (λ b. if nat_lt (if b then l.number else m x.pair) x.number then messages x.pair x.number
        else None) (sym other)
  ]

  resume : (m : Pair → ℕ) (l : Letter) (n : ℕ) (ls : List Letter) → nat_lt (m l.pair) l.number ≡ true
      → AreFirst (unsent (set_mark l.pair l.number m) messages) (Some (place_of l)) n ls
      → AreFirst (unsent m messages) (Some (place_of l)) n ls
  resume m l n ls e are =
      alike (unsent (set_mark l.pair l.number m) messages) (unsent m messages) (Some (place_of l)) n ls
      (λ x h. still_due m l e x h) are

  -- what is due of a page, up to so many, is first among all that is due behind its place
  pub first_due : (n : ℕ) (after : Option LetterPlace) (ls : List Letter) → AreFirst messages after n ls
      → (j : ℕ) (m : Pair → ℕ)
      → AreFirst (unsent m messages) after (length (due j m ls)) (due j m ls)
  first_due n after ls are zero m = tt
  first_due n after [] are (suc j) m = tt
  first_due zero after (l ∷ ls) are (suc j) m = absurd are
  first_due (suc n) after (l ∷ ls) are (suc j) m = elim (cases_Bool (nat_lt (m l.pair) l.number)) [
    | inl above ↦ subst (λ (x : List Letter). AreFirst (unsent m messages) after (length x) x)
        (sym (due_yes j m l ls above)) (
          next_due m after l are.0 above,
          resume m l _ _ above (first_due n (Some (place_of l)) ls are.1 j (set_mark l.pair l.number m)),
        )
    | inr below ↦ subst (λ (x : List Letter). AreFirst (unsent m messages) after (length x) x)
        (sym (due_no (suc j) m l ls below))
        (skip m after l _ _ are.0 below (first_due n (Some (place_of l)) ls are.1 (suc j) m))
  ]

  -- where all that is due of a page was sent, what is due behind it comes next
  pub all_due : (n : ℕ) (after : Option LetterPlace) (ls : List Letter) → AreFirst messages after n ls
      → (j : ℕ) (m : Pair → ℕ)
      → length (due j m ls) < j → (k : ℕ) (more : List Letter)
      → AreFirst (unsent (marked m (due j m ls)) messages) (place_behind after ls) k more
      → AreFirst (unsent m messages) after (length (due j m ls) + k) (due j m ls ++ more)
  all_due n after ls are zero m small k more behind = absurd (omega (arith, small))
  all_due n after [] are (suc j) m small k more behind =
      subst (λ (i : ℕ). AreFirst (unsent m messages) after i more) (sym (zero-add k)) behind
  all_due zero after (l ∷ ls) are (suc j) m small k more behind = absurd are
  all_due (suc n) after (l ∷ ls) are (suc j) m small k more behind = elim (cases_Bool (nat_lt (m l.pair) l.number)) [
    | inl above ↦
        let cut = due_yes j m l ls above in
        let m' : Pair → ℕ = set_mark l.pair l.number m in
        let short : length (due j m' ls) < j = omega (arith, small, ap length cut) in
        let rest = all_due n (Some (place_of l)) ls are.1 j m' short k more
        (subst (λ (x : List Letter). AreFirst (unsent (marked m x) messages) (place_behind (Some (place_of l)) ls) k
        more) cut behind) in
        subst (λ (x : List Letter). AreFirst (unsent m messages) after (length x + k) (x ++ more)) (sym cut)
        (subst (λ (i : ℕ). AreFirst (unsent m messages) after i (l ∷ (due j m' ls ++ more)))
        (suc_add (length (due j m' ls)) k)
        (next_due m after l are.0 above, resume m l _ _ above rest))
    | inr below ↦
        let cut = due_no (suc j) m l ls below in
        let rest = all_due n (Some (place_of l)) ls are.1 (suc j) m (omega (arith, small, ap length cut)) k more
        (subst (λ (x : List Letter). AreFirst (unsent (marked m x) messages) (place_behind (Some (place_of l)) ls) k
        more) cut behind) in
        subst (λ (x : List Letter). AreFirst (unsent m messages) after (length x + k) (x ++ more)) (sym cut)
        (skip m after l _ _ are.0 below rest)
  ]

  -- behind a page that was the last no more is due
  pub none_behind : (m : Pair → ℕ) (after : Option LetterPlace) (k : ℕ) → IsNoneAfter messages after
      → AreFirst (unsent m messages) after k []
  none_behind m after zero none = tt
  none_behind m after (suc k) none = λ x h. unsent_none m x (none x h)

pub due_within : (j : ℕ) (m : Pair → ℕ) (ls : List Letter) → length (due j m ls) ≤ j
due_within zero m ls = omega arith
due_within (suc j) m [] = omega arith
due_within (suc j) m (l ∷ ls) = elim (cases_Bool (nat_lt (m l.pair) l.number)) [
  | inl above ↦ let rest =
      due_within j (set_mark l.pair l.number m) ls in omega (arith, rest, ap length (due_yes j m l ls above))
  | inr below ↦ let rest = due_within (suc j) m ls in omega (arith, rest, ap length (due_no (suc j) m l ls below))
]

-- one more that is due
pub one_more : (c : ℕ) (m : Pair → ℕ) (ls : List Letter) → length (due (suc c) m ls) ≡ suc c
    → (l : Letter) × (due (suc c) m ls ≡ due c m ls ++ l ∷ [])
one_more c m [] e = absurd (omega (arith, e))
one_more zero m (l ∷ ls) e = elim (cases_Bool (nat_lt (m l.pair) l.number)) [
  | inl above ↦ (l, due_yes zero m l ls above)
  | inr below ↦ let cut = due_no (suc zero) m l ls below in
      let rest = one_more zero m ls (ap length (sym cut) ∙ e) in
      (rest.0, cut ∙ rest.1)
]
one_more (suc c) m (l ∷ ls) e = elim (cases_Bool (nat_lt (m l.pair) l.number)) [
  | inl above ↦
      let m' : Pair → ℕ = set_mark l.pair l.number m in
      let cut = due_yes (suc c) m l ls above in
      let rest = one_more c m' ls (omega (arith, e, ap length cut)) in (
        rest.0,
        cut ∙ ap (λ (x : List Letter). l ∷ x) rest.1
            ∙ ap (λ (x : List Letter). x ++ rest.0 ∷ []) (sym (due_yes c m l ls above)),
      )
  | inr below ↦
      let cut = due_no (suc (suc c)) m l ls below in
      let rest = one_more (suc c) m ls (ap length (sym cut) ∙ e) in
      (rest.0, cut ∙ rest.1 ∙ ap (λ (x : List Letter). x ++ rest.0 ∷ []) (sym (due_no (suc c) m l ls below)))
]
