-- Numbers that rise: where a session stands, and what keeps them so.
use Rattle.std.proofs.Common.{◌≡◌, ℕ, suc, zero, ◌+◌, ◌<◌, ◌≤◌, Bool, true, false, List, [], ◌∷◌, ◌++◌, length}
use Rattle.std.proofs.Common.{take, drop}
use Rattle.std.proofs.Common.{get_or, Option, Some, None}
use Rattle.std.proofs.Common.{refl, sym, ap, ◌∙◌, arith, drop-cons, inl, inr, Result, Ok, Err}
use Rattle.std.specs.Prelude.{◌==◌, ◌||◌, remove, slice_set, OnOk, OnErr}
use Rattle.std.specs.List.{find, list_any, position, slice_get}
use Rattle.std.specs.List.Sorted.{IsSearchInRange, IsBinarySearchResult, IsNonDecreasingBy}
use Rattle.std.specs.Ordering.{nat_cmp, ordering_index}
use Rattle.std.specs.Result.{result_ok}
use Rattle.std.proofs.lemmas.Bool.{cases_lt}
use Rattle.std.proofs.lemmas.Bool.Decides.{nat_tests}
use Rattle.std.proofs.lemmas.Cmp.{ranked}
use Rattle.std.proofs.lemmas.List.{set_split, take-append-drop}
use Rattle.std.proofs.lemmas.Option.{slice_get-get_or, slice_get_cases}
use Rattle.stomp_frame.specs.Frames.{Content}
use Rattle.broker_book.specs.Books.{Book}
use Rattle.broker_tx.proofs.Places.{changed_between, nowhere, passes_none, somewhere}
use Rattle.broker_tx.specs.First.{first_changed, IsFirstAt}
use Rattle.broker_core.specs.Calls.{NamesFresh, OpensSession, is_fresh, named, new_session, others}
use Rattle.broker_core.specs.Parts.Rising.{AreRising, FreshPlace, IsFreshAt}
use Rattle.broker_core.specs.Parts.Taking.{PlaceAnswer, SessionPieceAnswer}
use Rattle.broker_core.specs.Serving.{broker_of, is_session, writing}
use Rattle.broker_core.proofs.Places.{found_at, number_if, roster, written_at}
use Rattle.broker_core.specs.declared.session.Session.{Session}

-- ---- what stands behind others

left_false : (a b : Bool) → (a || b) ≡ false → a ≡ false
left_false true b e = e
left_false false b e = refl

right_false : (a b : Bool) → (a || b) ≡ false → b ≡ false
right_false true b e = cc
right_false false b e = e

found_between : {X : Type 0} (p : X → Bool) (front : List X) (x : X) (back : List X) → list_any p front ≡ false
    → p x ≡ true
    → find p (front ++ x ∷ back) ≡ Some x
found_between p [] x back e h = rw h refl
found_between p (y ∷ front) x back e h =
    rw (left_false (p y) _ e) (found_between p front x back (right_false (p y) _ e) h)

pub first_here : {X : Type 0} (p : X → Bool) (xs : List X) (at : ℕ) (x : X) → at < length xs → x ≡ get_or xs at x
    → list_any p (take at xs) ≡ false → p x ≡ true → IsFirstAt p xs at
first_here p xs at x h e front passes =
    let split : xs ≡ take at xs ++ x ∷ drop (suc at) xs =
    sym (take-append-drop at xs) ∙ ap (λ l. take at xs ++ l) (drop-cons xs at x h
    ∙ ap (λ y. y ∷ drop (suc at) xs) (sym e)) in
    record {
      item = x;
      within = h;
      got = slice_get-get_or xs at x h ∙ ap (λ y. Some y) (sym e);
      found = ap (find p) split ∙ found_between p (take at xs) x (drop (suc at) xs) front passes;
      sets = λ f. ap (first_changed p f) split ∙ changed_between p f (take at xs) x (drop (suc at) xs) front passes
          ∙ sym
          (set_split xs at (f x) h);
    }

-- ---- the order

other : (a b : ℕ) → a < b → (a == b) ≡ false
other a b h = grind (arith, nat_tests)

other_above : (a b : ℕ) → b < a → (a == b) ≡ false
other_above a b h = grind (arith, nat_tests)

same_number : (a b : ℕ) → a ≡ b → (a == b) ≡ true
same_number a b h = grind (arith, nat_tests)

pub above_low : (low last : ℕ) (ss : List Session) → AreRising low ss last → (j : ℕ) (d : Session) → j < length ss
    → low < (get_or ss j d).number
above_low low last [] r j d h = absurd (omega arith)
above_low low last (s ∷ ss) r zero d h = r.0
above_low low last (s ∷ ss) r (suc j) d h =
    let k = above_low s.number last ss r.1 j d (omega arith) in let l = r.0 in omega arith

pub low_last : (low last : ℕ) (ss : List Session) → AreRising low ss last → low ≤ last
low_last low last [] r = r
low_last low last (s ∷ ss) r = let k = low_last s.number last ss r.1 in let l = r.0 in omega arith

pub rise : (low last : ℕ) (ss : List Session) → AreRising low ss last → (i j : ℕ) (d : Session) → i ≤ j → j < length ss
    → (get_or ss i d).number ≤ (get_or ss j d).number
rise low last [] r i j d le h = absurd (omega arith)
rise low last (s ∷ ss) r zero zero d le h = omega arith
rise low last (s ∷ ss) r zero (suc j) d le h = let k = above_low s.number last ss r.1 j d (omega arith) in omega arith
rise low last (s ∷ ss) r (suc i) zero d le h = absurd (omega arith)
rise low last (s ∷ ss) r (suc i) (suc j) d le h = rise s.number last ss r.1 i j d (omega arith) (omega arith)

compared : (a b n : ℕ) → a ≤ b → ordering_index (nat_cmp a n) ≤ ordering_index (nat_cmp b n)
compared a b n h = grind (arith, nat_tests)

comparisons_rise : (low last n : ℕ) (ss : List Session) → AreRising low ss last
    → IsNonDecreasingBy (λ s. ordering_index (nat_cmp s.number n)) ss
comparisons_rise low last n ss r i j d le h =
    compared (get_or ss i d).number (get_or ss j d).number n (rise low last ss r i j d le h)

-- ---- the session of a number

none_before : (n low last : ℕ) (ss : List Session) → AreRising low ss last → (at : ℕ) (d : Session) → at < length ss
    → (get_or ss at d).number ≡ n
    → list_any (is_session n) (take at ss) ≡ false
none_before n low last [] r at d h e = absurd (omega arith)
none_before n low last (s ∷ ss) r zero d h e = refl
none_before n low last (s ∷ ss) r (suc at) d h e =
    let k = above_low s.number last ss r.1 at d (omega arith) in
    let b : s.number < n = omega arith in
    rw (other s.number n b) (none_before n s.number last ss r.1 at d (omega arith) e)

pub placed : (n low last : ℕ) (ss : List Session) → AreRising low ss last → (at : ℕ) (s : Session) → at < length ss
    → s ≡ get_or ss at s
    → s.number ≡ n
    → IsFirstAt (is_session n) ss at
placed n low last ss r at s h e k =
    first_here (is_session n) ss at s h e (none_before n low last ss r at s h
    (ap (λ (x : Session). x.number) (sym e) ∙ k))
    (same_number s.number n k)

none_other : (n : ℕ) (ss : List Session)
    → ((k : ℕ) (d : Session) → k < length ss → is_session n (get_or ss k d) ≡ false)
    → list_any (is_session n) ss ≡ false
none_other n [] h = refl
none_other n (s ∷ ss) h = rw (h zero s (omega arith)) (none_other n ss (λ k d lt. h (suc k) d (omega arith)))

-- a number above the last is no session's
pub unused : (n low last : ℕ) (ss : List Session) → AreRising low ss last → last < n
    → list_any (is_session n) ss ≡ false
unused n low last [] r h = refl
unused n low last (s ∷ ss) r h =
    let k = low_last s.number last ss r.1 in
    let b : s.number < n = omega arith in
    rw (other s.number n b) (unused n s.number last ss r.1 h)

-- ---- what a binary search finds

element_at : (ss : List Session) (i : ℕ) → i < length ss → (s : Session) × (s ≡ get_or ss i s)
element_at ss i h = elim (slice_get_cases ss i).1 [ inl k ↦ (k.0, sym k.3) | inr k ↦ absurd (omega arith) ]

-- the list of sessions is in order, so a binary search finds the session of a number
pub searched : (n low last : ℕ) (ss : List Session) → AreRising low ss last → (r : Result ℕ ℕ)
    → IsSearchInRange r (length ss)
    → IsBinarySearchResult (λ s. nat_cmp s.number n) ss r → (answer : Option ℕ) → result_ok r ≡ answer
    → PlaceAnswer n ss answer
searched n low last ss r (Ok at) in_range equal None e = cc
searched n low last ss r (Ok at) in_range equal (Some i) e =
    let m : at ≡ i = cc in
    let x = element_at ss at in_range in
    let k : x.0.number ≡ n = ap (λ (s : Session). s.number) x.1 ∙ ranked _ n _ (sym (equal x.0)) in
    rw (← m) (placed n low last ss r at x.0 in_range x.1 k)
searched n low last ss r (Err at) in_range parted (Some i) e = cc
searched n low last ss r (Err at) in_range parted None e =
    let rises = comparisons_rise low last n ss r in
    passes_none (is_session n) ss (none_other n ss (λ k d lt. elim (cases_lt k at) [
      | inl before ↦ other (get_or ss k d).number n (ranked _ n _ (sym ((parted rises).0 k d (omega arith) before)))
      | inr behind ↦ other_above (get_or ss k d).number n (ranked _ n _ (sym ((parted rises).1 k d behind lt)))
    ]))

-- ---- what keeps the order

pub rising_set : (low last : ℕ) (ss : List Session) → AreRising low ss last → (at : ℕ) (s t : Session)
    → slice_get ss at ≡ Some s
    → t.number ≡ s.number
    → AreRising low (slice_set ss at t) last
rising_set low last [] r at s t get e = cc
rising_set low last (x ∷ ss) r zero s t get e =
    let m : x ≡ s = cc in
    let k : t.number ≡ x.number = e ∙ ap (λ (y : Session). y.number) (sym m) in
    rw k r
rising_set low last (x ∷ ss) r (suc at) s t get e = (r.0, rising_set x.number last ss r.1 at s t get e)

-- a session with a higher number than all others keeps the list in order
pub rising_push : (low last : ℕ) (ss : List Session) (s : Session) → AreRising low ss last → last < s.number
    → AreRising low (ss ++ s ∷ []) s.number
rising_push low last [] s r h = let k : low < s.number = omega arith in (k, omega arith)
rising_push low last (x ∷ ss) s r h = (r.0, rising_push x.number last ss s r.1 h)

lower : (low high last : ℕ) (ss : List Session) → low ≤ high → AreRising high ss last → AreRising low ss last
lower low high last [] h r = omega arith
lower low high last (s ∷ ss) h r = let k = r.0 in (omega arith, r.1)

others_step : (n low last : ℕ) (s : Session) (ss : List Session) (b : Bool) → is_session n s ≡ b → low < s.number
    → AreRising s.number (others n ss) last
    → AreRising low (others n (s ∷ ss)) last
others_step n low last s ss true e h r = rw e (lower low s.number last (others n ss) (omega arith) r)
others_step n low last s ss false e h r = rw e (h, r)

-- a list in order is in order without a session
pub rising_others : (n low last : ℕ) (ss : List Session) → AreRising low ss last → AreRising low (others n ss) last
rising_others n low last [] r = r
rising_others n low last (s ∷ ss) r =
    others_step n low last s ss (is_session n s) refl r.0 (rising_others n s.number last ss r.1)

-- the session at a place is above what all are
above_got : (low last : ℕ) (ss : List Session) (at : ℕ) (s : Session) → AreRising low ss last
    → slice_get ss at ≡ Some s
    → low < s.number
above_got low last [] at s r get = cc
above_got low last (x ∷ ss) zero s r get =
    let m : x ≡ s = cc in
    let k : x.number ≡ s.number = ap (λ (y : Session). y.number) m in
    let l : low < x.number = r.0 in omega arith
above_got low last (x ∷ ss) (suc at) s r get =
    let k : x.number < s.number = above_got x.number last ss at s r.1 get in
    let l : low < x.number = r.0 in omega arith

-- those above a number are others than its own
all_others : (n low last : ℕ) (ss : List Session) → AreRising low ss last → n ≤ low → others n ss ≡ ss
all_others n low last [] r h = refl
all_others n low last (s ∷ ss) r h =
    let l : low < s.number = r.0 in
    let b : n < s.number = omega arith in
    rw (other_above s.number n b) (ap (λ l. s ∷ l) (all_others n s.number last ss r.1 (omega arith)))

-- without the session at its place are the others
pub removed : (n low last : ℕ) (ss : List Session) (at : ℕ) (s : Session) → AreRising low ss last
    → slice_get ss at ≡ Some s
    → s.number ≡ n
    → remove ss at ≡ others n ss
removed n low last [] at s r get k = cc
removed n low last (x ∷ ss) zero s r get k =
    let m : x ≡ s = cc in
    let is : x.number ≡ n = ap (λ (y : Session). y.number) m ∙ k in
    rw (same_number x.number n is) (sym (all_others n x.number last ss r.1 (omega arith)))
removed n low last (x ∷ ss) (suc at) s r get k =
    let a : x.number < s.number = above_got x.number last ss at s r.1 get in
    let b : x.number < n = omega arith in
    rw (other x.number n b) (ap (λ l. x ∷ l) (removed n x.number last ss at s r.1 get k))

-- a session at a place is another one of its number
pub kept_at : (last : ℕ) (ss news : List Session) (at : ℕ) (s t : Session) → AreRising 0 ss last
    → slice_get ss at ≡ Some s
    → news ≡ slice_set ss at t → t.number ≡ s.number → AreRising 0 news last
kept_at last ss news at s t r get set e = rw set (rising_set 0 last ss r at s t get e)

-- what may write a frame keeps the number
pub writing_number : {T E : Type 0} (f : Content) (s t : Session) (r : Result T E) → OnOk r (t ≡ writing f s)
    → OnErr r (t ≡ s)
    → t.number ≡ s.number
writing_number f s t (Ok x) ok err = ap (λ (y : Session). y.number) ok
writing_number f s t (Err x) ok err = ap (λ (y : Session). y.number) err

-- a session that takes a piece keeps its number
pub piece_number : {T E : Type 0} (piece : List ℕ) (s t : Session) (r : Result T E) → SessionPieceAnswer piece s t r
    → t.number ≡ s.number
piece_number piece s t (Ok x) h = ap (λ (y : Session). y.number) h ∙ number_if s.closed s _ refl
piece_number piece s t (Err x) h = ap (λ (y : Session). y.number) h.3

-- ---- a session with fresh octets

step_fails : (p : Session → Bool) (s : Session) (ss : List Session) (b : Bool) → p s ≡ b
    → (find p ss ≡ None → list_any p ss ≡ false)
    → find p (s ∷ ss) ≡ None → list_any p (s ∷ ss) ≡ false
step_fails p s ss true e ih h = let z : Some s ≡ None = rw e at h in cc
step_fails p s ss false e ih h = rw e (ih (rw e at h))

none_passes : (p : Session → Bool) (ss : List Session) → find p ss ≡ None → list_any p ss ≡ false
none_passes p [] h = refl
none_passes p (s ∷ ss) h = step_fails p s ss (p s) refl (none_passes p ss) h

pub none_fresh : (ss : List Session) → find is_fresh ss ≡ None → list_any is_fresh ss ≡ false
none_fresh ss h = none_passes is_fresh ss h

step_passes : (p : Session → Bool) (s : Session) (ss : List Session) (x : Session) (b : Bool) → p s ≡ b
    → (find p ss ≡ Some x → p x ≡ true)
    → find p (s ∷ ss) ≡ Some x → p x ≡ true
step_passes p s ss x true e ih h = let j : Some s ≡ Some x = rw e at h in let m : s ≡ x = cc in ap p (sym m) ∙ e
step_passes p s ss x false e ih h = ih (rw e at h)

pub passes : (p : Session → Bool) (ss : List Session) (x : Session) → find p ss ≡ Some x → p x ≡ true
passes p [] x h = cc
passes p (s ∷ ss) x h = step_passes p s ss x (p s) refl (passes p ss x) h

same_item : (o : Option Session) (x y : Session) → o ≡ Some x → o ≡ Some y → y ≡ x
same_item o x y p q = cc

-- where the first one stands, or that there is none
pub place_fresh : (ss : List Session) (r : Option ℕ) → r ≡ position is_fresh ss → FreshPlace ss r
place_fresh ss (Some at) e =
    let first = somewhere is_fresh ss at (sym e) in
    (first.item, first.got, passes is_fresh ss first.item first.found)
place_fresh ss None e = none_fresh ss (nowhere is_fresh ss (sym e)).none

-- what is got stands within the list
pub got_within : (ss : List Session) (at : ℕ) (s : Session) → slice_get ss at ≡ Some s → at < length ss
got_within [] at s e = let z : None ≡ Some s = e in cc
got_within (x ∷ xs) zero s e = omega arith
got_within (x ∷ xs) (suc at) s e = let h = got_within xs at s e in omega (arith, h)

-- a session stands at the place of its number
pub stands : (n last : ℕ) (ss : List Session) → AreRising 0 ss last → (at : ℕ) (s : Session) → slice_get ss at ≡ Some s
    → s.number ≡ n
    → IsFirstAt (is_session n) ss at
stands n last ss r at s get is =
    let within : at < length ss = got_within ss at s get in
    let here : s ≡ get_or ss at s =
    same_item (slice_get ss at) (get_or ss at s) s (slice_get-get_or ss at s within) get in
    placed n 0 last ss r at s within here is

-- to name a session with fresh octets takes just that mark away
pub names_fresh : (book : Book) (ss news : List Session) (opened at number : ℕ) (s : Session) → AreRising 0 ss opened
    → IsFreshAt ss at
    → slice_get ss at ≡ Some s → news ≡ slice_set ss at (named s) → number ≡ s.number
    → NamesFresh (broker_of book (roster ss opened)) number (broker_of book (roster news opened))
names_fresh book ss news opened at number s r fresh get set e =
    let m : s ≡ fresh.0 = same_item (slice_get ss at) fresh.0 s fresh.1 get in
    let its = stands s.number opened ss r at s get refl in
    record {
      session = s;
      found = rw e (found_at s.number ss at s its get);
      was_fresh = rw m fresh.2;
      changed = rw e (ap (broker_of book) (written_at s.number ss news opened at s named its get set));
    }

-- ---- a new session

found_last : (n : ℕ) (ss : List Session) (s : Session) → list_any (is_session n) ss ≡ false → is_session n s ≡ true
    → find (is_session n) (ss ++ s ∷ []) ≡ Some s
found_last n ss s e h = found_between (is_session n) ss s [] e h

-- to add a session with the next number is to open one
pub opens : (book : Book) (ss : List Session) (opened : ℕ) → AreRising 0 ss opened
    → OpensSession (broker_of book (roster ss opened)) (opened + 1) (broker_of book (roster (ss
    ++ new_session (opened + 1) ∷ []) (opened + 1)))
opens book ss opened r =
    let e : list_any (is_session (opened + 1)) ss ≡ false = unused (opened + 1) 0 opened ss r (omega arith) in
    record {
      next = refl;
      unused = (passes_none (is_session (opened + 1)) ss e).none;
      changed = refl;
      found = found_last (opened + 1) ss (new_session (opened + 1)) e (same_number (opened + 1) (opened + 1) refl);
    }
