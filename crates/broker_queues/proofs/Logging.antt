-- What was noted of a transaction's answers gives back the messages as they were.
use Rattle.std.proofs.Common.{◌≡◌, ℕ, Bool, true, false, not, cond, ◌≤◌, ◌&&◌, ◌||◌, List, []}
use Rattle.std.proofs.Common.{◌∷◌, ◌++◌, map, Option, Some, None, refl, sym, ap, ◌∙◌, arith, inl, inr}
use Rattle.std.specs.Prelude.{◌==◌, nat_le, filter}
use Rattle.std.proofs.lemmas.Bool.{cases_Bool, eqb-true, le-leb}
use Rattle.broker_book.specs.Books.{Fate}
use Rattle.broker_index.specs.Index.{Kept}
use Rattle.broker_index.specs.Standing.{fate_of}
use Rattle.broker_index.specs.declared.places.Entry.{Entry}
use Rattle.broker_queues.specs.declared.transactions.Logged.{Logged}
use Rattle.broker_queues.specs.Parts.Facts.{rise, kept_at, notes}
use Rattle.broker_queues.specs.Parts.Fates.{passes, fated, fate_of_kept, turn_among}
use Rattle.broker_queues.specs.Parts.Undoing.{is_out_fate, with_back, undone, mentions, AreTrue, AreAll, before}
use Rattle.broker_queues.proofs.Finding.{map_map}
use Rattle.broker_queues.proofs.Rising.{map_same}

-- ---- one step

-- what is out stays
pub back_out : (n : ℕ) (f : Option Fate) (k : Kept) → passes is_out_fate k.fate ≡ true → with_back n f k ≡ k
back_out n f k out = elim (cases_Bool (n == k.number)) [ inl on ↦ rw (on, out) refl | inr off ↦ rw off refl ]

-- another message stays
pub back_other : (n : ℕ) (f : Option Fate) (k : Kept) → (n == k.number) ≡ false → with_back n f k ≡ k
back_other n f k other = rw other refl

-- the message itself has its fate again
pub back_it : (n : ℕ) (f : Option Fate) (k : Kept) → (n == k.number) ≡ true → passes is_out_fate k.fate ≡ false
    → with_back n f k ≡ fated f k
back_it n f k on off = rw (on, off) refl

back_number : (n : ℕ) (f : Option Fate) (k : Kept) → (with_back n f k).number ≡ k.number
back_number n f k = elim (cases_Bool ((n == k.number) && not (passes is_out_fate k.fate))) [
  | inl on ↦ rw on refl
  | inr off ↦ rw off refl
]

-- ---- what was noted

pub undone_number : (log : List Logged) (k : Kept) → (undone log k).number ≡ k.number
undone_number [] k = refl
undone_number (e ∷ log) k = back_number e.number (fate_of e.standing) (undone log k) ∙ undone_number log k

-- what was noted later is taken back first
pub undone_append : (log later : List Logged) (k : Kept) → undone (log ++ later) k ≡ undone log (undone later k)
undone_append [] later k = refl
undone_append (e ∷ log) later k = ap (λ l. with_back e.number (fate_of e.standing) l) (undone_append log later k)

-- what is out stays as it is
undone_out : (log : List Logged) (k : Kept) → passes is_out_fate k.fate ≡ true → undone log k ≡ k
undone_out [] k on = refl
undone_out (e ∷ log) k on =
    ap (λ l. with_back e.number (fate_of e.standing) l) (undone_out log k on)
    ∙ back_out e.number (fate_of e.standing) k on

-- a message that wasn't noted stays
pub unmentioned : (log : List Logged) (k : Kept) → mentions k.number log ≡ false → undone log k ≡ k
unmentioned [] k none = refl
unmentioned (e ∷ log) k none = elim (cases_Bool (e.number == k.number)) [
  | inl on ↦ let never : true ≡ false = rw on at none in cc
  | inr off ↦
      let rest : undone log k ≡ k = unmentioned log k (rw off at none) in
      ap (λ l. with_back e.number (fate_of e.standing) l) rest ∙ back_other e.number (fate_of e.standing) k off
]

-- what was noted of a message that is out is its fate
true_fate : (kept : List Kept) (e : Logged) (k : Kept) → kept_at k.number kept ≡ Some k
    → fate_of_kept (kept_at e.number kept) ≡ fate_of e.standing → (e.number == k.number) ≡ true
    → k.fate ≡ fate_of e.standing
true_fate kept e k there is on =
    let same : e.number ≡ k.number = eqb-true e.number k.number on in
    sym (ap fate_of_kept (ap (λ n. kept_at n kept) same ∙ there)) ∙ is

-- one note gives a message its own fate
back_same : (kept : List Kept) (e : Logged) (k : Kept) → kept_at k.number kept ≡ Some k
    → fate_of_kept (kept_at e.number kept) ≡ fate_of e.standing → passes is_out_fate (fate_of e.standing) ≡ true
    → with_back e.number (fate_of e.standing) k ≡ k
back_same kept e k there is out = elim (cases_Bool (e.number == k.number)) [
  | inl on ↦ back_out e.number (fate_of e.standing) k (ap (λ f. passes is_out_fate f) (true_fate kept e k there is on)
      ∙ out)
  | inr off ↦ back_other e.number (fate_of e.standing) k off
]

-- a message that didn't turn stays
undone_same : (kept : List Kept) (log : List Logged) (k : Kept) → AreTrue kept log → kept_at k.number kept ≡ Some k
    → undone log k ≡ k
undone_same kept [] k are there = refl
undone_same kept (e ∷ log) k are there =
    ap (λ l. with_back e.number (fate_of e.standing) l) (undone_same kept log k are.2 there)
    ∙ back_same kept e k there are.0 are.1

-- one that turned turns back
undone_turned : (kept : List Kept) (to : Option Fate) → passes is_out_fate to ≡ false → (log : List Logged) (k : Kept)
    → AreTrue kept log
    → kept_at k.number kept ≡ Some k → mentions k.number log ≡ true → undone log (fated to k) ≡ k
undone_turned kept to off [] k are there noted = let never : false ≡ true = noted in cc
undone_turned kept to off (e ∷ log) k are there noted = elim (cases_Bool (mentions k.number log)) [
  | inl later ↦
      ap (λ l. with_back e.number (fate_of e.standing) l) (undone_turned kept to off log k are.2 there later)
      ∙ back_same kept e k there are.0 are.1
  | inr first ↦
      let rest : undone log (fated to k) ≡ fated to k = unmentioned log (fated to k) first in
      let on : (e.number == k.number) ≡ true = rw (first, or_none (e.number == k.number)) at noted in
      let fate : fate_of e.standing ≡ k.fate = sym (true_fate kept e k there are.0 on) in
      ap (λ l. with_back e.number (fate_of e.standing) l) rest
      ∙ back_it e.number (fate_of e.standing) (fated to k) on off
      ∙ ap (λ f. fated f k) fate
]
  where
    or_none : (b : Bool) → (b || false) ≡ b
    or_none true = refl
    or_none false = refl

-- ---- an answer

-- the messages are as before an answer
pub answer_undone : (kept : List Kept) (to : Option Fate) (test : Fate → Bool) (es : List Entry) (log : List Logged)
    → rise (λ k. k.number) 0 kept ≡ true → passes is_out_fate to ≡ false → AreTrue kept log → AreAll test kept es log
    → map (undone log) (map (turn_among to test es) kept) ≡ kept
answer_undone kept to test es log rises off are all =
    map_map (undone log) (turn_among to test es) kept
    ∙ map_same (λ k. k.number) (λ k. undone log (turn_among to test es k)) (λ k. k) 0 kept rises each ∙ map_itself kept
  where
    each : (k : Kept) → kept_at k.number kept ≡ Some k → undone log (turn_among to test es k) ≡ k
    each k there = elim (cases_Bool (passes test k.fate)) [
      | inl on ↦ elim (cases_Bool (notes k.number es)) [
        | inl noted ↦
            let turns : turn_among to test es k ≡ fated to k = rw (on, noted) refl in
            ap (undone log) turns ∙ undone_turned kept to off log k are there (all k.number k there on noted)
        | inr fresh ↦
            let stays : turn_among to test es k ≡ k = rw (on, fresh) refl in
            ap (undone log) stays ∙ undone_same kept log k are there
      ]
      | inr fails ↦
          let stays : turn_among to test es k ≡ k = rw fails refl in
          ap (undone log) stays ∙ undone_same kept log k are there
    ]

    map_itself : (xs : List Kept) → map (λ k. k) xs ≡ xs
    map_itself [] = refl
    map_itself (x ∷ xs) = ap (λ l. x ∷ l) (map_itself xs)

pub map_undone : (log later : List Logged) (kept : List Kept)
    → map (undone (log ++ later)) kept ≡ map (undone log) (map (undone later) kept)
map_undone log later [] = refl
map_undone log later (k ∷ kept) = rw (undone_append log later k, map_undone log later kept) refl

-- behind what was noted before
pub before_answer : (last : ℕ) (log later : List Logged) (kept : List Kept) (to : Option Fate) (test : Fate → Bool)
    (es : List Entry)
    → rise (λ k. k.number) 0 kept ≡ true → passes is_out_fate to ≡ false → AreTrue kept later
    → AreAll test kept es later
    → before last (log ++ later) (map (turn_among to test es) kept) ≡ before last log kept
before_answer last log later kept to test es rises off are all =
    ap (λ l. filter (λ k. nat_le k.number last) l)
    (map_undone log later (map (turn_among to test es) kept)
    ∙ ap (λ l. map (undone log) l) (answer_undone kept to test es later rises off are all))

-- notes alone change nothing
pub notes_undone : (kept : List Kept) (later : List Logged) → rise (λ k. k.number) 0 kept ≡ true → AreTrue kept later
    → map (undone later) kept ≡ kept
notes_undone kept later rises are =
    map_same (λ k. k.number) (undone later) (λ k. k) 0 kept rises (λ k there. undone_same kept later k are there)
    ∙ map_id kept
  where
    map_id : (xs : List Kept) → map (λ k. k) xs ≡ xs
    map_id [] = refl
    map_id (x ∷ xs) = ap (λ l. x ∷ l) (map_id xs)

pub before_noted : (last : ℕ) (log later : List Logged) (kept : List Kept) → rise (λ k. k.number) 0 kept ≡ true
    → AreTrue kept later
    → before last (log ++ later) kept ≡ before last log kept
before_noted last log later kept rises are =
    ap (λ l. filter (λ k. nat_le k.number last) l) (map_undone log later kept ∙ ap (λ l. map (undone log) l)
    (notes_undone kept later rises are))

-- ---- a put

map_push : (f : Kept → Kept) (kept : List Kept) (k : Kept) → map f (kept ++ k ∷ []) ≡ map f kept ++ f k ∷ []
map_push f [] k = refl
map_push f (x ∷ kept) k = ap (λ l. f x ∷ l) (map_push f kept k)

filter_push : (p : Kept → Bool) (kept : List Kept) (k : Kept) → p k ≡ false → filter p (kept ++ k ∷ []) ≡ filter p kept
filter_push p [] k fails = rw fails refl
filter_push p (x ∷ kept) k fails = elim (cases_Bool (p x)) [
  | inl on ↦ rw on (ap (λ l. x ∷ l) (filter_push p kept k fails))
  | inr off ↦ rw off (filter_push p kept k fails)
]

-- a message that was put in later doesn't count
pub before_put : (last : ℕ) (log : List Logged) (kept : List Kept) (k : Kept) → nat_le k.number last ≡ false
    → before last log (kept ++ k ∷ []) ≡ before last log kept
before_put last log kept k later =
    ap (λ l. filter (λ k. nat_le k.number last) l) (map_push (undone log) kept k)
    ∙ filter_push (λ k. nat_le k.number last) (map (undone log) kept) (undone log k)
    (ap (λ n. nat_le n last) (undone_number log k) ∙ later)

-- ---- taking back

-- the last note first
pub before_step : (last : ℕ) (log : List Logged) (e : Logged) (kept : List Kept)
    → before last (log ++ e ∷ []) kept ≡ before last log (map (with_back e.number (fate_of e.standing)) kept)
before_step last log e kept = ap (λ l. filter (λ k. nat_le k.number last) l) (map_undone log (e ∷ []) kept)

-- what is out was out as it is
pub before_out : (last n : ℕ) (log : List Logged) (kept : List Kept) (k : Kept) → kept_at n kept ≡ Some k
    → passes is_out_fate k.fate ≡ true → n ≤ last → kept_at n (before last log kept) ≡ Some k
before_out last n log [] k found on low = let never : None ≡ Some k = found in cc
before_out last n log (x ∷ kept) k found on low = elim (cases_Bool (x.number == n)) [
  | inl here ↦
      let same : Some x ≡ Some k = rw here at found in
      let it : x ≡ k = cc in
      let stays : undone log x ≡ x = undone_out log x (ap (λ (l : Kept). passes is_out_fate l.fate) it ∙ on) in
      let number : x.number ≡ n = eqb-true x.number n here in
      let fits : nat_le x.number last ≡ true = le-leb x.number last (omega (arith, number, low)) in
      rw (stays, fits, here) same
  | inr off ↦
      let rest : kept_at n (before last log kept) ≡ Some k = before_out last n log kept k (rw off at found) on low in
      passed (nat_le (undone log x).number last) (ap (λ m. m == n) (undone_number log x) ∙ off) rest
]
  where
    passed : (b : Bool) → ((undone log x).number == n) ≡ false → kept_at n (before last log kept) ≡ Some k
        → kept_at n (cond b (undone log x ∷ before last log kept) (before last log kept)) ≡ Some k
    passed true other rest = rw other rest
    passed false other rest = rest
