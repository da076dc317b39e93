-- Where nothing that is gone was kept, nothing that is gone is.
use Rattle.std.proofs.Common.{◌≡◌, ◌<◌, ◌+◌, ℕ, Bool, true, false, cond, length, get_or, drop, drop-cons, suc, List, []}
use Rattle.std.proofs.Common.{◌∷◌, ◌++◌, map}
use Rattle.std.proofs.Common.{Option, Some, None, refl, sym, ap, ◌∙◌, arith, inl, inr}
use Rattle.std.specs.Prelude.{◌==◌, ◌&&◌, filter, find, nat_le}
use Rattle.std.specs.List.{list_any}
use Rattle.std.specs.Option.{option_map}
use Rattle.std.proofs.lemmas.Bool.{and_parts, cases_Bool, cases_eq, eqb-true, leb-false}
use Rattle.broker_book.specs.Books.{Fate, Ready}
use Rattle.broker_index.specs.Index.{Kept, Subscriber, has_number, with_fate}
use Rattle.broker_index.specs.declared.places.Entry.{Entry}
use Rattle.broker_queues.specs.declared.transactions.Logged.{Logged}
use Rattle.broker_queues.specs.Parts.Begun.{AreHeld, GoneAreNoted, IsBegun}
use Rattle.broker_queues.specs.Parts.Fates.{fated, passes, turn_among}
use Rattle.broker_queues.specs.Parts.Held.{entries_of}
use Rattle.broker_queues.specs.Parts.Facts.{kept_at, subscriber_at, notes}
use Rattle.broker_queues.specs.Parts.Storing.{Clears, Forgets, NoneGone, SweptOne, is_gone}
use Rattle.broker_queues.specs.Parts.Undoing.{mentions, undone}
use Rattle.broker_queues.specs.Parts.Whole.{Changes, Holding, IsSound, Picks}
use Rattle.broker_queues.proofs.Changing.{changed}
use Rattle.broker_queues.proofs.Clearing.{among_number}
use Rattle.broker_queues.proofs.Finding.{IsMapped, any_implies, find_map, is_mapped, or_some}
use Rattle.broker_queues.proofs.Logging.{undone_number, unmentioned}
use Rattle.broker_queues.proofs.Rising.{at_edit_other, at_number, at_push}

-- ---- messages change

-- equal messages have as few that are gone
pub none_same : (old new : List Kept) → new ≡ old → NoneGone old → NoneGone new
none_same old new same none = rw same none

-- they keep their numbers, and none goes
none_mapped : (g : Kept → Kept) → ((k : Kept) → (g k).number ≡ k.number)
    → ((k : Kept) → is_gone k.fate ≡ false → is_gone (g k).fate ≡ false) → (old : List Kept) → NoneGone old
    → NoneGone (map g old)
none_mapped g keeps stays old none n k there =
    let was : IsMapped g (kept_at n old) k =
    is_mapped g (kept_at n old) k (sym (find_map (has_number n) g (λ l. ap (λ m. m == n) (keeps l)) old) ∙ there) in
    ap (λ (l : Kept). is_gone l.fate) (sym was.to) ∙ stays was.from (none n was.from was.found)

-- one is ready, or out
pub none_fated : (n : ℕ) (f : Fate) (old : List Kept) → NoneGone old → NoneGone (map (with_fate n (Some f)) old)
none_fated n f old none = none_mapped (with_fate n (Some f)) number stays old none
  where
    number : (k : Kept) → (with_fate n (Some f) k).number ≡ k.number
    number k = elim (cases_Bool (k.number == n)) [ inl on ↦ rw on refl | inr off ↦ rw off refl ]

    stays : (k : Kept) → is_gone k.fate ≡ false → is_gone (with_fate n (Some f) k).fate ≡ false
    stays k left = elim (cases_Bool (k.number == n)) [ inl on ↦ rw on refl | inr off ↦ rw off left ]

-- some are ready again
pub none_turned : (test : Fate → Bool) (es : List Entry) (old : List Kept) → NoneGone old
    → NoneGone (map (turn_among (Some Ready) test es) old)
none_turned test es old none =
    none_mapped (turn_among (Some Ready) test es) (among_number (Some Ready) test es) stays old none
  where
    stays : (k : Kept) → is_gone k.fate ≡ false → is_gone (turn_among (Some Ready) test es k).fate ≡ false
    stays k left =
        elim (cases_Bool (passes test k.fate && notes k.number es)) [ inl on ↦ rw on refl | inr off ↦ rw off left ]

-- one comes
pub none_pushed : (k : Kept) → is_gone k.fate ≡ false → (old : List Kept) → NoneGone old → NoneGone (old ++ k ∷ [])
none_pushed k left old none n l there =
    elim (or_some (kept_at n old) (cond (k.number == n) (Some k) None) l (sym (at_push (λ (k : Kept). k.number) n old k)
    ∙ there)) [
      | inl was ↦ none n l was
      | inr it ↦ new (k.number == n) it
    ]
  where
    new : (b : Bool) → cond b (Some k) None ≡ Some l → is_gone l.fate ≡ false
    new true it =
        let same : Some k ≡ Some l = it in
        let e : k ≡ l = cc in
        ap (λ (m : Kept). is_gone m.fate) (sym e) ∙ left
    new false it = let never : None ≡ Some l = it in cc

-- one is gone as it goes out, and is taken out
pub none_handed : (h i j : Holding) → IsSound h → (n a : ℕ) (k : Kept) (s : Subscriber) → Picks h n k a s
    → Changes h n k None i
    → (IsSound i → Forgets i n j) → NoneGone h.kept → NoneGone j.kept
none_handed h i j is n a k s p c forgets none m l there =
    elim (cases_eq m n) [
      | inl same ↦ f.gone m l there same
      | inr other ↦
          let was : kept_at m (map (with_fate n None) h.kept) ≡ Some l =
          ap (λ ks. kept_at m ks) (sym c.kept) ∙ f.kept m l there in
          none m l (sym (at_edit_other (λ (k : Kept). k.number) n m (fated None) (λ k. refl) other h.kept) ∙ was)
    ]
  where
    f : Forgets i n j
    f = forgets (changed h i n k None is p.there c)

-- ---- a transaction

find_filtered : {A : Type 0} (test p : A → Bool) → ((x : A) → test x ≡ true → p x ≡ true) → (xs : List A)
    → find test (filter p xs) ≡ find test xs
find_filtered test p all [] = refl
find_filtered test p all (x ∷ xs) = elim (cases_Bool (test x)) [
  | inl on ↦ rw (all x on, on) refl
  | inr off ↦ elim (cases_Bool (p x)) [
    | inl stays ↦ rw (stays, off) (find_filtered test p all xs)
    | inr goes ↦ rw (goes, off) (find_filtered test p all xs)
  ]
]

-- what is gone since a transaction began was noted
pub begun_noted : (start h : Holding) (log : List Logged) → IsBegun start log h → NoneGone start.kept
    → GoneAreNoted h.kept log
begun_noted start h log b none n k there gone =
    elim (cases_Bool (nat_le n start.last)) [
      | inr late ↦
          let ready : k.fate ≡ Some Ready = b.fresh n k there (leb-false n start.last late) in
          let never : true ≡ false = sym gone ∙ ap is_gone ready in cc
      | inl early ↦ elim (cases_Bool (mentions n log)) [
        | inl on ↦ on
        | inr off ↦
            let same : undone log k ≡ k =
            unmentioned log k (ap (λ m. mentions m log) (at_number (λ (k : Kept). k.number) n h.kept k there)
            ∙ off) in
            let never : true ≡ false = sym gone ∙ none n k (was early ∙ ap (λ (l : Kept). Some l) same) in cc
      ]
    ]
  where
    was : nat_le n start.last ≡ true → kept_at n start.kept ≡ Some (undone log k)
    was early =
        ap (λ ks. kept_at n ks) (sym b.kept)
        ∙ find_filtered (has_number n) (λ (k : Kept). nat_le k.number start.last)
        (λ l on. ap (λ m. nat_le m start.last) (eqb-true l.number n on) ∙ early) (map (undone log) h.kept)
        ∙ find_map (has_number n) (undone log) (λ l. ap (λ m. m == n) (undone_number log l)) h.kept
        ∙ ap (λ o. option_map (undone log) o) there

-- whether a note of a message is of a subscriber that notes it yet
abbrev pub waits : List Subscriber → ℕ → Logged → Bool
waits subscribers n e = (e.number == n) && notes n (entries_of (subscriber_at e.age subscribers))

-- what is gone and kept waits to be swept
abbrev pub AreLeft : Holding → List Logged → Type 0
AreLeft h log =
    (n : ℕ) (k : Kept) → kept_at n h.kept ≡ Some k → is_gone k.fate ≡ true → list_any (waits h.subscribers n) log ≡ true

held_waits : (subscribers : List Subscriber) (n : ℕ) (log : List Logged) → AreHeld subscribers log
    → mentions n log ≡ true
    → list_any (waits subscribers n) log ≡ true
held_waits subscribers n [] held on = on
held_waits subscribers n (e ∷ log) held on = elim (cases_Bool (e.number == n)) [
  | inl here ↦
      let noted : notes n (entries_of (subscriber_at e.age subscribers)) ≡ true =
      ap (λ o. notes n (entries_of o)) held.0.there
      ∙ ap (λ m. notes m held.0.holder.entries) (sym (eqb-true e.number n here))
      ∙ held.0.noted in
      rw (here, noted) refl
  | inr off ↦ rw off (held_waits subscribers n log held.1 (rw off at on))
]

-- before the first sweep each message that is gone is noted
pub left_first : (h : Holding) (log : List Logged) → AreHeld h.subscribers log → GoneAreNoted h.kept log → AreLeft h log
left_first h log held noted n k there gone = held_waits h.subscribers n log held (noted n k there gone)

module _ (i j : Holding) (e : Logged) (is : IsSound i) (swept : SweptOne i e.age j) (clears : Clears i e.age j) (n : ℕ)
    (k : Kept)
    (there : kept_at n j.kept ≡ Some k) (gone : is_gone k.fate ≡ true) where
  -- the subscriber that was swept doesn't note it any more
  no_more : (o : Option Subscriber) → subscriber_at e.age i.subscribers ≡ o → notes n (entries_of o) ≡ true → ⊥
  no_more None at on = let never : false ≡ true = on in cc
  no_more (Some s) at on = let never : true ≡ false = sym gone ∙ (clears s is at).kept n k there on in cc

  never_own : (x : Logged) → waits i.subscribers n x ≡ true → x.age ≡ e.age → ⊥
  never_own x on same =
      no_more (subscriber_at e.age i.subscribers) refl
      (ap (λ a. notes n (entries_of (subscriber_at a i.subscribers))) (sym same)
      ∙ (and_parts (x.number == n) (notes n (entries_of (subscriber_at x.age i.subscribers))) on).1)

  waits_on : (x : Logged) → waits i.subscribers n x ≡ true → waits j.subscribers n x ≡ true
  waits_on x on = elim (cases_eq x.age e.age) [
    | inl same ↦ absurd (never_own x on same)
    | inr other ↦ ap (λ o. (x.number == n) && notes n (entries_of o)) (swept.others x.age other) ∙ on
  ]

  waits_later : (log : List Logged) → list_any (waits i.subscribers n) (e ∷ log) ≡ true
      → list_any (waits j.subscribers n) log ≡ true
  waits_later log any = elim (cases_Bool (waits i.subscribers n e)) [
    | inl on ↦ absurd (never_own e on refl)
    | inr off ↦ any_implies (waits i.subscribers n) (waits j.subscribers n) waits_on log (rw off at any)
  ]

-- one more was swept
pub left_next : (i j : Holding) (log : List Logged) (index : ℕ) (e : Logged) → index < length log
    → e ≡ get_or log index e → IsSound i
    → SweptOne i e.age j → Clears i e.age j → AreLeft i (drop index log) → AreLeft j (drop (index + 1) log)
left_next i j log index e short is sound swept clears left n k there gone =
    let one : suc index ≡ index + 1 = omega arith in
    let first : drop index log ≡ e ∷ drop (index + 1) log =
    drop-cons log index e short ∙ ap (λ x. x ∷ drop (suc index) log) (sym is) ∙ ap (λ m. e ∷ drop m log) one in
    waits_later i j e sound swept clears n k there gone (drop (index + 1) log)
    (ap (λ l. list_any (waits i.subscribers n) l) (sym first) ∙ left n k (swept.kept n k there) gone)

-- all were
pub none_left : (h : Holding) (log : List Logged) → log ≡ [] → AreLeft h log → NoneGone h.kept
none_left h log all left n k there = elim (cases_Bool (is_gone k.fate)) [
  | inr off ↦ off
  | inl gone ↦ let never : false ≡ true =
      ap (λ l. list_any (waits h.subscribers n) l) (sym all) ∙ left n k there gone in cc
]
