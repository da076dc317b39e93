-- A subscriber's deliveries that aren't out any more are forgotten, one after another, and their gone messages are
-- taken out.
use Rattle.std.proofs.Common.{◌≡◌, ◌≤◌, ◌<◌, ℕ, Bool, true, false, not, length, List, [], ◌∷◌, map, Option, Some, None}
use Rattle.std.proofs.Common.{refl, sym, ap, ◌∙◌, arith, inl, inr}
use Rattle.std.specs.Prelude.{◌==◌, ◌&&◌, find}
use Rattle.std.specs.List.{list_any}
use Rattle.std.specs.Option.{option_map}
use Rattle.std.proofs.lemmas.Bool.{cases_Bool, cases_eq, eq-eqb, eqb-true}
use Rattle.broker_book.specs.declared.parts.Subscription.{Subscription}
use Rattle.broker_book.specs.Books.{Fate, Ready, Out, out_to}
use Rattle.broker_index.specs.Index.{Kept, Subscriber, entries_without, has_age, has_number, without_entries}
use Rattle.broker_index.specs.declared.places.Entry.{Entry}
use Rattle.broker_index.specs.declared.places.KeyedPlace.{KeyedPlace}
use Rattle.broker_queues.specs.Parts.Fates.{back, counts_in, fate_of_kept, is_held_at, passes, turn_among}
use Rattle.broker_queues.specs.Parts.Held.{Turns, TurnsAll, entries_of}
use Rattle.broker_queues.specs.Parts.Facts.{kept_at, subscriber_at, notes}
use Rattle.broker_queues.specs.Parts.Storing.{Cleared, Clearing, Clears, Forgets, NoneGone, SweepsOne, SweptOne, Tidies}
use Rattle.broker_queues.specs.Parts.Storing.{first_stale, is_gone, is_stale}
use Rattle.broker_queues.specs.Parts.Undoing.{is_out_fate}
use Rattle.broker_queues.specs.Parts.Whole.{Holding, IsSound}
use Rattle.broker_queues.proofs.Answering.{IsHolder, the_holder}
use Rattle.broker_queues.proofs.Finding.{IsMapped, any_implies, find_map, find_none, find_passes, is_mapped}
use Rattle.broker_queues.proofs.Listing.{notes_other}
use Rattle.broker_queues.proofs.Responding.{found_lists}
use Rattle.broker_queues.proofs.Rising.{at_edit_other, at_number}
use Rattle.broker_queues.proofs.Sweeping.{forgot}

-- ---- fewer deliveries

no_more : (n : ℕ) (es : List Entry) → length (entries_without n es) ≤ length es
no_more n [] = omega arith
no_more n (e ∷ es) = elim (cases_Bool (e.number == n)) [
  | inl on ↦ rw on (omega (arith, no_more n es))
  | inr off ↦ rw off (omega (arith, no_more n es))
]

fewer : (test : Entry → Bool) (es : List Entry) (e : Entry) → find test es ≡ Some e
    → length (entries_without e.number es) < length es
fewer test [] e found = let never : None ≡ Some e = found in cc
fewer test (x ∷ es) e found = elim (cases_Bool (test x)) [
  | inl on ↦
      let same : Some x ≡ Some e = rw on at found in
      let is : x ≡ e = cc in
      let number : (x.number == e.number) ≡ true = eq-eqb x.number e.number (ap (λ (y : Entry). y.number) is) in
      rw number (omega (arith, no_more e.number es))
  | inr off ↦
      let rest : length (entries_without e.number es) < length es = fewer test es e (rw off at found) in
      elim (cases_Bool (x.number == e.number)) [
        | inl here ↦ rw here (omega arith)
        | inr there ↦ rw there (omega arith)
      ]
]

keeps_age : (age n a : ℕ) (s : Subscriber) → has_age a (without_entries age n s) ≡ has_age a s
keeps_age age n a s = elim (cases_Bool (s.age == age)) [ inl on ↦ rw on refl | inr off ↦ rw off refl ]

-- the subscriber of an age forgets
pub forgets_at : (age n : ℕ) (subs : List Subscriber)
    → subscriber_at age (map (without_entries age n) subs) ≡ option_map (without_entries age n) (subscriber_at age subs)
forgets_at age n subs = find_map (has_age age) (without_entries age n) (keeps_age age n age) subs

forgets_own : (age n : ℕ) (s : Subscriber) → s.age ≡ age
    → without_entries age n s ≡ record s { entries = entries_without n s.entries }
forgets_own age n s own =
    let number : (s.age == age) ≡ true = eq-eqb s.age age own in
    rw number refl

-- one delivery fewer is noted at least
pub fewer_noted : (age : ℕ) (kept : List Kept) (e : Entry) (old new : List Subscriber)
    → Some e ≡ first_stale kept (subscriber_at age old) → new ≡ map (without_entries age e.number) old
    → length (entries_of (subscriber_at age new)) < length (entries_of (subscriber_at age old))
fewer_noted age kept e old new stale is = by_subscriber (subscriber_at age old) refl stale
  where
    by_subscriber : (o : Option Subscriber) → subscriber_at age old ≡ o → Some e ≡ first_stale kept o
        → length (entries_of (subscriber_at age new)) < length (entries_of (subscriber_at age old))
    by_subscriber None at found = let never : Some e ≡ None = found in cc
    by_subscriber (Some s) at found =
        let own : s.age ≡ age = at_number (λ (s : Subscriber). s.age) age old s at in
        let now : subscriber_at age new ≡ Some (record s { entries = entries_without e.number s.entries }) =
        ap (λ l. subscriber_at age l) is ∙ forgets_at age e.number old
        ∙ ap (λ o. option_map (without_entries age e.number) o) at
        ∙ ap (λ t. Some t) (forgets_own age e.number s own) in
        rw (now, at) (fewer (is_stale kept) s.entries e (sym found))

-- ---- what is left

-- before the first delivery is taken back nothing has changed
pub clearing_none : (h : Holding) (age : ℕ) (s : Subscriber) → subscriber_at age h.subscribers ≡ Some s
    → Clearing age s h
clearing_none h age s sits = record {
  now = s;
  sits = sits;
  subscription = refl;
  kept = λ n k there noted. inr noted;
}

-- where nothing is stale nothing is swept
pub swept_none : (h : Holding) (age : ℕ) → SweptOne h age h
swept_none h age = record { kept = λ n k there. there; others = λ b other. refl }

-- a delivery more is forgotten
pub swept_more : (h i j : Holding) (age n : ℕ) (subs : List Subscriber) → SweptOne h age i
    → subs ≡ map (without_entries age n) i.subscribers → Forgets (record i { subscribers = subs }) n j
    → SweptOne h age j
swept_more h i j age n subs before is_so f = record {
  kept = λ m k there. before.kept m k (f.kept m k there);
  others = λ b other. ap (λ l. subscriber_at b l) (f.subscribers ∙ is_so)
      ∙ at_edit_other (λ (s : Subscriber). s.age) age b (λ s. record s { entries = entries_without n s.entries })
      (λ s. refl) other
      i.subscribers
      ∙ before.others b other;
}

-- what isn't out is out to none
not_out : (s : Subscription) (f : Option Fate) → not (passes is_out_fate f) ≡ true
    → passes (out_to s.session s.id) f ≡ false
not_out s None off = refl
not_out s (Some Ready) off = refl
not_out s (Some (Out x i n)) off = let never : false ≡ true = off in cc

-- the stale delivery isn't out to the subscriber
stale_off : (kept : List Kept) (s : Subscription) (e : Entry) → is_stale kept e ≡ true
    → passes (out_to s.session s.id) (fate_of_kept (kept_at e.number kept)) ≡ false
stale_off kept s e stale = not_out s (fate_of_kept (kept_at e.number kept)) stale

module _ (i j : Holding) (age : ℕ) (s : Subscriber) (e : Entry) (subs : List Subscriber) (t : Clearing age s i)
    (is_so : subs ≡ map (without_entries age e.number) i.subscribers) (f : Forgets (record i { subscribers = subs })
    e.number j) where
  own : t.now.age ≡ age
  own = at_number (λ (s : Subscriber). s.age) age i.subscribers t.now t.sits

  pub clearing_more : Clearing age s j
  clearing_more = record {
    now = record t.now { entries = entries_without e.number t.now.entries };
    sits = ap (λ l. subscriber_at age l) (f.subscribers ∙ is_so) ∙ forgets_at age e.number i.subscribers
        ∙ ap (λ o. option_map (without_entries age e.number) o) t.sits
        ∙ ap (λ u. Some u) (forgets_own age e.number t.now own);
    subscription = t.subscription;
    kept = λ n k there noted. elim (t.kept n k (f.kept n k there) noted) [
      | inl still ↦ inl still
      | inr here ↦ elim (cases_eq n e.number) [
        | inl same ↦ inl (f.gone n k there same)
        | inr other ↦ inr (notes_other e.number n t.now.entries other ∙ here)
      ]
    ];
  }

-- a message that is out isn't gone
out_stays : (test : Fate → Bool) (f : Option Fate) → passes test f ≡ true → is_gone f ≡ false
out_stays test None on = let never : false ≡ true = on in cc
out_stays test (Some f) on = refl

module _ (i : Holding) (age : ℕ) (s : Subscriber) (t : Clearing age s i)
    (none : first_stale i.kept (subscriber_at age i.subscribers) ≡ None) where
  no_stale : list_any (is_stale i.kept) t.now.entries ≡ false
  no_stale =
      find_none (is_stale i.kept) t.now.entries
      (sym (ap (λ o. first_stale i.kept o) t.sits) ∙ none)

  out_still : (n : ℕ) → notes n t.now.entries ≡ true → passes is_out_fate (fate_of_kept (kept_at n i.kept)) ≡ true
  out_still n noted = elim (cases_Bool (passes is_out_fate (fate_of_kept (kept_at n i.kept)))) [
    | inl on ↦ on
    | inr off ↦
        let any : list_any (is_stale i.kept) t.now.entries ≡ true =
        any_implies {A = Entry} (λ e. e.number == n) (is_stale i.kept)
        (λ e same. ap (λ m. not (passes is_out_fate (fate_of_kept (kept_at m i.kept)))) (eqb-true e.number n same)
        ∙ ap not off)
        t.now.entries noted in
        let never : true ≡ false = sym any ∙ no_stale in
        cc
  ]

  pub cleared : Cleared age s i
  cleared = record {
    now = t.now;
    sits = t.sits;
    subscription = t.subscription;
    kept = λ n k there noted. elim (t.kept n k there noted) [
      | inl still ↦ still
      | inr here ↦
          let fate : fate_of_kept (kept_at n i.kept) ≡ k.fate = ap fate_of_kept there in
          out_stays is_out_fate k.fate (ap (λ f. passes is_out_fate f) (sym fate) ∙ out_still n here)
    ];
  }

-- the delivery is forgotten
pub forgets_stale : (i : Holding) → IsSound i → (age : ℕ) (e : Entry) (subs : List Subscriber)
    → Some e ≡ first_stale i.kept (subscriber_at age i.subscribers)
    → subs ≡ map (without_entries age e.number) i.subscribers
    → Tidies i (record i { subscribers = subs })
forgets_stale i is age e subs stale is_so = by_subscriber (subscriber_at age i.subscribers) refl stale
  where
    by_subscriber : (o : Option Subscriber) → subscriber_at age i.subscribers ≡ o → Some e ≡ first_stale i.kept o
        → Tidies i (record i { subscribers = subs })
    by_subscriber None at found = let never : Some e ≡ None = found in cc
    by_subscriber (Some s) at found =
        let on : is_stale i.kept e ≡ true =
        find_passes (is_stale i.kept) s.entries e (sym found) in
        forgot i is age e.number s at (stale_off i.kept s.subscription e on) subs is_so

-- ---- an answer leaves none gone

-- a message that isn't among deliveries stays as it is
not_among : (to : Option Fate) (test : Fate → Bool) (es : List Entry) (k : Kept) → notes k.number es ≡ false
    → turn_among to test es k ≡ k
not_among to test es k off = elim (cases_Bool (passes test k.fate)) [
  | inl on ↦ rw (on, off) refl
  | inr other ↦ rw other refl
]

pub among_number : (to : Option Fate) (test : Fate → Bool) (es : List Entry) (k : Kept)
    → (turn_among to test es k).number ≡ k.number
among_number to test es k = elim (cases_Bool (passes test k.fate && notes k.number es)) [
  | inl on ↦ rw on refl
  | inr off ↦ rw off refl
]

-- after an answer and its sweep no message that is gone is kept
pub none_gone : (h i j : Holding) → IsSound h → (x number : ℕ) (again : Bool) (p : KeyedPlace)
    → find (is_held_at h.kept h.subscribers number) (h.sessions x) ≡ Some p → TurnsAll h p.number (Some number) again i
    → Clears i p.number j → SweepsOne i p.number j → NoneGone h.kept → NoneGone j.kept
none_gone h i j is x number again p found turns clears swept none n k there =
    elim (cases_Bool (notes n held.subscriber.entries)) [
      | inl noted ↦ c.kept n k there (ap (λ es. notes n es) t.entries ∙ noted)
      | inr other ↦
          let number_is : was.from.number ≡ n = at_number (λ (k : Kept). k.number) n h.kept was.from was.found in
          let unnoted : notes was.from.number held.subscriber.entries ≡ false =
          ap (λ m. notes m held.subscriber.entries) number_is ∙ other in
          let same : k ≡ was.from =
          sym was.to ∙ not_among (back again) (counts_in held.subscriber.subscription (Some number))
          held.subscriber.entries was.from
          unnoted in
          ap (λ (l : Kept). is_gone l.fate) same ∙ none n was.from was.found
    ]
  where
    held : IsHolder h x number p.number
    held = the_holder h is x number p found (found_lists (is_held_at h.kept h.subscribers number) (h.sessions x) p
        found)

    t : Turns h p.number held.subscriber (back again) (counts_in held.subscriber.subscription (Some number))
        held.subscriber.entries i
    t = turns held.subscriber is held.sits

    c : Cleared p.number t.now j
    c = clears t.now t.sound t.sits

    was : IsMapped (turn_among (back again) (counts_in held.subscriber.subscription (Some number))
        held.subscriber.entries)
        (kept_at n h.kept) k
    was =
        is_mapped (turn_among (back again) (counts_in held.subscriber.subscription (Some number))
        held.subscriber.entries)
        (kept_at n h.kept) k
        (sym (find_map (has_number n) (turn_among (back again) (counts_in held.subscriber.subscription (Some number))
        held.subscriber.entries)
        (λ l. ap (λ m. m == n) (among_number (back again) (counts_in held.subscriber.subscription (Some number))
        held.subscriber.entries l)) h.kept)
        ∙ sym (ap (λ l. kept_at n l) t.kept) ∙ (swept t.sound).kept n k there)
