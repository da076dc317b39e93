-- An answer that counts for one delivery alone: it is taken back, and no other is looked at.
use Rattle.std.proofs.Common.{◌≡◌, ℕ, Bool, true, false, List, [], ◌∷◌, map, Option, Some, None, Ok, refl, sym, ap, ◌∙◌}
use Rattle.std.proofs.Common.{inl, inr}
use Rattle.std.specs.Prelude.{◌==◌, ◌&&◌, find, slice_get}
use Rattle.std.specs.List.{list_any}
use Rattle.std.specs.Option.{option_map}
use Rattle.std.specs.Str.{bytes_eq}
use Rattle.std.proofs.lemmas.Bool.{cases_Bool, cases_eq, and_parts, eq-eqb, eqb-true}
use Rattle.broker_book.specs.declared.parts.Accepted.{Accepted}
use Rattle.broker_book.specs.declared.parts.Mode.{Mode}
use Rattle.broker_book.specs.declared.parts.Mode.TheVariants.{Auto, Client, Individual}
use Rattle.broker_book.specs.declared.parts.Subscription.{Subscription}
use Rattle.broker_book.specs.Books.{Fate, Ready, Out, out_as, out_to, reaches}
use Rattle.broker_book.specs.Steps.{covered}
use Rattle.broker_index.specs.Index.{Kept, Subscriber, has_age, without_entries}
use Rattle.broker_index.specs.declared.places.Entry.{Entry}
use Rattle.broker_index.specs.declared.places.KeyedPlace.{KeyedPlace}
use Rattle.broker_queues.specs.Parts.Fates.{back, counts_alone, fate_of_kept, fated, is_covered, is_held, is_held_at, passes}
use Rattle.broker_queues.specs.Parts.Fates.{is_held_of}
use Rattle.broker_queues.specs.Parts.Fates.{recounted, sole_covered, turn_among}
use Rattle.broker_queues.specs.Parts.Held.{Turns, step_of}
use Rattle.broker_queues.specs.Parts.Facts.{kept_at, notes, subscriber_at}
use Rattle.broker_queues.specs.Parts.Storing.{AnsweredAlone, AnswersAlone, Forgets, NoneGone, Sweeps, SweepsOne, Tidies}
use Rattle.broker_queues.specs.Parts.Whole.{Changes, Holding, IsSound, book_of}
use Rattle.broker_queues.proofs.Answering.{covered_out, noted_by}
use Rattle.broker_queues.proofs.Changing.{changed}
use Rattle.broker_queues.proofs.Finding.{any_implies, find_map, find_passes, none_found}
use Rattle.broker_queues.proofs.Rising.{at_edit, at_edit_other, map_same}
use Rattle.broker_queues.proofs.Sweeping.{answered, forgot, tidies}
use Rattle.broker_queues.proofs.Turning.{turned_one, turns_none, uncovered}

-- ---- one delivery is taken back, and its message taken out

-- what is taken back is out to none
back_off : (again : Bool) (x : ℕ) (i : List ℕ) → passes (out_to x i) (back again) ≡ false
back_off true x i = refl
back_off false x i = refl

module _ (h b j : Holding) (is : IsSound h) (age n : ℕ) (again : Bool) (k : Kept) (s : Subscriber)
    (subs : List Subscriber)
    (found : kept_at n h.kept ≡ Some k) (sits : subscriber_at age h.subscribers ≡ Some s)
    (c : Changes h n k (back again) b) (same : subs ≡ map (without_entries age n) b.subscribers)
    (sweeps : Sweeps (record b { subscribers = subs }) j)
    (forgets : IsSound (record b { subscribers = subs }) → Forgets (record b { subscribers = subs }) n j) where
  sits_on : subscriber_at age b.subscribers ≡ Some (recounted k.fate (back again) s)
  sits_on =
      ap (λ l. subscriber_at age l) c.subscribers
      ∙ find_map (has_age age) (recounted k.fate (back again)) (λ x. refl) h.subscribers
      ∙ ap (λ o. option_map (recounted k.fate (back again)) o) sits

  there_on : kept_at n b.kept ≡ Some (fated (back again) k)
  there_on =
      ap (λ l. kept_at n l) c.kept ∙ at_edit (λ k. k.number) n (fated (back again)) (λ x. refl) h.kept k found

  forgotten : Tidies b (record b { subscribers = subs })
  forgotten =
      forgot b (changed h b n k (back again) is found c) age n (recounted k.fate (back again) s) sits_on
      (ap (λ o. passes (out_to s.subscription.session s.subscription.id) (fate_of_kept o)) there_on
      ∙ back_off again s.subscription.session s.subscription.id)
      subs same

  left_none : NoneGone h.kept → NoneGone j.kept
  left_none none m l there = elim (cases_eq m n) [
    | inl it ↦ (forgets forgotten.sound).gone m l there it
    | inr other ↦
        let was : kept_at m b.kept ≡ Some l = (forgets forgotten.sound).kept m l there in
        none m l (sym (at_edit_other (λ k. k.number) n m (fated (back again)) (λ x. refl) other h.kept)
        ∙ ap (λ l. kept_at m l) (sym c.kept) ∙ was)
  ]

  pub answered_it : b.given ≡ h.given → AnsweredAlone h n k again j
  answered_it given = record {
    between = b;
    changes = c;
    given = given;
    tidies = tidies b (record b { subscribers = subs }) j forgotten (sweeps forgotten.sound);
    none_gone = left_none;
  }

-- ---- it is the only one

reached : (mode : Mode) (answered n : ℕ) → counts_alone mode ≡ true → reaches mode answered n ≡ true → n ≡ answered
reached Auto answered n alone on = eqb-true n answered on
reached Client answered n alone on = let never : false ≡ true = alone in cc
reached Individual answered n alone on = eqb-true n answered on

-- a fate is out as the delivery of a number
record IsOutUnder (answered : ℕ) (f : Option Fate) : Type 0 where
  session : ℕ
  id : List ℕ
  out : f ≡ Some (Out session id answered)

-- what an answer counts for is out under the number that was answered
out_under : (s : Subscription) (answered : ℕ) (f : Option Fate) → counts_alone s.mode ≡ true
    → passes (covered s answered) f ≡ true
    → IsOutUnder answered f
out_under s answered None alone on = let never : false ≡ true = on in cc
out_under s answered (Some Ready) alone on = let never : false ≡ true = on in cc
out_under s answered (Some (Out x i n)) alone on =
    let parts = and_parts (x == s.session && bytes_eq i s.id) (reaches s.mode answered n) on in
    record {
      session = x;
      id = i;
      out = ap (λ m. Some (Out x i m)) (reached s.mode answered n alone parts.1);
    }

-- so it is out to the subscription as that delivery
covered_as : (s : Subscription) (answered : ℕ) (f : Option Fate) → counts_alone s.mode ≡ true
    → passes (covered s answered) f ≡ true → passes (out_as s.session s.id answered) f ≡ true
covered_as s answered None alone on = let never : false ≡ true = on in cc
covered_as s answered (Some Ready) alone on = let never : false ≡ true = on in cc
covered_as s answered (Some (Out x i n)) alone on =
    let parts = and_parts (x == s.session && bytes_eq i s.id) (reaches s.mode answered n) on in
    let name = and_parts (x == s.session) (bytes_eq i s.id) parts.0 in
    let number : (n == answered) ≡ true = eq-eqb n answered (reached s.mode answered n alone parts.1) in
    rw (name.0, name.1, number) refl

-- what an answer counts for alone is held
pub sole_is_held : (kept : List Kept) (subscribers : List Subscriber) (answered : ℕ) (p : KeyedPlace) (e : Entry)
    → sole_covered kept answered (subscriber_at p.number subscribers) ≡ Some e
    → is_held_at kept subscribers answered p ≡ true
sole_is_held kept subscribers answered p e is = by_subscriber (subscriber_at p.number subscribers) is
  where
    among : (s : Subscriber) → counts_alone s.subscription.mode ≡ true
        → find (is_covered kept s.subscription answered) s.entries ≡ Some e → is_held kept answered s ≡ true
    among s alone first = elim (cases_Bool (list_any (is_covered kept s.subscription answered) s.entries)) [
      | inl on ↦ any_implies (is_covered kept s.subscription answered)
          (λ x. passes (out_as s.subscription.session s.subscription.id answered)
          (fate_of_kept (kept_at x.number kept)))
          (λ x covers. covered_as s.subscription answered (fate_of_kept (kept_at x.number kept)) alone covers) s.entries
          on
      | inr off ↦
          let never : None ≡ Some e = sym (none_found (is_covered kept s.subscription answered) s.entries off) ∙ first in
          cc
    ]

    by_subscriber : (o : Option Subscriber) → sole_covered kept answered o ≡ Some e
        → is_held_of kept answered o ≡ true
    by_subscriber None is2 = let never : None ≡ Some e = is2 in cc
    by_subscriber (Some s) is2 = elim (cases_Bool (counts_alone s.subscription.mode)) [
      | inl alone ↦ among s alone (rw alone at is2)
      | inr more ↦ let never : None ≡ Some e = rw more at is2 in cc
    ]

-- the first of places is the one that holds it, where it does
pub first_holds : (kept : List Kept) (subscribers : List Subscriber) (answered : ℕ) (ps : List KeyedPlace) (p : KeyedPlace)
    → slice_get ps 0 ≡ Some p → is_held_at kept subscribers answered p ≡ true
    → find (is_held_at kept subscribers answered) ps ≡ Some p
first_holds kept subscribers answered [] p first on = let never : None ≡ Some p = first in cc
first_holds kept subscribers answered (q ∷ ps) p first on =
    let both : Some q ≡ Some p = first in
    let same : q ≡ p = cc in
    let held : is_held_at kept subscribers answered q ≡ true = rw same on in
    rw held (ap (λ x. Some x) same)

-- The delivery that was found, and its message.
record IsSole (h : Holding) (age answered n : ℕ) : Type 0 where
  subscriber : Subscriber
  sits : subscriber_at age h.subscribers ≡ Some subscriber
  alone : counts_alone subscriber.subscription.mode ≡ true
  message : Kept
  found : kept_at n h.kept ≡ Some message
  on : passes (covered subscriber.subscription answered) message.fate ≡ true

sole : (h : Holding) (age answered : ℕ) (e : Entry)
    → sole_covered h.kept answered (subscriber_at age h.subscribers) ≡ Some e
    → IsSole h age answered e.number
sole h age answered e is = by_subscriber (subscriber_at age h.subscribers) refl is
  where
    by_message : (s : Subscriber) → subscriber_at age h.subscribers ≡ Some s
        → counts_alone s.subscription.mode ≡ true → (o : Option Kept) → kept_at e.number h.kept ≡ o
        → passes (covered s.subscription answered) (fate_of_kept o) ≡ true
        → IsSole h age answered e.number
    by_message s sits alone None at on = let never : false ≡ true = on in cc
    by_message s sits alone (Some k) at on =
        record { subscriber = s; sits = sits; alone = alone; message = k; found = at; on = on }

    by_subscriber : (o : Option Subscriber) → subscriber_at age h.subscribers ≡ o
        → sole_covered h.kept answered o ≡ Some e → IsSole h age answered e.number
    by_subscriber None sits is = let never : None ≡ Some e = is in cc
    by_subscriber (Some s) sits is = elim (cases_Bool (counts_alone s.subscription.mode)) [
      | inl alone ↦
          let first : find (is_covered h.kept s.subscription answered) s.entries ≡ Some e = rw alone at is in
          by_message s sits alone (kept_at e.number h.kept) refl
          (find_passes (is_covered h.kept s.subscription answered) s.entries e first)
      | inr more ↦ let never : None ≡ Some e = rw more at is in cc
    ]

module _ (h i : Holding) (is : IsSound h) (age answered : ℕ) (again : Bool) (e : Entry)
    (one : IsSole h age answered e.number) (c : Changes h e.number one.message (back again) i)
    (given : i.given ≡ h.given) where
  abbrev test : Fate → Bool
  test = covered one.subscriber.subscription answered

  -- an answer counts for no other message
  no_other : (x : Kept) → kept_at x.number h.kept ≡ Some x → passes test x.fate ≡ true → x.number ≡ e.number
  no_other x there on =
      let mine = out_under one.subscriber.subscription answered one.message.fate one.alone one.on in
      let its = out_under one.subscriber.subscription answered x.fate one.alone on in
      (is.distinct x.number e.number x one.message its.session mine.session its.id mine.id answered there one.found
      its.out mine.out).0

  -- so to go through all deliveries turns that one alone
  turns_one : map (turn_among (back again) test (e ∷ [])) h.kept
      ≡ map (turn_among (back again) test one.subscriber.entries) h.kept
  turns_one =
      map_same (λ k. k.number) (turn_among (back again) test (e ∷ []))
      (turn_among (back again) test one.subscriber.entries) 0 h.kept is.numbers each
    where
      each : (x : Kept) → kept_at x.number h.kept ≡ Some x
          → turn_among (back again) test (e ∷ []) x ≡ turn_among (back again) test one.subscriber.entries x
      each x there = elim (cases_Bool (passes test x.fate)) [
        | inl on ↦
            let number : (e.number == x.number) ≡ true = eq-eqb e.number x.number (sym (no_other x there on)) in
            let noted : notes x.number one.subscriber.entries ≡ true =
            noted_by h is age one.subscriber one.sits x.number x there
            (covered_out one.subscriber.subscription answered x.fate on) in
            let first : turn_among (back again) test (e ∷ []) x ≡ fated (back again) x = rw (on, number) refl in
            let all : turn_among (back again) test one.subscriber.entries x ≡ fated (back again) x =
            rw (on, noted) refl in
            first ∙ sym all
        | inr off ↦ rw off refl
      ]

  turns_sole : Turns h age one.subscriber (back again) test one.subscriber.entries i
  turns_sole =
      let fails : passes test (back again) ≡ false = uncovered one.subscriber.subscription (Some answered) again in
      let none : Turns h age one.subscriber (back again) test [] h =
      turns_none h age one.subscriber (back again) test fails is one.sits in
      let t : Turns h age one.subscriber (back again) test (e ∷ []) i =
      turned_one h h is age one.subscriber (back again) test fails [] e none one.message i one.found one.on c given in
      record {
        sound = t.sound;
        kept = t.kept ∙ turns_one;
        subscriptions = t.subscriptions;
        now = t.now;
        sits = t.sits;
        subscription = t.subscription;
        entries = t.entries;
        sessions = t.sessions;
        last = t.last;
        given = t.given;
        numbers = t.numbers;
        others = t.others;
      }

  turns_all : (s : Subscriber) → subscriber_at age h.subscribers ≡ Some s
      → Turns h age s (back again) (covered s.subscription answered) s.entries i
  turns_all s sits =
      let both : Some s ≡ Some one.subscriber = sym sits ∙ one.sits in
      let it : s ≡ one.subscriber = cc in
      rw it turns_sole

-- ---- the answer

module _ (h j l : Holding) (is : IsSound h) (x number : ℕ) (again : Bool) (p : KeyedPlace) (e : Entry)
    (held : find (is_held_at h.kept h.subscribers number) (h.sessions x) ≡ Some p)
    (found : sole_covered h.kept number (subscriber_at p.number h.subscribers) ≡ Some e)
    (answers : AnswersAlone h p.number e.number again j) where
  one : IsSole h p.number number e.number
  one = sole h p.number number e found

  its : AnsweredAlone h e.number one.message again j
  its =
      answers one.message one.subscriber is one.found one.sits
      (covered_out one.subscriber.subscription number one.message.fate one.on)

  pub responded_alone : (accepted : List Accepted) → Sweeps j l
      → IsSound l × (step_of again (book_of h accepted) x number ≡ Ok (book_of l accepted))
  responded_alone accepted sweeps =
      answered h its.between l accepted x number again p is held
      (λ s sound sits. turns_all h its.between is p.number number again e one its.changes its.given s sits)
      (λ sound. tidies its.between j l its.tidies (sweeps its.tidies.sound))

  pub alone_none_gone : SweepsOne j p.number l → NoneGone h.kept → NoneGone l.kept
  alone_none_gone swept none m k there = its.none_gone none m k ((swept its.tidies.sound).kept m k there)
