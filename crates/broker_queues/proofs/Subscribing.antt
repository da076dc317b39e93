-- A subscriber comes or goes: the parts agree as before.
use Rattle.std.proofs.Common.{◌≡◌, ℕ, Bool, true, false, not, cond, List, [], ◌∷◌}
use Rattle.std.proofs.Common.{◌++◌, Option, Some, None, refl, sym, ap, ◌∙◌, arith, inl, inr}
use Rattle.std.specs.Prelude.{◌==◌, ◌⊎◌, filter, is_some, count_by}
use Rattle.std.specs.Option.{option_or}
use Rattle.std.specs.Str.{bytes_eq}
use Rattle.std.proofs.lemmas.Bool.{cases_Bool, cases_eq, eqb-true, eq-eqb, and_parts, and_from}
use Rattle.std.proofs.lemmas.List.Folds.{list_any-append}
use Rattle.std.proofs.lemmas.Slice.Eq.{bytes_eq-Decides}
use Rattle.broker_book.specs.declared.parts.Subscription.{Subscription}
use Rattle.broker_book.specs.Books.{Fate, Ready, Out, out_to, is_named}
use Rattle.broker_index.specs.Index.{Subscriber}
use Rattle.broker_queues.specs.Parts.Facts.{kept_at, subscriber_at, session_at, destination_at, lists}
use Rattle.broker_queues.specs.Parts.Facts.{queue_of, living_of, holds_number, notes}
use Rattle.broker_queues.specs.Parts.Facts.{AreNoted, AreCredited, AreListening, AreOwned, AreTakers, AreAwake}
use Rattle.broker_queues.specs.Parts.Fates.{passes}
use Rattle.broker_queues.specs.Parts.Whole.{Holding, IsSound, Subscribes, Leaves}
use Rattle.broker_queues.proofs.Distinct.{distinct_still}
use Rattle.broker_queues.proofs.Finding.{or_some, is_there, is_mapped}
use Rattle.broker_queues.proofs.Living.{count_zero, weight_fate}
use Rattle.broker_queues.proofs.Rising.{at_push, rise_push, at_filter, at_filter_other, rise_filter, IsAmong, any_at}
use Rattle.broker_queues.proofs.Rising.{any_from_at}

-- ---- names

pub same_texts : (a b : List ℕ) → bytes_eq a b ≡ true → a ≡ b
same_texts a b same = (bytes_eq-Decides a b).0 same

pub itself : (a : List ℕ) → bytes_eq a a ≡ true
itself a = (bytes_eq-Decides a a).1 refl

-- what a name says
pub name_parts : (x : ℕ) (j : List ℕ) (s : Subscription) → is_named x j s ≡ true → (s.session ≡ x) × (s.id ≡ j)
name_parts x j s named =
    let parts = and_parts (s.session == x) (bytes_eq s.id j) named in
    (eqb-true s.session x parts.0, same_texts s.id j parts.1)

pub named_from : (x : ℕ) (j : List ℕ) (s : Subscription) → s.session ≡ x → s.id ≡ j → is_named x j s ≡ true
named_from x j s session id =
    and_from (s.session == x) (bytes_eq s.id j) (eq-eqb s.session x session) (rw id (itself j))

-- a fate that is out to a subscription
pub record IsOut (x : ℕ) (j : List ℕ) (f : Option Fate) : Type 0 where
  pub ack : ℕ
  pub out : f ≡ Some (Out x j ack)

-- the test finds what it is to be out to a subscription
pub is_out : (x : ℕ) (j : List ℕ) (f : Option Fate) → passes (out_to x j) f ≡ true → IsOut x j f
is_out x j None on = let no : false ≡ true = on in cc
is_out x j (Some Ready) on = let no : false ≡ true = on in cc
is_out x j (Some (Out y l a)) on =
    let parts = and_parts (y == x) (bytes_eq l j) on in
    let session : y ≡ x = eqb-true y x parts.0 in
    let id : l ≡ j = same_texts l j parts.1 in
    record { ack = a; out = rw (session, id) refl }

pub out_passes : (x : ℕ) (j : List ℕ) (a : ℕ) (f : Option Fate) → f ≡ Some (Out x j a) → passes (out_to x j) f ≡ true
out_passes x j a f out = rw out (and_from (x == x) (bytes_eq j j) (eq-eqb x x refl) (itself j))

-- ---- one comes

module _ (h : Holding) (s : Subscriber) (i : Holding) (is : IsSound h) (p : Subscribes h s i) where
  subscriber_was : (a : ℕ) (t : Subscriber) → subscriber_at a i.subscribers ≡ Some t
      → ((a ≡ s.age) × (t ≡ s)) ⊎ (subscriber_at a h.subscribers ≡ Some t)
  subscriber_was a t there =
      let e : subscriber_at a (h.subscribers ++ s ∷ []) ≡ Some t = rw p.subscribers at there in
      elim (or_some (subscriber_at a h.subscribers) (cond (s.age == a) (Some s) None) t (sym (at_push
      (λ s. s.age) a h.subscribers s) ∙ e)) [
        | inl old ↦ inr old
        | inr fresh ↦ elim (cases_Bool (s.age == a)) [
          | inl on ↦
              let same : Some s ≡ Some t = rw on at fresh in
              let e2 : t ≡ s = cc in
              inl (sym (eqb-true s.age a on), e2)
          | inr off ↦ let no : None ≡ Some t = rw off at fresh in cc
        ]
      ]

  come_noted : AreNoted i.kept i.subscribers
  come_noted n k x j a there out =
      rw (
        p.subscribers,
        list_any-append (holds_number x j n) h.subscribers (s ∷ []),
        is.noted n k x j a (rw p.kept at there) out,
      ) refl

  -- none is out to it yet
  none_yet : count_by (λ m. out_to s.subscription.session s.subscription.id m.fate) (living_of h.kept) ≡ 0
  none_yet =
      let x : ℕ = s.subscription.session in
      let j : List ℕ = s.subscription.id in
      let test : Fate → Bool = out_to x j in
      count_zero (λ m. test m.fate) h.kept is.numbers (λ n k there.
      elim (cases_Bool (passes test k.fate)) [
        | inl on ↦
            let out = is_out x j k.fate on in
            let one : IsAmong (λ s. s.age) (holds_number x j n) h.subscribers =
            any_at (λ s. s.age) (holds_number x j n) 0 h.subscribers is.ages (is.noted n k x j out.ack there out.out) in
            let named = (and_parts (is_named x j one.value.subscription) (notes n one.value.entries) one.passes).0 in
            let no : true ≡ false = sym named ∙ p.fresh one.value.age one.value one.found in
            cc
        | inr off ↦ weight_fate test k.number k.sent k.fate ∙ rw off refl
      ])

  come_credited : AreCredited i.kept i.subscribers
  come_credited a t there = elim (subscriber_was a t there) [
    | inl both ↦ rw (both.1, p.kept, none_yet) p.none
    | inr old ↦ rw p.kept (is.credited a t old)
  ]

  come_listening : AreListening i.subscribers i.queues
  come_listening a t there = elim (subscriber_was a t there) [
    | inl both ↦ rw (both.0, both.1) p.listens
    | inr old ↦ p.listening t.subscription.destination a (is.listening a t old)
  ]

  come_owned : AreOwned i.subscribers i.sessions
  come_owned a t there = elim (subscriber_was a t there) [
    | inl both ↦ rw (both.0, both.1) p.owns
    | inr old ↦ p.owned t.subscription.session a (is.owned a t old)
  ]

  come_takers : AreTakers i.given i.subscribers i.queues
  come_takers a t there may = elim (subscriber_was a t there) [
    | inl both ↦ rw (both.0, both.1) p.taker_from
    | inr old ↦ omega (arith, p.takers t.subscription.destination, is.takers a t old (rw p.given at may))
  ]

  come_awake : AreAwake i.given i.kept i.subscribers i.awake
  come_awake n k a t there ready sits same may = elim (subscriber_was a t sits) [
    | inl both ↦
        let same2 : bytes_eq s.subscription.destination k.sent.destination ≡ true = rw both.1 at same in
        rw (← same_texts s.subscription.destination k.sent.destination same2) p.awake
    | inr old ↦ p.wakes k.sent.destination (is.awake n k a t (rw p.kept at there) ready old same (rw p.given at may))
  ]

  come_apart : (a b : ℕ) (t u : Subscriber) → subscriber_at a i.subscribers ≡ Some t
      → subscriber_at b i.subscribers ≡ Some u
      → is_named t.subscription.session t.subscription.id u.subscription ≡ true → a ≡ b
  come_apart a b t u there sits named = elim (subscriber_was a t there) [
    | inl both ↦ elim (subscriber_was b u sits) [
      | inl also ↦ both.0 ∙ sym also.0
      | inr old ↦
          let named2 : is_named s.subscription.session s.subscription.id u.subscription ≡ true = rw both.1 at named in
          let no : true ≡ false = sym named2 ∙ p.fresh b u old in
          cc
    ]
    | inr was ↦ elim (subscriber_was b u sits) [
      | inl also ↦
          let named2 : is_named t.subscription.session t.subscription.id s.subscription ≡ true = rw also.1 at named in
          let name = name_parts t.subscription.session t.subscription.id s.subscription named2 in
          let back : is_named s.subscription.session s.subscription.id t.subscription ≡ true =
          named_from s.subscription.session s.subscription.id t.subscription (sym name.0) (sym name.1) in
          let no : true ≡ false = sym back ∙ p.fresh a t was in
          cc
      | inr old ↦ is.apart a b t u was old named
    ]
  ]

  -- its age is new
  new_age : subscriber_at s.age (h.subscribers ++ s ∷ []) ≡ Some s
  new_age = elim (cases_Bool (is_some (subscriber_at s.age h.subscribers))) [
    | inl some ↦
        let old = is_there (subscriber_at s.age h.subscribers) some in
        absurd (omega (arith, p.youngest s.age old.value old.found))
    | inr none ↦ at_end (subscriber_at s.age h.subscribers) none (at_push (λ s. s.age) s.age h.subscribers s)
  ]
    where
      at_end : (o : Option Subscriber) → is_some o ≡ false
          → subscriber_at s.age (h.subscribers ++ s ∷ []) ≡ option_or o (cond (s.age == s.age) (Some s) None)
          → subscriber_at s.age (h.subscribers ++ s ∷ []) ≡ Some s
      at_end None none e = e ∙ rw (eq-eqb s.age s.age refl) refl
      at_end (Some t) none e = let no : true ≡ false = none in cc

  come_listeners : (d : List ℕ) (a : ℕ) → lists a (queue_of i.queues d).subscribers ≡ true
      → destination_at a i.subscribers ≡ Some d
  come_listeners d a listed = elim (p.listeners d a listed) [
    | inl new ↦ rw (new.0, p.subscribers, new_age) (ap (λ y. Some y) (sym new.1))
    | inr old ↦
        let own = is.listeners d a old in
        let was = is_mapped (λ s. s.subscription.destination) (subscriber_at a h.subscribers) d own in
        rw (p.subscribers, at_push (λ s. s.age) a h.subscribers s, was.found) (ap (λ y. Some y) was.to)
  ]

  come_owners : (x a : ℕ) → lists a (i.sessions x) ≡ true → session_at a i.subscribers ≡ Some x
  come_owners x a listed = elim (p.owners x a listed) [
    | inl new ↦ rw (new.0, p.subscribers, new_age) (ap (λ y. Some y) (sym new.1))
    | inr old ↦
        let own = is.owners x a old in
        let was = is_mapped (λ s. s.subscription.session) (subscriber_at a h.subscribers) x own in
        rw (p.subscribers, at_push (λ s. s.age) a h.subscribers s, was.found) (ap (λ y. Some y) was.to)
  ]

  pub came : IsSound i
  came = record {
    placed = λ n k there. rw (p.numbers k.sent.destination) (is.placed n k (rw p.kept at there));
    counted = λ d. rw (p.count d, p.kept) (is.counted d);
    noted = come_noted;
    credited = come_credited;
    listening = come_listening;
    owned = come_owned;
    ahead = λ n k there ready. omega (arith, p.ready k.sent.destination, is.ahead n k (rw p.kept at there) ready);
    takers = come_takers;
    awake = come_awake;
    distinct = distinct_still h.given i.given h.kept i.kept (omega (arith, p.given)) is.distinct
        (λ n k x j a there out. rw p.kept at there);
    numbers = rw p.kept is.numbers;
    last = λ n k there. rw p.last (is.last n k (rw p.kept at there));
    listed_last = λ d n listed. rw p.last (is.listed_last d n (rw (p.numbers d) at listed));
    ages = rw p.subscribers (rise_push (λ s. s.age) 0 h.subscribers s is.ages (omega arith) p.youngest);
    apart = come_apart;
    listeners = come_listeners;
    owners = come_owners;
    owned_rise = p.owned_rise;
  }

-- ---- one goes

module _ (h : Holding) (age : ℕ) (s : Subscriber) (i : Holding) (is : IsSound h) (p : Leaves h age s i) where
  left_was : (a : ℕ) (t : Subscriber) → subscriber_at a i.subscribers ≡ Some t → (a ≡ age → ⊥)
      × (subscriber_at a h.subscribers ≡ Some t)
  left_was a t there =
      let e : subscriber_at a (filter (λ s. not (s.age == age)) h.subscribers) ≡ Some t = rw p.subscribers at there in
      elim (cases_eq a age) [
        | inl same ↦
            let e2 : subscriber_at age (filter (λ s. not (s.age == age)) h.subscribers) ≡ Some t = rw same at e in
            let no : None ≡ Some t = sym (at_filter (λ s. s.age) age h.subscribers) ∙ e2 in cc
        | inr other ↦ (other, sym (at_filter_other (λ s. s.age) age a other h.subscribers) ∙ e)
      ]

  left_there : (a : ℕ) (t : Subscriber) → (a ≡ age → ⊥) → subscriber_at a h.subscribers ≡ Some t
      → subscriber_at a i.subscribers ≡ Some t
  left_there a t other there = rw (p.subscribers, at_filter_other (λ s. s.age) age a other h.subscribers) there

  go_noted : AreNoted i.kept i.subscribers
  go_noted n k x j a there out =
      let was : kept_at n h.kept ≡ Some k = rw p.kept at there in
      let one : IsAmong (λ s. s.age) (holds_number x j n) h.subscribers =
      any_at (λ s. s.age) (holds_number x j n) 0 h.subscribers is.ages (is.noted n k x j a was out) in
      let named = (and_parts (is_named x j one.value.subscription) (notes n one.value.entries) one.passes).0 in
      let name = name_parts x j one.value.subscription named in
      let other : one.value.age ≡ age → ⊥ = λ same.
      let again : subscriber_at age h.subscribers ≡ Some one.value = rw same at one.found in
      let both : Some one.value ≡ Some s = sym again ∙ p.found in
      let e : one.value ≡ s = cc in
      let session : s.subscription.session ≡ x = ap (λ t. t.subscription.session) (sym e) ∙ name.0 in
      let id : s.subscription.id ≡ j = ap (λ t. t.subscription.id) (sym e) ∙ name.1 in
      let quiet : passes (out_to x j) k.fate ≡ false = rw (session, id) at (p.none_out n k was) in
      let no : true ≡ false = sym (out_passes x j a k.fate out) ∙ quiet in
      cc in
      any_from_at (λ s. s.age) (holds_number x j n) one.value.age i.subscribers one.value
      (left_there one.value.age one.value other one.found) one.passes

  pub went : IsSound i
  went = record {
    placed = λ n k there. rw (p.numbers k.sent.destination) (is.placed n k (rw p.kept at there));
    counted = λ d. rw (p.count d, p.kept) (is.counted d);
    noted = go_noted;
    credited = λ a t there. rw p.kept (is.credited a t (left_was a t there).1);
    listening = λ a t there. p.listening t.subscription.destination a (left_was a t there).0
        (is.listening a t (left_was a t there).1);
    owned = λ a t there. p.owned t.subscription.session a (left_was a t there).0 (is.owned a t (left_was a t there).1);
    ahead = λ n k there ready. omega (arith, p.ready k.sent.destination, is.ahead n k (rw p.kept at there) ready);
    takers = λ a t there may. omega (
      arith,
      p.takers t.subscription.destination,
      is.takers a t (left_was a t there).1 (rw p.given at may),
    );
    awake = λ n k a t there ready sits same may. p.wakes k.sent.destination
        (is.awake n k a t (rw p.kept at there) ready (left_was a t sits).1 same (rw p.given at may));
    distinct = distinct_still h.given i.given h.kept i.kept (omega (arith, p.given)) is.distinct
        (λ n k x j a there out. rw p.kept at there);
    numbers = rw p.kept is.numbers;
    last = λ n k there. rw p.last (is.last n k (rw p.kept at there));
    listed_last = λ d n listed. rw p.last (is.listed_last d n (rw (p.numbers d) at listed));
    ages = rw p.subscribers (rise_filter (λ s. s.age) (λ s. not (s.age == age)) 0 h.subscribers is.ages);
    apart = λ a b t u there sits. is.apart a b t u (left_was a t there).1 (left_was b u sits).1;
    listeners = λ d a listed.
        let was = p.listeners d a listed in
        rw (p.subscribers, at_filter_other (λ s. s.age) age a was.0 h.subscribers) (is.listeners d a was.1);
    owners = λ x a listed.
        let was = p.owners x a listed in
        rw (p.subscribers, at_filter_other (λ s. s.age) age a was.0 h.subscribers) (is.owners x a was.1);
    owned_rise = p.owned_rise;
  }
