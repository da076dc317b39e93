-- A loop over a subscriber's deliveries.
use Rattle.std.proofs.Common.{◌≡◌, ◌<◌, ◌+◌, ℕ, length, get_or, take, Bool, true, false, List}
use Rattle.std.proofs.Common.{[], ◌∷◌, ◌++◌, map, Option, Some, None, refl, sym, ap, ◌∙◌, arith}
use Rattle.std.specs.Option.{option_map}
use Rattle.std.proofs.lemmas.List.{take_more, get_or_default}
use Rattle.broker_book.specs.declared.parts.Subscription.{Subscription}
use Rattle.broker_book.specs.Books.{Fate, out_to}
use Rattle.broker_index.specs.Index.{Kept, Subscriber, with_fate, has_age}
use Rattle.broker_index.specs.declared.places.Entry.{Entry}
use Rattle.broker_queues.specs.Parts.Facts.{kept_at, subscriber_at, subscriptions_of}
use Rattle.broker_queues.specs.Parts.Fates.{passes, recounted, fate_of_kept, back, counts_in}
use Rattle.broker_queues.specs.Parts.Held.{IsSame, Turns, TakesBack}
use Rattle.broker_queues.specs.Parts.Whole.{Holding, IsSound, Changes}
use Rattle.broker_queues.proofs.Answering.{hit, miss, first, covered_out}
use Rattle.broker_queues.proofs.Changing.{changed}
use Rattle.broker_queues.proofs.Finding.{find_map, map_map}

-- before the first delivery
pub turns_none : (h : Holding) (age : ℕ) (s : Subscriber) (to : Option Fate) (test : Fate → Bool)
    → passes test to ≡ false → IsSound h
    → subscriber_at age h.subscribers ≡ Some s → Turns h age s to test [] h
turns_none h age s to test fails is sits = record {
  sound = is;
  kept = sym (first to test fails h.kept);
  subscriptions = refl;
  now = s;
  sits = sits;
  subscription = refl;
  entries = refl;
  sessions = refl;
  last = refl;
  given = refl;
  numbers = λ d. refl;
  others = λ b u there. record { now = u; there = there; subscription = refl; entries = refl };
}

module _ (h i : Holding) (is : IsSound h) (age : ℕ) (s : Subscriber) (to : Option Fate) (test : Fate
    → Bool) (fails : passes test to ≡ false)
    (es : List Entry) (e : Entry) (t : Turns h age s to test es i) where
  -- a delivery that doesn't count
  pub turns_miss : passes test (fate_of_kept (kept_at e.number i.kept)) ≡ false → Turns h age s to test (es ++ e ∷ []) i
  turns_miss off = record {
    sound = t.sound;
    kept = t.kept ∙ miss to test fails es e h.kept is.numbers (λ k there.
        let there2 : kept_at e.number i.kept ≡ Some k = ap (λ l. kept_at e.number l) t.kept ∙ there in
        sym (ap (λ o. passes test (fate_of_kept o)) there2) ∙ off);
    subscriptions = t.subscriptions;
    now = t.now;
    sits = t.sits;
    subscription = t.subscription;
    entries = t.entries;
    sessions = t.sessions;
    last = t.last;
    given = t.given;
    numbers = t.numbers;
    others = t.others;
  }

  -- one that does
  pub turned_one : (k : Kept) (j : Holding) → kept_at e.number i.kept ≡ Some k → passes test k.fate ≡ true
      → Changes i e.number k to j
      → j.given ≡ i.given → Turns h age s to test (es ++ e ∷ []) j
  turned_one k j there on c given = record {
    sound = changed i j e.number k to t.sound there c;
    kept = c.kept ∙ ap (λ l. map (with_fate e.number to) l) t.kept
        ∙ hit to test fails es e h.kept k is.numbers (sym (ap (λ l. kept_at e.number l) t.kept) ∙ there) on;
    subscriptions =
        ap subscriptions_of c.subscribers ∙ map_map (λ s. s.subscription) (recounted k.fate to) i.subscribers
        ∙ t.subscriptions;
    now = recounted k.fate to t.now;
    sits = ap (λ l. subscriber_at age l) c.subscribers
        ∙ find_map (has_age age) (recounted k.fate to) (λ x. refl) i.subscribers
        ∙ ap (λ o. option_map (recounted k.fate to) o) t.sits;
    subscription = t.subscription;
    entries = t.entries;
    sessions = c.sessions ∙ t.sessions;
    last = c.last ∙ t.last;
    given = given ∙ t.given;
    numbers = λ d. c.lowers.numbers d ∙ t.numbers d;
    others = λ b u sat. still b u (t.others b u sat);
  }
    where
      still : (b : ℕ) (u : Subscriber) → IsSame u (subscriber_at b i.subscribers)
          → IsSame u (subscriber_at b j.subscribers)
      still b u m = record {
        now = recounted k.fate to m.now;
        there = ap (λ l. subscriber_at b l) c.subscribers
            ∙ find_map (has_age b) (recounted k.fate to) (λ x. refl) i.subscribers
            ∙ ap (λ o. option_map (recounted k.fate to) o) m.there;
        subscription = m.subscription;
        entries = m.entries;
      }

-- a delivery that is taken back
pub turns_hit : (h i j : Holding) → IsSound h → (age : ℕ) (s : Subscriber) (again : Bool) (test : Fate → Bool)
    → passes test (back again) ≡ false
    → ((f : Option Fate) → passes test f ≡ true → passes (out_to s.subscription.session s.subscription.id) f ≡ true)
    → (es : List Entry) (e : Entry) → Turns h age s (back again) test es i
    → passes test (fate_of_kept (kept_at e.number i.kept)) ≡ true → TakesBack i e.number age again j → j.given ≡ i.given
    → Turns h age s (back again) test (es ++ e ∷ []) j
turns_hit h i j is age s again test fails out es e t on takes given = by_kept (kept_at e.number i.kept) refl on
  where
    by_kept : (o : Option Kept) → kept_at e.number i.kept ≡ o → passes test (fate_of_kept o) ≡ true
        → Turns h age s (back again) test (es ++ e ∷ []) j
    by_kept None there on2 = let never : false ≡ true = on2 in cc
    by_kept (Some k) there on2 =
        let to_it : passes (out_to t.now.subscription.session t.now.subscription.id) k.fate ≡ true =
        ap (λ (u : Subscription). passes (out_to u.session u.id) k.fate) t.subscription ∙ out k.fate on2 in
        turned_one h i is age s (back again) test fails es e t k j there on2 (takes k t.now t.sound there t.sits to_it)
        given

-- one delivery more of a list
pub take_next : (es : List Entry) (i : ℕ) (e : Entry) → i < length es → get_or es i e ≡ e
    → take (i + 1) es ≡ take i es ++ e ∷ []
take_next es i e short is = take_more es i e short ∙ ap (λ x. take i es ++ x ∷ []) is

-- what becomes of a message that is taken back counts for no answer
pub uncovered : (s : Subscription) (answered : Option ℕ) (again : Bool)
    → passes (counts_in s answered) (back again) ≡ false
uncovered s None true = refl
uncovered s None false = refl
uncovered s (Some answered) true = refl
uncovered s (Some answered) false = refl

-- what counts is out to the subscription
pub counts_out : (s : Subscription) (answered : Option ℕ) (f : Option Fate) → passes (counts_in s answered) f ≡ true
    → passes (out_to s.session s.id) f ≡ true
counts_out s None f on = on
counts_out s (Some answered) f on = covered_out s answered f on

-- a place among the deliveries that the subscriber has now is one among those that it had
pub within : (h i : Holding) (age : ℕ) (s : Subscriber) (answered : Option ℕ) (again : Bool) (index : ℕ)
    (u : Subscriber) (es : List Entry)
    → Some u ≡ subscriber_at age i.subscribers → es ≡ u.entries
    → Turns h age s (back again) (counts_in s.subscription answered) (take index s.entries) i → index < length es
    → index < length s.entries
within h i age s answered again index u es there list t short =
    let both : Some u ≡ Some t.now = there ∙ t.sits in
    let same : u ≡ t.now = cc in
    let lists : es ≡ s.entries = list ∙ ap (λ (v : Subscriber). v.entries) same ∙ t.entries in
    omega (arith, ap length lists)

module _ (h i : Holding) (is : IsSound h) (age : ℕ) (s : Subscriber) (again : Bool) (answered : Option ℕ) (index : ℕ)
    (u : Subscriber) (es : List Entry)
    (sub : Subscription) (e d : Entry) (there : Some u ≡ subscriber_at age i.subscribers) (list : es ≡ u.entries)
    (own : sub
    ≡ u.subscription)
    (read : e ≡ get_or es index d) (short : index < length s.entries)
    (t : Turns h age s (back again) (counts_in s.subscription answered) (take index s.entries) i) where
  same_one : u ≡ t.now
  same_one = let both : Some u ≡ Some t.now = there ∙ t.sits in cc

  same_list : es ≡ s.entries
  same_list = list ∙ ap (λ (v : Subscriber). v.entries) same_one ∙ t.entries

  same_subscription : sub ≡ s.subscription
  same_subscription = own ∙ ap (λ (v : Subscriber). v.subscription) same_one ∙ t.subscription

  the_next : take (index + 1) s.entries ≡ take index s.entries ++ e ∷ []
  the_next = take_next s.entries index e short
      (get_or_default s.entries index e d short ∙ ap (λ l. get_or l index d) (sym same_list) ∙ sym read)

  -- the next delivery counts
  pub next_hit : (j : Holding) → passes (counts_in sub answered) (fate_of_kept (kept_at e.number i.kept)) ≡ true
      → TakesBack i e.number age again j → j.given ≡ i.given
      → Turns h age s (back again) (counts_in s.subscription answered) (take (index + 1) s.entries) j
  next_hit j on takes given =
      let on2 : passes (counts_in s.subscription answered) (fate_of_kept (kept_at e.number i.kept)) ≡ true =
      ap (λ v. passes (counts_in v answered) (fate_of_kept (kept_at e.number i.kept))) (sym same_subscription) ∙ on in
      rw the_next (turns_hit h i j is age s again (counts_in s.subscription answered)
      (uncovered s.subscription answered again)
      (λ f passed. counts_out s.subscription answered f passed) (take index s.entries) e t on2 takes given)

  -- it doesn't
  pub next_miss : passes (counts_in sub answered) (fate_of_kept (kept_at e.number i.kept)) ≡ false
      → Turns h age s (back again) (counts_in s.subscription answered) (take (index + 1) s.entries) i
  next_miss off =
      let off2 : passes (counts_in s.subscription answered) (fate_of_kept (kept_at e.number i.kept)) ≡ false =
      ap (λ v. passes (counts_in v answered) (fate_of_kept (kept_at e.number i.kept))) (sym same_subscription) ∙ off in
      rw the_next (turns_miss h i is age s (back again) (counts_in s.subscription answered)
      (uncovered s.subscription answered again)
      (take index s.entries) e t off2)
