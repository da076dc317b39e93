-- A message goes out to a subscriber, or is gone as it goes out: the parts change as one message's change of fate
-- wants.
use Rattle.std.proofs.Common.{◌≡◌, ◌≤◌, ℕ, ◌+◌, ◌-◌, Bool, true, false, List, [], ◌∷◌, ◌++◌, map, Option, Some, None}
use Rattle.std.proofs.Common.{refl, sym, ap, ◌∙◌}
use Rattle.std.proofs.Common.{arith, inl, inr}
use Rattle.std.specs.Prelude.{◌==◌, ◌||◌, if◌then◌else◌}
use Rattle.std.specs.Str.{bytes_eq}
use Rattle.std.specs.List.{list_any}
use Rattle.std.specs.Option.{option_map}
use Rattle.std.proofs.lemmas.Bool.{cases_Bool, cases_eq, eq-eqb, ne_eqb, and_parts, and_from}
use Rattle.std.proofs.lemmas.List.Folds.{list_any-append}
use Rattle.broker_book.specs.declared.parts.Accepted.{Accepted}
use Rattle.broker_book.specs.declared.parts.Sent.{Sent}
use Rattle.broker_book.specs.declared.parts.Subscription.{Subscription}
use Rattle.broker_book.specs.Books.{Book, QueuedMessage, Fate, Ready, Out, out_to, is_auto, is_for, is_named}
use Rattle.broker_book.specs.Steps.{Deal, last_given, next_ack}
use Rattle.broker_index.specs.Index.{Kept, Subscriber, entries_without, has_age, with_fate, with_count, with_entry}
use Rattle.broker_index.specs.Index.{without_entries}
use Rattle.broker_index.specs.declared.places.Entry.{Entry}
use Rattle.broker_queues.specs.Parts.Fates.{passes, counts_for, dealt_fate, fate_of_kept, recounted, weight}
use Rattle.broker_queues.specs.Parts.Queues.{CountsFewer}
use Rattle.broker_queues.specs.Parts.Facts.{kept_at, subscriber_at, living_of, subscriptions_of, message_of}
use Rattle.broker_queues.specs.Parts.Facts.{holds_number, notes}
use Rattle.broker_queues.specs.Parts.Storing.{Sweeps, Tidies}
use Rattle.broker_queues.specs.Parts.Whole.{Holding, IsSound, Changes, Renotes, Picks, book_of}
use Rattle.broker_queues.proofs.Changing.{changed}
use Rattle.broker_queues.proofs.Dealing.{dealt}
use Rattle.broker_queues.proofs.Distinct.{distinct_back, distinct_out}
use Rattle.broker_queues.proofs.Finding.{find_map, map_map}
use Rattle.broker_queues.proofs.Living.{count_change}
use Rattle.broker_queues.proofs.Moving.{renoted}
use Rattle.broker_queues.proofs.Returning.{only_one}
use Rattle.broker_queues.proofs.Rising.{at_number, map_same, any_from_at}
use Rattle.broker_queues.proofs.Setting.{Lowers-same}
use Rattle.broker_queues.proofs.Subscribing.{named_from, out_passes}
use Rattle.broker_queues.proofs.Sweeping.{forgot, tidy_book}

-- a map that changes nothing
map_stays : {X : Type 0} (g : X → X) → ((x : X) → g x ≡ x) → (xs : List X) → map g xs ≡ xs
map_stays g stays [] = refl
map_stays g stays (x ∷ xs) = rw (stays x, map_stays g stays xs) refl

-- what is ready is out to none
never_ready : (f : Option Fate) → f ≡ Some Ready → (x : ℕ) (i : List ℕ) → passes (out_to x i) f ≡ true → ⊥
never_ready f ready x i on = let no : false ≡ true = rw ready at on in (let never : false ≡ true = no in cc)

no_count : (s : Subscriber) (f : Option Fate) → f ≡ Some Ready → counts_for s f ≡ 0
no_count s f ready = rw ready refl

module _ (h : Holding) (is : IsSound h) (n : ℕ) (k : Kept) (found : kept_at n h.kept ≡ Some k)
    (ready : k.fate ≡ Some Ready) where
  -- no subscriber counts a message that is ready, nor one that is gone
  counts_stay : map (recounted k.fate None) h.subscribers ≡ h.subscribers
  counts_stay = map_stays (recounted k.fate None) each h.subscribers
    where
      each : (s : Subscriber) → recounted k.fate None s ≡ s
      each s =
          let same : (s.count + counts_for s None) - counts_for s k.fate ≡ s.count =
          omega (arith, no_count s k.fate ready) in
          ap (λ c. record s { count = c }) same

  -- it goes out in mode `auto`, and is gone
  pub handed_auto : (i : Holding) (q : Option Fate) → q ≡ None → CountsFewer h.queues i.queues k.sent.destination
      → i.kept ≡ map (with_fate n q) h.kept
      → i.subscribers ≡ h.subscribers → i.sessions ≡ h.sessions → i.awake ≡ h.awake → i.last ≡ h.last
      → i.given ≡ h.given
      → Changes h n k None i
  handed_auto i q gone fewer kept subscribers sessions awake last given = record {
    kept = kept ∙ ap (λ f. map (with_fate n f) h.kept) gone;
    subscribers = subscribers ∙ sym counts_stay;
    lowers = fewer.lowers;
    count = λ d. omega (
      arith,
      fewer.counts d,
      is.counted d,
      count_change (is_for d) n None h.kept k is.numbers found,
      weights d,
    );
    sessions = sessions;
    wakes = λ d on. rw awake on;
    last = last;
    given = omega (arith, given);
    ready_from = λ never. (let no : None ≡ Some Ready = never in cc);
    ready_awake = λ never. (let no : None ≡ Some Ready = never in cc);
    free_from = λ a s there out. absurd (never_ready k.fate ready s.subscription.session s.subscription.id out);
    free_awake = λ a s there out. absurd (never_ready k.fate ready s.subscription.session s.subscription.id out);
    noted = λ x j a never. (let no : None ≡ Some (Out x j a) = never in cc);
    distinct = distinct_back h.given i.given n None h.kept i.kept k found is.distinct (omega (arith, given)) refl
        (kept ∙ ap (λ f. map (with_fate n f) h.kept) gone);
  }
    where
      weights : (d : List ℕ) → weight (is_for d) (message_of k)
          ≡ (if bytes_eq k.sent.destination d then 1 else 0)
      weights d = rw ready refl

-- ---- to one that is to answer

-- what a subscriber notes, it notes with one delivery more
still_noted : (n : ℕ) (es : List Entry) (e : Entry) → notes n es ≡ true → notes n (es ++ e ∷ []) ≡ true
still_noted n es e on = list_any-append (λ e. e.number == n) es (e ∷ []) ∙ rw on refl

newly_noted : (n : ℕ) (es : List Entry) (e : Entry) → e.number ≡ n → notes n (es ++ e ∷ []) ≡ true
newly_noted n es e is =
    let on : (e.number == n) ≡ true = eq-eqb e.number n is in
    list_any-append (λ e. e.number == n) es (e ∷ []) ∙ rw on (last (notes n es))
  where
    last : (b : Bool) → (b || (true || false)) ≡ true
    last true = refl
    last false = refl

noting_age : (a : ℕ) (e : Entry) (s : Subscriber) → (with_entry a e s).age ≡ s.age
noting_age a e s = elim (cases_Bool (s.age == a)) [ inl on ↦ rw on refl | inr off ↦ rw off refl ]

noting_subscription : (a : ℕ) (e : Entry) (s : Subscriber) → (with_entry a e s).subscription ≡ s.subscription
noting_subscription a e s = elim (cases_Bool (s.age == a)) [ inl on ↦ rw on refl | inr off ↦ rw off refl ]

noting_count : (a : ℕ) (e : Entry) (s : Subscriber) → (with_entry a e s).count ≡ s.count
noting_count a e s = elim (cases_Bool (s.age == a)) [ inl on ↦ rw on refl | inr off ↦ rw off refl ]

noting_notes : (a : ℕ) (e : Entry) (n : ℕ) (s : Subscriber) → notes n s.entries ≡ true
    → notes n (with_entry a e s).entries ≡ true
noting_notes a e n s on = elim (cases_Bool (s.age == a)) [
  | inl here ↦ rw here (still_noted n s.entries e on)
  | inr off ↦ rw off on
]

module _ (h : Holding) (is : IsSound h) (a : ℕ) (e : Entry) where
  -- the subscriber of an age notes one delivery more
  noted_more : Renotes h (with_entry a e) (record h { subscribers = map (with_entry a e) h.subscribers })
  noted_more = record {
    changed = refl;
    age = noting_age a e;
    subscription = noting_subscription a e;
    count = noting_count a e;
    noted = λ n k x i a s there out sits on. holding n x i s on;
  }
    where
      holding : (n x : ℕ) (i : List ℕ) (s : Subscriber) → holds_number x i n s ≡ true
          → holds_number x i n (with_entry a e s) ≡ true
      holding n x i s on =
          let parts = and_parts (is_named x i s.subscription) (notes n s.entries) on in
          and_from (is_named x i (with_entry a e s).subscription) (notes n (with_entry a e s).entries)
          (rw (noting_subscription a e s) parts.0) (noting_notes a e n s parts.1)

  pub noted_sound : IsSound (record h { subscribers = map (with_entry a e) h.subscribers })
  noted_sound = renoted h (with_entry a e) is noted_more

  pub noted_subscriptions : subscriptions_of (map (with_entry a e) h.subscribers) ≡ subscriptions_of h.subscribers
  noted_subscriptions =
      map_map (λ s. s.subscription) (with_entry a e) h.subscribers ∙ same h.subscribers
    where
      same : (ss : List Subscriber) → map (λ s. (with_entry a e s).subscription) ss ≡ map (λ s. s.subscription) ss
      same [] = refl
      same (s ∷ ss) = rw (noting_subscription a e s, same ss) refl

-- a subscriber with one delivery more
abbrev pub noting : Entry → Subscriber → Subscriber
noting e s = record s { entries = s.entries ++ e ∷ [] }

module _ (h : Holding) (is : IsSound h) (n a : ℕ) (k : Kept) (s : Subscriber) (e : Entry) (ack : ℕ)
    (found : kept_at n h.kept ≡ Some k) (ready : k.fate ≡ Some Ready) (sits : subscriber_at a h.subscribers ≡ Some s)
    (number : e.number ≡ n) where
  pub sits_still : subscriber_at a (map (with_entry a e) h.subscribers) ≡ Some (noting e s)
  sits_still =
      let age : s.age ≡ a = at_number (λ s. s.age) a h.subscribers s sits in
      let on : (s.age == a) ≡ true = eq-eqb s.age a age in
      let one : with_entry a e s ≡ noting e s = rw on refl in
      find_map (has_age a) (with_entry a e) (λ x. ap (λ m. m == a) (noting_age a e x)) h.subscribers
      ∙ ap (λ o. option_map (with_entry a e) o) sits ∙ ap (λ t. Some t) one

  -- it counts one more
  counts_it : (t : Subscriber) → t ≡ noting e s → t.age ≡ a
      → with_count a (s.count + 1) t ≡ recounted k.fate (Some (Out s.subscription.session s.subscription.id ack)) t
  counts_it t same age =
      let on : (t.age == a) ≡ true = eq-eqb t.age a age in
      let out : passes (out_to t.subscription.session t.subscription.id) (Some
      (Out s.subscription.session s.subscription.id ack)) ≡ true =
      rw same (out_passes s.subscription.session s.subscription.id ack (Some
      (Out s.subscription.session s.subscription.id ack)) refl) in
      let one : counts_for t (Some (Out s.subscription.session s.subscription.id ack)) ≡ 1 = rw out refl in
      let was : t.count ≡ s.count = ap (λ u. u.count) same in
      let count : s.count + 1
      ≡ (t.count + counts_for t (Some (Out s.subscription.session s.subscription.id ack))) - counts_for t k.fate =
      omega (arith, one, was, no_count t k.fate ready) in
      let changed : with_count a (s.count + 1) t ≡ record t { count = s.count + 1 } = rw on refl in
      changed ∙ ap (λ c. record t { count = c }) count

  -- no other does
  counts_other : (t : Subscriber) → subscriber_at t.age (map (with_entry a e) h.subscribers) ≡ Some t → (t.age ≡ a → ⊥)
      → with_count a (s.count + 1) t ≡ recounted k.fate (Some (Out s.subscription.session s.subscription.id ack)) t
  counts_other t there other =
      let number : (t.age == a) ≡ false = ne_eqb t.age a other in
      let stays : with_count a (s.count + 1) t ≡ t = rw number refl in
      elim (cases_Bool (passes (out_to t.subscription.session t.subscription.id) (Some
      (Out s.subscription.session s.subscription.id ack)))) [
        | inl on ↦ absurd (other (sym (only_one (record h { subscribers = map (with_entry a e) h.subscribers })
            (noted_sound h is a e)
            (Some (Out s.subscription.session s.subscription.id ack)) a t.age (noting e s) t sits_still there
            (out_passes s.subscription.session s.subscription.id ack (Some
            (Out s.subscription.session s.subscription.id ack)) refl) on)))
        | inr off ↦
            let zero_for : counts_for t (Some (Out s.subscription.session s.subscription.id ack)) ≡ 0 = rw off refl in
            let count : t.count
            ≡ (t.count + counts_for t (Some (Out s.subscription.session s.subscription.id ack))) - counts_for t k.fate =
            omega (arith, zero_for, no_count t k.fate ready) in
            stays ∙ ap (λ c. record t { count = c }) count
      ]

  counts_one : map (with_count a (s.count + 1)) (map (with_entry a e) h.subscribers)
      ≡ map (recounted k.fate (Some (Out s.subscription.session s.subscription.id ack)))
      (map (with_entry a e) h.subscribers)
  counts_one =
      let now : IsSound (record h { subscribers = map (with_entry a e) h.subscribers }) = noted_sound h is a e in
      map_same (λ s. s.age) (with_count a (s.count + 1))
      (recounted k.fate (Some (Out s.subscription.session s.subscription.id ack))) 0
      (map (with_entry a e) h.subscribers) now.ages each
    where
      each : (t : Subscriber) → subscriber_at t.age (map (with_entry a e) h.subscribers) ≡ Some t
          → with_count a (s.count + 1) t ≡ recounted k.fate (Some (Out s.subscription.session s.subscription.id ack)) t
      each t there = elim (cases_eq t.age a) [
        | inl same ↦
            let here : subscriber_at a (map (with_entry a e) h.subscribers) ≡ Some t =
            ap (λ b. subscriber_at b (map (with_entry a e) h.subscribers)) (sym same) ∙ there in
            let both : Some t ≡ Some (noting e s) = sym here ∙ sits_still in
            let it : t ≡ noting e s = cc in
            counts_it t it same
        | inr other ↦ counts_other t there other
      ]

  holds_it : (x : ℕ) (i : List ℕ) (b : ℕ) → Some (Out s.subscription.session s.subscription.id ack) ≡ Some (Out x i b)
      → list_any (holds_number x i n) (map (with_entry a e) h.subscribers) ≡ true
  holds_it x i b same =
      let session : s.subscription.session ≡ x = cc in
      let id : s.subscription.id ≡ i = cc in
      any_from_at (λ s. s.age) (holds_number x i n) a (map (with_entry a e) h.subscribers) (noting e s) sits_still
      (and_from (is_named x i s.subscription) (notes n (s.entries ++ e ∷ [])) (named_from x i s.subscription session id)
      (newly_noted n s.entries e number))

  -- it goes out, as the delivery of a number
  pub handed_out : (i : Holding) (q : Option Fate) (count : ℕ)
      → q ≡ Some (Out s.subscription.session s.subscription.id ack) → count ≡ s.count + 1
      → i.kept ≡ map (with_fate n q) h.kept
      → i.subscribers ≡ map (with_count a count) (map (with_entry a e) h.subscribers)
      → i.queues ≡ h.queues → i.sessions ≡ h.sessions → i.awake ≡ h.awake → i.last ≡ h.last → ack ≡ h.given + 1
      → ack ≤ i.given
      → Changes (record h { subscribers = map (with_entry a e) h.subscribers }) n k
      (Some (Out s.subscription.session s.subscription.id ack)) i
  handed_out i q count out more kept subscribers queues sessions awake last next high = record {
    kept = kept ∙ ap (λ f. map (with_fate n f) h.kept) out;
    subscribers = subscribers ∙ ap (λ c. map (with_count a c) (map (with_entry a e) h.subscribers)) more ∙ counts_one;
    lowers = rw queues (Lowers-same h.queues);
    count = λ d. rw (queues, ready) refl;
    sessions = sessions;
    wakes = λ d on. rw awake on;
    last = last;
    given = omega (arith, next, high);
    ready_from = λ never. (let no : Some (Out s.subscription.session s.subscription.id ack) ≡ Some Ready = never in cc);
    ready_awake =
        λ never. (let no : Some (Out s.subscription.session s.subscription.id ack) ≡ Some Ready = never in cc);
    free_from = λ b t there on. absurd (never_ready k.fate ready t.subscription.session t.subscription.id on);
    free_awake = λ b t there on. absurd (never_ready k.fate ready t.subscription.session t.subscription.id on);
    noted = holds_it;
    distinct = distinct_out h.given i.given n ack s.subscription.session s.subscription.id h.kept k found is.distinct
        next high i.kept (kept ∙ ap (λ f. map (with_fate n f) h.kept) out);
  }

-- ---- the book takes the deal

-- books of the same values are the same
same_books : (l m : List QueuedMessage) (p q r t : ℕ) (u v : List Subscription) (accepted : List Accepted) → l ≡ m
    → p ≡ q → r ≡ t → u ≡ v
    → (let one : Book = record { living = l; last = p; given = r; subscriptions = u; accepted = accepted } in one)
    ≡ record { living = m; last = q; given = t; subscriptions = v; accepted = accepted }
same_books l m p q r t u v accepted e1 e2 e3 e4 = rw (e1, e2, e3, e4) refl

recounted_subscriptions : (f g : Option Fate) (ss : List Subscriber)
    → subscriptions_of (map (recounted f g) ss) ≡ subscriptions_of ss
recounted_subscriptions f g ss = map_map (λ s. s.subscription) (recounted f g) ss

module _ (h : Holding) (is : IsSound h) (n a : ℕ) (k : Kept) (s : Subscriber) (p : Picks h n k a s) (sent : Sent)
    (to : Subscription)
    (is_sent : sent ≡ k.sent) (is_to : to ≡ s.subscription) (accepted : List Accepted) where
  -- in mode `auto`
  pub auto_dealt : (i j : Holding) → is_auto s.subscription.mode ≡ true → Changes h n k None i → i.given ≡ h.given
      → Sweeps i j
      → IsSound j × Deal (book_of h accepted) (record { number = n; sent = sent; to = to; ack = None })
      (book_of j accepted)
  auto_dealt i j auto c given sweeps =
      let t : Tidies i j = sweeps (changed h i n k None is p.there c) in
      let same : book_of j accepted ≡ record (book_of h accepted) {
        living = living_of (map (with_fate n (dealt_fate s.subscription None)) h.kept);
        given = last_given h.given None;
      } = same_books (living_of j.kept) (living_of (map (with_fate n None) h.kept)) j.last h.last j.given h.given
      (subscriptions_of j.subscribers) (subscriptions_of h.subscribers) accepted (t.living ∙ ap living_of c.kept)
      (t.last ∙ c.last)
      (t.given ∙ given)
      (t.subscriptions ∙ ap subscriptions_of c.subscribers ∙ recounted_subscriptions k.fate None h.subscribers) in
      (t.sound, rw (is_sent, is_to, same) (dealt h accepted is n k a s p None (rw auto refl)))

  -- to one that is to answer
  pub out_dealt : (i : Holding) (e : Entry) (ack : ℕ) → is_auto s.subscription.mode ≡ false → ack ≡ h.given + 1
      → Changes (record h { subscribers = map (with_entry a e) h.subscribers }) n k
      (Some (Out s.subscription.session s.subscription.id ack)) i → i.given ≡ ack
      → IsSound i × Deal (book_of h accepted) (record { number = n; sent = sent; to = to; ack = Some ack })
      (book_of i accepted)
  out_dealt i e ack auto next c given =
      let noted : Holding = record h { subscribers = map (with_entry a e) h.subscribers } in
      let f : Option Fate = Some (Out s.subscription.session s.subscription.id ack) in
      let sound : IsSound i = changed noted i n k f (noted_sound h is a e) p.there c in
      let same : book_of i accepted ≡ record (book_of h accepted) {
        living = living_of (map (with_fate n (dealt_fate s.subscription (Some ack))) h.kept);
        given = last_given h.given (Some ack);
      } = same_books (living_of i.kept) (living_of (map (with_fate n f) h.kept)) i.last h.last i.given ack
      (subscriptions_of i.subscribers) (subscriptions_of h.subscribers) accepted (ap living_of c.kept) c.last given
      (ap subscriptions_of c.subscribers ∙ recounted_subscriptions k.fate f (map (with_entry a e) h.subscribers)
      ∙ noted_subscriptions h is a e) in
      let ack_is : Some ack ≡ next_ack (book_of h accepted) s.subscription = rw (auto, next) refl in
      (sound, rw (is_sent, is_to, same) (dealt h accepted is n k a s p (Some ack) ack_is))

-- memory was refused behind the note
pub noted_only : (h : Holding) → IsSound h → (a : ℕ) (e : Entry) (accepted : List Accepted) (l : List Subscriber)
    → l ≡ map (with_entry a e) h.subscribers
    → IsSound (record h { subscribers = l }) × (book_of (record h { subscribers = l }) accepted ≡ book_of h accepted)
noted_only h is a e accepted l same = rw same (
  noted_sound h is a e,
  same_books (living_of h.kept) (living_of h.kept) h.last h.last h.given h.given
      (subscriptions_of (map (with_entry a e) h.subscribers)) (subscriptions_of h.subscribers) accepted refl refl refl
      (noted_subscriptions h is a e),
)

-- ---- the note is taken back

module _ (n a : ℕ) (e : Entry) (number : e.number ≡ n) where
  goes_again : (es : List Entry) → entries_without n (es ++ e ∷ []) ≡ entries_without n es
  goes_again [] = let on : (e.number == n) ≡ true = eq-eqb e.number n number in rw on refl
  goes_again (x ∷ es) = elim (cases_Bool (x.number == n)) [
    | inl on ↦ rw on (goes_again es)
    | inr off ↦ rw off (ap (λ l. x ∷ l) (goes_again es))
  ]

  forgets_one : (s : Subscriber) → without_entries a n (with_entry a e s) ≡ without_entries a n s
  forgets_one s = elim (cases_Bool (s.age == a)) [
    | inl on ↦
        let noted : with_entry a e s ≡ noting e s = rw on refl in
        let forgets : without_entries a n (noting e s) ≡ record s { entries = entries_without n (s.entries ++ e ∷ []) } =
        rw on refl in
        let plain : without_entries a n s ≡ record s { entries = entries_without n s.entries } = rw on refl in
        ap (without_entries a n) noted ∙ forgets ∙ ap (λ es. record s { entries = es }) (goes_again s.entries)
        ∙ sym plain
    | inr off ↦ let same : with_entry a e s ≡ s = rw off refl in ap (without_entries a n) same
  ]

  -- it is as if nothing had been noted
  pub forgets_note : (ss : List Subscriber)
      → map (without_entries a n) (map (with_entry a e) ss) ≡ map (without_entries a n) ss
  forgets_note [] = refl
  forgets_note (s ∷ ss) = rw (forgets_one s, forgets_note ss) refl

  -- memory was refused behind the note, which was forgotten
  pub noted_back : (h : Holding) → IsSound h → (k : Kept) (s : Subscriber) (accepted : List Accepted)
      (l m : List Subscriber) → kept_at n h.kept ≡ Some k → k.fate ≡ Some Ready
      → subscriber_at a h.subscribers ≡ Some s → l ≡ map (with_entry a e) h.subscribers
      → m ≡ map (without_entries a n) l
      → IsSound (record h { subscribers = m })
      × (book_of (record h { subscribers = m }) accepted ≡ book_of h accepted)
  noted_back h is k s accepted l m there ready sits noted forgotten =
      let i : Holding = record h { subscribers = l } in
      let one = noted_only h is a e accepted l noted in
      let still : subscriber_at a l ≡ Some (noting e s) =
      ap (λ x. subscriber_at a x) noted ∙ sits_still h is n a k s e 0 there ready sits number in
      let off : passes (out_to s.subscription.session s.subscription.id) (fate_of_kept (kept_at n h.kept)) ≡ false =
      ap (λ o. passes (out_to s.subscription.session s.subscription.id) (fate_of_kept o)) there
      ∙ ap (λ f. passes (out_to s.subscription.session s.subscription.id) f) ready in
      let t : Tidies i (record i { subscribers = m }) = forgot i one.0 a n (noting e s) still off m forgotten in
      (t.sound, tidy_book i (record i { subscribers = m }) t accepted ∙ one.1)
