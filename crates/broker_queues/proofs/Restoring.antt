-- A noted message is out again, or one that is ready is gone: the parts change as one message's change of fate wants.
use Rattle.std.proofs.Common.{◌≡◌, ◌≤◌, ◌<◌, ℕ, ◌+◌, ◌-◌, Bool, true, false, cond, ◌&&◌, List, [], ◌∷◌, ◌++◌, map}
use Rattle.std.proofs.Common.{length}
use Rattle.std.proofs.Common.{Option, Some, None, refl, sym, ap, ◌∙◌, arith, inl, inr}
use Rattle.std.specs.Prelude.{◌==◌, count_by, is_some}
use Rattle.std.specs.List.{sum_by, list_any}
use Rattle.std.specs.Option.{option_map}
use Rattle.std.specs.Str.{bytes_eq}
use Rattle.std.proofs.lemmas.Bool.{cases_Bool, cases_eq, and_from, eq-eqb, ne_eqb}
use Rattle.std.proofs.lemmas.List.Sums.{sum_by-cons}
use Rattle.std.proofs.lemmas.Slice.Eq.{bytes_eq-Decides}
use Rattle.broker_book.specs.Books.{QueuedMessage, Fate, Ready, Out, out_to, is_for, is_named}
use Rattle.broker_index.specs.Index.{Kept, Subscriber, Queue, Sets, counting, opened, has_age, with_count, with_fate}
use Rattle.broker_index.specs.Standing.{fate_of}
use Rattle.broker_queues.specs.declared.transactions.Logged.{Logged}
use Rattle.broker_queues.specs.Parts.Begun.{CountsMore, IsBegun, IsHeldBy}
use Rattle.broker_queues.specs.Parts.Fates.{passes, counts_for, recounted, weight, fated}
use Rattle.broker_queues.specs.Parts.Held.{IsSame}
use Rattle.broker_queues.specs.Parts.Queues.{CountsFewer}
use Rattle.broker_queues.specs.Parts.Facts.{kept_at, subscriber_at, subscriptions_of, lists, notes, living_of}
use Rattle.broker_queues.specs.Parts.Facts.{message_of, holds_number, AreDistinct}
use Rattle.broker_queues.specs.Parts.Facts.{queue_of}
use Rattle.broker_queues.specs.Parts.Storing.{is_gone}
use Rattle.broker_queues.specs.Parts.Undoing.{before, is_out_fate, with_back}
use Rattle.broker_queues.specs.Parts.Whole.{Changes, Holding, IsSound}
use Rattle.broker_queues.proofs.Begun.{held_front, held_last, held_still}
use Rattle.broker_queues.proofs.Changing.{changed}
use Rattle.broker_queues.proofs.Distinct.{changed_or_was, distinct_back, distinct_still}
use Rattle.broker_queues.proofs.Finding.{find_map, map_map}
use Rattle.broker_queues.proofs.Living.{count_living, count_change}
use Rattle.broker_queues.proofs.Logging.{back_it, back_other, back_out, before_out, before_step}
use Rattle.broker_queues.proofs.Returning.{only_one}
use Rattle.broker_queues.proofs.Rising.{any_from_at, map_same}
use Rattle.broker_queues.proofs.Setting.{Lowers-same, lowered, at_name}
use Rattle.broker_queues.proofs.Subscribing.{out_passes, named_from}

-- ---- a destination counts one more

-- a queue's count rises by one, and never above the most
pub counts_more : (old new : List ℕ → Option Queue) (name : List ℕ) (most count : ℕ)
    → ((queue_of old name).count < most → count ≡ (queue_of old name).count + 1)
    → Sets old new name (option_map (counting count) (old name)) → CountsMore None most old new name
counts_more old new name most count more sets = record {
  lowers = lowered (counting count) old new name (λ q. refl) (λ q. refl) (λ q is. omega arith) (λ q is. omega arith)
      sets;
  counts = λ can d. each (can refl) d;
}
  where
    each : (is_some (old name) ≡ true) × ((queue_of old name).count < most) → (d : List ℕ)
        → (queue_of new d).count ≡ (queue_of old d).count + cond (bytes_eq name d) 1 0
    each can d = elim (cases_Bool (bytes_eq name d)) [
      | inl on ↦
          let is : name ≡ d = (bytes_eq-Decides name d).0 on in
          rw (on, ← is) (by_queue (old name) refl)
      | inr off ↦
          let other : d ≡ name → ⊥ =
          λ is. (let never : true ≡ false = sym ((bytes_eq-Decides name d).1 (sym is)) ∙ off in cc) in
          rw (off, sets.others d other) (omega arith)
    ]
      where
        by_queue : (o : Option Queue) → old name ≡ o → (queue_of new name).count ≡ (queue_of old name).count + 1
        by_queue None is = let never : false ≡ true = rw is at can.0 in cc
        by_queue (Some q) is = rw (at_name (counting count) old new name q is sets) (more can.1)

pub counts_same : (was : Option Fate) (most : ℕ) (queues : List ℕ → Option Queue) (name : List ℕ) → is_gone was ≡ false
    → CountsMore was most queues queues name
counts_same was most queues name there = record {
  lowers = Lowers-same queues;
  counts = λ can d. rw there (omega arith);
}

-- ---- fewer than all

weight_most : (test : QueuedMessage → Bool) (o : Option QueuedMessage) → weight test o ≤ 1
weight_most test None = omega arith
weight_most test (Some m) = elim (cases_Bool (test m)) [ inl on ↦ rw on (omega arith) | inr off ↦ rw off (omega arith) ]

sum_most : (test : QueuedMessage → Bool) (kept : List Kept)
    → sum_by (λ k. weight test (message_of k)) kept ≤ length kept
sum_most test [] = omega arith
sum_most test (k ∷ kept) =
    omega (
      arith,
      sum_by-cons (λ k. weight test (message_of k)) k kept,
      weight_most test (message_of k),
      sum_most test kept,
    )

sum_below : (test : QueuedMessage → Bool) (n : ℕ) (kept : List Kept) (k : Kept) → kept_at n kept ≡ Some k
    → weight test (message_of k) ≡ 0
    → sum_by (λ k. weight test (message_of k)) kept < length kept
sum_below test n [] k found zero = let never : None ≡ Some k = found in cc
sum_below test n (x ∷ kept) k found zero = elim (cases_Bool (x.number == n)) [
  | inl on ↦
      let same : Some x ≡ Some k = rw on at found in
      let e : x ≡ k = cc in
      let none : weight test (message_of x) ≡ 0 = rw e zero in
      omega (arith, sum_by-cons (λ k. weight test (message_of k)) x kept, none, sum_most test kept)
  | inr off ↦
      let rest : sum_by (λ k. weight test (message_of k)) kept < length kept =
      sum_below test n kept k (rw off at found) zero in
      omega (arith, sum_by-cons (λ k. weight test (message_of k)) x kept, weight_most test (message_of x), rest)
]

-- if one doesn't count, fewer count than there are
count_below : (test : QueuedMessage → Bool) (n : ℕ) (kept : List Kept) (k : Kept) → kept_at n kept ≡ Some k
    → weight test (message_of k) ≡ 0 → count_by test (living_of kept) < length kept
count_below test n kept k found zero = rw (count_living test kept) (sum_below test n kept k found zero)

-- ---- what isn't out

-- a fate that isn't out is out to none
quiet : (f : Option Fate) → passes is_out_fate f ≡ false → (x : ℕ) (i : List ℕ) → passes (out_to x i) f ≡ false
quiet None off x i = refl
quiet (Some Ready) off x i = refl
quiet (Some (Out y j a)) off x i = let never : true ≡ false = off in cc

weight_quiet : (n : ℕ) (k : Kept) → passes is_out_fate k.fate ≡ false → (x : ℕ) (i : List ℕ)
    → weight (λ m. out_to x i m.fate) (message_of k) ≡ 0
weight_quiet n k off x i = by_fate k.fate off
  where
    by_fate : (f : Option Fate) → passes is_out_fate f ≡ false
        → weight (λ m. out_to x i m.fate) (message_of (fated f k)) ≡ 0
    by_fate None off = refl
    by_fate (Some Ready) off = refl
    by_fate (Some (Out y j a)) off = let never : true ≡ false = off in cc

-- what a message weighs for a destination, out again
weight_again : (k : Kept) (to : Fate) (d : List ℕ)
    → weight (is_for d) (message_of k) + cond (is_gone k.fate && bytes_eq k.sent.destination d) 1 0
    ≡ weight (is_for d) (message_of (fated (Some to) k))
weight_again k to d = by_fate k.fate
  where
    by_fate : (f : Option Fate) → weight (is_for d) (message_of (fated f k))
        + cond (is_gone f && bytes_eq k.sent.destination d) 1 0
        ≡ weight (is_for d) (message_of (fated (Some to) k))
    by_fate None = omega arith
    by_fate (Some f) = omega arith

-- where something is listed, there is a queue
pub listed_somewhere : (queues : List ℕ → Option Queue) (name : List ℕ) (n : ℕ)
    → lists n (queue_of queues name).numbers ≡ true
    → is_some (queues name) ≡ true
listed_somewhere queues name n listed = by_queue (queues name) listed
  where
    by_queue : (o : Option Queue) → lists n (opened o).numbers ≡ true → is_some o ≡ true
    by_queue None never = never
    by_queue (Some q) there = refl

-- subscribers with other counts are the same
pub same_recounted : (h i : Holding) (f to : Option Fate) → i.subscribers ≡ map (recounted f to) h.subscribers
    → (a : ℕ) (u : Subscriber) → subscriber_at a h.subscribers ≡ Some u → IsSame u (subscriber_at a i.subscribers)
same_recounted h i f to is a u there = record {
  now = recounted f to u;
  there = ap (λ l. subscriber_at a l) is ∙ find_map (has_age a) (recounted f to) (λ x. refl) h.subscribers
      ∙ ap (λ o. option_map (recounted f to) o) there;
  subscription = refl;
  entries = refl;
}

map_id : (xs : List Kept) → map (λ k. k) xs ≡ xs
map_id [] = refl
map_id (x ∷ xs) = ap (λ l. x ∷ l) (map_id xs)

-- ---- a noted message is out again

module _ (h i : Holding) (e : Logged) (k : Kept) (is : IsSound h) (found : kept_at e.number h.kept ≡ Some k)
    (off : passes is_out_fate k.fate ≡ false) (m : IsHeldBy (subscriber_at e.age h.subscribers) e) where
  -- the fate that is given back is out to the holder
  out_again : passes (out_to m.holder.subscription.session m.holder.subscription.id) (fate_of e.standing) ≡ true
  out_again = out_passes m.holder.subscription.session m.holder.subscription.id m.ack (fate_of e.standing) m.fate

  recount_more : map (with_count e.age (m.holder.count + 1)) h.subscribers
      ≡ map (recounted k.fate (fate_of e.standing)) h.subscribers
  recount_more =
      map_same (λ s. s.age) (with_count e.age (m.holder.count + 1)) (recounted k.fate (fate_of e.standing)) 0
      h.subscribers is.ages each
    where
      before_none : (t : Subscriber) → counts_for t k.fate ≡ 0
      before_none t = rw (quiet k.fate off t.subscription.session t.subscription.id) refl

      each : (t : Subscriber) → subscriber_at t.age h.subscribers ≡ Some t
          → with_count e.age (m.holder.count + 1) t ≡ recounted k.fate (fate_of e.standing) t
      each t there = elim (cases_eq t.age e.age) [
        | inl same ↦
            let here : subscriber_at e.age h.subscribers ≡ Some t =
            ap (λ b. subscriber_at b h.subscribers) (sym same) ∙ there in
            let both : Some t ≡ Some m.holder = sym here ∙ m.there in
            let it : t ≡ m.holder = cc in
            let on : passes (out_to t.subscription.session t.subscription.id) (fate_of e.standing) ≡ true =
            ap (λ u. passes (out_to u.subscription.session u.subscription.id) (fate_of e.standing)) it ∙ out_again in
            let one : counts_for t (fate_of e.standing) ≡ 1 = rw on refl in
            let number : (t.age == e.age) ≡ true = eq-eqb t.age e.age same in
            let count : m.holder.count + 1 ≡ (t.count + counts_for t (fate_of e.standing)) - counts_for t k.fate =
            let c : m.holder.count ≡ t.count = ap (λ u. u.count) (sym it) in omega (arith, before_none t, one, c) in
            let changes : with_count e.age (m.holder.count + 1) t ≡ record t { count = m.holder.count + 1 } =
            rw number refl in
            changes ∙ ap (λ n. record t { count = n }) count
        | inr other ↦
            let number : (t.age == e.age) ≡ false = ne_eqb t.age e.age other in
            let stays : with_count e.age (m.holder.count + 1) t ≡ t = rw number refl in
            elim (cases_Bool (passes (out_to t.subscription.session t.subscription.id) (fate_of e.standing))) [
              | inl on ↦ absurd (other (only_one h is (fate_of e.standing) t.age e.age t m.holder there m.there on
                  out_again))
              | inr none ↦
                  let zero_for : counts_for t (fate_of e.standing) ≡ 0 = rw none refl in
                  let count : t.count ≡ (t.count + counts_for t (fate_of e.standing)) - counts_for t k.fate =
                  omega (arith, before_none t, zero_for) in
                  stays ∙ ap (λ n. record t { count = n }) count
            ]
      ]

  -- what the destination counts
  can_count : is_gone k.fate ≡ true
      → (is_some (h.queues k.sent.destination) ≡ true) × ((queue_of h.queues k.sent.destination).count < length h.kept)
  can_count gone = (
    listed_somewhere h.queues k.sent.destination e.number (is.placed e.number k found),
    rw (is.counted k.sent.destination) (count_below (is_for k.sent.destination) e.number h.kept k found
        (weighs k.fate gone)),
  )
    where
      weighs : (f : Option Fate) → is_gone f ≡ true → weight (is_for k.sent.destination) (message_of (fated f k)) ≡ 0
      weighs None gone = refl
      weighs (Some f) gone = let never : false ≡ true = gone in cc

  pub holder_count : m.holder.count < length h.kept
  holder_count =
      rw (is.credited e.age m.holder m.there)
      (count_below (λ l. out_to m.holder.subscription.session m.holder.subscription.id l.fate) e.number h.kept k found
      (weight_quiet e.number k off m.holder.subscription.session m.holder.subscription.id))

  recounts : (q : List ℕ → Option Queue) → CountsMore k.fate (length h.kept) h.queues q k.sent.destination
      → (d : List ℕ)
      → (queue_of q d).count + weight (is_for d) (message_of k)
      ≡ (queue_of h.queues d).count + weight (is_for d) (message_of (fated (fate_of e.standing) k))
  recounts q counts d =
      let weighs : weight (is_for d) (message_of (fated (fate_of e.standing) k)) ≡ weight (is_for d) (message_of k)
      + cond (is_gone k.fate && bytes_eq k.sent.destination d) 1 0 =
      ap (λ f. weight (is_for d) (message_of (fated f k))) m.fate
      ∙ sym (weight_again k (Out m.holder.subscription.session m.holder.subscription.id m.ack) d) in
      omega (arith, counts.counts can_count d, weighs)

  never_quiet : (s : Subscriber) → passes (out_to s.subscription.session s.subscription.id) k.fate ≡ true → ⊥
  never_quiet s on = let never : true ≡ false = sym on ∙ quiet k.fate off s.subscription.session s.subscription.id in cc

  pub out_changes : (count : ℕ) → CountsMore k.fate (length h.kept) h.queues i.queues k.sent.destination
      → count ≡ m.holder.count + 1
      → i.kept ≡ map (with_fate e.number (fate_of e.standing)) h.kept
      → i.subscribers ≡ map (with_count e.age count) h.subscribers
      → i.sessions ≡ h.sessions → i.awake ≡ h.awake → i.last ≡ h.last → i.given ≡ h.given → AreDistinct i.given i.kept
      → Changes h e.number k (fate_of e.standing) i
  out_changes count counts more kept subscribers sessions awake last given distinct = record {
    kept = kept;
    subscribers = subscribers ∙ ap (λ c. map (with_count e.age c) h.subscribers) more ∙ recount_more;
    lowers = counts.lowers;
    count = recounts i.queues counts;
    sessions = sessions;
    wakes = λ d on. ap (λ (w : List ℕ → Bool). w d) awake ∙ on;
    last = last;
    given = omega (arith, given);
    ready_from =
        λ ready. let never : Some (Out m.holder.subscription.session m.holder.subscription.id m.ack) ≡ Some Ready =
        sym m.fate ∙ ready in cc;
    ready_awake =
        λ ready. let never : Some (Out m.holder.subscription.session m.holder.subscription.id m.ack) ≡ Some Ready =
        sym m.fate ∙ ready in cc;
    free_from = λ a s there on. absurd (never_quiet s on);
    free_awake = λ a s there on. absurd (never_quiet s on);
    noted = λ x j a out. noted_again x j a (sym m.fate ∙ out);
    distinct = distinct;
  }
    where
      noted_again : (x : ℕ) (j : List ℕ) (a : ℕ)
          → Some (Out m.holder.subscription.session m.holder.subscription.id m.ack) ≡ Some (Out x j a)
          → list_any (holds_number x j e.number) h.subscribers ≡ true
      noted_again x j a same =
          let session : m.holder.subscription.session ≡ x = cc in
          let id : m.holder.subscription.id ≡ j = cc in
          any_from_at (λ s. s.age) (holds_number x j e.number) e.age h.subscribers m.holder m.there
          (and_from (is_named x j m.holder.subscription) (notes e.number m.holder.entries)
          (named_from x j m.holder.subscription session id) m.noted)

-- ---- the notes that are left

module _ (start h : Holding) (log : List Logged) (e : Logged) (b : IsBegun start (log ++ e ∷ []) h)
    (last : h.last ≡ start.last) where
  pub its_holder : IsHeldBy (subscriber_at e.age h.subscribers) e
  its_holder = held_last h.subscribers log e b.held

  -- what was noted last is taken back first
  back_first : map (with_back e.number (fate_of e.standing)) h.kept ≡ h.kept → before start.last log h.kept ≡ start.kept
  back_first stays = ap (before start.last log) (sym stays) ∙ sym (before_step start.last log e h.kept) ∙ b.kept

  -- nothing is put back
  left_begun : map (with_back e.number (fate_of e.standing)) h.kept ≡ h.kept → IsBegun start log h
      × (h.last ≡ start.last)
  left_begun stays = (
    record {
      sound = b.sound;
      kept = back_first stays;
      subscriptions = b.subscriptions;
      given = b.given;
      distinct = b.distinct;
      last = b.last;
      held = held_front h.subscribers log (e ∷ []) b.held;
      fresh = b.fresh;
      listed = b.listed;
    },
    last,
  )

  -- there is no such message
  pub back_none : kept_at e.number h.kept ≡ None → IsBegun start log h × (h.last ≡ start.last)
  back_none none =
      left_begun (map_same (λ k. k.number) (with_back e.number (fate_of e.standing)) (λ k. k) 0 h.kept b.sound.numbers
      each
      ∙ map_id h.kept)
    where
      each : (k : Kept) → kept_at k.number h.kept ≡ Some k → with_back e.number (fate_of e.standing) k ≡ k
      each k there = elim (cases_eq e.number k.number) [
        | inl same ↦ let never : None ≡ Some k = sym none ∙ ap (λ n. kept_at n h.kept) same ∙ there in cc
        | inr other ↦ back_other e.number (fate_of e.standing) k (ne_eqb e.number k.number other)
      ]

  -- it is out
  pub back_stays : (k : Kept) → kept_at e.number h.kept ≡ Some k → passes is_out_fate k.fate ≡ true
      → IsBegun start log h × (h.last ≡ start.last)
  back_stays k found on =
      left_begun (map_same (λ k. k.number) (with_back e.number (fate_of e.standing)) (λ k. k) 0 h.kept b.sound.numbers
      each
      ∙ map_id h.kept)
    where
      each : (l : Kept) → kept_at l.number h.kept ≡ Some l → with_back e.number (fate_of e.standing) l ≡ l
      each l there = elim (cases_eq e.number l.number) [
        | inl same ↦
            let both : Some l ≡ Some k = sym there ∙ ap (λ n. kept_at n h.kept) (sym same) ∙ found in
            let it : l ≡ k = cc in
            back_out e.number (fate_of e.standing) l (ap (λ (m : Kept). passes is_out_fate m.fate) it ∙ on)
        | inr other ↦ back_other e.number (fate_of e.standing) l (ne_eqb e.number l.number other)
      ]

  -- with the message as it was, those before what was noted are the same
  back_kept : (k : Kept) → kept_at e.number h.kept ≡ Some k → passes is_out_fate k.fate ≡ false → (now : List Kept)
      → now ≡ map (with_fate e.number (fate_of e.standing)) h.kept → before start.last log now ≡ start.kept
  back_kept k found off now is =
      ap (before start.last log) (is
      ∙ sym (map_same (λ k. k.number) (with_back e.number (fate_of e.standing))
      (with_fate e.number (fate_of e.standing)) 0 h.kept b.sound.numbers each))
      ∙ sym (before_step start.last log e h.kept) ∙ b.kept
    where
      each : (l : Kept) → kept_at l.number h.kept ≡ Some l
          → with_back e.number (fate_of e.standing) l ≡ with_fate e.number (fate_of e.standing) l
      each l there = elim (cases_eq e.number l.number) [
        | inl same ↦
            let both : Some l ≡ Some k = sym there ∙ ap (λ n. kept_at n h.kept) (sym same) ∙ found in
            let it : l ≡ k = cc in
            let quiet_one : passes is_out_fate l.fate ≡ false = ap (λ (m : Kept). passes is_out_fate m.fate) it ∙ off in
            let turns : with_fate e.number (fate_of e.standing) l ≡ fated (fate_of e.standing) l =
            rw (eq-eqb l.number e.number (sym same)) refl in
            back_it e.number (fate_of e.standing) l (eq-eqb e.number l.number same) quiet_one ∙ sym turns
        | inr other ↦
            let stays : with_fate e.number (fate_of e.standing) l ≡ l =
            rw (ne_eqb l.number e.number (λ same. other (sym same))) refl in
            back_other e.number (fate_of e.standing) l (ne_eqb e.number l.number other) ∙ sym stays
      ]

  -- it is out again
  pub back_again : (i : Holding) (k : Kept) → kept_at e.number h.kept ≡ Some k → passes is_out_fate k.fate ≡ false
      → Changes h e.number k (fate_of e.standing) i → i.given ≡ h.given → IsBegun start log i × (i.last ≡ start.last)
  back_again i k found off c given = (
    record {
      sound = sound;
      kept = back_kept k found off i.kept c.kept;
      subscriptions = ap subscriptions_of c.subscribers
          ∙ map_map (λ s. s.subscription) (recounted k.fate (fate_of e.standing)) h.subscribers ∙ b.subscriptions;
      given = given ∙ b.given;
      distinct = b.distinct;
      last = omega (arith, c.last, last);
      held = held_still h.subscribers i.subscribers (same_recounted h i k.fate (fate_of e.standing) c.subscribers) log
          (held_front h.subscribers log (e ∷ []) b.held);
      fresh = λ n l there later. absurd (omega (arith, sound.last n l there, later, c.last, last));
      listed = λ d n listed later. absurd (omega (arith, sound.listed_last d n listed, later, c.last, last));
    },
    c.last ∙ last,
  )
    where
      sound : IsSound i
      sound = changed h i e.number k (fate_of e.standing) b.sound found c

  -- the numbers of deliveries are those of the start
  pub back_distinct : (i : Holding) (k : Kept) → kept_at e.number h.kept ≡ Some k → passes is_out_fate k.fate ≡ false
      → i.kept ≡ map (with_fate e.number (fate_of e.standing)) h.kept → i.given ≡ h.given → AreDistinct i.given i.kept
  back_distinct i k found off kept given =
      distinct_still start.given i.given start.kept i.kept (omega (arith, given, b.given)) b.distinct
      (λ n l x j a there out. ap (kept_at n) (sym (back_kept k found off i.kept kept))
      ∙ before_out start.last n log i.kept l there (ap (λ f. passes is_out_fate f) out) (low n l there))
    where
      low : (n : ℕ) (l : Kept) → kept_at n i.kept ≡ Some l → n ≤ start.last
      low n l there =
          elim (changed_or_was e.number (fate_of e.standing) h.kept k found n l (ap (kept_at n) (sym kept) ∙ there)) [
            | inl one ↦ omega (arith, one.0, last, b.sound.last e.number k found)
            | inr old ↦ omega (arith, last, b.sound.last n l old)
          ]

-- ---- a message that is ready is gone

-- no subscriber counts it
recount_none : (subscribers : List Subscriber) → map (recounted (Some Ready) None) subscribers ≡ subscribers
recount_none [] = refl
recount_none (s ∷ subscribers) =
    let count : (s.count + counts_for s None) - counts_for s (Some Ready) ≡ s.count = omega arith in
    let first : recounted (Some Ready) None s ≡ s = ap (λ n. record s { count = n }) count in
    ap (λ t. t ∷ map (recounted (Some Ready) None) subscribers) first ∙ ap (λ l. s ∷ l) (recount_none subscribers)

-- a ready message that goes leaves a tidy book with one message fewer in its queue
pub gone_changes : (h i : Holding) (n : ℕ) (k : Kept) (name : List ℕ) → IsSound h → kept_at n h.kept ≡ Some k
    → k.fate ≡ Some Ready → name ≡ k.sent.destination → CountsFewer h.queues i.queues name
    → i.kept ≡ map (with_fate n None) h.kept → i.subscribers ≡ h.subscribers
    → i.sessions ≡ h.sessions → i.awake ≡ h.awake → i.last ≡ h.last → i.given ≡ h.given → Changes h n k None i
gone_changes h i n k name is found ready there fewer kept subscribers sessions awake last given = record {
  kept = kept;
  subscribers = subscribers ∙ sym (ap (λ f. map (recounted f None) h.subscribers) ready ∙ recount_none h.subscribers);
  lowers = fewer.lowers;
  count = counts;
  sessions = sessions;
  wakes = λ d on. ap (λ (w : List ℕ → Bool). w d) awake ∙ on;
  last = last;
  given = omega (arith, given);
  ready_from = λ never. let no : None ≡ Some Ready = never in cc;
  ready_awake = λ never. let no : None ≡ Some Ready = never in cc;
  free_from = λ a s there on. absurd (never_out s on);
  free_awake = λ a s there on. absurd (never_out s on);
  noted = λ x j a never. let no : None ≡ Some (Out x j a) = never in cc;
  distinct = distinct_back h.given i.given n None h.kept i.kept k found is.distinct (omega (arith, given)) refl kept;
}
  where
    never_out : (s : Subscriber) → passes (out_to s.subscription.session s.subscription.id) k.fate ≡ true → ⊥
    never_out s on = let never : false ≡ true = rw ready at on in cc

    weighs : (d : List ℕ) → weight (is_for d) (message_of k) ≡ cond (bytes_eq k.sent.destination d) 1 0
    weighs d = ap (λ f. weight (is_for d) (message_of (fated f k))) ready

    fewer_at : (d : List ℕ) → (queue_of i.queues d).count ≡ (queue_of h.queues d).count - cond
        (bytes_eq k.sent.destination d) 1 0
    fewer_at d = fewer.counts d ∙ ap (λ l. (queue_of h.queues d).count - cond (bytes_eq l d) 1 0) there

    counts : (d : List ℕ) → (queue_of i.queues d).count + weight (is_for d) (message_of k)
        ≡ (queue_of h.queues d).count + weight (is_for d) (message_of (fated None k))
    counts d =
        omega (arith, fewer_at d, is.counted d, count_change (is_for d) n None h.kept k is.numbers found, weighs d)

-- ---- by what each step of the code says

-- after one answer is undone, one fewer is left to undo
pub restored : (start h i : Holding) (log : List Logged) (e : Logged) (k : Kept) (s : Subscriber) (was : Option Fate)
    (name : List ℕ)
    (most count : ℕ) → IsBegun start (log ++ e ∷ []) h → h.last ≡ start.last → Some k ≡ kept_at e.number h.kept
    → passes is_out_fate k.fate ≡ false → Some s ≡ subscriber_at e.age h.subscribers
    → was ≡ k.fate → name ≡ k.sent.destination → most ≡ length h.kept
    → CountsMore was most h.queues i.queues name → (s.count < most → count ≡ s.count + 1)
    → i.kept ≡ map (with_fate e.number (fate_of e.standing)) h.kept
    → i.subscribers ≡ map (with_count e.age count) h.subscribers
    → i.sessions ≡ h.sessions → i.awake ≡ h.awake → i.last ≡ h.last → i.given ≡ h.given
    → IsBegun start log i × (i.last ≡ start.last)
restored start h i log e k s was name most count b last found off sits e1 e2 e3 counts more kept subscribers sessions
    awake lasts given =
    let found2 : kept_at e.number h.kept ≡ Some k = sym found in
    let m : IsHeldBy (subscriber_at e.age h.subscribers) e = its_holder start h log e b last in
    let both : Some s ≡ Some m.holder = sits ∙ m.there in
    let it : s ≡ m.holder = cc in
    let counts2 : CountsMore k.fate (length h.kept) h.queues i.queues k.sent.destination = rw (e1, e2, e3) at counts in
    let below : m.holder.count < length h.kept = holder_count h i e k b.sound found2 off m in
    let same : s.count ≡ m.holder.count = ap (λ (t : Subscriber). t.count) it in
    let one : count ≡ m.holder.count + 1 = more (omega arith) ∙ ap (λ n. n + 1) same in
    back_again start h log e b last i k found2 off
    (out_changes h i e k b.sound found2 off m count counts2 one kept subscribers sessions awake lasts given
    (back_distinct start h log e b last i k found2 off kept given)) given

-- nothing of a noted message's subscriber can be missing
pub no_holder : (start h : Holding) (log : List Logged) (e : Logged) → IsBegun start (log ++ e ∷ []) h
    → h.last ≡ start.last
    → None ≡ subscriber_at e.age h.subscribers → ⊥
no_holder start h log e b last none =
    let m : IsHeldBy (subscriber_at e.age h.subscribers) e = its_holder start h log e b last in
    let never : None ≡ Some m.holder = none ∙ m.there in cc
