-- A delivery is acknowledged, and its message taken out at once: as if the message had been put down as gone before.
use Rattle.std.proofs.Common.{◌≡◌, ◌-◌, ℕ, Bool, true, false, not, cond, List, [], ◌∷◌, map, Option, Some, None, refl, sym, ap}
use Rattle.std.proofs.Common.{◌∙◌, arith, inl, inr}
use Rattle.std.specs.Prelude.{◌==◌, filter, if◌then◌else◌}
use Rattle.std.specs.Option.{option_map, option_and_then}
use Rattle.std.specs.Str.{bytes_eq}
use Rattle.std.proofs.lemmas.Bool.{cases_eq, eq-eqb, ne_eqb}
use Rattle.broker_book.specs.Books.{Fate, out_to}
use Rattle.broker_index.specs.Index.{Kept, Subscriber, Queue, Sets, counting_fewer, taken_counted, taken_number, with_count}
use Rattle.broker_index.specs.Index.{with_fate, without_entries}
use Rattle.broker_queues.specs.Parts.Facts.{IsPast, kept_at, lists, subscriber_at, queue_of}
use Rattle.broker_queues.specs.Parts.Fates.{fated, passes}
use Rattle.broker_queues.specs.Parts.Queues.{CountsFewer, Credits, Marks}
use Rattle.broker_queues.specs.Parts.Storing.{AnsweredAlone, Tidies}
use Rattle.broker_queues.specs.Parts.Whole.{Changes, Holding, IsSound}
use Rattle.broker_queues.proofs.Alone.{answered_it}
use Rattle.broker_queues.proofs.Returning.{taken_back}
use Rattle.broker_queues.proofs.Rising.{at_edit}
use Rattle.broker_queues.proofs.Setting.{lowers_count, sets_map}
use Rattle.broker_queues.proofs.Subscribing.{itself}
use Rattle.broker_queues.proofs.Sweeping.{between, isnt, leaves_others, purged, taken_first, taken_then}

-- ---- a queue that counts one fewer

-- the queues, where the one of a name counts one fewer
abbrev pub counted : List ℕ → (List ℕ → Option Queue) → List ℕ → Option Queue
counted name queues d = if bytes_eq name d then option_map counting_fewer (queues d) else queues d

module _ (name : List ℕ) (queues : List ℕ → Option Queue) where
  counts : Sets queues (counted name queues) name (option_map counting_fewer (queues name))
  counts = record { at = rw (itself name) refl; others = λ d differs. rw (isnt name d differs) refl }

  fewer : CountsFewer queues (counted name queues) name
  fewer = lowers_count queues (counted name queues) name counts

  same_numbers : (d : List ℕ) → (queue_of (counted name queues) d).numbers ≡ (queue_of queues d).numbers
  same_numbers = sets_map (λ d q r. r.numbers ≡ q.numbers) counting_fewer queues (counted name queues) name (λ d q. refl)
      (λ q is. refl) counts

  same_listeners : (d : List ℕ) → (queue_of (counted name queues) d).subscribers ≡ (queue_of queues d).subscribers
  same_listeners = sets_map (λ d q r. r.subscribers ≡ q.subscribers) counting_fewer queues (counted name queues) name
      (λ d q. refl) (λ q is. refl) counts

  same_ready : (d : List ℕ) → (queue_of (counted name queues) d).ready_from ≡ (queue_of queues d).ready_from
  same_ready = sets_map (λ d q r. r.ready_from ≡ q.ready_from) counting_fewer queues (counted name queues) name
      (λ d q. refl) (λ q is. refl) counts

  same_takers : (d : List ℕ) → (queue_of (counted name queues) d).taker_from ≡ (queue_of queues d).taker_from
  same_takers = sets_map (λ d q r. r.taker_from ≡ q.taker_from) counting_fewer queues (counted name queues) name
      (λ d q. refl) (λ q is. refl) counts

  -- it is told that a message is gone
  marks : (n : ℕ) (awake : List ℕ → Bool) → Marks false name n queues (counted name queues) awake awake
  marks n awake = record {
    lowers = fewer.lowers;
    counts = fewer.counts;
    wakes = λ d on. on;
    from = λ again. let never : false ≡ true = again in cc;
    awake = λ again. let never : false ≡ true = again in cc;
  }

  -- and then the message goes
  taken : (now : List ℕ → Option Queue) (n : ℕ) → Sets queues now name (option_and_then (taken_counted n) (queues name))
      → Sets (counted name queues) now name (option_and_then (taken_number n) (counted name queues name))
  taken now n sets = record {
    at = rw (itself name) (sets.at ∙ by_queue (queues name));
    others = λ d differs. rw (isnt name d differs) (sets.others d differs);
  }
    where
      by_queue : (o : Option Queue)
          → option_and_then (taken_counted n) o ≡ option_and_then (taken_number n) (option_map counting_fewer o)
      by_queue None = refl
      by_queue (Some x) = refl

-- credit is told behind it as well as before
credited : (name there : List ℕ) (age : ℕ) (old new : List ℕ → Option Queue) (v w : List ℕ → Bool)
    → Credits there age old new v w → Credits there age (counted name old) (counted name new) v w
credited name there age old new v w c = record {
  lowers = record {
    numbers = λ d. same_numbers name new d ∙ c.lowers.numbers d ∙ sym (same_numbers name old d);
    subscribers = λ d. same_listeners name new d ∙ c.lowers.subscribers d ∙ sym (same_listeners name old d);
    ready = λ d. omega (arith, same_ready name new d, same_ready name old d, c.lowers.ready d);
    takers = λ d. omega (arith, same_takers name new d, same_takers name old d, c.lowers.takers d);
  };
  counts = λ d. (fewer name new).counts d ∙ ap (λ x. x - cond (bytes_eq name d) 1 0) (c.counts d)
      ∙ sym ((fewer name old).counts d);
  wakes = c.wakes;
  from = omega (arith, same_takers name new there, c.from);
  awake = elim c.awake [ inl on ↦ inl on | inr past ↦ inr (still past) ];
}
  where
    still : IsPast (queue_of new there) → IsPast (queue_of (counted name new) there)
    still past m listed from =
        past m (ap (λ ps. lists m ps) (sym (same_numbers name new there)) ∙ listed)
        (omega (arith, same_ready name new there, from))

-- ---- the message

-- what is taken out may have had any fate
drops_fated : (n : ℕ) (f : Option Fate) (l : List Kept)
    → filter (λ k. not (k.number == n)) l ≡ filter (λ k. not (k.number == n)) (map (with_fate n f) l)
drops_fated n f [] = refl
drops_fated n f (k ∷ l) = elim (cases_eq k.number n) [
  | inl same ↦
      let number : (k.number == n) ≡ true = eq-eqb k.number n same in
      let is : record k { fate = f } ≡ with_fate n f k = rw number refl in
      let rest : filter (λ k. not (k.number == n)) (k ∷ l)
      ≡ filter (λ k. not (k.number == n)) (record k { fate = f } ∷ map (with_fate n f) l) =
      rw number (drops_fated n f l) in
      rest ∙ ap (λ x. filter (λ k. not (k.number == n)) (x ∷ map (with_fate n f) l)) is
  | inr other ↦
      let number : (k.number == n) ≡ false = ne_eqb k.number n other in
      let is : k ≡ with_fate n f k = rw number refl in
      let rest : filter (λ k. not (k.number == n)) (k ∷ l)
      ≡ filter (λ k. not (k.number == n)) (k ∷ map (with_fate n f) l) =
      rw number (ap (λ xs. k ∷ xs) (drops_fated n f l)) in
      rest ∙ ap (λ x. filter (λ k. not (k.number == n)) (x ∷ map (with_fate n f) l)) is
]

-- ---- all of it

module _ (h j : Holding) (is : IsSound h) (age n : ℕ) (k : Kept) (s : Subscriber) (q : List ℕ → Option Queue)
    (found : kept_at n h.kept ≡ Some k) (sits : subscriber_at age h.subscribers ≡ Some s)
    (on : passes (out_to s.subscription.session s.subscription.id) k.fate ≡ true)
    (credits : Credits s.subscription.destination age h.queues q h.awake j.awake)
    (sets : Sets q j.queues k.sent.destination (option_and_then (taken_counted n) (q k.sent.destination))) where
  abbrev name : List ℕ
  name = k.sent.destination

  -- the message is gone, and is there yet
  abbrev gone : Holding
  gone = record h {
    kept = map (with_fate n None) h.kept;
    subscribers = map (with_count age (s.count - 1)) h.subscribers;
    queues = counted name q;
    awake = j.awake;
  }

  changes : Changes h n k None gone
  changes = taken_back h n age false k s (counted name h.queues) (counted name q) h.awake j.awake is found sits on
      (marks name h.queues n h.awake)
      (credited name s.subscription.destination age h.queues q h.awake j.awake credits)

  there : kept_at n gone.kept ≡ Some (fated None k)
  there = at_edit (λ k. k.number) n (fated None) (λ x. refl) h.kept k found

  module _ (kept : j.kept ≡ filter (λ k. not (k.number == n)) h.kept)
      (subs : j.subscribers ≡ map (without_entries age n) (map (with_count age (s.count - 1)) h.subscribers))
      (sessions : j.sessions ≡ h.sessions) (last : j.last ≡ h.last) (given : j.given ≡ h.given) where
    -- and the delivery forgotten
    abbrev forgotten : Holding
    forgotten = record gone { subscribers = j.subscribers }

    kept_then : j.kept ≡ filter (λ k. not (k.number == n)) forgotten.kept
    kept_then = kept ∙ drops_fated n None h.kept

    tidies_then : IsSound forgotten → Tidies forgotten j
    tidies_then sound =
        purged forgotten j sound n (fated None k) (between (counted name q) name n) name there refl
        (taken_first (counted name q) name n)
        (taken_then (counted name q) j.queues name n (taken name q j.queues n sets)) kept_then refl sessions refl last
        given

    pub settled : AnsweredAlone h n k false j
    settled =
        answered_it h gone j is age n false k s j.subscribers found sits changes subs tidies_then
        (λ sound. leaves_others forgotten j n kept_then refl) refl
