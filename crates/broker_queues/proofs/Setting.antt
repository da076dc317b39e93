-- The queue of one destination changes.
use Rattle.std.proofs.Common.{◌≡◌, ◌≤◌, ℕ, ◌-◌, true, false, cond, List, Option, Some, None, refl, sym, ap, ◌∙◌, arith}
use Rattle.std.proofs.Common.{inl, inr}
use Rattle.std.specs.Option.{option_map}
use Rattle.std.specs.Str.{bytes_eq}
use Rattle.std.proofs.lemmas.Bool.{cases_Bool}
use Rattle.std.proofs.lemmas.Slice.Eq.{bytes_eq-Decides}
use Rattle.broker_index.specs.Index.{Queue, Sets, opened, empty_queue, ready_from, taken_from, counting}
use Rattle.broker_index.specs.Index.{counting_fewer}
use Rattle.broker_queues.specs.Parts.Facts.{queue_of}
use Rattle.broker_queues.specs.Parts.Whole.{Lowers}
use Rattle.broker_queues.specs.Parts.Queues.{LooksFrom, TakesFrom, CountsFewer}

-- what holds between a queue and itself, and between the one of a name and what it becomes, holds between all
pub sets_map : (R : List ℕ → Queue → Queue → Type 0) (f : Queue → Queue) (old new : List ℕ → Option Queue)
    (name : List ℕ)
    → ((d : List ℕ) (q : Queue) → R d q q) → ((q : Queue) → old name ≡ Some q → R name q (f q))
    → Sets old new name (option_map f (old name)) → (d : List ℕ) → R d (queue_of old d) (queue_of new d)
sets_map R f old new name same changed sets d = elim (cases_Bool (bytes_eq d name)) [
  | inl on ↦
      let is : d ≡ name = (bytes_eq-Decides d name).0 on in
      rw (is, sets.at) (by_queue (old name) refl)
  | inr off ↦
      let other : d ≡ name → ⊥ = λ is. (let never : true ≡ false = sym ((bytes_eq-Decides d name).1 is) ∙ off in cc) in
      rw (sets.others d other) (same d (queue_of old d))
]
  where
    by_queue : (o : Option Queue) → old name ≡ o → R name (opened o) (opened (option_map f o))
    by_queue None is = same name empty_queue
    by_queue (Some q) is = changed q is

-- a change that keeps what queues list, and looks no later
pub lowered : (f : Queue → Queue) (old new : List ℕ → Option Queue) (name : List ℕ)
    → ((q : Queue) → (f q).numbers ≡ q.numbers) → ((q : Queue) → (f q).subscribers ≡ q.subscribers)
    → ((q : Queue) → old name ≡ Some q → (f q).ready_from ≤ q.ready_from)
    → ((q : Queue) → old name ≡ Some q → (f q).taker_from ≤ q.taker_from)
    → Sets old new name (option_map f (old name)) → Lowers old new
lowered f old new name numbers subscribers ready takers sets = record {
  numbers = sets_map (λ d q r. r.numbers ≡ q.numbers) f old new name (λ d q. refl) (λ q is. numbers q) sets;
  subscribers =
      sets_map (λ d q r. r.subscribers ≡ q.subscribers) f old new name (λ d q. refl) (λ q is. subscribers q) sets;
  ready = sets_map (λ d q r. r.ready_from ≤ q.ready_from) f old new name (λ d q. omega arith) ready sets;
  takers = sets_map (λ d q r. r.taker_from ≤ q.taker_from) f old new name (λ d q. omega arith) takers sets;
}

-- the queue of a name, where it was there
pub at_name : (f : Queue → Queue) (old new : List ℕ → Option Queue) (name : List ℕ) (q : Queue) → old name ≡ Some q
    → Sets old new name (option_map f (old name)) → queue_of new name ≡ f q
at_name f old new name q is sets = ap opened (sets.at ∙ ap (λ o. option_map f o) is)

pub Lowers-same : (queues : List ℕ → Option Queue) → Lowers queues queues
Lowers-same queues = record {
  numbers = λ d. refl;
  subscribers = λ d. refl;
  ready = λ d. omega arith;
  takers = λ d. omega arith;
}

-- a queue that looks for messages from a lower number on misses none
pub looks_from : (old new : List ℕ → Option Queue) (name : List ℕ) (number : ℕ)
    → number ≤ (queue_of old name).ready_from
    → Sets old new name (option_map (ready_from number) (old name)) → LooksFrom old new name number
looks_from old new name number later sets = record {
  lowers = lowered (ready_from number) old new name (λ q. refl) (λ q. refl) (λ q is. low q is) (λ q is. omega arith)
      sets;
  counts = sets_map (λ d q r. r.count ≡ q.count) (ready_from number) old new name (λ d q. refl) (λ q is. refl) sets;
  from = by_queue (old name) refl;
}
  where
    low : (q : Queue) → old name ≡ Some q → number ≤ q.ready_from
    low q is = rw is at later

    by_queue : (o : Option Queue) → old name ≡ o → (queue_of new name).ready_from ≤ number
    by_queue None is =
        let e : queue_of new name ≡ empty_queue = ap opened (sets.at ∙ ap (λ o. option_map (ready_from number) o) is) in
        rw e (omega arith)
    by_queue (Some q) is = rw (at_name (ready_from number) old new name q is sets) (omega arith)

pub looks_already : (queues : List ℕ → Option Queue) (name : List ℕ) (number : ℕ)
    → (queue_of queues name).ready_from ≤ number
    → LooksFrom queues queues name number
looks_already queues name number earlier = record { lowers = Lowers-same queues; counts = λ d. refl; from = earlier }

-- a queue that looks for takers from a lower age on misses none
pub takes_from : (old new : List ℕ → Option Queue) (name : List ℕ) (age : ℕ) → age ≤ (queue_of old name).taker_from
    → Sets old new name (option_map (taken_from age) (old name)) → TakesFrom old new name age
takes_from old new name age later sets = record {
  lowers = lowered (taken_from age) old new name (λ q. refl) (λ q. refl) (λ q is. omega arith) (λ q is. low q is) sets;
  counts = sets_map (λ d q r. r.count ≡ q.count) (taken_from age) old new name (λ d q. refl) (λ q is. refl) sets;
  ready = sets_map (λ d q r. r.ready_from ≡ q.ready_from) (taken_from age) old new name (λ d q. refl) (λ q is. refl) sets;
  from = by_queue (old name) refl;
}
  where
    low : (q : Queue) → old name ≡ Some q → age ≤ q.taker_from
    low q is = rw is at later

    by_queue : (o : Option Queue) → old name ≡ o → (queue_of new name).taker_from ≤ age
    by_queue None is =
        let e : queue_of new name ≡ empty_queue = ap opened (sets.at ∙ ap (λ o. option_map (taken_from age) o) is) in
        rw e (omega arith)
    by_queue (Some q) is = rw (at_name (taken_from age) old new name q is sets) (omega arith)

pub takes_already : (queues : List ℕ → Option Queue) (name : List ℕ) (age : ℕ) → (queue_of queues name).taker_from ≤ age
    → TakesFrom queues queues name age
takes_already queues name age earlier = record {
  lowers = Lowers-same queues;
  counts = λ d. refl;
  from = earlier;
  ready = λ d. refl;
}

-- a queue that counts one fewer counts so many
fewer_as : (old : List ℕ → Option Queue) (name : List ℕ) (o : Option Queue) → old name ≡ o
    → option_map counting_fewer o ≡ option_map (counting ((queue_of old name).count - 1)) o
fewer_as old name None is = refl
fewer_as old name (Some q) is = rw is refl

pub counts_fewer : (old new : List ℕ → Option Queue) (name : List ℕ) (count : ℕ) → count ≡ (queue_of old name).count - 1
    → Sets old new name (option_map (counting count) (old name)) → CountsFewer old new name
counts_fewer old new name count fewer sets = record {
  lowers = lowered (counting count) old new name (λ q. refl) (λ q. refl) (λ q is. omega arith) (λ q is. omega arith)
      sets;
  counts = each;
}
  where
    each : (d : List ℕ) → (queue_of new d).count ≡ (queue_of old d).count - cond (bytes_eq name d) 1 0
    each d = elim (cases_Bool (bytes_eq name d)) [
      | inl on ↦
          let is : name ≡ d = (bytes_eq-Decides name d).0 on in
          rw (on, ← is) (by_queue (old name) refl)
      | inr off ↦
          let other : d ≡ name → ⊥ =
          λ is. (let never : true ≡ false = sym ((bytes_eq-Decides name d).1 (sym is)) ∙ off in cc) in
          rw (off, sets.others d other) (omega arith)
    ]
      where
        by_queue : (o : Option Queue) → old name ≡ o → (queue_of new name).count ≡ (queue_of old name).count - 1
        by_queue None is =
            let e : queue_of new name ≡ empty_queue =
            ap opened (sets.at ∙ ap (λ o. option_map (counting count) o) is) in
            rw (e, is) refl
        by_queue (Some q) is = rw (at_name (counting count) old new name q is sets) fewer

-- one fewer is counted at once
pub lowers_count : (old new : List ℕ → Option Queue) (name : List ℕ)
    → Sets old new name (option_map counting_fewer (old name)) → CountsFewer old new name
lowers_count old new name sets =
    counts_fewer old new name ((queue_of old name).count - 1) refl
    (record { at = sets.at ∙ fewer_as old name (old name) refl; others = sets.others })
