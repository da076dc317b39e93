-- A walk over places, one after another.
use Rattle.std.proofs.Common.{◌≡◌, ◌≤◌, ◌<◌, ◌+◌, ℕ, Bool, true, false, List, [], ◌∷◌, Option, Some, None, refl, sym}
use Rattle.std.proofs.Common.{ap, ◌∙◌, arith}
use Rattle.std.proofs.Common.{inl, inr}
use Rattle.std.specs.Prelude.{◌⊎◌, ◌==◌, All, IfSome, find, is_some, nat_le}
use Rattle.std.specs.List.{list_any}
use Rattle.std.specs.Option.{option_map}
use Rattle.std.proofs.lemmas.Bool.{cases_Bool, cases_eq, ne_eqb, leb-false, leb-true}
use Rattle.std.proofs.lemmas.List.Elements.{All-head, All-tail}
use Rattle.broker_index.specs.Index.{Kept, Subscriber, Queue, Sets, opened, is_from, ready_from, taken_from}
use Rattle.broker_index.specs.declared.places.KeyedPlace.{KeyedPlace}
use Rattle.broker_queues.specs.Parts.Dealings.{FirstOf, SeeksReady, SeeksTaker, number_or, opens, takes_more}
use Rattle.broker_queues.specs.Parts.Facts.{IsPast, lists, queue_of}
use Rattle.broker_queues.specs.Parts.Queues.{TakesFrom, next_of}
use Rattle.broker_queues.proofs.Finding.{find_none, find_passes}
use Rattle.broker_queues.proofs.Setting.{sets_map}

-- none of those that were passed by passes
abbrev pub Walked : (ℕ → Bool) → List KeyedPlace → ℕ → ℕ → Type 0
Walked test places start from = (m : ℕ) → lists m places ≡ true → start ≤ m → m < from → test m ≡ false

-- what holds of all holds of a listed one
listed_all : (P : ℕ → Type 0) (m : ℕ) (ps : List KeyedPlace) → All (λ p. P p.number) ps → lists m ps ≡ true → P m
listed_all P m [] all listed = let never : false ≡ true = listed in cc
listed_all P m (p ∷ ps) all listed = elim (cases_eq p.number m) [
  | inl same ↦ rw (← same) (All-head (λ p. P p.number) p ps all)
  | inr other ↦
      let no : (p.number == m) ≡ false = ne_eqb p.number m other in
      let rest : lists m ps ≡ true = rw no at listed in
      listed_all P m ps (All-tail (λ p. P p.number) p ps all) rest
]

-- where none is at a number or behind it, each listed one is below
below_none : (from m : ℕ) (ps : List KeyedPlace) → list_any (is_from from) ps ≡ false → lists m ps ≡ true → m < from
below_none from m [] none listed = let never : false ≡ true = listed in cc
below_none from m (p ∷ ps) none listed = elim (cases_Bool (nat_le from p.number)) [
  | inl on ↦ let never : true ≡ false = rw on at none in cc
  | inr off ↦ elim (cases_eq p.number m) [
    | inl same ↦ rw (← same) (leb-false from p.number off)
    | inr other ↦
        let no : (p.number == m) ≡ false = ne_eqb p.number m other in
        let rest : lists m ps ≡ true = rw no at listed in
        let none2 : list_any (is_from from) ps ≡ false = rw off at none in
        below_none from m ps none2 rest
  ]
]

no_some : (o : Option KeyedPlace) → is_some o ≡ false → o ≡ None
no_some None none = refl
no_some (Some p) none = let never : true ≡ false = none in cc

-- a queue that lists none from where it looks is past all that it lists
pub past : (q : Queue) → is_some (next_of q) ≡ false → IsPast q
past q none m listed from =
    let below : m < q.ready_from = below_none q.ready_from m q.numbers
    (find_none (is_from q.ready_from) q.numbers (no_some (next_of q) none)) listed in
    absurd (omega (arith, below, from))

-- so it is while it looks from there
pub past_still : (old new : List ℕ → Option Queue) (name : List ℕ) (age : ℕ) → TakesFrom old new name age
    → IsPast (queue_of old name) → IsPast (queue_of new name)
past_still old new name age t past m listed from =
    past m (ap (λ ps. lists m ps) (sym (t.lowers.numbers name)) ∙ listed) (omega (arith, t.ready name, from))

-- the next place isn't before where the walk is
pub next_from : (from : ℕ) (places : List KeyedPlace) (p : KeyedPlace) → Some p ≡ find (is_from from) places → from ≤ p.number
next_from from places p found = leb-true from p.number (find_passes (is_from from) places p (sym found))

module _ (test : ℕ → Bool) (places : List KeyedPlace) (start from : ℕ) (w : Walked test places start from) where
  -- the next one passes
  pub walked_to : (last : ℕ) (p : KeyedPlace) → All (λ q. (q.number < from) ⊎ (p.number ≤ q.number)) places
      → test p.number ≡ true
      → FirstOf test places start last (Some p)
  walked_to last p all on = (
    on,
    λ m listed later below. elim (listed_all (λ n. (n < from) ⊎ (p.number ≤ n)) m places all listed) [
      | inl low ↦ w m listed later low
      | inr high ↦ absurd (omega (arith, high, below))
    ],
  )

  -- it doesn't
  pub walked_on : (p : KeyedPlace) → All (λ q. (q.number < from) ⊎ (p.number ≤ q.number)) places → test p.number ≡ false
      → Walked test places start (p.number + 1)
  walked_on p all off m listed later below = elim (listed_all (λ n. (n < from) ⊎ (p.number ≤ n)) m places all listed) [
    | inl low ↦ w m listed later low
    | inr high ↦ let same : m ≡ p.number = omega (arith, high, below) in rw same off
  ]

  -- it doesn't, and is the last
  pub walked_past : (last : ℕ) (p : KeyedPlace) → All (λ q. (q.number < from) ⊎ (p.number ≤ q.number)) places
      → test p.number ≡ false
      → last ≤ p.number → FirstOf test places start last None
  walked_past last p all off past m listed later within =
      walked_on p all off m listed later (omega (arith, past, within))

  -- there is no next one
  pub walked_off : (last : ℕ) → None ≡ find (is_from from) places → FirstOf test places start last None
  walked_off last none m listed later within =
      w m listed later (below_none from m places (find_none (is_from from) places (sym none)) listed)

-- ---- what a destination looks for, it looks for from there on

-- a queue looks no later than from the number that it was told
looks_no_later : (number : ℕ) (o : Option Queue) → (opened (option_map (ready_from number) o)).ready_from ≤ number
looks_no_later number None = omega arith
looks_no_later number (Some q) = omega arith

takes_no_later : (age : ℕ) (o : Option Queue) → (opened (option_map (taken_from age) o)).taker_from ≤ age
takes_no_later age None = omega arith
takes_no_later age (Some q) = omega arith

-- a queue that looks from the first ready message on misses none
pub seeks_ready : (kept : List Kept) (last above number : ℕ) (name : List ℕ) (old new : List ℕ → Option Queue)
    (found : Option KeyedPlace) → number ≡ number_or found above
    → Sets old new name (option_map (ready_from number) (old name))
    → FirstOf (opens kept name) (queue_of old name).numbers (queue_of old name).ready_from last found
    → SeeksReady kept last name old new found
seeks_ready kept last above number name old new found is sets first = record {
  numbers =
      sets_map (λ d q r. r.numbers ≡ q.numbers) (ready_from number) old new name (λ d q. refl) (λ q is. refl) sets;
  subscribers = sets_map (λ d q r. r.subscribers ≡ q.subscribers) (ready_from number) old new name (λ d q. refl)
      (λ q is. refl) sets;
  count = sets_map (λ d q r. r.count ≡ q.count) (ready_from number) old new name (λ d q. refl) (λ q is. refl) sets;
  takers = sets_map (λ d q r. r.taker_from ≡ q.taker_from) (ready_from number) old new name (λ d q. refl) (λ q is. refl)
      sets;
  others = λ d other. ap (λ q. q.ready_from) (ap opened (sets.others d other));
  first = first;
  from = by_found found is;
}
  where
    now : (queue_of new name).ready_from ≤ number
    now = rw (sets.at) (looks_no_later number (old name))

    by_found : (o : Option KeyedPlace) → number ≡ number_or o above
        → IfSome o (λ p. (queue_of new name).ready_from ≤ p.number)
    by_found None e = tt
    by_found (Some p) e = omega (arith, now, e)

-- it does so already
pub looks_there : (name : List ℕ) (queues : List ℕ → Option Queue) (number : ℕ)
    → (queue_of queues name).ready_from ≡ number
    → Sets queues queues name (option_map (ready_from number) (queues name))
looks_there name queues number is = record { at = by_queue (queues name) is; others = λ d other. refl }
  where
    by_queue : (o : Option Queue) → (opened o).ready_from ≡ number → o ≡ option_map (ready_from number) o
    by_queue None is = refl
    by_queue (Some q) is = rw (← is) refl

-- the taker was looked for before the queue looked elsewhere for ready messages
pub seeks_taker : (subscribers : List Subscriber) (given last age : ℕ) (name : List ℕ)
    (old between new : List ℕ → Option Queue)
    (found : Option KeyedPlace) → All (λ s. s.age < last) subscribers → age ≡ number_or found last
    → (queue_of between name).subscribers ≡ (queue_of old name).subscribers
    → (queue_of between name).taker_from ≡ (queue_of old name).taker_from
    → Sets between new name (option_map (taken_from age) (between name))
    → FirstOf (takes_more subscribers given name) (queue_of old name).subscribers (queue_of old name).taker_from last found
    → SeeksTaker subscribers given name between new found
seeks_taker subscribers given last age name old between new found young is listeners takers sets first = record {
  last = last;
  young = young;
  numbers = sets_map (λ d q r. r.numbers ≡ q.numbers) (taken_from age) between new name (λ d q. refl) (λ q is. refl)
      sets;
  listeners = sets_map (λ d q r. r.subscribers ≡ q.subscribers) (taken_from age) between new name (λ d q. refl)
      (λ q is. refl) sets;
  count = sets_map (λ d q r. r.count ≡ q.count) (taken_from age) between new name (λ d q. refl) (λ q is. refl) sets;
  ready = sets_map (λ d q r. r.ready_from ≡ q.ready_from) (taken_from age) between new name (λ d q. refl) (λ q is. refl)
      sets;
  others = λ d other. ap (λ q. q.taker_from) (ap opened (sets.others d other));
  first = rw (listeners, takers) first;
  from = by_found found is;
}
  where
    now : (queue_of new name).taker_from ≤ age
    now = rw (sets.at) (takes_no_later age (between name))

    by_found : (o : Option KeyedPlace) → age ≡ number_or o last → IfSome o (λ p. (queue_of new name).taker_from ≤ p.number)
    by_found None e = tt
    by_found (Some p) e = omega (arith, now, e)

-- it does so already
pub takes_there : (name : List ℕ) (queues : List ℕ → Option Queue) (age : ℕ) → (queue_of queues name).taker_from ≡ age
    → Sets queues queues name (option_map (taken_from age) (queues name))
takes_there name queues age is = record { at = by_queue (queues name) is; others = λ d other. refl }
  where
    by_queue : (o : Option Queue) → (opened o).taker_from ≡ age → o ≡ option_map (taken_from age) o
    by_queue None is = refl
    by_queue (Some q) is = rw (← is) refl
