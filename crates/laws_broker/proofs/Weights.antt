-- What open transactions still keep of what was asked for.
use Rattle.std.proofs.Common.{◌≡◌, ℕ, ◌+◌, ◌≤◌, Bool, true, false, not, cond, List, [], ◌∷◌, ◌++◌, Some, refl, ap, ◌∙◌}
use Rattle.std.proofs.Common.{arith}
use Rattle.std.specs.Prelude.{count_by, filter}
use Rattle.std.specs.List.{find, sum_by}
use Rattle.std.proofs.lemmas.Grind.{flat_map-append}
use Rattle.std.proofs.lemmas.List.Sums.{sum_by-append, sum_by-cons}
use Rattle.broker_book.specs.Runs.{BookEvent}
use Rattle.broker_book.specs.declared.parts.Action.{Action}
use Rattle.broker_book.specs.declared.parts.Action.TheVariants.{Put, Ack, Nack}
use Rattle.broker_book.proofs.Counts.{count-cons, count-append}
use Rattle.broker_core.specs.Calls.{others}
use Rattle.broker_core.specs.Serving.{Server, is_session, with_session}
use Rattle.broker_core.specs.declared.session.Session.{Session}
use Rattle.broker_tx.specs.First.{first_changed}
use Rattle.broker_tx.specs.Transactions.{Transaction, actions_of, is_transaction, with_action}
use Rattle.laws_broker.specs.Deeds.{BrokerDeed, Brings, Acknowledges, Returns, done_by, done_in}

-- what a session's action does
abbrev pub deed_of : ℕ → Action → BrokerDeed
deed_of session (Put sent) = Brings sent
deed_of session (Ack number) = Acknowledges session number
deed_of session (Nack number) = Returns session number

-- how often a run does what passes a test
pub done_append : (p : BrokerDeed → Bool) (xs ys : List BookEvent)
    → count_by p (done_in (xs ++ ys)) ≡ count_by p (done_in xs) + count_by p (done_in ys)
done_append p xs ys = ap (count_by p) (flat_map-append done_by xs ys) ∙ count-append p (done_in xs) (done_in ys)

module _ (p : BrokerDeed → Bool) (n : ℕ) where
  -- the actions of a session's transaction that pass
  abbrev pub kept : Transaction → ℕ
  kept t = count_by (λ a. p (deed_of n a)) t.actions

  -- those of its transactions
  abbrev pub weight : List Transaction → ℕ
  weight ts = sum_by kept ts

  -- ---- an action more

  one_more : (action : Action) (t : Transaction)
      → kept (with_action action t) ≡ kept t + count_by p (deed_of n action ∷ [])
  one_more action t =
      let a = count-append (λ (a : Action). p (deed_of n a)) t.actions (action ∷ []) in
      let b = count-cons (λ (a : Action). p (deed_of n a)) action [] in
      let c = count-cons p (deed_of n action) [] in
      omega (arith, a, b, c)

  changed_step : (test : Transaction → Bool) (action : Action) (t : Transaction) (ts : List Transaction) (b : Bool)
      → weight (first_changed test (with_action action) ts) ≤ weight ts + count_by p (deed_of n action ∷ [])
      → weight (cond b (with_action action t ∷ ts) (t ∷ first_changed test (with_action action) ts))
      ≤ weight (t ∷ ts) + count_by p (deed_of n action ∷ [])
  changed_step test action t ts true h =
      let a = one_more action t in
      let b = sum_by-cons kept (with_action action t) ts in
      let c = sum_by-cons kept t ts in
      omega (arith, a, b, c)
  changed_step test action t ts false h =
      let b = sum_by-cons kept t (first_changed test (with_action action) ts) in
      let c = sum_by-cons kept t ts in
      omega (arith, h, b, c)

  pub changed_weight : (test : Transaction → Bool) (action : Action) (ts : List Transaction)
      → weight (first_changed test (with_action action) ts) ≤ weight ts + count_by p (deed_of n action ∷ [])
  changed_weight test action [] = omega arith
  changed_weight test action (t ∷ ts) = changed_step test action t ts (test t) (changed_weight test action ts)

  -- ---- a transaction more, or less

  pub begun_weight : (ts : List Transaction) (name : List ℕ)
      → weight (ts ++ record { name = name; actions = [] } ∷ []) ≡ weight ts
  begun_weight ts name =
      let t : Transaction = record { name = name; actions = [] } in
      let a = sum_by-append kept ts (t ∷ []) in
      let b = sum_by-cons kept t [] in
      omega (arith, a, b)

  filter_step : (test : Transaction → Bool) (t : Transaction) (ts : List Transaction) (b : Bool)
      → weight (filter test ts) ≤ weight ts
      → weight (cond b (t ∷ filter test ts) (filter test ts)) ≤ weight (t ∷ ts)
  filter_step test t ts true h =
      let a = sum_by-cons kept t (filter test ts) in let b = sum_by-cons kept t ts in omega (arith, h, a, b)
  filter_step test t ts false h = let b = sum_by-cons kept t ts in omega (arith, h, b)

  pub filter_weight : (test : Transaction → Bool) (ts : List Transaction) → weight (filter test ts) ≤ weight ts
  filter_weight test [] = omega arith
  filter_weight test (t ∷ ts) = filter_step test t ts (test t) (filter_weight test ts)

  -- a transaction ends: what it keeps is gone from the others
  ended_step : (name : List ℕ) (t : Transaction) (ts : List Transaction) (actions : List Action) (b : Bool)
      → is_transaction name t ≡ b
      → (actions_of ts name ≡ Some actions
      → weight (filter (λ x. not (is_transaction name x)) ts) + count_by (λ a. p (deed_of n a)) actions ≤ weight ts)
      → actions_of (t ∷ ts) name ≡ Some actions
      → weight (filter (λ x. not (is_transaction name x)) (t ∷ ts)) + count_by (λ a. p (deed_of n a)) actions
      ≤ weight (t ∷ ts)
  ended_step name t ts actions true e ih h =
      let k : Some t.actions ≡ Some actions = rw e at h in
      let l : t.actions ≡ actions = cc in
      let m : kept t ≡ count_by (λ a. p (deed_of n a)) actions = ap (count_by (λ a. p (deed_of n a))) l in
      let f = filter_weight (λ x. not (is_transaction name x)) ts in
      let b = sum_by-cons kept t ts in
      rw e (omega (arith, m, f, b))
  ended_step name t ts actions false e ih h =
      let f = ih (rw e at h) in
      let a = sum_by-cons kept t (filter (λ x. not (is_transaction name x)) ts) in
      let b = sum_by-cons kept t ts in
      rw e (omega (arith, f, a, b))

  pub ended_weight : (name : List ℕ) (ts : List Transaction) (actions : List Action) → actions_of ts name ≡ Some actions
      → weight (filter (λ x. not (is_transaction name x)) ts) + count_by (λ a. p (deed_of n a)) actions ≤ weight ts
  ended_weight name [] actions h = absurd cc
  ended_weight name (t ∷ ts) actions h =
      ended_step name t ts actions (is_transaction name t) refl (ended_weight name ts actions) h

-- ---- all sessions

module _ (p : BrokerDeed → Bool) where
  -- what a session's open transactions keep
  abbrev pub burden : Session → ℕ
  burden s = weight p s.number s.transactions

  -- what those of a broker's sessions keep
  abbrev pub load : Server → ℕ
  load b = sum_by burden b.sessions

  found_step : (m : ℕ) (t : Session) (x : Session) (xs : List Session) (s : Session) (b : Bool) → is_session m x ≡ b
      → (find (is_session m) xs ≡ Some s
      → sum_by burden (with_session m (λ _. t) xs) + burden s ≡ sum_by burden xs + burden t)
      → find (is_session m) (x ∷ xs) ≡ Some s
      → sum_by burden (with_session m (λ _. t) (x ∷ xs)) + burden s ≡ sum_by burden (x ∷ xs) + burden t
  found_step m t x xs s true e ih h =
      let k : Some x ≡ Some s = rw e at h in
      let l : x ≡ s = cc in
      let q : burden x ≡ burden s = ap burden l in
      let a = sum_by-cons burden t xs in
      let b = sum_by-cons burden x xs in
      rw e (omega (arith, q, a, b))
  found_step m t x xs s false e ih h =
      let k = ih (rw e at h) in
      let a = sum_by-cons burden x (with_session m (λ _. t) xs) in
      let b = sum_by-cons burden x xs in
      rw e (omega (arith, k, a, b))

  -- a session is found, and put back as another
  pub found_load : (m : ℕ) (t : Session) (xs : List Session) (s : Session) → find (is_session m) xs ≡ Some s
      → sum_by burden (with_session m (λ _. t) xs) + burden s ≡ sum_by burden xs + burden t
  found_load m t [] s h = absurd cc
  found_load m t (x ∷ xs) s h = found_step m t x xs s (is_session m x) refl (found_load m t xs s) h

  same_step : (m : ℕ) (f : Session → Session) (x : Session) (xs : List Session) (b : Bool) → burden (f x) ≡ burden x
      → sum_by burden (with_session m f xs) ≡ sum_by burden xs
      → sum_by burden (cond b (f x ∷ xs) (x ∷ with_session m f xs)) ≡ sum_by burden (x ∷ xs)
  same_step m f x xs true e ih =
      let a = sum_by-cons burden (f x) xs in let b = sum_by-cons burden x xs in omega (arith, e, a, b)
  same_step m f x xs false e ih =
      let a = sum_by-cons burden x (with_session m f xs) in let b = sum_by-cons burden x xs in omega (arith, ih, a, b)

  -- a change that leaves what a session's transactions keep
  pub same_load : (m : ℕ) (f : Session → Session) → ((x : Session) → burden (f x) ≡ burden x) → (xs : List Session)
      → sum_by burden (with_session m f xs) ≡ sum_by burden xs
  same_load m f e [] = refl
  same_load m f e (x ∷ xs) = same_step m f x xs (is_session m x) (e x) (same_load m f e xs)

  gone_step : (m : ℕ) (x : Session) (xs : List Session) (b : Bool) → sum_by burden (others m xs) ≤ sum_by burden xs
      → sum_by burden (cond b (x ∷ others m xs) (others m xs)) ≤ sum_by burden (x ∷ xs)
  gone_step m x xs true h =
      let a = sum_by-cons burden x (others m xs) in let b = sum_by-cons burden x xs in omega (arith, h, a, b)
  gone_step m x xs false h = let b = sum_by-cons burden x xs in omega (arith, h, b)

  -- sessions that are away keep nothing
  pub gone_load : (m : ℕ) (xs : List Session) → sum_by burden (others m xs) ≤ sum_by burden xs
  gone_load m [] = omega arith
  gone_load m (x ∷ xs) = gone_step m x xs (not (is_session m x)) (gone_load m xs)
