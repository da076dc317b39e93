-- What a request makes of what it reaches can be told again.
use Rattle.std.proofs.Common.{◌≡◌, ℕ, ◌+◌, ◌<◌, Bool, true, false, cond, List, [], ◌∷◌, length, Option, Some, None}
use Rattle.std.proofs.Common.{Result, Ok, Err}
use Rattle.std.proofs.Common.{refl, arith}
use Rattle.std.proofs.lemmas.Bool.{ltb-true}
use Rattle.std.specs.Prelude.{◌^◌, ◌-◌, ◌==◌, not, nat_lt, map}
use Rattle.std.specs.List.{AllByRecursion, find, count_by}
use Rattle.base.specs.declared.limits.TheConstants.{MAX_ACTIONS, MAX_SUBSCRIPTIONS, MAX_TRANSACTIONS}
use Rattle.text.specs.Numerals.{number_of}
use Rattle.broker_book.specs.Books.{Book, Fate, QueuedMessage, is_for, out_of, out_to}
use Rattle.broker_book.specs.Steps.{ready_if, put_of, with_message, acked, nacked, ack_of, nack_of, act_of, then_all}
use Rattle.broker_book.specs.Steps.{apply_of, released}
use Rattle.broker_book.specs.Steps.{ended}
use Rattle.broker_book.specs.Steps.{holder}
use Rattle.broker_book.specs.declared.fault.QueueFault.{QueueFault}
use Rattle.broker_book.specs.declared.parts.Action.{Action}
use Rattle.broker_book.specs.declared.parts.Action.TheVariants.{Put, Ack as AckOf, Nack as NackOf}
use Rattle.broker_book.specs.declared.parts.Mode.{Mode}
use Rattle.broker_book.specs.declared.parts.Sent.{Sent}
use Rattle.broker_book.specs.declared.parts.Subscription.{Subscription}
use Rattle.broker_tx.specs.Transactions.{Transaction, is_open, is_transaction, actions_in, actions_of, begin_of}
use Rattle.broker_tx.specs.Transactions.{with_action, add_to}
use Rattle.broker_tx.specs.Transactions.{add_of, end_of}
use Rattle.broker_tx.specs.declared.fault.TransactionFault.{TransactionFault}
use Rattle.stomp_session.specs.Requests.{ack_mode}
use Rattle.stomp_session.specs.declared.request.Request.{Request}
use Rattle.stomp_session.specs.declared.request.Request.TheVariants.{Connect, Send, Subscribe, Unsubscribe, Ack, Nack}
use Rattle.stomp_session.specs.declared.request.Request.TheVariants.{Begin, Commit}
use Rattle.stomp_session.specs.declared.request.Request.TheVariants.{Abort, Disconnect}
use Rattle.stomp_session.specs.declared.request.Subscribe.{Subscribe as SubscribeParts}
use Rattle.stomp_session.proofs.Owning.{all_append, all_filter}
use Rattle.broker_core.specs.Performing.{Reach, performed, in_book, in_transactions, kept, sent_of, send_done}
use Rattle.broker_core.specs.Performing.{has_named}
use Rattle.broker_core.specs.Performing.{subscription_count}
use Rattle.broker_core.specs.Performing.{subscribe_in, unsubscribe_done, answer_now, unanswered_number, answer_kept}
use Rattle.broker_core.specs.Performing.{answer_done, without}
use Rattle.broker_core.specs.Performing.{ending, commit_done}
use Rattle.broker_core.specs.Words.{is_destination, mode_of}
use Rattle.broker_core.specs.declared.fault.FrameRefusal.{FrameRefusal}
use Rattle.laws_broker.specs.Fitting.{SentFits, MessageFits, AcceptedFits, BookFits, ActionFits, TransactionFits}
use Rattle.laws_broker.proofs.Lists.{all_weaker, all_map, all_kept, all_found, all_changed}

-- what a request may change
pub record ReachFits (R : Sent → Type 0) (P : Subscription → Type 0) (r : Reach) : Type 0 where
  pub book : BookFits R P r.book
  pub transactions : AllByRecursion (TransactionFits R) r.transactions

abbrev StepFits : (Sent → Type 0) → (Subscription → Type 0) → Result Book QueueFault → Type 0
StepFits R P (Ok b) = BookFits R P b
StepFits R P (Err fault) = Unit {0}

abbrev pub DoneFits : (Sent → Type 0) → (Subscription → Type 0) → Result Reach FrameRefusal → Type 0
DoneFits R P (Ok r) = ReachFits R P r
DoneFits R P (Err refusal) = Unit {0}

abbrev OpenFit : (Sent → Type 0) → Result (List Transaction) TransactionFault → Type 0
OpenFit R (Ok ts) = AllByRecursion (TransactionFits R) ts
OpenFit R (Err fault) = Unit {0}

-- what a request brings can be carried, and a subscription that it begins is such a one
abbrev pub Brings : (Sent → Type 0) → (Subscription → Type 0) → ℕ → Request → Type 0
Brings R P n (Send s) = SentFits R (sent_of s)
Brings R P n (Subscribe s) = (mode : Mode) → mode_of (ack_mode s.ack) ≡ Some mode
    → P (record { session = n; id = s.id; destination = s.destination; mode = mode })
Brings R P n _ = Unit {0}

-- ---- other subscriptions

pub book_weaker : (R : Sent → Type 0) (P Q : Subscription → Type 0) (b : Book) → ((s : Subscription) → P s → Q s)
    → BookFits R P b
    → BookFits R Q b
book_weaker R P Q b k h = record {
  living = h.living;
  subscriptions = all_weaker P Q b.subscriptions k h.subscriptions;
  accepted = h.accepted;
}

not_there : (b : Bool) → not b ≡ true → b ≡ false
not_there true e = absurd cc
not_there false e = refl

ready_one : (R : Sent → Type 0) (m r : QueuedMessage) (b : Bool) → r.sent ≡ m.sent → r.number ≡ m.number
    → MessageFits R m
    → MessageFits R (cond b r m)
ready_one R m r true e k h = record { sent = rw e h.sent; number = rw k h.number }
ready_one R m r false e k h = h

ready_fits : (R : Sent → Type 0) (test : Fate → Bool) (ms : List QueuedMessage) → AllByRecursion (MessageFits R) ms
    → AllByRecursion (MessageFits R) (map (ready_if test) ms)
ready_fits R test ms h = all_map (MessageFits R) (ready_if test) ms (λ m k. ready_one R m _ (test m.fate) refl refl k) h

-- those of a session have ended
pub ended_fits : (R : Sent → Type 0) (P : Subscription → Type 0) (b : Book) (session : ℕ) → BookFits R P b
    → BookFits R (λ s. P s × ((s.session == session) ≡ false)) (ended b session)
ended_fits R P b session h = record {
  living = ready_fits R (out_of session) b.living h.living;
  subscriptions =
      all_kept P (λ s. (s.session == session) ≡ false) _ b.subscriptions (λ s e. not_there (s.session == session) e)
      h.subscriptions;
  accepted = h.accepted;
}

module _ (R : Sent → Type 0) (P : Subscription → Type 0) where
  released_fits : (b : Book) (session : ℕ) (id : List ℕ) → BookFits R P b → BookFits R P (released b session id)
  released_fits b session id h = record {
    living = ready_fits R (out_to session id) b.living h.living;
    subscriptions = all_filter P _ b.subscriptions h.subscriptions;
    accepted = h.accepted;
  }

  below : (n : ℕ) → nat_lt n (2 ^ 64 - 1) ≡ true → n + 1 < 2 ^ 64
  below n e = let k : n < 2 ^ 64 - 1 = ltb-true n (2 ^ 64 - 1) e in omega (arith, k)

  put_last : (b : Book) (sent : Sent) (fault : QueueFault) (t : Bool) → nat_lt b.last (2 ^ 64 - 1) ≡ t → SentFits R sent
      → BookFits R P b
      → StepFits R P (cond t (Ok (with_message b sent)) (Err fault))
  put_last b sent fault true e s h = record {
    living = all_append (MessageFits R) b.living _ h.living (record { sent = s; number = below b.last e }, tt);
    subscriptions = h.subscriptions;
    accepted = all_append (AcceptedFits R) b.accepted _ h.accepted (s, tt);
  }
  put_last b sent fault false e s h = tt

  put_step : (r : Result Book QueueFault) (fault : QueueFault) (t : Bool) → StepFits R P r
      → StepFits R P (cond t r (Err fault))
  put_step r fault true h = h
  put_step r fault false h = tt

  put_fits : (full : ℕ) (b : Book) (sent : Sent) → SentFits R sent → BookFits R P b → StepFits R P (put_of full b sent)
  put_fits full b sent s h = put_step _ _ (nat_lt (count_by (is_for sent.destination) b.living) full)
      (put_last b sent _ (nat_lt b.last (2 ^ 64 - 1)) refl s h)

  acked_fits : (b : Book) (number : ℕ) (o : Option Subscription) → BookFits R P b → StepFits R P (acked b number o)
  acked_fits b number None h = tt
  acked_fits b number (Some s) h = record {
    living = all_filter (MessageFits R) _ b.living h.living;
    subscriptions = h.subscriptions;
    accepted = h.accepted;
  }

  nacked_fits : (b : Book) (number : ℕ) (o : Option Subscription) → BookFits R P b → StepFits R P (nacked b number o)
  nacked_fits b number None h = tt
  nacked_fits b number (Some s) h = record {
    living = ready_fits R _ b.living h.living;
    subscriptions = h.subscriptions;
    accepted = h.accepted;
  }

  ack_fits : (b : Book) (session number : ℕ) → BookFits R P b → StepFits R P (ack_of b session number)
  ack_fits b session number h = acked_fits b number (holder b session number) h

  nack_fits : (b : Book) (session number : ℕ) → BookFits R P b → StepFits R P (nack_of b session number)
  nack_fits b session number h = nacked_fits b number (holder b session number) h

  act_fits : (full session : ℕ) (b : Book) (a : Action) → ActionFits R a → BookFits R P b
      → StepFits R P (act_of full session b a)
  act_fits full session b (Put sent) s h = put_fits full b sent s h
  act_fits full session b (AckOf number) s h = ack_fits b session number h
  act_fits full session b (NackOf number) s h = nack_fits b session number h

  all_fit : (full session : ℕ) (actions : List Action) (r : Result Book QueueFault)
      → AllByRecursion (ActionFits R) actions
      → StepFits R P r
      → StepFits R P (then_all full session actions r)
  all_fit full session [] r s h = h
  all_fit full session (a ∷ actions) (Ok b) s h =
      all_fit full session actions (act_of full session b a) s.1 (act_fits full session b a s.0 h)
  all_fit full session (a ∷ actions) (Err fault) s h = tt

  -- ---- steps

  done_if : (t : Bool) (a b : Result Reach FrameRefusal) → DoneFits R P a → DoneFits R P b → DoneFits R P (cond t a b)
  done_if true a b h k = h
  done_if false a b h k = k

  open_if : (t : Bool) (a b : Result (List Transaction) TransactionFault) → OpenFit R a → OpenFit R b
      → OpenFit R (cond t a b)
  open_if true a b h k = h
  open_if false a b h k = k

  book_done : (r : Reach) (o : Result Book QueueFault) → StepFits R P o → ReachFits R P r → DoneFits R P (in_book r o)
  book_done r (Ok book) h k = record { book = h; transactions = k.transactions }
  book_done r (Err fault) h k = tt

  transactions_done : (r : Reach) (o : Result (List Transaction) TransactionFault) → OpenFit R o → ReachFits R P r
      → DoneFits R P (in_transactions r o)
  transactions_done r (Ok ts) h k = record { book = k.book; transactions = h }
  transactions_done r (Err fault) h k = tt

  -- ---- transactions

  add_step : (ts : List Transaction) (name : List ℕ) (a : Action) (o : Option (List Action)) → ActionFits R a
      → AllByRecursion (TransactionFits R) ts
      → OpenFit R (add_to ts name a o)
  add_step ts name a None g h = tt
  add_step ts name a (Some actions) g h = open_if (nat_lt (length actions) MAX_ACTIONS) _ _
      (all_changed (TransactionFits R) (is_transaction name) (with_action a) ts
      (λ t k. all_append (ActionFits R) t.actions (a ∷ []) k
      (g, tt)) h) tt

  kept_fits : (r : Reach) (name : List ℕ) (a : Action) → ActionFits R a → ReachFits R P r → DoneFits R P (kept r name a)
  kept_fits r name a g h =
      transactions_done r (add_of r.transactions name a) (add_step r.transactions name a
      (actions_of r.transactions name) g h.transactions) h

  begun_fits : (r : Reach) (name : List ℕ) → ReachFits R P r
      → DoneFits R P (in_transactions r (begin_of r.transactions name))
  begun_fits r name h = transactions_done r (begin_of r.transactions name)
      (open_if (is_open r.transactions name) _ _ tt (open_if (nat_lt (length r.transactions) MAX_TRANSACTIONS) _ _
      (all_append (TransactionFits R) r.transactions _ h.transactions (tt, tt)) tt)) h

  without_fits : (name : List ℕ) (r : Reach) → ReachFits R P r → DoneFits R P (without name r)
  without_fits name r h = transactions_done r (end_of r.transactions name)
      (open_if (is_open r.transactions name) _ _ (all_filter (TransactionFits R) _ r.transactions h.transactions) tt) h

  ending_fits : (name : List ℕ) (o : Result Reach FrameRefusal) → DoneFits R P o → DoneFits R P (ending name o)
  ending_fits name (Ok r) h = without_fits name r h
  ending_fits name (Err x) h = tt

  found_actions : (o : Option Transaction) (actions : List Action)
      → ((t : Transaction) → o ≡ Some t → TransactionFits R t)
      → actions_in o ≡ Some actions → AllByRecursion (ActionFits R) actions
  found_actions None actions h e = absurd cc
  found_actions (Some t) actions h e = let k : t.actions ≡ actions = cc in rw (← k) (h t refl)

  commit_fits : (full : ℕ) (r : Reach) (session : ℕ) (name : List ℕ) (o : Option (List Action))
      → actions_of r.transactions name ≡ o
      → ReachFits R P r
      → DoneFits R P (commit_done full r session name o)
  commit_fits full r session name None e h = tt
  commit_fits full r session name (Some actions) e h =
      let g = found_actions (find (is_transaction name) r.transactions) actions
      (λ t k. all_found (TransactionFits R) (is_transaction name) t r.transactions h.transactions k) e in
      ending_fits name (in_book r (apply_of full session r.book actions))
      (book_done r (apply_of full session r.book actions) (all_fit full session actions (Ok r.book) g h.book) h)

  -- ---- each request

  answer_now_fits : (by : Book → ℕ → ℕ → Result Book QueueFault) (r : Reach) (session : ℕ) (o : Option ℕ)
      → ((b : Book) (n : ℕ) → BookFits R P b → StepFits R P (by b session n)) → ReachFits R P r
      → DoneFits R P (answer_now by r session o)
  answer_now_fits by r session None g h = tt
  answer_now_fits by r session (Some n) g h = book_done r (by r.book session n) (g r.book n h.book) h

  answer_kept_fits : (action : ℕ → Action) (r : Reach) (name : List ℕ) (o : Option ℕ)
      → ((n : ℕ) → ActionFits R (action n))
      → ReachFits R P r
      → DoneFits R P (answer_kept action r name o)
  answer_kept_fits action r name None k h = tt
  answer_kept_fits action r name (Some n) k h = kept_fits r name (action n) (k n) h

  answer_fits : (by : Book → ℕ → ℕ → Result Book QueueFault) (action : ℕ → Action) (r : Reach) (session : ℕ)
      (o : Option ℕ)
      (t : Option (List ℕ)) → ((b : Book) (n : ℕ) → BookFits R P b → StepFits R P (by b session n)) → ((n : ℕ)
      → ActionFits R (action n)) → ReachFits R P r
      → DoneFits R P (answer_done by action r session o t)
  answer_fits by action r session o None g k h = answer_now_fits by r session o g h
  answer_fits by action r session o (Some name) g k h =
      done_if (is_open r.transactions name) _ _ (answer_kept_fits action r name (unanswered_number r.book session o) k
      h) tt

  send_fits : (full : ℕ) (r : Reach) (sent : Sent) (o : Option (List ℕ)) → SentFits R sent → ReachFits R P r
      → DoneFits R P (send_done full r sent o)
  send_fits full r sent None s h = book_done r (put_of full r.book sent) (put_fits full r.book sent s h.book) h
  send_fits full r sent (Some name) s h = kept_fits r name (Put sent) s h

  subscribe_fits : (r : Reach) (session : ℕ) (s : SubscribeParts) (o : Option Mode)
      → ((mode : Mode) → o ≡ Some mode
      → P (record { session = session; id = s.id; destination = s.destination; mode = mode }))
      → ReachFits R P r → DoneFits R P (subscribe_in r session s o)
  subscribe_fits r session s None g h = tt
  subscribe_fits r session s (Some mode) g h =
      done_if (has_named r.book session s.id) _ _ tt (done_if (nat_lt (subscription_count r.book session)
      MAX_SUBSCRIPTIONS) _ _
      (record {
        book = record {
          living = h.book.living;
          subscriptions =
              all_append P r.book.subscriptions _ h.book.subscriptions (g mode refl, tt);
          accepted = h.book.accepted;
        };
        transactions = h.transactions;
      }) tt)

  unsubscribe_fits : (r : Reach) (session : ℕ) (id : List ℕ) → ReachFits R P r
      → DoneFits R P (unsubscribe_done r session id)
  unsubscribe_fits r session id h = done_if (has_named r.book session id) _ _
      (record { book = released_fits r.book session id h.book; transactions = h.transactions }) tt

  pub performed_fits : (full session : ℕ) (r : Reach) (q : Request) → Brings R P session q → ReachFits R P r
      → DoneFits R P (performed full session r q)
  performed_fits full session r (Connect c) q h = h
  performed_fits full session r (Send s) q h =
      done_if (is_destination s.destination) _ _ (send_fits full r (sent_of s) s.transaction q h) tt
  performed_fits full session r (Subscribe s) q h =
      done_if (is_destination s.destination) _ _ (subscribe_fits r session s (mode_of (ack_mode s.ack)) q h) tt
  performed_fits full session r (Unsubscribe u) q h = unsubscribe_fits r session u.id h
  performed_fits full session r (Ack a) q h =
      answer_fits ack_of AckOf r session (number_of a.id) a.transaction (λ b n k. ack_fits b session n k) (λ n. tt) h
  performed_fits full session r (Nack a) q h =
      answer_fits nack_of NackOf r session (number_of a.id) a.transaction (λ b n k. nack_fits b session n k) (λ n. tt) h
  performed_fits full session r (Begin d) q h = begun_fits r d.transaction h
  performed_fits full session r (Commit d) q h =
      commit_fits full r session d.transaction (actions_of r.transactions d.transaction) refl h
  performed_fits full session r (Abort d) q h = without_fits d.transaction r h
  performed_fits full session r (Disconnect d) q h = h
