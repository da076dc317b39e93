-- The step of a frame is a run of the book.
use Rattle.std.proofs.Common.{◌≡◌, ℕ, Bool, true, false, cond, List, [], ◌∷◌, ◌++◌, Option, Some, None, Result, Ok, Err}
use Rattle.std.proofs.Common.{refl, ap, ◌∙◌, ◌+◌, ◌≤◌, subst, arith, not, map}
use Rattle.std.specs.Prelude.{count_by, filter}
use Rattle.std.proofs.lemmas.Grind.{flat_map-append}
use Rattle.text.specs.Numerals.{number_of}
use Rattle.stomp_session.specs.Requests.{ack_mode}
use Rattle.stomp_session.specs.declared.request.Request.{Request}
use Rattle.stomp_session.specs.declared.request.Request.TheVariants.{Connect, Send, Subscribe, Unsubscribe, Ack, Nack}
use Rattle.stomp_session.specs.declared.request.Request.TheVariants.{Begin, Commit}
use Rattle.stomp_session.specs.declared.request.Request.TheVariants.{Abort, Disconnect}
use Rattle.stomp_session.specs.declared.request.Subscribe.{Subscribe as SubscribeParts}
use Rattle.std.specs.List.{list_any}
use Rattle.broker_book.specs.Books.{Book, is_named}
use Rattle.broker_book.specs.Runs.{BookEvent, Puts, Acks, Nacks, Subscribes, Releases, Ends, BookStep, taken_by}
use Rattle.broker_book.specs.Runs.{taken_in, numbers_covered, ShowAs}
use Rattle.broker_book.specs.Steps.{Handed, apply_of, ended, holder, put_of, ack_of, nack_of, subscribed}
use Rattle.broker_book.specs.declared.fault.QueueFault.{QueueFault}
use Rattle.broker_book.specs.declared.parts.Accepted.{Accepted}
use Rattle.broker_book.specs.declared.parts.Action.{Action}
use Rattle.broker_book.specs.declared.parts.Action.TheVariants.{Put, Ack as AckOf, Nack as NackOf}
use Rattle.broker_book.specs.declared.parts.Mode.{Mode}
use Rattle.broker_book.specs.declared.parts.Sent.{Sent}
use Rattle.broker_book.specs.declared.parts.Subscription.{Subscription}
use Rattle.broker_book.proofs.Acted.{actions_run, runs_join}
use Rattle.broker_book.proofs.Counts.{count-map}
use Rattle.broker_tx.specs.First.{first_changed}
use Rattle.broker_tx.specs.Transactions.{Transaction, is_open, actions_of, add_of, add_to, begin_of, end_of}
use Rattle.broker_tx.specs.Transactions.{is_transaction, with_action}
use Rattle.broker_tx.specs.declared.fault.TransactionFault.{TransactionFault}
use Rattle.broker_tx.specs.declared.fault.TransactionFault.TheVariants.{TransactionExists as IsOpen}
use Rattle.broker_tx.specs.declared.fault.TransactionFault.TheVariants.{NoTransaction as IsClosed}
use Rattle.broker_tx.specs.declared.fault.TransactionFault.TheVariants.{TooMany as IsLimit}
use Rattle.broker_core.specs.Performing.{Reach, performed, in_book, in_transactions, send_done, sent_of, subscribe_in}
use Rattle.broker_core.specs.Performing.{has_named}
use Rattle.broker_core.specs.Performing.{answer_done, answer_kept, commit_done, ending}
use Rattle.broker_core.specs.Serving.{Decided, Part, served, finished, confirmed, closing_if, is_last, reached}
use Rattle.broker_core.specs.Words.{is_destination, mode_of}
use Rattle.broker_core.specs.declared.fault.FrameRefusal.{FrameRefusal}
use Rattle.broker_core.specs.declared.fault.FrameRefusal.TheVariants.{NoTransaction, SubscriptionExists, TooMany}
use Rattle.laws_broker.specs.Deeds.{BrokerDeed, Brings, Acknowledges, Returns, answering, asked_of, done_in}
use Rattle.laws_broker.specs.Runs.{Runs, hands_by, hands_in}
use Rattle.laws_broker.proofs.Weights.{weight, deed_of, done_append, changed_weight, begun_weight, filter_weight}
use Rattle.laws_broker.proofs.Weights.{ended_weight}

-- ---- runs

-- nothing has happened
abbrev pub stays : (old new : Book) → new ≡ old → Runs old [] [] new
stays old new e = record { events = []; run = e; told = refl; handed = refl }

-- one event, which takes nothing and hands nothing out
abbrev pub one : (old new : Book) (e : BookEvent) → BookStep old e new → taken_by e ≡ [] → hands_by e ≡ []
    → Runs old [] [] new
one old new e h t k = record { events = e ∷ []; run = (new, h, refl); told = rw t refl; handed = rw k refl }

-- a run, and one behind it
abbrev pub joined : (old mid new : Book) (t u : List Accepted) (d g : List Handed) → Runs old t d mid → Runs mid u g new
    → Runs old (t ++ u) (d ++ g) new
joined old mid new t u d g h k = record {
  events = h.events ++ k.events;
  run = runs_join old mid new h.events k.events h.run k.run;
  told = flat_map-append taken_by h.events k.events ∙ ap (λ l. l ++ taken_in k.events) h.told ∙ ap (λ l. t ++ l) k.told;
  handed = flat_map-append hands_by h.events k.events ∙ ap (λ l. l ++ hands_in k.events) h.handed
      ∙ ap (λ l. d ++ l) k.handed;
}

-- ---- a request

-- A session's request was done by a run of the book: with what its transactions keep then, no more was done than they
-- kept before and it asks for.
pub record Pays (session : ℕ) (old : Book) (before : List Transaction) (asked : List BrokerDeed) (new : Book)
    (after : List Transaction)
    : Type 0 where
  pub runs : Runs old [] [] new
  pub owed : (p : BrokerDeed → Bool)
      → count_by p (done_in runs.events) + weight p session after ≤ weight p session before + count_by p asked

-- so it is where it wasn't refused
abbrev PaysWhereDone : ℕ → Reach → List BrokerDeed → Result Reach FrameRefusal → Type 0
PaysWhereDone session old asked (Ok r) = Pays session old.book old.transactions asked r.book r.transactions
PaysWhereDone session old asked (Err refusal) = Unit {0}

either : (session : ℕ) (old : Reach) (asked : List BrokerDeed) (b : Bool) (x y : Result Reach FrameRefusal)
    → PaysWhereDone session old asked x
    → PaysWhereDone session old asked y → PaysWhereDone session old asked (cond b x y)
either session old asked true x y h k = h
either session old asked false x y h k = k

-- nothing has changed
pays_none : (session : ℕ) (b : Book) (ts : List Transaction) (asked : List BrokerDeed) → Pays session b ts asked b ts
pays_none session b ts asked = record { runs = stays b b refl; owed = λ p. omega arith }

-- one event that does no more than is asked for
pays_one : (session : ℕ) (old new : Book) (ts : List Transaction) (asked : List BrokerDeed) (e : BookEvent)
    → BookStep old e new
    → taken_by e ≡ []
    → hands_by e ≡ [] → ((p : BrokerDeed → Bool) → count_by p (done_in (e ∷ [])) ≤ count_by p asked)
    → Pays session old ts asked new ts
pays_one session old new ts asked e h t k less =
    record { runs = one old new e h t k; owed = λ p. let l = less p in omega arith }

book_leads : (session : ℕ) (r : Reach) (asked : List BrokerDeed) (q : Result Book QueueFault)
    → ((new : Book) → q ≡ Ok new → Pays session r.book r.transactions asked new r.transactions)
    → PaysWhereDone session r asked (in_book r q)
book_leads session r asked (Ok b) h = h b refl
book_leads session r asked (Err fault) h = tt

-- the transactions alone change
kept_leads : (session : ℕ) (r : Reach) (asked : List BrokerDeed) (q : Result (List Transaction) TransactionFault)
    → ((ts : List Transaction) → q ≡ Ok ts → (p : BrokerDeed → Bool)
    → weight p session ts ≤ weight p session r.transactions + count_by p asked)
    → PaysWhereDone session r asked (in_transactions r q)
kept_leads session r asked (Ok ts) h =
    record { runs = stays r.book r.book refl; owed = λ p. let l = h ts refl p in omega arith }
kept_leads session r asked (Err fault) h = tt

-- ---- transactions

room_is : (room : Bool) (x ts : List Transaction)
    → ◌≡◌ {A = Result (List Transaction) TransactionFault} (cond room (Ok x) (Err IsLimit)) (Ok ts) → ts ≡ x
room_is true x ts e = cc
room_is false x ts e = absurd cc

add_weight : (p : BrokerDeed → Bool) (session : ℕ) (name : List ℕ) (action : Action) (before ts : List Transaction)
    (o : Option (List Action))
    → add_to before name action o ≡ Ok ts
    → weight p session ts ≤ weight p session before + count_by p (deed_of session action ∷ [])
add_weight p session name action before ts None e = absurd cc
add_weight p session name action before ts (Some actions) e =
    let k = room_is _ (first_changed (is_transaction name) (with_action action) before) ts e in
    rw k (changed_weight p session (is_transaction name) action before)

-- an action is kept
adds : (session : ℕ) (r : Reach) (name : List ℕ) (action : Action)
    → PaysWhereDone session r (deed_of session action ∷ []) (in_transactions r (add_of r.transactions name action))
adds session r name action =
    kept_leads session r (deed_of session action ∷ []) (add_of r.transactions name action)
    (λ ts e p. add_weight p session name action r.transactions ts (actions_of r.transactions name) e)

begin_is : (taken room : Bool) (x ts : List Transaction)
    → ◌≡◌ {A = Result (List Transaction) TransactionFault} (cond taken (Err IsOpen) (cond room (Ok x) (Err IsLimit)))
    (Ok ts) → ts ≡ x
begin_is true room x ts e = absurd cc
begin_is false room x ts e = room_is room x ts e

begins_kept : (session : ℕ) (r : Reach) (name : List ℕ)
    → PaysWhereDone session r [] (in_transactions r (begin_of r.transactions name))
begins_kept session r name =
    kept_leads session r [] (begin_of r.transactions name) (λ ts e p.
    let k = begin_is _ _ (r.transactions ++ record { name = name; actions = [] } ∷ []) ts e in
    rw k (let w = begun_weight p session r.transactions name in omega (arith, w)))

end_is : (there : Bool) (x ts : List Transaction)
    → ◌≡◌ {A = Result (List Transaction) TransactionFault} (cond there (Ok x) (Err IsClosed)) (Ok ts) → ts ≡ x
end_is true x ts e = cc
end_is false x ts e = absurd cc

-- the transactions but for that of a name
abbrev but : List ℕ → List Transaction → List Transaction
but name ts = filter (λ t. not (is_transaction name t)) ts

ends_kept : (session : ℕ) (r : Reach) (name : List ℕ)
    → PaysWhereDone session r [] (in_transactions r (end_of r.transactions name))
ends_kept session r name =
    kept_leads session r [] (end_of r.transactions name) (λ ts e p.
    let k = end_is _ (but name r.transactions) ts e in
    rw k (let w = filter_weight p session (λ t. not (is_transaction name t)) r.transactions in omega (arith, w)))

-- ---- SEND and SUBSCRIBE

put_leads : (full session : ℕ) (r : Reach) (sent : Sent) (name : Option (List ℕ))
    → PaysWhereDone session r (Brings sent ∷ []) (send_done full r sent name)
put_leads full session r sent None = book_leads session r (Brings sent ∷ []) (put_of full r.book sent)
    (λ new e. pays_one session r.book new r.transactions (Brings sent ∷ []) (Puts full sent) e refl refl
    (λ p. omega arith))
put_leads full session r sent (Some name) = adds session r name (Put sent)

-- a subscription begins only where its name is free
begins : (session : ℕ) (r : Reach) (s : Subscription) (taken room : Bool)
    → list_any (is_named s.session s.id) r.book.subscriptions ≡ taken
    → PaysWhereDone session r [] (cond taken (Err SubscriptionExists)
    (cond room (Ok (record r { book = subscribed r.book s }))
    (Err TooMany)))
begins session r s true room e = tt
begins session r s false true e =
    pays_one session r.book (subscribed r.book s) r.transactions [] (Subscribes s) (e, refl) refl refl
    (λ p. omega arith)
begins session r s false false e = tt

subscribe_leads : (r : Reach) (session : ℕ) (s : SubscribeParts) (mode : Option Mode)
    → PaysWhereDone session r [] (subscribe_in r session s mode)
subscribe_leads r session s None = tt
subscribe_leads r session s (Some mode) =
    begins session r (record { session = session; id = s.id; destination = s.destination; mode = mode }) _ _ refl

-- ---- ACK and NACK

-- an answer to an unanswered delivery is kept
answer_keeps : (deed : ℕ → BrokerDeed) (action : ℕ → Action) (r : Reach) (session : ℕ) (name : List ℕ) (k : ℕ)
    (there : Bool)
    → deed_of session (action k) ≡ deed k
    → PaysWhereDone session r (deed k ∷ []) (answer_kept action r name (cond there (Some k) None))
answer_keeps deed action r session name k true e =
    subst (λ d. PaysWhereDone session r (d ∷ []) (in_transactions r (add_of r.transactions name (action k)))) e
    (adds session r name (action k))
answer_keeps deed action r session name k false e = tt

answered : (by : Book → ℕ → ℕ → Result Book QueueFault) (deed : ℕ → BrokerDeed) (action : ℕ → Action) (r : Reach)
    (session : ℕ)
    → ((k : ℕ) → deed_of session (action k) ≡ deed k)
    → ((k : ℕ) (new : Book) → by r.book session k ≡ Ok new
    → Pays session r.book r.transactions (deed k ∷ []) new r.transactions)
    → (number : Option ℕ) (name : Option (List ℕ))
    → PaysWhereDone session r (answering deed number) (answer_done by action r session number name)
answered by deed action r session e h None None = tt
answered by deed action r session e h (Some k) None = book_leads session r (deed k ∷ []) (by r.book session k) (h k)
answered by deed action r session e h None (Some name) =
    either session r [] (is_open r.transactions name) _ (Err NoTransaction) tt tt
answered by deed action r session e h (Some k) (Some name) =
    either session r (deed k ∷ []) (is_open r.transactions name) _ (Err NoTransaction)
    (answer_keeps deed action r session name k _ (e k)) tt

-- ---- COMMIT

-- events take nothing, hand nothing out, and do what these actions do
pub record IsQuiet (session : ℕ) (actions : List Action) (events : List BookEvent) : Type 0 where
  pub told : taken_in events ≡ []
  pub handed : hands_in events ≡ []
  pub done : done_in events ≡ map (deed_of session) actions

quiet : (full session : ℕ) (actions : List Action) (events : List BookEvent) → ShowAs full session actions events
    → IsQuiet session actions events
quiet full session [] events h = rw h (record { told = refl; handed = refl; done = refl })
quiet full session (Put sent ∷ actions) events h =
    let k = quiet full session actions h.1 h.4 in
    rw (h.2, h.3) (record { told = k.told; handed = k.handed; done = ap (λ l. Brings sent ∷ l) k.done })
quiet full session (AckOf n ∷ actions) events h =
    let k = quiet full session actions h.1 h.4 in
    rw (h.2, h.3.1) (record { told = k.told; handed = k.handed; done = ap (λ l. Acknowledges session n ∷ l) k.done })
quiet full session (NackOf n ∷ actions) events h =
    let k = quiet full session actions h.1 h.4 in
    rw (h.2, h.3) (record { told = k.told; handed = k.handed; done = ap (λ l. Returns session n ∷ l) k.done })

-- a transaction's actions were done, and it ends
carried_out : (full session : ℕ) (name : List ℕ) (r : Reach) (new : Book) (actions : List Action)
    → actions_of r.transactions name ≡ Some actions → apply_of full session r.book actions ≡ Ok new
    → Pays session r.book r.transactions [] new (but name r.transactions)
carried_out full session name r new actions found e =
    let k = actions_run full session r.book new actions e in
    let q = quiet full session actions k.0 k.1 in
    record {
      runs = record { events = k.0; run = k.2; told = q.told; handed = q.handed };
      owed = λ p.
          let done : count_by p (done_in k.0) ≡ count_by (λ a. p (deed_of session a)) actions
          = ap (count_by p) q.done ∙ count-map p (deed_of session) actions in
          let w = ended_weight p session name r.transactions actions found in
          omega (arith, done, w);
    }

-- it is there, so it ends
ends_by : (session : ℕ) (r : Reach) (b : Book) (name : List ℕ) (there : Bool)
    → Pays session r.book r.transactions [] b (but name r.transactions)
    → PaysWhereDone session r [] (in_transactions (record r { book = b }) (cond there (Ok (but name r.transactions))
    (Err IsClosed)))
ends_by session r b name true h = h
ends_by session r b name false h = tt

commits : (full : ℕ) (r : Reach) (session : ℕ) (name : List ℕ) (actions : List Action) (q : Result Book QueueFault)
    → actions_of r.transactions name ≡ Some actions → apply_of full session r.book actions ≡ q
    → PaysWhereDone session r [] (ending name (in_book r q))
commits full r session name actions (Err fault) found e = tt
commits full r session name actions (Ok new) found e =
    ends_by session r new name (is_open r.transactions name) (carried_out full session name r new actions found e)

commit_leads : (full : ℕ) (r : Reach) (session : ℕ) (name : List ℕ) (o : Option (List Action))
    → actions_of r.transactions name ≡ o
    → PaysWhereDone session r [] (commit_done full r session name o)
commit_leads full r session name None found = tt
commit_leads full r session name (Some actions) found =
    commits full r session name actions (apply_of full session r.book actions) found refl

-- ---- each request

performed_leads : (full session : ℕ) (r : Reach) (request : Request)
    → PaysWhereDone session r (asked_of session (Ok request)) (performed full session r request)
performed_leads full session r (Connect c) = pays_none session r.book r.transactions []
performed_leads full session r (Send s) =
    either session r (Brings (sent_of s) ∷ []) (is_destination s.destination) _ _
    (put_leads full session r (sent_of s) s.transaction) tt
performed_leads full session r (Subscribe s) =
    either session r [] (is_destination s.destination) _ _ (subscribe_leads r session s (mode_of (ack_mode s.ack))) tt
performed_leads full session r (Unsubscribe u) =
    either session r [] (has_named r.book session u.id) _ _
    (pays_one session r.book _ r.transactions [] (Releases session u.id) refl refl refl (λ p. omega arith)) tt
performed_leads full session r (Ack a) =
    answered ack_of (Acknowledges session) AckOf r session (λ k. refl) (λ k new e.
    pays_one session r.book new r.transactions (Acknowledges session k ∷ [])
    (Acks session k (numbers_covered r.book k (holder r.book session k))) (e, refl) refl refl (λ p. omega arith))
    (number_of a.id) a.transaction
performed_leads full session r (Nack a) =
    answered nack_of (Returns session) NackOf r session (λ k. refl) (λ k new e.
    pays_one session r.book new r.transactions (Returns session k ∷ []) (Nacks session k) e refl refl
    (λ p. omega arith))
    (number_of a.id) a.transaction
performed_leads full session r (Begin d) = begins_kept session r d.transaction
performed_leads full session r (Commit d) =
    commit_leads full r session d.transaction (actions_of r.transactions d.transaction) refl
performed_leads full session r (Abort d) = ends_kept session r d.transaction
performed_leads full session r (Disconnect d) = pays_none session r.book r.transactions []

-- ---- a step

-- the same of a session with the book
abbrev pub PaysAt : ℕ → Part → List BrokerDeed → Part → Type 0
PaysAt n old asked new = Pays n old.book old.session.transactions asked new.book new.session.transactions

-- all subscriptions of a session end
abbrev pub ends : (b : Book) (n : ℕ) → Runs b [] [] (ended b n)
ends b n = one b (ended b n) (Ends n) refl refl refl

-- a session ends with its transactions
pub pays_end : (n k : ℕ) (b : Book) (ts : List Transaction) (asked : List BrokerDeed) → Pays n b ts asked (ended b k) []
pays_end n k b ts asked = record { runs = ends b k; owed = λ p. omega arith }

closes : (n : ℕ) (last : Bool) (old p : Part) (asked : List BrokerDeed) → PaysAt n old asked p
    → PaysAt n old asked (closing_if last p)
closes n true old p asked h = record {
  runs = joined old.book p.book (ended p.book p.session.number) [] [] [] [] h.runs (ends p.book p.session.number);
  owed = λ q.
      let done = done_append q h.runs.events (Ends p.session.number ∷ []) in
      let before = h.owed q in
      omega (arith, done, before);
}
closes n false old p asked h = h

finishes : (n : ℕ) (request : Request) (p : Part) (asked : List BrokerDeed) (r : Result Reach FrameRefusal)
    → PaysWhereDone n (reached p) asked r
    → PaysAt n p asked (finished request p r)
finishes n request p asked (Ok r) h = closes n (is_last request) p (confirmed request p r) asked h
finishes n request p asked (Err refusal) h = pays_end n p.session.number p.book p.session.transactions asked

pub serves : (full : ℕ) (d : Decided) (p : Part)
    → PaysAt p.session.number p (asked_of p.session.number d) (served full d p)
serves full (Ok request) p =
    finishes p.session.number request p (asked_of p.session.number (Ok request))
    (performed full p.session.number (reached p) request)
    (performed_leads full p.session.number (reached p) request)
serves full (Err r) p =
    pays_end p.session.number p.session.number p.book p.session.transactions (asked_of p.session.number (Err r))
