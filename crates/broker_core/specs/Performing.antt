-- What a request does to the book and to the transactions of its session.
use Rattle.std.specs.Prelude.{ℕ, Bool, ◌==◌, if◌then◌else◌, nat_lt, is_some, List, count_by, Option, Some, None}
use Rattle.std.specs.Prelude.{Result, Ok, Err}
use Rattle.std.specs.List.{list_any}
use Rattle.base.specs.declared.limits.TheConstants.{MAX_SUBSCRIPTIONS}
use Rattle.text.specs.Numerals.{number_of}
use Rattle.stomp_session.specs.Requests.{ack_mode}
use Rattle.stomp_session.specs.declared.request.Request.{Request}
use Rattle.stomp_session.specs.declared.request.Request.TheVariants.{Connect, Send, Subscribe, Unsubscribe, Ack, Nack}
use Rattle.stomp_session.specs.declared.request.Request.TheVariants.{Begin, Commit}
use Rattle.stomp_session.specs.declared.request.Request.TheVariants.{Abort, Disconnect}
use Rattle.stomp_session.specs.declared.request.Send.{Send as SendParts}
use Rattle.stomp_session.specs.declared.request.Subscribe.{Subscribe as SubscribeParts}
use Rattle.broker_book.specs.Books.{Book, is_named}
use Rattle.broker_book.specs.Steps.{put_of, ack_of, nack_of, apply_of, subscribed, released, holder}
use Rattle.broker_book.specs.declared.fault.QueueFault.{QueueFault}
use Rattle.broker_book.specs.declared.fault.QueueFault.TheVariants.{Memory as NoRoom, NoSuchAck as UnknownAck}
use Rattle.broker_book.specs.declared.fault.QueueFault.TheVariants.{QueueFull as IsFull}
use Rattle.broker_book.specs.declared.fault.QueueFault.TheVariants.{TooMany as NoNumber}
use Rattle.broker_book.specs.declared.parts.Sent.{Sent}
use Rattle.broker_book.specs.declared.parts.Action.{Action}
use Rattle.broker_book.specs.declared.parts.Action.TheVariants.{Put, Ack as AckOf, Nack as NackOf}
use Rattle.broker_book.specs.declared.parts.Mode.{Mode}
use Rattle.broker_tx.specs.Transactions.{Transaction, is_open, actions_of, begin_of, add_of, end_of}
use Rattle.broker_tx.specs.declared.fault.TransactionFault.{TransactionFault}
use Rattle.broker_tx.specs.declared.fault.TransactionFault.TheVariants.{TransactionExists as IsOpen}
use Rattle.broker_tx.specs.declared.fault.TransactionFault.TheVariants.{NoTransaction as IsClosed}
use Rattle.broker_tx.specs.declared.fault.TransactionFault.TheVariants.{Memory as NoSpace, TooMany as IsLimit}
use Rattle.broker_core.specs.Words.{is_destination, mode_of}
use Rattle.broker_core.specs.declared.fault.FrameRefusal.{FrameRefusal}
use Rattle.broker_core.specs.declared.fault.FrameRefusal.TheVariants.{BadDestination, SubscriptionExists}
use Rattle.broker_core.specs.declared.fault.FrameRefusal.TheVariants.{NoSubscription, BadAckMode}
use Rattle.broker_core.specs.declared.fault.FrameRefusal.TheVariants.{TransactionExists, NoTransaction, NoSuchAck}
use Rattle.broker_core.specs.declared.fault.FrameRefusal.TheVariants.{QueueFull, TooMany}

-- what a request may change
pub record Reach : Type 0 where
  pub book : Book
  pub transactions : List Transaction

-- the same of these two
abbrev pub reach : Book → List Transaction → Reach
reach book transactions = record { book = book; transactions = transactions }

-- ---- steps of the book, and of the transactions

-- the refusal that a fault of the queues is; want of memory is none
abbrev pub queue_refusal : QueueFault → FrameRefusal
queue_refusal UnknownAck = NoSuchAck
queue_refusal IsFull = QueueFull
queue_refusal NoNumber = TooMany
queue_refusal NoRoom = TooMany

-- the refusal that a fault of the transactions is; want of memory is none
abbrev pub transaction_refusal : TransactionFault → FrameRefusal
transaction_refusal IsOpen = TransactionExists
transaction_refusal IsClosed = NoTransaction
transaction_refusal IsLimit = TooMany
transaction_refusal NoSpace = TooMany

-- a step of the book
abbrev pub in_book : Reach → Result Book QueueFault → Result Reach FrameRefusal
in_book r (Ok book) = Ok (record r { book = book })
in_book r (Err fault) = Err (queue_refusal fault)

-- a step of the transactions
abbrev pub in_transactions : Reach → Result (List Transaction) TransactionFault → Result Reach FrameRefusal
in_transactions r (Ok transactions) = Ok (record r { transactions = transactions })
in_transactions r (Err fault) = Err (transaction_refusal fault)

-- an action is kept for the COMMIT
abbrev pub kept : Reach → List ℕ → Action → Result Reach FrameRefusal
kept r name action = in_transactions r (add_of r.transactions name action)

-- ---- SEND

-- what a SEND brings
abbrev pub sent_of : SendParts → Sent
sent_of s = record { destination = s.destination; headers = s.headers; body = s.body }

-- a SEND, outside a transaction and in one
abbrev pub send_done : ℕ → Reach → Sent → Option (List ℕ) → Result Reach FrameRefusal
send_done full r sent None = in_book r (put_of full r.book sent)
send_done full r sent (Some name) = kept r name (Put sent)

-- ---- SUBSCRIBE and UNSUBSCRIBE

-- whether a session has a subscription of this name
abbrev pub has_named : Book → ℕ → List ℕ → Bool
has_named b session id = list_any (is_named session id) b.subscriptions

-- the subscriptions of a session
abbrev pub subscription_count : Book → ℕ → ℕ
subscription_count b session = count_by (λ s. s.session == session) b.subscriptions

-- a subscription in this mode, if it is one
abbrev pub subscribe_in : Reach → ℕ → SubscribeParts → Option Mode → Result Reach FrameRefusal
subscribe_in r session s None = Err BadAckMode
subscribe_in r session s (Some mode) =
    if has_named r.book session s.id then Err SubscriptionExists
    else if nat_lt (subscription_count r.book session) MAX_SUBSCRIPTIONS
    then Ok (record r {
      book = subscribed r.book (record {
        session = session;
        id = s.id;
        destination = s.destination;
        mode = mode;
      });
    })
    else Err TooMany

-- a subscription ends
abbrev pub unsubscribe_done : Reach → ℕ → List ℕ → Result Reach FrameRefusal
unsubscribe_done r session id =
    if has_named r.book session id then Ok (record r { book = released r.book session id }) else Err NoSubscription

-- ---- ACK and NACK

-- an answer, by what it does to a book, to the delivery of a number
abbrev pub answer_now : (Book → ℕ → ℕ → Result Book QueueFault) → Reach → ℕ → Option ℕ → Result Reach FrameRefusal
answer_now by r session None = Err NoSuchAck
answer_now by r session (Some number) = in_book r (by r.book session number)

-- the number of a delivery that is unanswered
abbrev pub unanswered_number : Book → ℕ → Option ℕ → Option ℕ
unanswered_number b session None = None
unanswered_number b session (Some number) = if is_some (holder b session number) then Some number else None

-- an answer that is kept for the COMMIT
abbrev pub answer_kept : (ℕ → Action) → Reach → List ℕ → Option ℕ → Result Reach FrameRefusal
answer_kept action r name None = Err NoSuchAck
answer_kept action r name (Some number) = kept r name (action number)

-- an answer, outside a transaction and in one
abbrev pub answer_done : (Book → ℕ → ℕ → Result Book QueueFault) → (ℕ → Action) → Reach → ℕ → Option ℕ → Option (List ℕ)
    → Result Reach FrameRefusal
answer_done by action r session number None = answer_now by r session number
answer_done by action r session number (Some name) =
    if is_open r.transactions name then answer_kept action r name (unanswered_number r.book session number)
    else Err NoTransaction

-- ---- BEGIN, COMMIT and ABORT

-- a transaction ends
abbrev pub without : List ℕ → Reach → Result Reach FrameRefusal
without name r = in_transactions r (end_of r.transactions name)

-- it ends after its actions, if they were carried out
abbrev pub ending : List ℕ → Result Reach FrameRefusal → Result Reach FrameRefusal
ending name (Ok r) = without name r
ending name (Err refusal) = Err refusal

-- a transaction that keeps these actions, if there is one, is carried out: all of them, or none
abbrev pub commit_done : ℕ → Reach → ℕ → List ℕ → Option (List Action) → Result Reach FrameRefusal
commit_done full r session name None = Err NoTransaction
commit_done full r session name (Some actions) = ending name (in_book r (apply_of full session r.book actions))

-- ---- each request

-- what a request of a session makes of what it reaches, or why it is refused
abbrev pub performed : ℕ → ℕ → Reach → Request → Result Reach FrameRefusal
performed full session r (Connect c) = Ok r
performed full session r (Send s) =
    if is_destination s.destination then send_done full r (sent_of s) s.transaction else Err BadDestination
performed full session r (Subscribe s) =
    if is_destination s.destination then subscribe_in r session s (mode_of (ack_mode s.ack)) else Err BadDestination
performed full session r (Unsubscribe u) = unsubscribe_done r session u.id
performed full session r (Ack a) = answer_done ack_of AckOf r session (number_of a.id) a.transaction
performed full session r (Nack a) = answer_done nack_of NackOf r session (number_of a.id) a.transaction
performed full session r (Begin d) = in_transactions r (begin_of r.transactions d.transaction)
performed full session r (Commit d) = commit_done full r session d.transaction (actions_of r.transactions d.transaction)
performed full session r (Abort d) = without d.transaction r
performed full session r (Disconnect d) = Ok r
