-- A client that writes to a broker and reads what that writes, until it disconnects.
use Rattle.std.specs.Prelude.{◌≡◌, ℕ, ◌+◌, ◌-◌, ◌^◌, ◌<◌, List, [], ◌∷◌, ◌++◌, codes, None, Result, IsOk}
use Rattle.receipts.specs.Books.{ReceiptBook, new_book, opened}
use Rattle.stomp_frame.specs.Decoding.{Held}
use Rattle.stomp_frame.specs.Frames.{Content, value_of}
use Rattle.stomp_client.specs.Accepting.{Accepts}
use Rattle.stomp_client.specs.Clients.{Client}
use Rattle.stomp_client.specs.Frames.{connect_frame, with_receipt}
use Rattle.stomp_client.specs.Served.{IsClients, IsTakeable}
use Rattle.stomp_client.specs.declared.event.ClientEvent.{ClientEvent}
use Rattle.stomp_client.specs.declared.fault.ClientFault.{ClientFault}
use Rattle.stomp_client.specs.declared.session.Stage.{Stage}
use Rattle.stomp_client.specs.declared.session.Stage.TheVariants.{Connecting}
use Rattle.broker_core.specs.Calls.{empty}
use Rattle.broker_core.specs.Serving.{Server}
use Rattle.laws_broker.specs.Carried.{IsFed}
use Rattle.laws_broker.specs.Conversations.{Comes}
use Rattle.laws_broker.specs.Lives.{BrokerCall, Lives, account}

-- what a client read so far was written by a broker that was fed what it wrote so far
pub record IsServed (wrote read : List Content) : Type 0 where
  pub full : ℕ
  pub calls : List BrokerCall
  pub broker : Server
  pub number : ℕ
  pub waiting : List ℕ
  pub carried : List ℕ
  pub held : Held
  pub lives : Lives full empty calls broker
  pub fed : IsFed calls number wrote
  pub comes : Comes (account number calls) waiting carried read held

-- What a client wrote and read from its CONNECT on, its receipts, and its stage: it writes a frame that asks for no
-- receipt; it writes a SEND with the next receipt number; or it is asked about a frame that it reads.
pub data Went (T : Type 0) : (wrote read : List Content) → (book : ReceiptBook T) → (stage : Stage) → Type 0 where
  connects : Went T (connect_frame ∷ []) [] new_book Connecting
  writes : (wrote read : List Content) (book : ReceiptBook T) (stage : Stage) (f : Content)
      → Went T wrote read book stage → IsClients f
      → value_of (codes "receipt") f.headers ≡ None → Went T (wrote ++ f ∷ []) read book stage
  sends : (wrote read : List Content) (book : ReceiptBook T) (stage : Stage) (message : Content) (tag : T)
      → Went T wrote read book stage
      → IsTakeable message → book.last < 2 ^ 64 - 1
      → Went T (wrote ++ with_receipt (book.last + 1) message ∷ []) read (opened tag book) stage
  reads : (wrote read : List Content) (book : ReceiptBook T) (stage : Stage) (f : Content) (old new : Client T)
      (answer : Result (ClientEvent T) ClientFault) → Went T wrote read book stage → IsServed wrote (read ++ f ∷ [])
      → old.receipts ≡ book
      → old.stage ≡ stage → Accepts f old new answer → Went T wrote (read ++ f ∷ []) new.receipts new.stage

-- It accepts each frame that it reads, as an event.
abbrev pub NothingIsRefused : Type 0 → Type 0
NothingIsRefused T =
    (wrote read : List Content) (book : ReceiptBook T) (stage : Stage) (f : Content) (old new : Client T)
    (answer : Result (ClientEvent T) ClientFault) → Went T wrote read book stage → IsServed wrote (read ++ f ∷ [])
    → old.receipts ≡ book
    → old.stage ≡ stage → Accepts f old new answer → IsOk answer
