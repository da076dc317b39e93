-- A client's session, as contracts see it.
use Rattle.std.specs.Prelude.{ℕ, ◌+◌, List, [], ◌++◌, drop}
use Rattle.receipts.specs.Books.{ReceiptBook, new_book, opened, closed}
use Rattle.stomp_frame.specs.declared.command.Command.TheVariants.{Begin}
use Rattle.stomp_frame.specs.Frames.{Content, canonical}
use Rattle.stomp_client.specs.declared.session.Stage.{Stage}
use Rattle.stomp_client.specs.declared.session.Stage.TheVariants.{Fresh, Connecting, Connected, Closed}
use Rattle.stomp_client.specs.Frames.{connect_frame, transaction_frame, with_receipt}

-- how far it is, the octets still to be sent, its receipts, and the last number of a transaction
pub record Client (T : Type 0) : Type 0 where
  pub stage : Stage
  pub out : List ℕ
  pub receipts : ReceiptBook T
  pub transactions : ℕ

-- a client, and how many more octets can be appended without memory
pub record ClientWithRoom (T : Type 0) : Type 0 where
  pub client : Client T
  pub room : ℕ

module _ {T : Type 0} where
  -- nothing was written
  abbrev pub new_client : Client T
  new_client = record { stage = Fresh; out = []; receipts = new_book; transactions = 0 }

  -- a frame was written
  abbrev pub written : Content → Client T → Client T
  written f c = record c { out = c.out ++ canonical f }

  -- this CONNECT was written
  abbrev pub connecting_by : Content → Client T → Client T
  connecting_by f c = record (written f c) { stage = Connecting }

  -- CONNECT to the host `outbox` was written
  abbrev pub connecting : Client T → Client T
  connecting = connecting_by connect_frame

  -- a SEND was written with the next receipt number
  abbrev pub receipted : Content → T → Client T → Client T
  receipted f tag c = record (written (with_receipt (c.receipts.last + 1) f) c) { receipts = opened tag c.receipts }

  -- a transaction was counted
  abbrev pub counting : Client T → Client T
  counting c = record c { transactions = c.transactions + 1 }

  -- BEGIN of the next transaction was written
  abbrev pub begun : Client T → Client T
  begun c = counting (written (transaction_frame Begin (c.transactions + 1)) c)

  -- octets made elsewhere were appended
  abbrev pub appended : List ℕ → Client T → Client T
  appended octets c = record c { out = c.out ++ octets }

  -- so many octets were sent
  abbrev pub without_first : ℕ → Client T → Client T
  without_first count c = record c { out = drop count c.out }

  -- CONNECTED was accepted
  abbrev pub connected : Client T → Client T
  connected c = record c { stage = Connected }

  -- a receipt is open no more
  abbrev pub receipt_closed : ℕ → Client T → Client T
  receipt_closed number c = record c { receipts = closed number c.receipts }

  -- the session is closed
  abbrev pub closing : Client T → Client T
  closing c = record c { stage = Closed }
