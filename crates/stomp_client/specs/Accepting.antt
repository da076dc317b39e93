-- What a server's frame tells a client.
use Rattle.std.specs.Prelude.{◌≡◌, ℕ, ◌&&◌, Bool, true, false, if◌then◌else◌, is_some, List, codes, Option, Some, None}
use Rattle.std.specs.Prelude.{Result, Ok, Err}
use Rattle.std.specs.String.{string_bytes}
use Rattle.text.specs.Numerals.{number_of}
use Rattle.receipts.specs.Books.{ReceiptBook, open_under}
use Rattle.stomp_frame.specs.declared.command.Command.{Command}
use Rattle.stomp_frame.specs.declared.command.Command.TheVariants as command
use Rattle.stomp_frame.specs.Frames.{Content, value_of}
use Rattle.stomp_client.specs.declared.fault.ClientFault.{ClientFault}
use Rattle.stomp_client.specs.declared.fault.ClientFault.TheVariants as fault
use Rattle.stomp_client.specs.declared.session.Stage.{Stage}
use Rattle.stomp_client.specs.declared.session.Stage.TheVariants.{Connecting, Connected, Closed}
use Rattle.stomp_client.specs.declared.event.ClientEvent.{ClientEvent}
use Rattle.stomp_client.specs.declared.event.ClientEvent.TheVariants as event
use Rattle.stomp_client.specs.Frames.{text_or_empty}
use Rattle.stomp_client.specs.Delivered.{is_whole, IsDelivered}
use Rattle.stomp_client.specs.Clients.{Client, connected, receipt_closed, closing}

-- whether CONNECT was written and not answered
abbrev pub is_connecting : Stage → Bool
is_connecting Connecting = true
is_connecting _ = false

-- whether CONNECTED was accepted, and nothing has ended the session
abbrev pub is_connected : Stage → Bool
is_connected Connected = true
is_connected _ = false

-- whether the session has ended
abbrev pub is_closed : Stage → Bool
is_closed Closed = true
is_closed _ = false

-- the number that a text writes, where there is one
abbrev pub number_in : Option (List ℕ) → Option ℕ
number_in None = None
number_in (Some text) = number_of text

-- the number of a RECEIPT
abbrev pub receipt_number : Content → Option ℕ
receipt_number f = number_in (value_of (codes "receipt-id") f.headers)

module _ {T : Type 0} where
  -- whether a receipt of this number is open
  abbrev pub is_open : ReceiptBook T → Option ℕ → Bool
  is_open book None = false
  is_open book (Some number) = is_some (open_under number book)

  -- whether a server may send the frame now
  abbrev pub is_expected : Client T → Content → Command → Bool
  is_expected c f command.Connected = is_connecting c.stage
  is_expected c f command.Message = is_connected c.stage && is_whole f
  is_expected c f command.Receipt = is_connected c.stage && is_open c.receipts (receipt_number f)
  is_expected c f command.Error = true
  is_expected c f _ = false

  -- why a frame isn't accepted
  abbrev pub unaccepted : Client T → Content → Option ClientFault
  unaccepted c f =
      if is_closed c.stage then Some fault.Closed else if is_expected c f f.command then None else Some fault.Unexpected

  -- what an accepted frame tells, and the client after it
  abbrev pub TellsFrame : Content → Client T → Client T → ClientEvent T → Type 0
  TellsFrame f old new event.Connected = (f.command ≡ command.Connected) × (new ≡ connected old)
  TellsFrame f old new (event.Message message) = (message ≡ f) × IsDelivered message × (new ≡ old)
  TellsFrame f old new (event.Receipt number tag) = (f.command ≡ command.Receipt) × (receipt_number f ≡ Some number)
      × (open_under number old.receipts ≡ Some tag) × (new ≡ receipt_closed number old)
  TellsFrame f old new (event.Error text) = (f.command ≡ command.Error)
      × (string_bytes text ≡ text_or_empty (value_of (codes "message") f.headers)) × (new ≡ closing old)

  -- What accepting a frame does and answers: an event, or why it isn't accepted. One that is unexpected closes the
  -- session.
  abbrev pub Accepts : Content → Client T → Client T → Result (ClientEvent T) ClientFault → Type 0
  Accepts f old new (Ok event) = (unaccepted old f ≡ None) × TellsFrame f old new event
  Accepts f old new (Err fault.Closed) = (unaccepted old f ≡ Some fault.Closed) × (new ≡ old)
  Accepts f old new (Err fault.Unexpected) = (unaccepted old f ≡ Some fault.Unexpected) × (new ≡ closing old)
  Accepts f old new (Err _) = ⊥
