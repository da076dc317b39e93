-- Examples: what frames ask, and the first fault of those that are refused.
use Rattle.std.proofs.Common.{◌≡◌, ℕ, true, false, List, [], ◌∷◌, ◌++◌, refl}
use Rattle.std.specs.Prelude.{codes, replicate, Some, None, Ok, Err}
use Rattle.stomp_frame.specs.declared.command.Command.TheVariants.{Connect, Stomp, Send, Subscribe, Unsubscribe, Ack}
use Rattle.stomp_frame.specs.declared.command.Command.TheVariants.{Begin, Disconnect}
use Rattle.stomp_frame.specs.declared.command.Command.TheVariants.{Connected, Message}
use Rattle.stomp_frame.specs.Frames.{Header, Content, header, frame}
use Rattle.stomp_session.specs.declared.fault.SessionFault.TheVariants.{NotConnected, AlreadyConnected, Version}
use Rattle.stomp_session.specs.declared.fault.SessionFault.TheVariants.{MissingHeader}
use Rattle.stomp_session.specs.declared.fault.SessionFault.TheVariants.{WrongCommand, TooLarge}
use Rattle.stomp_session.specs.declared.request.Request.TheVariants.{Connect as Connecting, Send as Sending}
use Rattle.stomp_session.specs.declared.request.Request.TheVariants.{Subscribe as Subscribing}
use Rattle.stomp_session.specs.declared.request.Request.TheVariants.{Unsubscribe as Unsubscribing, Ack as Acking}
use Rattle.stomp_session.specs.declared.request.Request.TheVariants.{Begin as Beginning}
use Rattle.stomp_session.specs.declared.request.Request.TheVariants.{Disconnect as Disconnecting}
use Rattle.stomp_session.specs.Headers.{is_own, offers_version}
use Rattle.stomp_session.specs.Requests.{request_of, Accepts, ack_mode}

abbrev to_a : Header
to_a = header (codes "destination") (codes "/queue/a")

-- a header `receipt` of so many octets
abbrev receipt : ℕ → Header
receipt count = header (codes "receipt") (replicate count 120)

-- so many headers of a SEND's own
abbrev own : ℕ → List Header
own count = replicate count (header (codes "k") (codes "v"))

-- ---- what frames ask

abbrev opening : Content
opening = frame Connect (header (codes "accept-version") (codes "1.1,1.2") ∷ header (codes "host") (codes "h") ∷ []) []

-- a CONNECT opens a session, and a STOMP does
a_connect_opens : (request_of false opening ≡ Ok (Connecting (record {
  accept_version = codes "1.1,1.2";
  host = codes "h";
})))
    × (request_of false (record opening { command = Stomp }) ≡ request_of false opening)
a_connect_opens = (refl, refl)

-- a SEND: its destination, its receipt, the header of its own, its body
a_send_asks : request_of true (frame Send (header (codes "k") (codes "v") ∷ to_a ∷ receipt 1 ∷ []) (codes "hi"))
    ≡ Ok (Sending (record {
      destination = codes "/queue/a";
      headers = own 1;
      body = codes "hi";
      transaction = None;
      receipt = Some (codes "x");
    }))
a_send_asks = refl

-- the first of two values counts, in a header that is used; both stand among those of its own
the_first_value_counts : request_of true (frame Send (to_a ∷ header (codes "destination") (codes "/queue/b") ∷ own 2)
    [])
    ≡ Ok (Sending (record {
      destination = codes "/queue/a";
      headers = own 2;
      body = [];
      transaction = None;
      receipt = None;
    }))
the_first_value_counts = refl

-- a SUBSCRIBE keeps the word of its mode
a_subscribe_asks : request_of true (frame Subscribe (header (codes "id") (codes "0") ∷ to_a ∷ header (codes "ack")
    (codes "never") ∷ []) [])
    ≡ Ok (Subscribing (record {
      id = codes "0";
      destination = codes "/queue/a";
      ack = Some (codes "never");
      receipt = None;
    }))
a_subscribe_asks = refl

-- no word is `auto`, and an empty one is a word
a_missing_mode_is_auto : (ack_mode None ≡ codes "auto") × (ack_mode (Some []) ≡ [])
    × (ack_mode (Some (codes "client")) ≡ codes "client")
a_missing_mode_is_auto = (refl, refl, refl)

-- a value that is empty is there
an_empty_value_is_there : request_of true (frame Unsubscribe (header (codes "id") [] ∷ header (codes "receipt") [] ∷ [])
    [])
    ≡ Ok (Unsubscribing (record { id = []; receipt = Some [] }))
an_empty_value_is_there = refl

-- an ACK in a transaction, a BEGIN, a DISCONNECT
others_ask :
    (request_of true (frame Ack (header (codes "transaction") (codes "t") ∷ header (codes "id") (codes "01") ∷ []) [])
    ≡ Ok (Acking (record { id = codes "01"; transaction = Some (codes "t"); receipt = None })))
    × (request_of true (frame Begin (header (codes "transaction") (codes "t") ∷ []) [])
    ≡ Ok (Beginning (record { transaction = codes "t"; receipt = None })))
    × (request_of true (frame Disconnect (receipt 1 ∷ []) []) ≡ Ok (Disconnecting
    (record { receipt = Some (codes "x") })))
others_ask = (refl, refl, refl)

-- six names are the server's to use or to set, and no other
six_names_are_used : (is_own to_a ≡ false) × (is_own (header (codes "message-id") []) ≡ false)
    × (is_own (header (codes "subscription") []) ≡ false)
    × (is_own (header (codes "ack") []) ≡ false) × (is_own (header (codes "id") []) ≡ true)
    × (is_own (header (codes "Destination") []) ≡ true)
six_names_are_used = (refl, refl, refl, refl, refl, refl)

-- ---- refusals

-- a SEND before CONNECT
a_send_comes_too_early : request_of false (frame Send (to_a ∷ []) []) ≡ Err NotConnected
a_send_comes_too_early = refl

-- a second CONNECT
a_connect_comes_twice : request_of true opening ≡ Err AlreadyConnected
a_connect_comes_twice = refl

-- a receipt of 128 octets is taken, one of 129 isn't
receipts_are_short : (request_of true (frame Disconnect (receipt 128 ∷ []) [])
    ≡ Ok (Disconnecting (record { receipt = Some (replicate 128 120) })))
    × (request_of true (frame Disconnect (receipt 129 ∷ []) []) ≡ Err TooLarge)
receipts_are_short = (refl, refl)

-- a SEND of 28 headers of its own is taken, one of 29 isn't; the six don't count
own_headers_are_few :
    (request_of true (frame Send (own 28 ++ to_a ∷ header (codes "ack") [] ∷ []) [])
    ≡ Ok (Sending (record {
      destination = codes "/queue/a";
      headers = own 28;
      body = [];
      transaction = None;
      receipt = None;
    })))
    × (request_of true (frame Send (own 29 ++ to_a ∷ []) []) ≡ Err TooLarge)
own_headers_are_few = (refl, refl)

-- of two faults the one that is tested first is told
faults_have_an_order :
    (request_of false (frame Message [] []) ≡ Err WrongCommand)
    × (request_of true (frame Connected (receipt 129 ∷ []) []) ≡ Err WrongCommand)
    × (request_of false (frame Send [] []) ≡ Err NotConnected)
    × (request_of true (frame Connect [] []) ≡ Err AlreadyConnected)
    × (request_of true (frame Send (receipt 129 ∷ []) []) ≡ Err MissingHeader)
    × (request_of false (frame Connect (header (codes "accept-version") (codes "1.0") ∷ []) []) ≡ Err MissingHeader)
    × (request_of false (frame Stomp (header (codes "accept-version") (codes "1.0") ∷ header (codes "host") [] ∷ receipt
    129 ∷ []) [])
    ≡ Err Version)
faults_have_an_order = (refl, refl, refl, refl, refl, refl, refl)

-- 1.2 is offered by an item between commas, and by no part of one
versions_are_items : (offers_version (codes "1.2") ≡ true) × (offers_version (codes "1.0,1.2,") ≡ true)
    × (offers_version (codes "1.0,1.1") ≡ false)
    × (offers_version (codes "1.20") ≡ false) × (offers_version (codes "1.0, 1.2") ≡ false)
    × (offers_version [] ≡ false)
versions_are_items = (refl, refl, refl, refl, refl, refl)

-- after a CONNECT the session is connected; a frame that is refused is given back, and the session stays
a_session_is_opened : Accepts false opening true (Ok (Connecting (record {
  accept_version = codes "1.1,1.2";
  host = codes "h";
})))
a_session_is_opened = (refl, refl)

a_refused_frame_is_given_back : Accepts true opening true (Err (record { fault = AlreadyConnected; frame = opening }))
a_refused_frame_is_given_back = (refl, refl, refl)
