-- Examples: the frames of a client and their texts, and what was written and read.
use Rattle.std.proofs.Common.{◌≡◌, ℕ, [], ◌∷◌, ◌≤◌, true, false, refl, codes, arith}
use Rattle.std.specs.Prelude.{replicate, Some, None, Ok, Err}
use Rattle.std.specs.Fmt.{digits}
use Rattle.base.specs.declared.limits.TheConstants.{MAX_BODY}
use Rattle.stomp_frame.specs.declared.command.Command.TheVariants.{Send, Message, Begin, Ack, Nack}
use Rattle.stomp_frame.specs.declared.fault.FrameFault.TheVariants.{BadLine, LineTooLong}
use Rattle.stomp_frame.specs.Frames.{Content, frame, header, canonical, escape, line_of, IsFrame}
use Rattle.stomp_client.specs.declared.fault.ClientFault.{ClientFault}
use Rattle.stomp_client.specs.declared.fault.ClientFault.TheVariants.{Memory}
use Rattle.stomp_client.specs.Frames.{IsShort, IsPlain, connect_frame, subscribe_frame, disconnect_frame}
use Rattle.stomp_client.specs.Frames.{connect_frame_to, connect_refused, subscribe_frame_with}
use Rattle.stomp_client.specs.Frames.{transaction_frame, in_transaction}
use Rattle.stomp_client.specs.Frames.{answer_frame, with_receipt, text_or_empty}
use Rattle.stomp_client.specs.Delivered.{is_whole, IsDelivered}
use Rattle.stomp_client.specs.Written.{Wrote, frames_if, AreWhole}

-- ---- frames

-- what is written to connect, to subscribe and to disconnect
fixed_frames_are_spelled : (canonical connect_frame ≡ codes "CONNECT\naccept-version:1.2\nhost:outbox\n\n\0")
    × (canonical (subscribe_frame (codes "/queue/a")) ≡ codes
    "SUBSCRIBE\nid:0\ndestination:/queue/a\nack:client-individual\n\n\0")
    × (canonical disconnect_frame ≡ codes "DISCONNECT\n\n\0")
unfolding canonical line_of escape
fixed_frames_are_spelled = (refl, refl, refl)

-- CONNECT to another host, with a login; to `outbox` without one it's the fixed frame
connect_frames_are_spelled : (canonical (connect_frame_to (codes "/") (Some (codes "guest")) (Some (codes "a:b"))) ≡ codes
    "CONNECT\naccept-version:1.2\nhost:/\nlogin:guest\npasscode:a:b\n\n\0")
    × (connect_frame_to (codes "outbox") None None ≡ connect_frame)
unfolding canonical line_of escape
connect_frames_are_spelled = (refl, refl)

-- CONNECT has no escapes: what would end a line isn't taken, and the first that isn't is told
connect_has_no_escapes : (connect_refused (codes "/") (Some (codes "a\nb")) None ≡ Some BadLine)
    × (connect_refused (codes "a\rb") None None ≡ Some BadLine)
    × (connect_refused (codes "/") None (Some (replicate 1100 97)) ≡ Some LineTooLong)
    × (connect_refused (codes "/") (Some (codes "a:b")) (Some []) ≡ None)
unfolding line_of escape
connect_has_no_escapes = (refl, refl, refl, refl)

-- a limit to what is handed out stands behind the headers of the standard, and the number of a receipt alone
options_are_spelled : (canonical (subscribe_frame_with (codes "/queue/a") 64) ≡ codes
    "SUBSCRIBE\nid:0\ndestination:/queue/a\nack:client-individual\nactivemq.prefetchSize:64\nprefetch-count:64\n\n\0")
    × (canonical (with_receipt 7 disconnect_frame) ≡ codes "DISCONNECT\nreceipt:7\n\n\0")
unfolding canonical line_of escape digits
options_are_spelled = (refl, refl)

-- a transaction is named by its number
transactions_are_named : canonical (transaction_frame Begin 12) ≡ codes "BEGIN\ntransaction:12\n\n\0"
unfolding canonical line_of escape digits
transactions_are_named = refl

-- a message handed out under the ack 9
delivered : Content
delivered = frame Message
    (header (codes "destination") (codes "/queue/a") ∷ header (codes "message-id") (codes "7") ∷ header
    (codes "subscription") (codes "0")
    ∷ header (codes "ack") (codes "9") ∷ [])
    (codes "hi")

-- it is answered under its ack, in a transaction or not
answers_have_the_ack : (canonical (answer_frame Ack delivered None) ≡ codes "ACK\nid:9\n\n\0")
    × (canonical (answer_frame Nack delivered (Some 3)) ≡ codes "NACK\nid:9\ntransaction:3\n\n\0")
unfolding delivered canonical line_of escape digits
answers_have_the_ack = (refl, refl)

-- a message that is sent
letter : Content
letter = frame Send (header (codes "destination") (codes "/queue/a") ∷ []) (codes "hi")

-- its receipt or its transaction stands behind its own headers
sends_are_marked : (canonical (with_receipt 1 letter) ≡ codes
    "SEND\ncontent-length:2\ndestination:/queue/a\nreceipt:1\n\nhi\0")
    × (canonical (in_transaction (Some 2) letter) ≡ codes
    "SEND\ncontent-length:2\ndestination:/queue/a\ntransaction:2\n\nhi\0")
    × (in_transaction None letter ≡ letter)
unfolding letter canonical line_of escape digits
sends_are_marked = (refl, refl, refl)

-- a SEND can be marked once
marked_once : (IsPlain letter) × (IsPlain (with_receipt 1 letter) → ⊥) × (IsPlain delivered → ⊥)
unfolding letter delivered digits
marked_once = (
  record { command = refl; room = omega arith; receipt = refl; transaction = refl },
  λ p. let receipt : Some (codes "1") ≡ None = p.receipt in absurd cc,
  λ p. let command : Message ≡ Send = p.command in absurd cc,
)

-- without one of its headers a MESSAGE isn't whole; empty values count
messages_are_whole : (IsDelivered delivered)
    × (is_whole (frame Message (header (codes "destination") [] ∷ header (codes "message-id") [] ∷ header
    (codes "subscription") [] ∷ [])
    []) ≡ false)
    × (is_whole (frame Message (header (codes "destination") [] ∷ header (codes "message-id") [] ∷ header
    (codes "subscription") []
    ∷ header (codes "ack") [] ∷ []) []) ≡ true)
unfolding delivered
messages_are_whole = (record { command = refl; whole = refl }, refl, refl)

-- a destination has at most 128 octets, and no NUL
destinations_are_short : (IsShort (replicate 128 97)) × (IsShort (replicate 129 97) → ⊥) × (IsShort (97 ∷ 0 ∷ []) → ⊥)
destinations_are_short = (
  record { plain = refl; short = omega arith },
  λ value. let long : 129 ≤ 128 = value.short in omega (arith, long),
  λ value. let nul : true ≡ false = value.plain in absurd cc,
)

-- the first of a header's values, and nothing where it has none
values_are_texts : (text_or_empty None ≡ []) × (text_or_empty (Some (codes "a")) ≡ codes "a")
values_are_texts = (refl, refl)

-- ---- what was written

disconnect_is_a_frame : IsFrame MAX_BODY disconnect_frame
disconnect_is_a_frame = record { headers = tt; count = omega arith; body = omega arith }

-- of one frame three octets were sent
three_were_sent : Wrote (disconnect_frame ∷ []) (codes "DIS") (codes "CONNECT\n\n\0")
unfolding canonical
three_were_sent = record { each = (disconnect_is_a_frame, tt); whole = refl }

-- half a frame wasn't written
no_half_was_written : Wrote (disconnect_frame ∷ []) [] (codes "DISCON") → ⊥
unfolding canonical
no_half_was_written w = let short : codes "DISCON" ≡ codes "DISCONNECT\n\n\0" = w.whole in absurd cc

-- a call that isn't done writes nothing
no_frame_without_an_answer : (frames_if {R = Unit {0}} {E = ClientFault} (Err Memory) (disconnect_frame ∷ []) ≡ [])
    × (frames_if {R = ℕ} {E = ClientFault} (Ok 1) (disconnect_frame ∷ []) ≡ disconnect_frame ∷ [])
no_frame_without_an_answer = (refl, refl)

-- two frames made before are whole; no octet is too, and half of one isn't told by these frames
made_before : (AreWhole (codes "DISCONNECT\n\n\0DISCONNECT\n\n\0")) × (AreWhole [])
unfolding canonical
made_before = (
  record {
    frames = disconnect_frame ∷ disconnect_frame ∷ [];
    each = (disconnect_is_a_frame, (disconnect_is_a_frame, tt));
    whole = refl;
  },
  record { frames = []; each = tt; whole = refl },
)
