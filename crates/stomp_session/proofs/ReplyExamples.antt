-- Examples: what a server writes.
use Rattle.std.proofs.Common.{◌≡◌, ◌≤◌, [], ◌∷◌, ◌++◌, length, refl, arith}
use Rattle.std.specs.Prelude.{codes, replicate, Some, None}
use Rattle.std.specs.Fmt.{digits}
use Rattle.base.specs.declared.limits.TheConstants.{MAX_LINE}
use Rattle.stomp_frame.specs.declared.command.Command.TheVariants.{Connect, Send, Receipt}
use Rattle.stomp_frame.specs.Frames.{header, frame, canonical, escape, line_of}
use Rattle.stomp_session.specs.declared.fault.SessionFault.TheVariants.{NotConnected, AlreadyConnected, Version}
use Rattle.stomp_session.specs.declared.fault.SessionFault.TheVariants.{MissingHeader}
use Rattle.stomp_session.specs.declared.fault.SessionFault.TheVariants.{WrongCommand, Memory, TooLarge}
use Rattle.stomp_session.specs.Faults.{session_fault_number, session_fault_name}
use Rattle.stomp_session.specs.Replies.{Delivered, connected_frame, receipt_frame, receipt_told, error_frame}
use Rattle.stomp_session.specs.Replies.{message_frame}

-- CONNECTED, and a RECEIPT, whose value is escaped
confirmations_are_written : (canonical connected_frame ≡ codes "CONNECTED\nversion:1.2\nheart-beat:0,0\n\n" ++ 0 ∷ [])
    × (canonical (receipt_frame (codes "a:b")) ≡ codes "RECEIPT\nreceipt-id:a\\cb\n\n" ++ 0 ∷ [])
unfolding canonical line_of escape
confirmations_are_written = (refl, refl)

-- 23 alone tells the version that would do; a receipt stands where one is told
errors_are_written :
    (canonical (error_frame 23 (codes "Version") None) ≡ codes
    "ERROR\ncontent-length:0\nversion:1.2\nmessage:23 Version\n\n" ++ 0 ∷ [])
    × (canonical (error_frame 31 (codes "NoSuchAck") None) ≡ codes "ERROR\ncontent-length:0\nmessage:31 NoSuchAck\n\n"
    ++ 0 ∷ [])
    × (canonical (error_frame 31 (codes "NoSuchAck") (Some (codes "q")))
    ≡ codes "ERROR\ncontent-length:0\nmessage:31 NoSuchAck\nreceipt-id:q\n\n" ++ 0 ∷ [])
unfolding canonical line_of escape digits
errors_are_written = (refl, refl, refl)

-- the receipt of a frame is told where it has at most 128 octets, and never that of a CONNECT
receipts_are_told :
    (receipt_told (frame Send (header (codes "receipt") (replicate 128 120) ∷ []) []) ≡ Some (replicate 128 120))
    × (receipt_told (frame Send (header (codes "receipt") (replicate 129 120) ∷ []) []) ≡ None)
    × (receipt_told (frame Connect (header (codes "receipt") (codes "r") ∷ []) []) ≡ None)
receipts_are_told = (refl, refl, refl)

abbrev greeting : Delivered
greeting = record {
  destination = codes "/queue/a";
  number = 1;
  subscription = codes "0";
  ack = Some 1;
  headers = header (codes "k") (codes "v") ∷ [];
  body = codes "hi";
}

-- a MESSAGE: the server's headers, those of the SEND, the body; for the mode `auto` without `ack`
messages_are_written :
    (canonical (message_frame greeting)
    ≡ codes "MESSAGE\ncontent-length:2\ndestination:/queue/a\nmessage-id:1\nsubscription:0\nack:1\nk:v\n\nhi" ++ 0 ∷ [])
    × (canonical (message_frame (record greeting { ack = None }))
    ≡ codes "MESSAGE\ncontent-length:2\ndestination:/queue/a\nmessage-id:1\nsubscription:0\nk:v\n\nhi" ++ 0 ∷ [])
unfolding canonical line_of escape digits
messages_are_written = (refl, refl)

-- a receipt of 128 colons makes a line of 267 octets, of 1,024 that it may have
the_longest_receipt_fits : (length (line_of Receipt (header (codes "receipt-id") (replicate 128 58))) ≡ 267)
    × (267 ≤ MAX_LINE)
unfolding line_of escape
the_longest_receipt_fits = (refl, omega arith)

-- 28 headers of a SEND and four of the server are as many as a frame may have
thirty_two_headers_fit : length ((message_frame (record greeting {
  headers =
      replicate 28 (header (codes "k") (codes "v"));
})).headers) ≡ 32
thirty_two_headers_fit = refl

-- faults are numbered and named
faults_are_numbered : (session_fault_number NotConnected ≡ 21) × (session_fault_number AlreadyConnected ≡ 22)
    × (session_fault_number Version ≡ 23)
    × (session_fault_number MissingHeader ≡ 24) × (session_fault_number WrongCommand ≡ 33)
    × (session_fault_number Memory ≡ 34)
    × (session_fault_number TooLarge ≡ 35)
faults_are_numbered = (refl, refl, refl, refl, refl, refl, refl)

faults_are_named : (session_fault_name NotConnected ≡ codes "NotConnected")
    × (session_fault_name Version ≡ codes "Version")
    × (session_fault_name TooLarge ≡ codes "TooLarge")
faults_are_named = (refl, refl, refl)
