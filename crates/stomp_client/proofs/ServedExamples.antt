-- Examples: what a server's session makes of what a client writes.
use Rattle.std.proofs.Common.{◌≡◌, false, true, [], ◌∷◌, refl, codes, arith}
use Rattle.std.specs.Prelude.{None, Ok, Err}
use Rattle.stomp_frame.specs.declared.command.Command.TheVariants as command
use Rattle.stomp_frame.specs.Frames.{Content, frame, header}
use Rattle.stomp_session.specs.declared.fault.SessionFault.TheVariants.{NotConnected, MissingHeader}
use Rattle.stomp_session.specs.Requests.{request_of, asked}
use Rattle.stomp_client.specs.Frames.{connect_frame, subscribe_frame, disconnect_frame, with_receipt}
use Rattle.stomp_client.specs.Served.{answers_of, IsTakeable, IsAnswerable, IsClients, sends, sends_with_receipt}

-- a SEND with a destination
abbrev message : Content
message = frame command.Send (header (codes "destination") (codes "/queue/billing") ∷ header (codes "kind")
    (codes "settle") ∷ []) []

-- a server takes it, and so it does with a receipt; one without a destination is told apart
messages_are_takeable : IsTakeable message × IsClients (with_receipt 1 message) × IsClients message
    × (request_of true (frame command.Send [] []) ≡ Err MissingHeader)
messages_are_takeable =
    (takeable, sends_with_receipt message 1 takeable (omega arith) refl, sends message None takeable tt refl, refl)
  where
    takeable : IsTakeable message
    takeable = record {
      plain = record { command = refl; room = omega arith; receipt = refl; transaction = refl };
      destination = refl;
      own = omega arith;
    }

-- a MESSAGE with a short `ack` can be answered
deliveries_are_answerable : IsAnswerable (frame command.Message (header (codes "ack") (codes "7") ∷ []) [])
deliveries_are_answerable = omega arith

-- a session takes CONNECT and what follows it in order, and refuses what comes before it
sessions_are_served : (answers_of false (connect_frame ∷ subscribe_frame (codes "/queue/billing") ∷ message ∷
    disconnect_frame ∷ [])
    ≡ Ok (asked connect_frame) ∷ Ok (asked (subscribe_frame (codes "/queue/billing"))) ∷ Ok (asked message) ∷ Ok
    (asked disconnect_frame)
    ∷ [])
    × (answers_of false (disconnect_frame ∷ connect_frame ∷ []) ≡ Err NotConnected ∷ Ok (asked connect_frame) ∷ [])
sessions_are_served = (refl, refl)
