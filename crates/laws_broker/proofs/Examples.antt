-- Examples: what is written for a session from its beginning, and what its frames ask for.
use Rattle.std.proofs.Common.{◌≡◌, true, false, [], ◌∷◌, codes, Some, None, Ok, refl}
use Rattle.stomp_frame.specs.declared.command.Command.TheVariants.{Disconnect}
use Rattle.stomp_frame.specs.Frames.{Content, frame, header}
use Rattle.stomp_session.specs.Replies.{connected_frame, receipt_frame, error_frame}
use Rattle.stomp_session.specs.declared.request.Request.TheVariants.{Connect as Connecting, Disconnect as Disconnecting}
use Rattle.stomp_client.specs.Frames.{connect_frame}
use Rattle.broker_core.specs.Calls.{OpensSession, empty, with_new_session}
use Rattle.laws_broker.specs.Carried.{decided_all}
use Rattle.laws_broker.specs.Lives.{Opened, Dropped, Lives}
use Rattle.laws_broker.specs.Written.{Confirms, IsLater, Told, opened, receipt, refused}

-- ---- calls

-- the first session is opened
opens_one : OpensSession empty 1 (with_new_session empty)
opens_one = record { next = refl; unused = refl; changed = refl; found = refl }

-- and dropped
opened_and_dropped : Lives 16 empty (Opened (Ok 1) ∷ Dropped 1 ∷ []) (record empty { opened = 1 })
opened_and_dropped = (with_new_session empty, opens_one, (record empty { opened = 1 }, refl, refl))

-- ---- frames

-- DISCONNECT that asks for the receipt 7
abbrev last : Content
last = frame Disconnect (header (codes "receipt") (codes "7") ∷ []) []

-- CONNECT and this one are requests
both_are_requests : decided_all false (connect_frame ∷ last ∷ []) ≡ Ok (Connecting (record {
  accept_version = codes "1.2";
  host = codes "outbox";
})) ∷ Ok (Disconnecting (record { receipt = Some (codes "7") })) ∷ []
both_are_requests = refl

-- what is told: MESSAGEs of anything, to anyone
abbrev later : Content → Type 0
later = IsLater (λ s. Unit {0}) (λ s. Unit {0}) 1

-- CONNECTED, and the RECEIPT; the session is closed
all_is_told : Told later true true (connected_frame ∷ receipt_frame (codes "7") ∷ [])
all_is_told = opened (receipt_frame (codes "7") ∷ []) refl (receipt (codes "7") refl, tt) refl

receipt_is_confirmed : Confirms true (decided_all false (connect_frame ∷ last ∷ []))
    (connected_frame ∷ receipt_frame (codes "7") ∷ [])
receipt_is_confirmed = record { missing = None; receipts = refl; all = λ e. refl }

-- an ERROR, where nothing was connected
error_is_all : Told later false true (error_frame 20 (codes "BadFrame") None ∷ [])
error_is_all = refused (error_frame 20 (codes "BadFrame") None) refl
    (record { number = 20; name = codes "BadFrame"; receipt = None; is = refl }) refl
