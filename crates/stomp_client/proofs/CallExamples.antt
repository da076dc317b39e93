-- Examples: what calls of a client do at each stage, and what a server's frames tell it. Its tags are numbers.
use Rattle.std.proofs.Common.{◌≡◌, ℕ, List, [], ◌∷◌, refl, ap, codes}
use Rattle.std.specs.Prelude.{◌^◌, ◌-◌, Some, None, Ok, Err}
use Rattle.std.specs.Fmt.{digits}
use Rattle.receipts.specs.Books.{ReceiptBook}
use Rattle.stomp_frame.specs.declared.command.Command.TheVariants as command
use Rattle.stomp_frame.specs.Frames.{Content, frame, header, canonical}
use Rattle.stomp_client.specs.declared.fault.ClientFault.TheVariants as fault
use Rattle.stomp_client.specs.declared.session.Stage.{Stage}
use Rattle.stomp_client.specs.declared.session.Stage.TheVariants.{Fresh, Connecting, Connected, Closed}
use Rattle.stomp_client.specs.declared.event.ClientEvent.TheVariants as event
use Rattle.stomp_client.specs.Fault.{client_fault_number}
use Rattle.stomp_client.specs.Frames.{disconnect_frame}
use Rattle.stomp_client.specs.Clients.{Client, written, connecting, receipted, counting, begun, appended, without_first}
use Rattle.stomp_client.specs.Clients.{connected, closing}
use Rattle.stomp_client.specs.Calls.{unready, unconnectable, or_used, WritesFrame, Connects}
use Rattle.stomp_client.specs.Accepting.{receipt_number, unaccepted, Accepts}

-- nothing is to be sent, and these receipts are open
abbrev client : Stage → ReceiptBook ℕ → Client ℕ
client stage receipts = record { stage = stage; out = []; receipts = receipts; transactions = 4 }

-- one receipt is open, of the tag 20, and three were
book : ReceiptBook ℕ
book = record { last = 3; tags = (2, 20) ∷ [] }

-- ---- calls that write

-- what refuses a call at each stage
stages_refuse : (unready Fresh ≡ Some fault.NotConnected) × (unready Connecting ≡ Some fault.NotConnected)
    × (unready Connected ≡ None)
    × (unready Closed ≡ Some fault.Closed)
    × (unconnectable Fresh ≡ None) × (unconnectable Connecting ≡ Some fault.AlreadyConnected)
    × (unconnectable Connected ≡ Some fault.AlreadyConnected)
    × (unconnectable Closed ≡ Some fault.Closed)
stages_refuse = (refl, refl, refl, refl, refl, refl, refl, refl)

-- the last number is 2^64 - 1; a stage refuses first
numbers_end : (or_used (2 ^ 64 - 1) None ≡ Some fault.NumbersUsed) × (or_used (2 ^ 64 - 2) None ≡ None)
    × (or_used (2 ^ 64 - 1) (Some fault.Closed) ≡ Some fault.Closed)
numbers_end = (refl, refl, refl)

-- the numbers of the faults
faults_are_numbered : (client_fault_number fault.NotConnected ≡ 40) × (client_fault_number fault.NumbersUsed ≡ 45)
faults_are_numbered = (refl, refl)

-- a call that is refused tells why and changes nothing; want of memory is told only where nothing refuses
refusals_change_nothing : (Connects (client Connected book) (client Connected book) (Err fault.AlreadyConnected))
    × (WritesFrame disconnect_frame (client Fresh book) (client Fresh book) (Err fault.NotConnected))
    × (Connects (client Fresh book) (client Fresh book) (Err fault.Memory))
    × (Connects (client Closed book) (client Closed book) (Err fault.Memory) → ⊥)
    × (Connects (client Fresh book) (client Connecting book) (Err fault.Memory) → ⊥)
refusals_change_nothing = (
  (refl, refl),
  (refl, refl),
  (refl, refl),
  λ h. let none : Some fault.Closed ≡ None = h.0 in absurd cc,
  λ h. let stage : Connecting ≡ Fresh = ap (λ (c : Client ℕ). c.stage) h.1 in absurd cc,
)

-- what stays where a frame is written, a transaction begun or counted, octets appended or sent
changes_are_exact : (written disconnect_frame (client Connected book)
    ≡ record (client Connected book) { out = canonical disconnect_frame })
    × (closing (client Connected book) ≡ client Closed book)
    × (connected (client Connecting book) ≡ client Connected book)
    × ((counting (client Connected book)).transactions ≡ 5) × ((begun (client Connected book)).transactions ≡ 5)
    × (appended (codes "ab") (client Closed book) ≡ record (client Closed book) { out = codes "ab" })
    × (without_first 1 (record (client Closed book) { out = codes "ab" })
    ≡ record (client Closed book) { out = codes "b" })
    × ((connecting (client Fresh book)).stage ≡ Connecting)
changes_are_exact = (refl, refl, refl, refl, refl, refl, refl, refl)

-- a SEND with a receipt opens its number for the tag
receipts_are_opened : (receipted disconnect_frame 30 (client Connected book)).receipts
    ≡ record { last = 4; tags = (2, 20) ∷ (4, 30) ∷ [] }
unfolding book
receipts_are_opened = refl

-- ---- a server's frames

-- a RECEIPT of a number
abbrev receipt : List ℕ → Content
receipt number = frame command.Receipt (header (codes "receipt-id") number ∷ []) []

-- what no server may send, and when
unexpected_frames : (unaccepted (client Connected book) (frame command.Send [] []) ≡ Some fault.Unexpected)
    × (unaccepted (client Connected book) (frame command.Connected [] []) ≡ Some fault.Unexpected)
    × (unaccepted (client Fresh book) (frame command.Connected [] []) ≡ Some fault.Unexpected)
    × (unaccepted (client Connecting book) (frame command.Connected [] []) ≡ None)
    × (unaccepted (client Connected book) (frame command.Message [] []) ≡ Some fault.Unexpected)
    × (unaccepted (client Fresh book) (frame command.Error [] []) ≡ None)
    × (unaccepted (client Closed book) (frame command.Error [] []) ≡ Some fault.Closed)
unexpected_frames = (refl, refl, refl, refl, refl, refl, refl)

-- a receipt is told where it is open
receipts_are_told : (unaccepted (client Connected book) (receipt (codes "2")) ≡ None)
    × (unaccepted (client Connected book) (receipt (codes "1")) ≡ Some fault.Unexpected)
    × (unaccepted (client Connected book) (receipt (codes "02")) ≡ Some fault.Unexpected)
    × (unaccepted (client Connecting book) (receipt (codes "2")) ≡ Some fault.Unexpected)
    × (receipt_number (frame command.Receipt [] []) ≡ None)
unfolding book digits
receipts_are_told = (refl, refl, refl, refl, refl)

-- the event of that receipt, and the client after it
a_receipt_is_closed : Accepts (receipt (codes "2")) (client Connected book)
    (client Connected (record { last = 3; tags = [] }))
    (Ok (event.Receipt 2 20))
unfolding book digits
a_receipt_is_closed = (refl, (refl, refl, refl, refl))

-- an unexpected frame closes the session, and a closed one stays as it is
sessions_end : (Accepts (receipt (codes "1")) (client Connected book) (client Closed book) (Err fault.Unexpected))
    × (Accepts (receipt (codes "2")) (client Closed book) (client Closed book) (Err fault.Closed))
    × (Accepts (receipt (codes "2")) (client Connected book) (client Connected book) (Err fault.Memory) → ⊥)
unfolding book digits
sessions_end = ((refl, refl), (refl, refl), λ h. h)
