-- What each call of a client that writes does and answers.
use Rattle.std.specs.Prelude.{◌≡◌, ℕ, ◌+◌, ◌==◌, ◌-◌, ◌^◌, if◌then◌else◌, Option, Some, None, Result, Ok, Err}
use Rattle.base.specs.declared.limits.TheConstants.{MAX_BODY}
use Rattle.stomp_frame.specs.declared.command.Command.TheVariants.{Begin}
use Rattle.stomp_frame.specs.Frames.{Content, IsFrame}
use Rattle.stomp_client.specs.declared.fault.ClientFault.{ClientFault}
use Rattle.stomp_client.specs.declared.fault.ClientFault.TheVariants as fault
use Rattle.stomp_client.specs.declared.session.Stage.{Stage}
use Rattle.stomp_client.specs.declared.session.Stage.TheVariants.{Fresh, Connecting, Connected, Closed}
use Rattle.stomp_client.specs.Frames.{connect_frame, disconnect_frame, transaction_frame, with_receipt}
use Rattle.stomp_client.specs.Clients.{Client, written, connecting_by, receipted, begun, closing}

-- why nothing is written but CONNECT: before CONNECTED, and after the end
abbrev pub unready : Stage → Option ClientFault
unready Fresh = Some fault.NotConnected
unready Connecting = Some fault.NotConnected
unready Connected = None
unready Closed = Some fault.Closed

-- why CONNECT isn't written
abbrev pub unconnectable : Stage → Option ClientFault
unconnectable Fresh = None
unconnectable Connecting = Some fault.AlreadyConnected
unconnectable Connected = Some fault.AlreadyConnected
unconnectable Closed = Some fault.Closed

-- the same, or that the last number was given
abbrev pub or_used : ℕ → Option ClientFault → Option ClientFault
or_used last (Some fault) = Some fault
or_used last None = if last == 2 ^ 64 - 1 then Some fault.NumbersUsed else None

-- A call that isn't done changes nothing: memory was refused where there is no refusal, and else the refusal is told.
abbrev pub Refuses : {C : Type 0} → (refusal : Option ClientFault) → (old new : C) → ClientFault → Type 0
Refuses refusal old new fault.Memory = (refusal ≡ None) × (new ≡ old)
Refuses refusal old new fault = (refusal ≡ Some fault) × (new ≡ old)

-- A call that is done, with no refusal: what it writes is a frame, and this is done. Or one that isn't done.
abbrev pub WritesOrRefuses : {C R : Type 0} → (refusal : Option ClientFault) → (f : Content) → (done : R → C → Type 0)
    → (old new : C)
    → Result R ClientFault → Type 0
WritesOrRefuses refusal f done old new (Ok x) = (refusal ≡ None) × IsFrame MAX_BODY f × done x new
WritesOrRefuses refusal f done old new (Err fault) = Refuses refusal old new fault

module _ {T : Type 0} where
  -- a frame is written, once the session is connected
  abbrev pub WritesFrame : Content → Client T → Client T → Result (Unit {0}) ClientFault → Type 0
  WritesFrame f old new r = WritesOrRefuses (unready old.stage) f (λ _ c. c ≡ written f old) old new r

  -- this CONNECT
  abbrev pub ConnectsBy : Content → Client T → Client T → Result (Unit {0}) ClientFault → Type 0
  ConnectsBy f old new r = WritesOrRefuses (unconnectable old.stage) f (λ _ c. c ≡ connecting_by f old) old new r

  -- CONNECT to the host `outbox`
  abbrev pub Connects : Client T → Client T → Result (Unit {0}) ClientFault → Type 0
  Connects = ConnectsBy connect_frame

  -- a SEND with the next receipt number, which is answered, opened for a tag
  abbrev pub SendsWithReceipt : Content → T → Client T → Client T → Result ℕ ClientFault → Type 0
  SendsWithReceipt f tag old new r =
      WritesOrRefuses (or_used old.receipts.last (unready old.stage)) (with_receipt (old.receipts.last + 1) f)
      (λ n c. (n ≡ old.receipts.last + 1) × (c ≡ receipted f tag old)) old new r

  -- BEGIN of the next transaction, whose number is answered
  abbrev pub Begins : Client T → Client T → Result ℕ ClientFault → Type 0
  Begins old new r =
      WritesOrRefuses (or_used old.transactions (unready old.stage)) (transaction_frame Begin (old.transactions + 1))
      (λ n c. (n ≡ old.transactions + 1) × (c ≡ begun old)) old new r

  -- DISCONNECT, and the session is closed
  abbrev pub Disconnects : Client T → Client T → Result (Unit {0}) ClientFault → Type 0
  Disconnects old new r =
      WritesOrRefuses (unready old.stage) disconnect_frame (λ _ c. c ≡ closing (written disconnect_frame old)) old new r

  -- DISCONNECT with the next receipt number, which is answered, and the session is closed
  abbrev pub DisconnectsWithReceipt : Client T → Client T → Result ℕ ClientFault → Type 0
  DisconnectsWithReceipt old new r =
      WritesOrRefuses (or_used old.receipts.last (unready old.stage))
      (with_receipt (old.receipts.last + 1) disconnect_frame)
      (λ n c. (n ≡ old.receipts.last + 1) × (c ≡ closing (written (with_receipt n disconnect_frame) old))) old new r
