-- What a client does with one frame that came, by what is told of it.
use Rattle.std.specs.Prelude.{◌≡◌, ℕ, ◌+◌, ◌-◌, ◌^◌, [], ◌∷◌, Some, None, Result, Ok, Err}
use Rattle.base.specs.Entity.{queue_of}
use Rattle.base.specs.declared.entity.Kind.{Kind}
use Rattle.base.specs.declared.pair.Pair.{Pair}
use Rattle.stomp_frame.specs.Frames.{Content}
use Rattle.stomp_frame.specs.declared.command.Command.TheVariants as command
use Rattle.stomp_client.specs.Accepting.{Accepts}
use Rattle.stomp_client.specs.Clients.{Client, counting, connected}
use Rattle.stomp_client.specs.Frames.{subscribe_frame}
use Rattle.stomp_client.specs.declared.event.ClientEvent.TheVariants as event
use Rattle.stomp_client.specs.declared.fault.ClientFault.TheVariants as client
use Rattle.stomp_client.specs.declared.session.Stage.TheVariants as stage
use Rattle.envelope.specs.Reading.{read_frame}
use Rattle.envelope.specs.declared.fault.EnvelopeFault.TheVariants as envelope_fault
use Rattle.envelope.specs.declared.message.Envelope.TheVariants as envelope
use Rattle.envelope.specs.declared.message.Letter.{Letter}
use Rattle.reception.specs.Replies.{answer, settling, refusal, Writes}
use Rattle.reception.specs.declared.fault.ReceptionFault.{ReceptionFault}
use Rattle.reception.specs.declared.fault.ReceptionFault.TheVariants as fault
use Rattle.reception.specs.declared.taken.Taken.{Taken}
use Rattle.reception.specs.declared.taken.Taken.TheVariants.{Connected, Receipt, Handled, Repeated, Held, Settled}
use Rattle.reception.specs.declared.taken.Taken.TheVariants.{Error}

-- the frame is a MESSAGE that the client accepts
abbrev pub BringsMessage : Content → Client ℕ → Type 0
BringsMessage f c = Accepts f c c (Ok (event.Message f))

-- it carries this letter
abbrev pub CarriesLetter : Content → Client ℕ → Letter → Type 0
CarriesLetter f c l = BringsMessage f c × (read_frame f ≡ Some (envelope.Letter l))

-- it carries a settle of this pair, up to this number
abbrev pub CarriesSettle : Content → Client ℕ → Pair → ℕ → Type 0
CarriesSettle f c pair number = BringsMessage f c × (read_frame f ≡ Some (envelope.Settle pair number))

-- What a client of a service of this kind does with a frame, and writes. After a letter that was handled, now or
-- before, its pair is settled so far, in the next transaction.
abbrev pub Answers : Kind → Content → (old new : Client ℕ) → Result Taken ReceptionFault → Type 0
Answers kind f old new (Ok Connected) = (f.command ≡ command.Connected) × (old.stage ≡ stage.Connecting)
    × Writes (subscribe_frame (queue_of kind) ∷ []) (connected old) new
Answers kind f old new (Ok (Receipt number)) = (tag : ℕ) × Accepts f old new (Ok (event.Receipt number tag))
Answers kind f old new (Ok (Error text)) = Accepts f old new (Ok (event.Error text))
Answers kind f old new (Ok (Handled position)) =
    (l : Letter) × CarriesLetter f old l × Writes (settling f (old.transactions + 1) l.pair l.number) (counting old) new
Answers kind f old new (Ok (Repeated number)) =
    (l : Letter) × CarriesLetter f old l × Writes (settling f (old.transactions + 1) l.pair number) (counting old) new
Answers kind f old new (Ok Held) = (l : Letter) × CarriesLetter f old l × Writes (answer command.Ack f) old new
Answers kind f old new (Ok (Settled mark)) =
    (pair : Pair) × (number : ℕ) × CarriesSettle f old pair number × Writes (answer command.Ack f) old new
Answers kind f old new (Err (fault.Frame cause)) = ⊥
Answers kind f old new (Err (fault.Client client.Memory)) = new ≡ old
Answers kind f old new (Err (fault.Client client.NumbersUsed)) =
    (l : Letter) × CarriesLetter f old l × (old.transactions ≡ 2 ^ 64 - 1) × (new ≡ old)
Answers kind f old new (Err (fault.Client cause)) = Accepts f old new (Err cause)
Answers kind f old new (Err (fault.Envelope envelope_fault.BadEnvelope)) = BringsMessage f old × (read_frame f ≡ None)
    × Writes (answer command.Ack f) old new
Answers kind f old new (Err (fault.Envelope envelope_fault.Memory)) = BringsMessage f old × (new ≡ old)
Answers kind f old new (Err (fault.End cause)) = BringsMessage f old × Writes (refusal f cause) old new
