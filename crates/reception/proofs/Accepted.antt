-- What a client is after an event, and what is told of it.
use Rattle.std.proofs.Common.{◌≡◌, ◌∙◌, ℕ, ap, subst}
use Rattle.std.specs.Prelude.{Result, Ok, Err}
use Rattle.base.specs.declared.entity.Kind.{Kind}
use Rattle.stomp_frame.specs.Frames.{Content}
use Rattle.stomp_client.specs.Accepting.{Accepts, TellsFrame}
use Rattle.stomp_client.specs.Clients.{Client, ClientWithRoom, connected}
use Rattle.stomp_client.specs.declared.event.ClientEvent.{ClientEvent}
use Rattle.stomp_client.specs.declared.event.ClientEvent.TheVariants as event
use Rattle.reception.specs.Answers.{Answers}
use Rattle.reception.specs.Faults.{waiting_after}
use Rattle.reception.specs.Prepared.{PreparesFrame}
use Rattle.reception.specs.declared.fault.ReceptionFault.{ReceptionFault}
use Rattle.reception.specs.declared.fault.Untaken.{Untaken}
use Rattle.reception.specs.declared.prepared.Prepared.{Prepared}
use Rattle.reception.specs.declared.prepared.Prepared.TheVariants.{Done, Letter, Settle}
use Rattle.reception.specs.declared.taken.Taken.{Taken}

-- after CONNECTED is accepted the session is connected, and nothing else has changed
pub connected_after : (f : Content) (old new : Client ℕ) (e : ClientEvent ℕ) → e ≡ event.Connected
    → Accepts f old new (Ok e)
    → new ≡ connected old
connected_after f old new e is h =
    let P : ClientEvent ℕ → Type 0 = λ x. TellsFrame f old new x in
    (subst P is h.1).1

-- after a MESSAGE is accepted nothing has changed, and the event has that MESSAGE
pub message_after : (f : Content) (old new : Client ℕ) (m : Content) (e : ClientEvent ℕ) → e ≡ event.Message m
    → Accepts f old new (Ok e)
    → (m ≡ f) × (new ≡ old)
message_after f old new m e is h =
    let P : ClientEvent ℕ → Type 0 = λ x. TellsFrame f old new x in
    let t = subst P is h.1 in
    (t.0, t.2)

-- what is told of one frame and client is told of others that are the same
pub answers_at : (kind : Kind) (f g : Content) (old between new : Client ℕ) (r : Result Taken ReceptionFault) → g ≡ f
    → between ≡ old
    → Answers kind g between new r → Answers kind f old new r
answers_at kind f g old between new r frame same h =
    subst (λ f. Answers kind f old new r) frame (subst (λ c. Answers kind g c new r) same h)

-- to prepare an equal frame by an equal client is to prepare this one
pub prepares_at : (kind : Kind) (f g : Content) (old between new : ClientWithRoom ℕ) (r : Result Prepared Untaken)
    → g ≡ f
    → between.client ≡ old.client → PreparesFrame kind g between new r → PreparesFrame kind f old new r
prepares_at kind f g old between new (Ok (Done taken)) frame same h =
    (h.0, answers_at kind f g old.client between.client new.client (Ok taken) frame same h.1)
prepares_at kind f g old between new (Ok (Letter p)) frame same h = (h.0 ∙ frame, h.1 ∙ same, h.2)
prepares_at kind f g old between new (Ok (Settle p)) frame same h = (h.0 ∙ frame, h.1 ∙ same, h.2)
prepares_at kind f g old between new (Err untaken) frame same h = (
  h.0,
  answers_at kind f g old.client between.client new.client (Err untaken.fault) frame same h.1,
  h.2 ∙ ap (waiting_after untaken.fault) frame,
)
