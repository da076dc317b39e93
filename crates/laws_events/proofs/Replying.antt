-- What a client writes for what came is good.
use Rattle.std.proofs.Common.{◌≡◌, ℕ, ◌+◌, ◌++◌, Bool, true, false, List, [], ◌∷◌, Option, Some, None, Result, Ok, Err}
use Rattle.std.proofs.Common.{sym, ap, ◌∙◌}
use Rattle.std.specs.Prelude.{⊤, if◌then◌else◌}
use Rattle.std.specs.List.{AllByRecursion}
use Rattle.std.proofs.lemmas.List.{append-nil}
use Rattle.base.specs.Entity.{queue_of}
use Rattle.base.specs.Number.{IsNumber}
use Rattle.base.specs.declared.entity.Kind.{Kind}
use Rattle.base.specs.declared.limits.TheConstants.{MAX_BODY}
use Rattle.base.specs.declared.pair.Pair.{Pair}
use Rattle.stomp_frame.specs.Frames.{Content}
use Rattle.stomp_frame.specs.Streams.{AreFrames, canonical_texts}
use Rattle.stomp_frame.specs.declared.command.Command.{Command}
use Rattle.stomp_frame.specs.declared.command.Command.TheVariants as command
use Rattle.stomp_client.specs.Clients.{Client}
use Rattle.stomp_client.specs.Frames.{subscribe_frame}
use Rattle.stomp_client.specs.declared.fault.ClientFault.TheVariants as client
use Rattle.envelope.specs.Reading.{if_message, read_frame, read_envelope}
use Rattle.envelope.specs.Written.{IsEnvelope}
use Rattle.envelope.specs.declared.fault.EnvelopeFault.TheVariants as envelope_fault
use Rattle.envelope.specs.declared.message.Envelope.{Envelope}
use Rattle.envelope.specs.declared.message.Envelope.TheVariants as envelope
use Rattle.envelope.specs.declared.message.Letter.{Letter}
use Rattle.envelope.proofs.Envelopes.{read_envelope-exact}
use Rattle.endpoint.specs.declared.fault.EndFault.{EndFault}
use Rattle.endpoint.specs.declared.fault.EndFault.TheVariants.{NotMine, Business, TooEarly, StoreFailed, Memory}
use Rattle.endpoint.specs.declared.fault.EndFault.TheVariants.{Unusable, NumberLimit}
use Rattle.endpoint.specs.declared.fault.EndFault.TheVariants.{NotSent}
use Rattle.reception.specs.Answers.{Answers}
use Rattle.reception.specs.Faults.{leaves_waiting}
use Rattle.reception.specs.Replies.{Writes, answer, settling, refusal}
use Rattle.reception.specs.declared.fault.ReceptionFault.{ReceptionFault}
use Rattle.reception.specs.declared.fault.ReceptionFault.TheVariants as fault
use Rattle.reception.specs.declared.taken.Taken.{Taken}
use Rattle.reception.specs.declared.taken.Taken.TheVariants.{Connected, Receipt, Handled, Repeated, Held, Settled}
use Rattle.reception.specs.declared.taken.Taken.TheVariants.{Error}
use Rattle.laws_mail.specs.Passing.{GoodFrame, GoodNext}
use Rattle.laws_mail.proofs.Frames.{ack_good, begin_good, commit_good, nack_good, send_within_good, subscribe_good}
use Rattle.schedule_service.specs.SiteSteps.{waiting_of}

-- ---- a letter that was read

message_alone : (c : Command) (found : Option Envelope) (e : Envelope) → if_message c found ≡ Some e → found ≡ Some e
message_alone command.Message found e h = h
message_alone _ found e h = let z : None ≡ Some e = h in cc

-- it can be written
pub letter_written : (f : Content) (l : Letter) → read_frame f ≡ Some (envelope.Letter l)
    → IsEnvelope (envelope.Letter l)
letter_written f l read = ((read_envelope-exact f.headers f.body (envelope.Letter l)).0
    (message_alone f.command (read_envelope f.headers f.body) (envelope.Letter l) read)).envelope

-- and so can a settle of its pair
settle_written : (f : Content) (l : Letter) (number : ℕ) → read_frame f ≡ Some (envelope.Letter l) → IsNumber number
    → IsEnvelope (envelope.Settle l.pair number)
settle_written f l number read is =
    let e = letter_written f l read in
    record { numbered = record { from = e.numbered.from; to = e.numbered.to; number = is }; message = tt }

module _ (ok : Envelope → Type 0) where
  -- a client wrote good frames, or none
  pub record WritesGood (old new : Client ℕ) : Type 0 where
    pub frames : List Content
    pub each : AllByRecursion (GoodFrame ok) frames
    pub out : new.out ≡ old.out ++ canonical_texts frames

  pub writes_none : (old new : Client ℕ) → new.out ≡ old.out → WritesGood old new
  writes_none old new same = record { frames = []; each = tt; out = same ∙ sym (append-nil old.out) }

  pub writes_these : (frames : List Content) (old new : Client ℕ) → AllByRecursion (GoodFrame ok) frames
      → Writes frames old new
      → WritesGood old new
  writes_these frames old new each writes =
      record { frames = frames; each = each; out = ap (λ (c : Client ℕ). c.out) writes.all }

  -- what a client is told of a letter, which it then settles so far
  abbrev pub MaySettle : Content → Result Taken ReceptionFault → Type 0
  MaySettle f (Ok (Handled position)) =
      (l : Letter) → read_frame f ≡ Some (envelope.Letter l) → ok (envelope.Settle l.pair l.number)
  MaySettle f (Ok (Repeated number)) = (l : Letter) → read_frame f ≡ Some (envelope.Letter l)
      → IsNumber number × ok (envelope.Settle l.pair number)
  MaySettle f _ = ⊤

  settling_good : (f : Content) (transaction : ℕ) (p : Pair) (n : ℕ) → IsEnvelope (envelope.Settle p n)
      → ok (envelope.Settle p n)
      → AreFrames MAX_BODY (settling f transaction p n) → AllByRecursion (GoodFrame ok) (settling f transaction p n)
  settling_good f transaction p n is good frames = (
    begin_good ok transaction frames.0,
    (
      ack_good ok f (Some transaction) frames.1.0,
      (
        send_within_good ok (envelope.Settle p n) (Some transaction) is good frames.1.1.0,
        (commit_good ok transaction frames.1.1.1.0, tt),
      ),
    ),
  )

  refusal_good : (f : Content) (cause : EndFault) → AreFrames MAX_BODY (refusal f cause)
      → AllByRecursion (GoodFrame ok) (refusal f cause)
  refusal_good f NotMine frames = (ack_good ok f None frames.0, tt)
  refusal_good f NotSent frames = (ack_good ok f None frames.0, tt)
  refusal_good f StoreFailed frames = tt
  refusal_good f (Business why) frames = (nack_good ok f None frames.0, tt)
  refusal_good f TooEarly frames = (nack_good ok f None frames.0, tt)
  refusal_good f Memory frames = (nack_good ok f None frames.0, tt)
  refusal_good f Unusable frames = (nack_good ok f None frames.0, tt)
  refusal_good f NumberLimit frames = (nack_good ok f None frames.0, tt)

  acknowledges : (f : Content) (old new : Client ℕ) → Writes (answer command.Ack f) old new → WritesGood old new
  acknowledges f old new writes =
      writes_these (answer command.Ack f) old new (ack_good ok f None writes.each.0, tt) writes

  same_client : (old new : Client ℕ) → new ≡ old → WritesGood old new
  same_client old new same = writes_none old new (ap (λ (c : Client ℕ). c.out) same)

  pub answers_good : (kind : Kind) (f : Content) (old new : Client ℕ) (r : Result Taken ReceptionFault)
      → Answers kind f old new r
      → MaySettle f r → WritesGood old new
  answers_good kind f old new (Ok Connected) h told = record {
    frames = subscribe_frame (queue_of kind) ∷ [];
    each = (subscribe_good ok (queue_of kind) h.2.each.0, tt);
    out = ap (λ (c : Client ℕ). c.out) h.2.all;
  }
  answers_good kind f old new (Ok (Receipt number)) h told = writes_none old new (ap (λ (c : Client ℕ). c.out) h.1.1.3)
  answers_good kind f old new (Ok (Error text)) h told = writes_none old new (ap (λ (c : Client ℕ). c.out) h.1.2)
  answers_good kind f old new (Ok (Handled position)) (l, carries, writes) told = record {
    frames = settling f (old.transactions + 1) l.pair l.number;
    each = settling_good f (old.transactions + 1) l.pair l.number
        (settle_written f l l.number carries.1 (letter_written f l carries.1).numbered.number) (told l carries.1)
        writes.each;
    out = ap (λ (c : Client ℕ). c.out) writes.all;
  }
  answers_good kind f old new (Ok (Repeated number)) (l, carries, writes) told =
      let known = told l carries.1 in
      record {
        frames = settling f (old.transactions + 1) l.pair number;
        each = settling_good f (old.transactions + 1) l.pair number (settle_written f l number carries.1 known.0)
            known.1 writes.each;
        out = ap (λ (c : Client ℕ). c.out) writes.all;
      }
  answers_good kind f old new (Ok Held) (l, carries, writes) told = acknowledges f old new writes
  answers_good kind f old new (Ok (Settled mark)) (pair, number, carries, writes) told = acknowledges f old new writes
  answers_good kind f old new (Err (fault.Frame cause)) h told = absurd h
  answers_good kind f old new (Err (fault.Client client.Memory)) h told = same_client old new h
  answers_good kind f old new (Err (fault.Client client.NumbersUsed)) h told = same_client old new h.3
  answers_good kind f old new (Err (fault.Client client.Closed)) h told = same_client old new h.1
  answers_good kind f old new (Err (fault.Client client.Unexpected)) h told =
      writes_none old new (ap (λ (c : Client ℕ). c.out) h.1)
  answers_good kind f old new (Err (fault.Client client.NotConnected)) h told = absurd h
  answers_good kind f old new (Err (fault.Client client.AlreadyConnected)) h told = absurd h
  answers_good kind f old new (Err (fault.Envelope envelope_fault.BadEnvelope)) h told = acknowledges f old new h.2
  answers_good kind f old new (Err (fault.Envelope envelope_fault.Memory)) h told = same_client old new h.1
  answers_good kind f old new (Err (fault.End cause)) h told =
      writes_these (refusal f cause) old new (refusal_good f cause h.1.each) h.1

  -- ---- the frame that waits again

  waits_if : (f : Content) → GoodFrame ok f → (b : Bool) → GoodNext ok (if b then Some f else None)
  waits_if f good true = good
  waits_if f good false = tt

  pub waiting_good : (f : Content) → GoodFrame ok f → (r : Result Taken ReceptionFault) → GoodNext ok (waiting_of r f)
  waiting_good f good (Ok taken) = tt
  waiting_good f good (Err why) = waits_if f good (leaves_waiting why)
