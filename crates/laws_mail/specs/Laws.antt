-- No call makes an envelope up, whatever test the envelopes on their way pass.
use Rattle.std.specs.Prelude.{◌≡◌, ℕ, ◌≤◌, Bool, true, false, List, [], ◌++◌, Option, Some, None, Result, Ok, Err}
use Rattle.std.specs.List.{AllByRecursion}
use Rattle.base.specs.declared.limits.TheConstants.{MAX_BODY}
use Rattle.stomp_frame.specs.Frames.{Content, IsFrame}
use Rattle.stomp_frame.specs.Streams.{canonical_texts}
use Rattle.stomp_frame.specs.declared.fault.FrameFault.{FrameFault}
use Rattle.stomp_frame.specs.declared.fault.FrameFault.TheVariants.{Memory}
use Rattle.stomp_client.specs.Frames.{in_transaction, with_receipt}
use Rattle.broker_core.specs.Feeding.{DispatchAnswer}
use Rattle.broker_core.specs.declared.fault.BrokerFault.{BrokerFault}
use Rattle.envelope.specs.Reading.{read_frame}
use Rattle.envelope.specs.Written.{IsEnvelope, send_of}
use Rattle.envelope.specs.declared.message.Envelope.{Envelope}
use Rattle.schedule_mail.specs.Connecting.{CarriesDown, CarriesUp, Cuts, Opens, TakesNext}
use Rattle.schedule_mail.specs.Mails.{Mail, new_mail, restarted}
use Rattle.schedule_mail.specs.Repeating.{Repeats}
use Rattle.schedule_mail.specs.declared.connection.Connection.{Connection}
use Rattle.schedule_mail.specs.declared.repeat_fault.RepeatFault.{RepeatFault}
use Rattle.laws_mail.specs.Passing.{AreOf, GoodConnection, GoodFrame, GoodMail, GoodWith, at, carries, passing}

-- ---- what the next frame's answer leaves

-- A given frame is good and all is kept. For want of memory nothing has changed; behind another fault the connection is
-- to be cut, and the mail is as good as it was.
abbrev pub TakenGood : (Envelope → Type 0) → (up down : ℕ → List ℕ) → (old new : Connection) → Mail
    → Result (Option Content) FrameFault
    → Type 0
TakenGood ok up down old new o (Ok (Some f)) = GoodFrame ok f × (GoodConnection ok new × GoodWith ok new up down o)
TakenGood ok up down old new o (Ok None) = GoodConnection ok new × GoodWith ok new up down o
TakenGood ok up down old new o (Err Memory) = new ≡ old
TakenGood ok up down old new o (Err fault) = Unit {0}

-- ---- each call, of envelopes that pass a test

module _ (test : Envelope → Bool) (up down : ℕ → List ℕ) where
  -- all that is on its way passes
  abbrev pub IsGood : Mail → Type 0
  IsGood o = GoodMail (passing test) up down o

  -- the same with what a connection has on its way now
  abbrev pub IsGoodWith : Connection → Mail → Type 0
  IsGoodWith c o = GoodWith (passing test) c up down o

  abbrev pub OpeningIsGood : Type 0
  OpeningIsGood = (from : Mail) (c : Connection) (to : Mail) → Opens from to (Ok c) → IsGood from
      → GoodConnection (passing test) c × IsGoodWith c to

  abbrev pub CarryingUpIsGood : Type 0
  CarryingUpIsGood =
      (most : ℕ) (old : Connection) (from : Mail) (new : Connection) (to : Mail) (r : Result ℕ BrokerFault)
      → CarriesUp most old from new to r → AreOf old up down → IsGood from → IsGoodWith new to

  abbrev pub CarryingDownIsGood : Type 0
  CarryingDownIsGood =
      (most : ℕ) (old : Connection) (from : Mail) (new : Connection) (to : Mail) (r : Result ℕ FrameFault)
      → CarriesDown most old from new to r → old.session ≤ from.broker.opened → AreOf old up down → IsGood from
      → IsGoodWith new to

  abbrev pub TakingIsGood : Type 0
  TakingIsGood = (old new : Connection) (o : Mail) (r : Result (Option Content) FrameFault) → TakesNext old new r
      → AreOf old up down
      → GoodConnection (passing test) old → IsGood o → TakenGood (passing test) up down old new o r

  -- what a client writes behind its text
  abbrev pub WritingIsGood : Type 0
  WritingIsGood = (n : ℕ) (frames : List Content) (o : Mail) → n ≤ o.broker.opened
      → AllByRecursion (GoodFrame (passing test)) frames
      → IsGood o
      → GoodMail (passing test) (at n (up n ++ canonical_texts frames) up) (at n (down n) down) o

  -- all that was on its way is lost
  abbrev pub CuttingIsGood : Type 0 → Type 0
  CuttingIsGood E = (c : Connection) (from to : Mail) (r : Result (Unit {0}) E) → Cuts c from to r → IsGood from
      → GoodMail (passing test) (at c.session [] up) (at c.session [] down) to

  abbrev pub DealingIsGood : Type 0 → Type 0
  DealingIsGood E = (from to : Mail) (r : Result (Unit {0}) E) → DispatchAnswer from.broker to.broker r
      → to.earlier ≡ from.earlier → IsGood from → IsGood to

  abbrev pub RepeatingIsGood : Type 0
  RepeatingIsGood = (place : ℕ) (from to : Mail) (r : Result (Option ℕ) RepeatFault) → Repeats place from to r
      → IsGood from → IsGood to

  abbrev pub RestartingIsGood : Type 0
  RestartingIsGood = (o : Mail) → IsGood o → GoodMail (passing test) (λ _. []) (λ _. []) (restarted o)

-- nothing is on its way at first
abbrev pub NothingIsGood : (Envelope → Bool) → Type 0
NothingIsGood test = GoodMail (passing test) (λ _. []) (λ _. []) new_mail

-- ---- frames

-- the SEND of an envelope that passes, alone, with a receipt's number, and in a transaction
abbrev pub SendsAreGood : Type 0
SendsAreGood = (test : Envelope → Bool) (e : Envelope) → IsEnvelope e → test e ≡ true
    → (IsFrame MAX_BODY (send_of e) → GoodFrame (passing test) (send_of e))
    × ((number : ℕ) → IsFrame MAX_BODY (with_receipt number (send_of e))
    → GoodFrame (passing test) (with_receipt number (send_of e)))
    × ((number : ℕ) → IsFrame MAX_BODY (in_transaction (Some number) (send_of e))
    → GoodFrame (passing test) (in_transaction (Some number) (send_of e)))

-- each frame that is no SEND and no MESSAGE
abbrev pub OthersAreGood : Type 0
OthersAreGood =
    (test : Envelope → Bool) (f : Content) → carries f.command ≡ false → IsFrame MAX_BODY f → GoodFrame (passing test) f

-- what is read of a good MESSAGE passes
abbrev pub ReadingPasses : Type 0
ReadingPasses = (test : Envelope → Bool) (f : Content) (e : Envelope) → GoodFrame (passing test) f
    → read_frame f ≡ Some e → test e ≡ true

-- ---- another test

-- where more envelopes pass, what was good is
abbrev pub MoreMayPass : Type 0
MoreMayPass = (test other : Envelope → Bool) → ((e : Envelope) → test e ≡ true → other e ≡ true)
    → (up down : ℕ → List ℕ) (o : Mail)
    → GoodMail (passing test) up down o → GoodMail (passing other) up down o
