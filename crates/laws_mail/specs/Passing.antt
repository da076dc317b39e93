-- Which envelopes are on their way: in a broker, in what it kept, and in the octets to and from its sessions.
use Rattle.std.specs.Prelude.{◌≡◌, ◌==◌, ℕ, ◌<◌, Bool, true, false, if◌then◌else◌, List, [], ◌++◌, Option, Some, None}
use Rattle.std.specs.Prelude.{Ok, Err}
use Rattle.std.specs.List.{AllByRecursion}
use Rattle.base.specs.declared.limits.TheConstants.{MAX_BODY}
use Rattle.stomp_frame.specs.Frames.{Content, Header, IsFrame}
use Rattle.stomp_frame.specs.Streams.{SpellsAll}
use Rattle.stomp_frame.specs.declared.command.Command.{Command}
use Rattle.stomp_frame.specs.declared.command.Command.TheVariants.{Send, Message}
use Rattle.stomp_session.specs.Fitting.{Fits}
use Rattle.stomp_session.specs.Replies.{IsEchoed}
use Rattle.stomp_session.specs.declared.request.Request.{Request}
use Rattle.stomp_session.specs.declared.request.Request.TheVariants.{Send as Sending}
use Rattle.stomp_client.specs.Written.{Wrote}
use Rattle.broker_book.specs.Books.{Book}
use Rattle.broker_book.specs.declared.parts.Sent.{Sent}
use Rattle.broker_book.specs.declared.parts.Subscription.{Subscription}
use Rattle.broker_core.specs.Serving.{Decided, Server, session_of}
use Rattle.broker_core.specs.declared.session.Session.{Session}
use Rattle.laws_broker.specs.Fitting.{AcceptedFits, BookFits, TransactionFits}
use Rattle.envelope.specs.Reading.{read_envelope}
use Rattle.envelope.specs.declared.message.Envelope.{Envelope}
use Rattle.schedule_mail.specs.Mails.{Mail}
use Rattle.schedule_mail.specs.declared.connection.Connection.{Connection}

-- those that pass a test
abbrev pub passing : (Envelope → Bool) → Envelope → Type 0
passing test e = test e ≡ true

-- ---- frames

-- SEND and MESSAGE carry envelopes
abbrev pub carries : Command → Bool
carries Send = true
carries Message = true
carries _ = false

module _ (ok : Envelope → Type 0) where
  -- the envelope that headers and a body stand for, if any, is one of those
  abbrev pub Means : List Header → List ℕ → Type 0
  Means headers body = (e : Envelope) → read_envelope headers body ≡ Some e → ok e

  -- a frame, and what it carries is one of those
  pub record GoodFrame (f : Content) : Type 0 where
    pub fits : IsFrame MAX_BODY f
    pub means : carries f.command ≡ true → Means f.headers f.body

  -- a text spells such frames
  pub record Spelled (text : List ℕ) : Type 0 where
    pub frames : List Content
    pub each : AllByRecursion GoodFrame frames
    pub spelled : SpellsAll MAX_BODY frames text

  -- ---- what a broker keeps

  -- what a SEND brought
  abbrev pub Brought : Sent → Type 0
  Brought s = Means s.headers s.body

  -- a subscription's name can be told
  abbrev pub HasName : Subscription → Type 0
  HasName s = IsEchoed s.id

  -- all that lives and all that was accepted brought such envelopes, or none
  abbrev pub GoodBook : Book → Type 0
  GoodBook b = BookFits Brought HasName b

  -- the same of what a request brings
  abbrev pub GoodRequest : Request → Type 0
  GoodRequest (Sending s) = Fits (Sending s) × Means s.headers s.body
  GoodRequest request = Fits request

  -- the same of a frame that was decided; a refused one is only named by its receipt
  abbrev pub GoodDecided : Decided → Type 0
  GoodDecided (Ok request) = GoodRequest request
  GoodDecided (Err refused) = IsFrame MAX_BODY refused.frame

  -- the same of what waits, if anything does
  abbrev pub GoodWaiting : Option Decided → Type 0
  GoodWaiting None = Unit {0}
  GoodWaiting (Some decided) = GoodDecided decided

  -- A session, to which these octets are on their way, and which these have left. What comes to one that is closed, or
  -- that has met a fault, is thrown away.
  pub record GoodSession (up down : List ℕ) (s : Session) : Type 0 where
    pub waits : GoodWaiting s.incoming.waiting
    pub comes : s.closed ≡ false → s.incoming.decoder.failed ≡ false → Spelled (s.incoming.decoder.octets ++ up)
    pub transactions : AllByRecursion (TransactionFits Brought) s.transactions
    pub goes : Spelled (down ++ s.out)

  -- a broker with what is on its way to and from the session of each number; what left one that is away is still
  -- spelled
  pub record GoodServer (up down : ℕ → List ℕ) (b : Server) : Type 0 where
    pub book : GoodBook b.book
    pub sessions : (n : ℕ) (s : Session) → session_of n b ≡ Some s → GoodSession (up n) (down n) s
    pub gone : (n : ℕ) → session_of n b ≡ None → Spelled (down n)

  -- ---- the mail and its connections

  -- all SENDs that were ever accepted, too; and nothing is on its way to or from a session that wasn't opened yet
  pub record GoodMail (up down : ℕ → List ℕ) (o : Mail) : Type 0 where
    pub server : GoodServer up down o.broker
    pub earlier : AllByRecursion (AcceptedFits Brought) o.earlier
    pub above : (n : ℕ) → o.broker.opened < n → (up n ≡ []) × (down n ≡ [])

  -- the frame that waits, if one does
  abbrev pub GoodNext : Option Content → Type 0
  GoodNext None = Unit {0}
  GoodNext (Some f) = GoodFrame f

-- what a client wrote, of which this is left, are canonical texts of such frames
pub record HasWritten (ok : Envelope → Type 0) (out : List ℕ) : Type 0 where
  pub frames : List Content
  pub each : AllByRecursion (GoodFrame ok) frames
  pub gone : List ℕ
  pub wrote : Wrote frames gone out

-- a connection alone: the frame that waits, and what its client wrote, whether or not the broker still has a session for it
pub record GoodConnection (ok : Envelope → Type 0) (c : Connection) : Type 0 where
  pub waits : GoodNext ok c.channel.waiting
  pub wrote : HasWritten ok c.channel.client.client.out

-- ---- what is on its way

-- the octets on their way up: those that the client wrote and that weren't carried
abbrev pub going : Connection → List ℕ
going c = c.channel.client.client.out

-- the octets on their way down: those that were carried and are no frame yet
abbrev pub coming : Connection → List ℕ
coming c = c.channel.decoder.octets

-- the same texts but at one number, where it is this one
abbrev pub at : ℕ → List ℕ → (ℕ → List ℕ) → ℕ → List ℕ
at n text on m = if n == m then text else on m

-- these are the texts of a connection
abbrev pub AreOf : Connection → (up down : ℕ → List ℕ) → Type 0
AreOf c up down = (up c.session ≡ going c) × (down c.session ≡ coming c)

-- the mail is good, with the texts that a connection has now
abbrev pub GoodWith : (Envelope → Type 0) → Connection → (up down : ℕ → List ℕ) → Mail → Type 0
GoodWith ok c up down o = GoodMail ok (at c.session (going c) up) (at c.session (coming c) down) o
