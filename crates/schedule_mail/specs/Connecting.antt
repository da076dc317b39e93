-- What each call of a connection does and answers.
use Rattle.std.specs.Prelude.{◌≡◌, ℕ, min, true, List, length, take, Option, None, Result, Ok, Err}
use Rattle.base.specs.declared.limits.TheConstants.{MAX_BODY, MAX_QUEUED}
use Rattle.stomp_frame.specs.declared.fault.FrameFault.{FrameFault}
use Rattle.stomp_frame.specs.Frames.{Content, IsFrame}
use Rattle.stomp_frame.specs.Calls.{nothing_held}
use Rattle.stomp_client.specs.Clients.{new_client, connecting}
use Rattle.stomp_client.specs.Frames.{connect_frame}
use Rattle.stomp_client.specs.declared.fault.ClientFault.TheVariants.{Memory as NoMemory}
use Rattle.channel.specs.Calls.{ChannelFeeds, ChannelSends, GivesNext, outgoing}
use Rattle.broker_core.specs.Calls.{OpenAnswer, OpensSession, dropped, out_in, without_first}
use Rattle.broker_core.specs.Feeding.{DispatchAnswer, FeedAnswer, Feeds, FeedsPart}
use Rattle.broker_core.specs.Serving.{changing, session_of}
use Rattle.broker_core.specs.declared.fault.BrokerFault.{BrokerFault}
use Rattle.broker_core.specs.declared.fault.BrokerFault.TheVariants.{Memory}
use Rattle.schedule_mail.specs.Mails.{Mail}
use Rattle.schedule_mail.specs.declared.connection.Connection.{Connection}
use Rattle.schedule_mail.specs.declared.fault.OpenFault.{OpenFault}
use Rattle.schedule_mail.specs.declared.fault.OpenFault.TheVariants.{Client as OfClient, Broker as OfBroker}

-- ---- open

-- a new connection: CONNECT waits to be carried, nothing came down, and the broker has a session for it
pub record Opened (from : Mail) (c : Connection) (to : Mail) : Type 0 where
  pub session : OpensSession from.broker c.session to.broker
  pub earlier : to.earlier ≡ from.earlier
  pub is_frame : IsFrame MAX_BODY connect_frame
  pub client : c.channel.client.client ≡ connecting new_client
  pub decoder : c.channel.decoder ≡ nothing_held
  pub waiting : c.channel.waiting ≡ None

-- What `open` answers: a new connection; or why there is none, and nothing has changed.
abbrev pub Opens : Mail → Mail → Result Connection OpenFault → Type 0
Opens from to (Ok c) = Opened from c to
Opens from to (Err (OfClient fault)) = (fault ≡ NoMemory) × (to ≡ from)
Opens from to (Err (OfBroker fault)) = OpenAnswer from.broker from.broker (Err fault) × (to ≡ from)

-- ---- carry_up

-- the octets that wait to be carried up
abbrev pub rising : Connection → List ℕ
rising c = outgoing c.channel

-- how many of those that wait are carried, where at most so many may be
abbrev pub carried : ℕ → List ℕ → ℕ
carried most waiting = min most (length waiting)

-- the octets that are carried: the first of those that wait
abbrev pub piece_of : ℕ → List ℕ → List ℕ
piece_of most waiting = take (carried most waiting) waiting

-- so many octets left the client, and nothing else of the connection changed
pub record SendsOctets (count : ℕ) (old new : Connection) : Type 0 where
  pub session : new.session ≡ old.session
  pub channel : ChannelSends count old.channel new.channel

-- the octets went up whole, so many, and this many frames were handled
pub record CarriedUp (most : ℕ) (old : Connection) (from : Mail) (new : Connection) (to : Mail) (count : ℕ) : Type 0
  where
    pub handled : ℕ
    pub counted : count ≡ carried most (rising old)
    pub feeds : Feeds MAX_QUEUED from.broker old.session (piece_of most (rising old)) to.broker handled
    pub earlier : to.earlier ≡ from.earlier
    pub sends : SendsOctets count old new

-- the octets went up whole, and memory was refused as they were handled
pub record CarriedUpPart (most : ℕ) (old : Connection) (from : Mail) (new : Connection) (to : Mail) : Type 0 where
  pub feeds : FeedsPart MAX_QUEUED from.broker old.session (piece_of most (rising old)) to.broker
  pub earlier : to.earlier ≡ from.earlier
  pub sends : SendsOctets (carried most (rising old)) old new

-- What `carry_up` answers: how many octets went over; memory was refused behind that; or the broker's refusal, and
-- nothing has changed.
abbrev pub CarriesUp : ℕ → Connection → Mail → Connection → Mail → Result ℕ BrokerFault → Type 0
CarriesUp most old from new to (Ok count) = CarriedUp most old from new to count
CarriesUp most old from new to (Err (Memory true)) = CarriedUpPart most old from new to
CarriesUp most old from new to (Err fault) =
    FeedAnswer MAX_QUEUED from.broker old.session (piece_of most (rising old)) from.broker (Err fault) × (to ≡ from)
    × (new ≡ old)

-- ---- carry_down

-- the octets that wait to be carried down
abbrev pub falling : Connection → Mail → List ℕ
falling c o = out_in (session_of c.session o.broker)

-- the octets went down, so many
pub record CarriedDown (most : ℕ) (old : Connection) (from : Mail) (new : Connection) (to : Mail) (count : ℕ) : Type
    0 where
  pub counted : count ≡ carried most (falling old from)
  pub feeds : ChannelFeeds old.channel new.channel (piece_of most (falling old from)) (Ok tt)
  pub same : new ≡ record old { channel = new.channel }
  pub left : to ≡ record from { broker = changing old.session (without_first count) from.broker }

-- What `carry_down` answers: how many octets went over; or the decoder's refusal, and nothing has changed.
abbrev pub CarriesDown : ℕ → Connection → Mail → Connection → Mail → Result ℕ FrameFault → Type 0
CarriesDown most old from new to (Ok count) = CarriedDown most old from new to count
CarriesDown most old from new to (Err fault) =
    ChannelFeeds old.channel old.channel (piece_of most (falling old from)) (Err fault) × (to ≡ from) × (new ≡ old)

-- ---- the next frame

-- What `next` of a connection's channel answers, and nothing else of the connection changes.
abbrev pub TakesNext : Connection → Connection → Result (Option Content) FrameFault → Type 0
TakesNext old new r = GivesNext old.channel new.channel r × (new ≡ record old { channel = new.channel })

-- ---- cut

-- the session is dropped
abbrev pub without_session : ℕ → Mail → Mail
without_session n o = record o { broker = dropped n o.broker (session_of n o.broker) }

-- What `cut` does: the session is dropped, and then messages are dealt until none can be, or until memory is refused.
pub record Cuts {E : Type 0} (c : Connection) (from to : Mail) (r : Result (Unit {0}) E) : Type 0 where
  pub deals : DispatchAnswer (without_session c.session from).broker to.broker r
  pub earlier : to.earlier ≡ from.earlier
