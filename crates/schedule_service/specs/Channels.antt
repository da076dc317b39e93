-- The two connections of a service, and how they are cut.
use Rattle.std.specs.Prelude.{◌≡◌, ℕ, Option, Some, None, Result, Ok, Err, ⊤}
use Rattle.std.specs.declared.alloc.AllocError.{AllocError}
use Rattle.base.specs.declared.pair.Pair.{Pair}
use Rattle.endpoint.specs.declared.fault.EndFault.{EndFault}
use Rattle.endpoint.specs.declared.fault.EndFault.TheVariants.{StoreFailed}
use Rattle.keep.specs.Tables.{Messages}
use Rattle.schedule_mail.specs.Connecting.{Cuts}
use Rattle.schedule_mail.specs.Mails.{Mail}
use Rattle.relay.specs.Filling.{SendState, send_state, marks_of}
use Rattle.relay.specs.Knowing.{KnowsRows}
use Rattle.relay.specs.declared.relay.Relay.{Relay}
use Rattle.schedule_text.specs.declared.event.ConnectionNumber.{ConnectionNumber}
use Rattle.schedule_text.specs.declared.event.ConnectionNumber.TheVariants.{Zero, One}
use Rattle.schedule_service.specs.declared.fate.ChannelFate.{ChannelFate}
use Rattle.schedule_service.specs.declared.fate.ChannelFate.TheVariants.{Stays, IsCut, BothAreCut}
use Rattle.schedule_service.specs.declared.site_channel.SiteChannel.{SiteChannel}
use Rattle.schedule_service.specs.declared.site.Site.{Site}

-- what was sent on a channel, and its client
abbrev pub sending : SiteChannel → SendState
sending l = send_state l.relay l.connection.channel.client

-- nothing counts as sent, and the relay's cursor leaves out no row, whatever the outbox
pub record IsAllDue (relay : Relay) : Type 0 where
  pub marks : (p : Pair) → marks_of relay p ≡ 0
  pub knows : (rows : ℕ) (messages : Messages) → KnowsRows relay rows messages

-- what stands at number 0 behind a change of the one of this number, and at number 1
abbrev pub at_zero : {A : Type 0} → ConnectionNumber → (new old : A) → A
at_zero Zero new old = new
at_zero One new old = old

abbrev pub at_one : {A : Type 0} → ConnectionNumber → (new old : A) → A
at_one Zero new old = old
at_one One new old = new

-- of two things the one of this number
abbrev pub at_number : {A : Type 0} → ConnectionNumber → (zero one : A) → A
at_number Zero zero one = zero
at_number One zero one = one

-- the relay of a connection is so, where it is open
abbrev pub ChannelHas : (Relay → Type 0) → Option SiteChannel → Type 0
ChannelHas Is None = ⊤
ChannelHas Is (Some l) = Is l.relay

-- the mail behind the cut of a connection, where it was open; that memory was refused to the deals isn't told
abbrev pub MailAfterCut : Option SiteChannel → Mail → Mail → Type 0
MailAfterCut None from to = to ≡ from
MailAfterCut (Some l) from to = (r : Result (Unit {0}) AllocError) × Cuts l.connection from to r

module _ {H K S C : Type 0} where
  -- the connection of a number, where it is open
  abbrev pub channel_of : ConnectionNumber → Site H K S C → Option SiteChannel
  channel_of number s = at_number number s.zero s.one

  -- the site with this in its place
  abbrev pub with_channel : ConnectionNumber → Option SiteChannel → Site H K S C → Site H K S C
  with_channel number l s = record s { zero = at_zero number l s.zero; one = at_one number l s.one }

  -- the relays of both connections are so, where they are open
  abbrev pub ChannelsHave : (Relay → Type 0) → Site H K S C → Type 0
  ChannelsHave Is s = ChannelHas Is s.zero × ChannelHas Is s.one

  -- a connection is taken out, where it is open
  abbrev pub TakesChannel : ConnectionNumber → Site H K S C → Site H K S C → Option SiteChannel → Type 0
  TakesChannel number s t (Some l) = (channel_of number s ≡ Some l) × (t ≡ with_channel number None s)
  TakesChannel number s t None = (channel_of number s ≡ None) × (t ≡ s)

  -- nothing has changed
  abbrev pub Same : Site H K S C → Mail → Site H K S C → Mail → Type 0
  Same s from t to = (t ≡ s) × (to ≡ from)

  -- both connections are cut, that of number 0 first
  pub record CutsBoth (s : Site H K S C) (from : Mail) (t : Site H K S C) (to : Mail) : Type 0 where
    pub between : Mail
    pub zero : MailAfterCut s.zero from between
    pub one : MailAfterCut s.one between to
    pub site : t ≡ record s { zero = None; one = None }

  -- behind a fault of the endpoint both are cut where the store failed, and else nothing changes
  abbrev pub AfterFault : EndFault → Site H K S C → Mail → Site H K S C → Mail → Type 0
  AfterFault StoreFailed s from t to = CutsBoth s from t to
  AfterFault _ s from t to = Same s from t to

  -- and behind an answer
  abbrev pub After : {R : Type 0} → Result R EndFault → Site H K S C → Mail → Site H K S C → Mail → Type 0
  After (Ok _) s from t to = Same s from t to
  After (Err fault) s from t to = AfterFault fault s from t to

  -- an open connection, which is this now, has this fate
  abbrev pub Meets : ChannelFate → ConnectionNumber → SiteChannel → Site H K S C → Mail → Site H K S C → Mail
      → Type 0
  Meets Stays number l s from t to = Same (with_channel number (Some l) s) from t to
  Meets IsCut number l s from t to = MailAfterCut (Some l) from to × (t ≡ with_channel number None s)
  Meets BothAreCut number l s from t to = CutsBoth (with_channel number (Some l) s) from t to

  -- and where it isn't open
  abbrev pub MeetsAlone : ChannelFate → Site H K S C → Mail → Site H K S C → Mail → Type 0
  MeetsAlone Stays s from t to = Same s from t to
  MeetsAlone IsCut s from t to = Same s from t to
  MeetsAlone BothAreCut s from t to = CutsBoth s from t to
