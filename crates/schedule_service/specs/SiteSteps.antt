-- What each event of a service does, and what it answers: exactly this of the service and of the mail, and nothing else
-- of them changes.
use Rattle.std.specs.Prelude.{◌≡◌, ℕ, false, Option, Some, None, Result, Ok, Err, IfSome, ⊤}
use Rattle.stomp_wire.specs.declared.wire.Way.{Way}
use Rattle.stomp_wire.specs.declared.wire.Way.TheVariants.{Up, Down}
use Rattle.stomp_frame.specs.Frames.{Content}
use Rattle.stomp_frame.specs.declared.fault.FrameFault.{FrameFault}
use Rattle.stomp_client.specs.Clients.{ClientWithRoom}
use Rattle.stomp_client.specs.declared.session.Stage.TheVariants.{Connected}
use Rattle.activities.specs.Service.{Service}
use Rattle.activities.specs.declared.input.Input.TheVariants.{FromSeat}
use Rattle.activities.specs.declared.input.JournalRow.{JournalRow}
use Rattle.keep.specs.Failing.{Failing, through}
use Rattle.keep.specs.Law.{Reads, Reopens}
use Rattle.keep.specs.Seen.{Seen}
use Rattle.keep.specs.Tables.{Tables}
use Rattle.keep.specs.declared.faulty.Leaves.{Leaves as LeftTables}
use Rattle.keep.specs.declared.faulty.Leaves.TheVariants.{Old as OldTables, New as NewTables}
use Rattle.endpoint.specs.Calls.{Commits, ComesBy, Stays, Finds}
use Rattle.endpoint.specs.Faults.{end_of}
use Rattle.endpoint.specs.declared.answer.Committed.{Committed}
use Rattle.endpoint.specs.declared.fault.EndFault.{EndFault}
use Rattle.relay.specs.Calls.{Fills, idle_answer, store_end}
use Rattle.relay.specs.Knowing.{KnowsAll}
use Rattle.relay.specs.declared.fault.RelayFault.{RelayFault}
use Rattle.relay.specs.declared.relay.Relay.{Relay}
use Rattle.broker_core.specs.declared.fault.BrokerFault.{BrokerFault}
use Rattle.schedule_mail.specs.Connecting.{Opens, CarriesUp, CarriesDown, TakesNext}
use Rattle.schedule_mail.specs.Mails.{Mail}
use Rattle.schedule_mail.specs.declared.connection.Connection.{Connection}
use Rattle.schedule_mail.specs.declared.fault.OpenFault.{OpenFault}
use Rattle.reception.specs.Answers.{Answers}
use Rattle.reception.specs.Deeds.{TakeMay, TellsOfUse}
use Rattle.reception.specs.Draining.{DrainsMay, TellsOfDraining, DrainWrites}
use Rattle.reception.specs.Faults.{waiting_after}
use Rattle.reception.specs.declared.fault.ReceptionFault.{ReceptionFault}
use Rattle.reception.specs.declared.taken.Drained.{Drained}
use Rattle.reception.specs.declared.taken.Taken.{Taken}
use Rattle.schedule_text.specs.declared.event.ConnectionNumber.{ConnectionNumber}
use Rattle.schedule_text.specs.declared.event.FailureLeaves.{FailureLeaves}
use Rattle.schedule_text.specs.declared.event.FailureLeaves.TheVariants as failure
use Rattle.schedule_text.specs.declared.event.SeatCommand.{SeatCommand}
use Rattle.schedule_text.specs.declared.outcome.Outcome.{Outcome}
use Rattle.schedule_text.specs.declared.outcome.Outcome.TheVariants as told
use Rattle.schedule_service.specs.SiteEvents.{SiteEvent}
use Rattle.schedule_service.specs.SiteEvents as event
use Rattle.schedule_service.specs.Channels.{sending, IsAllDue, MailAfterCut, channel_of, with_channel, Same, CutsBoth}
use Rattle.schedule_service.specs.Channels.{After, Meets, MeetsAlone}
use Rattle.schedule_service.specs.Outcomes.{commit_told, open_told, fill_told, fill_fate, rise_told, decoder_told}
use Rattle.schedule_service.specs.Outcomes.{decoder_fate, fall_told, fall_fate}
use Rattle.schedule_service.specs.Outcomes.{taken_told, taken_fate, drain_told, drain_fate, end_told}
use Rattle.schedule_service.specs.declared.site_channel.SiteChannel.{SiteChannel}
use Rattle.schedule_service.specs.declared.site.Site.{Site}

-- the journal's row of a seat's command
abbrev pub command_row : {C : Type 0} → SeatCommand C → JournalRow C
command_row asked = record { entity = asked.entity; input = FromSeat asked.seat asked.command }

-- which tables a store leaves that is to fail
abbrev pub leaves_of : FailureLeaves → LeftTables
leaves_of failure.Old = OldTables
leaves_of failure.New = NewTables

-- the channel with this connection
abbrev pub over : SiteChannel → Connection → SiteChannel
over l c = record l { connection = c }

-- the frame that waits behind an answer: that which wasn't taken
abbrev pub waiting_of : Result Taken ReceptionFault → Content → Option Content
waiting_of (Ok _) f = None
waiting_of (Err fault) f = waiting_after fault f

module _ {H K S C : Type 0} where
  -- an event of a connection that isn't open does nothing; of one that is, this
  abbrev pub IfOpen : Option SiteChannel → Outcome → (s : Site H K S C) (from : Mail) (t : Site H K S C) (to : Mail)
      → (SiteChannel
      → Type 0) → Type 0
  IfOpen None outcome s from t to Does = (outcome ≡ told.Closed) × Same s from t to
  IfOpen (Some l) outcome s from t to Does = Does l

  -- the site with what became of its store
  abbrev pub with_store : Failing K → Site H K S C → Site H K S C
  with_store e s = record s { endpoint = e }

  -- ---- opening and cutting

  -- a new connection, on which nothing counts as sent; or why there is none
  abbrev pub Adds : ConnectionNumber → Result Connection OpenFault → (s t : Site H K S C) → Type 0
  Adds number (Ok c) s t = (relay : Relay) × IsAllDue relay
      × (t ≡ with_channel number (Some (record { connection = c; relay = relay })) s)
  Adds number (Err fault) s t = t ≡ s

  abbrev pub OpensChannel : ConnectionNumber → Option SiteChannel → Outcome → Site H K S C → Mail → Site H K S C
      → Mail → Type 0
  OpensChannel number (Some l) outcome s from t to = (outcome ≡ told.Already) × Same s from t to
  OpensChannel number None outcome s from t to =
      (r : Result Connection OpenFault) × Opens from to r × (outcome ≡ open_told r) × Adds number r s t

  abbrev pub CutsChannel : ConnectionNumber → SiteChannel → Outcome → Site H K S C → Mail → Site H K S C → Mail
      → Type 0
  CutsChannel number l outcome s from t to =
      (outcome ≡ told.Cut) × MailAfterCut (Some l) from to × (t ≡ with_channel number None s)

  -- all rows are due again
  abbrev pub Resends : ConnectionNumber → SiteChannel → Outcome → Site H K S C → Mail → Site H K S C → Mail → Type 0
  Resends number l outcome s from t to = (outcome ≡ told.Due)
      × ((relay : Relay) × IsAllDue relay × Same (with_channel number (Some (record l { relay = relay })) s) from t to)

  -- ---- octets

  -- the first octets that wait went over
  pub record Rises (number : ConnectionNumber) (most : ℕ) (l : SiteChannel) (outcome : Outcome) (s : Site H K S C)
      (from : Mail)
      (t : Site H K S C) (to : Mail) : Type 0 where
    pub result : Result ℕ BrokerFault
    pub later : Connection
    pub carries : CarriesUp most l.connection from later to result
    pub tells : outcome ≡ rise_told result
    pub site : t ≡ with_channel number (Some (over l later)) s

  pub record Falls (number : ConnectionNumber) (most : ℕ) (l : SiteChannel) (outcome : Outcome) (s : Site H K S C)
      (from : Mail)
      (t : Site H K S C) (to : Mail) : Type 0 where
    pub result : Result ℕ FrameFault
    pub later : Connection
    pub between : Mail
    pub carries : CarriesDown most l.connection from later between result
    pub tells : outcome ≡ fall_told result
    pub meets : Meets (fall_fate result) number (over l later) s between t to

  abbrev pub CarriesOn : Way → ConnectionNumber → ℕ → SiteChannel → Outcome → Site H K S C → Mail → Site H K S C
      → Mail → Type 0
  CarriesOn Up number most l outcome s from t to = Rises number most l outcome s from t to
  CarriesOn Down number most l outcome s from t to = Falls number most l outcome s from t to

  -- ---- the store is told to fail

  abbrev pub ArmsStore : ℕ → FailureLeaves → Outcome → Site H K S C → Mail → Site H K S C → Mail → Type 0
  ArmsStore n leaves outcome s from t to = (outcome ≡ told.Armed)
      × Same (with_store (record s.endpoint { armed = Some (record { calls = n; leaves = leaves_of leaves }) }) s) from
      t to

module _ {H K S C : Type 0} (seen : K → Seen (Tables S C)) (service : Service S C) where
  -- ---- commands

  -- a command is given to the endpoint
  pub record TakesCommand (asked : SeatCommand C) (outcome : Outcome) (s : Site H K S C) (from : Mail)
      (t : Site H K S C) (to : Mail)
      : Type 0 where
    pub result : Result Committed EndFault
    pub commits : Commits (through seen) s.endpoint t.endpoint service (command_row asked) result
    pub tells : outcome ≡ commit_told result
    pub after : After result (with_store t.endpoint s) from t to

  -- ---- sending

  -- The rows that are due are sent, up to the limit; before CONNECTED none, and the store isn't called. Where the
  -- tables match their journal and the relay's cursor was right, none is left out, and it is right afterwards.
  pub record SendsRows (number : ConnectionNumber) (limit : ℕ) (l : SiteChannel) (outcome : Outcome) (s : Site H K S C)
      (from : Mail)
      (t : Site H K S C) (to : Mail) : Type 0 where
    pub result : Result ℕ RelayFault
    pub later : SiteChannel
    pub idle : IfSome (idle_answer l.connection.channel.client.client.stage)
        (λ answer. (result ≡ answer) × (t.endpoint ≡ s.endpoint) × (sending later ≡ sending l))
    pub reads : l.connection.channel.client.client.stage ≡ Connected
        → Reads (through seen) s.endpoint t.endpoint (λ _ _. ⊤) (store_end result)
    pub keeps : Stays (through seen) s.endpoint t.endpoint
    pub unused : (through seen s.endpoint).usable ≡ false → sending later ≡ sending l
    pub fills : l.connection.channel.client.client.stage ≡ Connected
        → Fills (((seen t.endpoint.keep).doubt ≡ 0) × KnowsAll service l.relay (seen s.endpoint.keep).may_leave)
        (seen s.endpoint.keep).tables.unsettled limit (sending l) (sending later) result
    pub knows : (seen t.endpoint.keep).doubt ≡ 0 → KnowsAll service l.relay (seen s.endpoint.keep).may_leave
        → KnowsAll service later.relay (seen t.endpoint.keep).may_leave
    pub rest : later.connection ≡ record l.connection {
      channel =
          record l.connection.channel { client = later.connection.channel.client };
    }
    pub tells : outcome ≡ fill_told result
    pub meets : Meets (fill_fate result) number later (with_store t.endpoint s) from t to

  -- ---- receiving

  -- a frame is taken, from a connection that is this behind it
  pub record TakesFrame (number : ConnectionNumber) (l : SiteChannel) (f : Content) (outcome : Outcome)
      (s : Site H K S C) (from : Mail)
      (t : Site H K S C) (to : Mail) : Type 0 where
    pub result : Result Taken ReceptionFault
    pub client : ClientWithRoom ℕ
    pub answers : Answers service.kind f l.connection.channel.client.client client.client result
    pub comes : ComesBy (through seen) s.endpoint t.endpoint service (TakeMay service f result)
    pub used : TellsOfUse (through seen) service.kind f s.endpoint t.endpoint result
    pub tells : outcome ≡ taken_told result
    pub meets : Meets (taken_fate result) number
        (over l (record l.connection {
          channel =
              record l.connection.channel { client = client; waiting = waiting_of result f };
        })) (with_store t.endpoint s)
        from t to

  -- what came: no whole frame, and nothing is done; a frame; or a fault of the octets
  abbrev pub TakesWhat : Result (Option Content) FrameFault → ConnectionNumber → SiteChannel → Outcome → Site H K S C
      → Mail → Site H K S C
      → Mail → Type 0
  TakesWhat (Ok None) number l outcome s from t to =
      (outcome ≡ told.Idle) × Same (with_channel number (Some l) s) from t to
  TakesWhat (Ok (Some f)) number l outcome s from t to = TakesFrame number l f outcome s from t to
  TakesWhat (Err fault) number l outcome s from t to =
      (outcome ≡ decoder_told fault) × Meets (decoder_fate fault) number l s from t to

  abbrev pub TakesOne : ConnectionNumber → SiteChannel → Outcome → Site H K S C → Mail → Site H K S C → Mail
      → Type 0
  TakesOne number l outcome s from t to = (came : Result (Option Content) FrameFault) × (later : Connection)
      × TakesNext l.connection later came × TakesWhat came number (over l later) outcome s from t to

  -- ---- held letters

  -- the first held letter that is next is handled; a connected client settles it
  pub record DrainsOver (number : ConnectionNumber) (l : SiteChannel) (outcome : Outcome) (s : Site H K S C)
      (from : Mail) (t : Site H K S C)
      (to : Mail) : Type 0 where
    pub result : Result (Option Drained) ReceptionFault
    pub client : ClientWithRoom ℕ
    pub wrote : DrainWrites l.connection.channel.client.client client.client result
    pub comes : ComesBy (through seen) s.endpoint t.endpoint service (DrainsMay service result)
    pub used : TellsOfDraining (through seen) s.endpoint t.endpoint result
    pub tells : outcome ≡ drain_told result
    pub meets : Meets (drain_fate result) number (over l (record l.connection
        { channel = record l.connection.channel { client = client } })) (with_store t.endpoint s) from t to

  -- where the connection isn't open, nobody settles it
  pub record DrainsAlone (outcome : Outcome) (s : Site H K S C) (from : Mail) (t : Site H K S C) (to : Mail) : Type
      0 where
    pub result : Result (Option Drained) ReceptionFault
    pub comes : ComesBy (through seen) s.endpoint t.endpoint service (DrainsMay service result)
    pub used : TellsOfDraining (through seen) s.endpoint t.endpoint result
    pub tells : outcome ≡ drain_told result
    pub meets : MeetsAlone (drain_fate result) (with_store t.endpoint s) from t to

  abbrev pub DrainsOne : ConnectionNumber → Option SiteChannel → Outcome → Site H K S C → Mail → Site H K S C → Mail
      → Type 0
  DrainsOne number None outcome s from t to = DrainsAlone outcome s from t to
  DrainsOne number (Some l) outcome s from t to = DrainsOver number l outcome s from t to

  -- ---- the store is opened anew

  -- its tables are some that a stop may leave
  pub record ReopensStore (outcome : Outcome) (s : Site H K S C) (from : Mail) (t : Site H K S C) (to : Mail) : Type
      0 where
    pub result : Result (Unit {0}) EndFault
    pub reopens : Reopens (through seen) s.endpoint t.endpoint (end_of result)
    pub finds : Finds (through seen) s.endpoint t.endpoint
    pub tells : outcome ≡ end_told (λ _. told.Reopened) result
    pub after : After result (with_store t.endpoint s) from t to

  -- a service is stopped and started again: both connections are cut, the store is opened anew, and no call of it is to
  -- fail
  pub record StopsSite (outcome : Outcome) (s : Site H K S C) (from : Mail) (t : Site H K S C) (to : Mail) : Type 0
    where
      pub result : Result (Unit {0}) EndFault
      pub opened : Failing K
      pub reopens : Reopens (through seen) s.endpoint opened (end_of result)
      pub finds : Finds (through seen) s.endpoint opened
      pub tells : outcome ≡ end_told (λ _. told.Stopped) result
      pub cuts : CutsBoth (with_store (record opened { armed = None }) s) from t to

  -- ---- each event

  abbrev pub SiteStep : SiteEvent C → Outcome → Site H K S C → Mail → Site H K S C → Mail → Type 0
  SiteStep (event.Commits asked) outcome s from t to = TakesCommand asked outcome s from t to
  SiteStep (event.Opens number) outcome s from t to = OpensChannel number (channel_of number s) outcome s from t to
  SiteStep (event.Cuts number) outcome s from t to =
      IfOpen (channel_of number s) outcome s from t to (λ l. CutsChannel number l outcome s from t to)
  SiteStep (event.Fills number limit) outcome s from t to =
      IfOpen (channel_of number s) outcome s from t to (λ l. SendsRows number limit l outcome s from t to)
  SiteStep (event.Resends number) outcome s from t to =
      IfOpen (channel_of number s) outcome s from t to (λ l. Resends number l outcome s from t to)
  SiteStep (event.Carries number way most) outcome s from t to =
      IfOpen (channel_of number s) outcome s from t to (λ l. CarriesOn way number most l outcome s from t to)
  SiteStep (event.Takes number) outcome s from t to =
      IfOpen (channel_of number s) outcome s from t to (λ l. TakesOne number l outcome s from t to)
  SiteStep (event.Drains number) outcome s from t to = DrainsOne number (channel_of number s) outcome s from t to
  SiteStep (event.Arms n leaves) outcome s from t to = ArmsStore n leaves outcome s from t to
  SiteStep event.Reopens outcome s from t to = ReopensStore outcome s from t to
  SiteStep event.Stops outcome s from t to = StopsSite outcome s from t to
