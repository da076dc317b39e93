-- Examples: what events of a connection do and tell.
use Rattle.std.proofs.Common.{◌≡◌, [], Some, None, Ok, Err, true, refl, ap, arith, inl}
use Rattle.base.specs.declared.pair.Pair.{Pair}
use Rattle.stomp_wire.specs.declared.wire.Way.TheVariants.{Up, Down}
use Rattle.stomp_frame.specs.Calls.{nothing_held}
use Rattle.stomp_frame.specs.Frames.{Content}
use Rattle.stomp_frame.specs.declared.fault.FrameFault.TheVariants as frame
use Rattle.stomp_client.specs.Clients.{new_client}
use Rattle.stomp_client.specs.declared.fault.ClientFault.TheVariants as client
use Rattle.endpoint.specs.Deeds.{Nothing}
use Rattle.endpoint.proofs.CallExamples.{orders}
use Rattle.relay.specs.Filling.{marks_of}
use Rattle.relay.specs.declared.relay.Relay.{Relay}
use Rattle.broker_core.specs.declared.fault.BrokerFault.TheVariants as broker
use Rattle.schedule_mail.specs.Mails.{new_mail}
use Rattle.schedule_mail.specs.declared.connection.Connection.{Connection}
use Rattle.schedule_mail.specs.declared.fault.OpenFault.TheVariants as open_fault
use Rattle.reception.specs.declared.fault.ReceptionFault.TheVariants as fault
use Rattle.schedule_text.specs.declared.event.ConnectionNumber.TheVariants.{Zero, One}
use Rattle.schedule_text.specs.declared.outcome.Outcome.TheVariants as told
use Rattle.schedule_service.specs.SiteEvents as event
use Rattle.schedule_service.specs.SiteSteps.{over, IfOpen, Adds, OpensChannel, CutsChannel, Resends, Rises, Falls}
use Rattle.schedule_service.specs.SiteSteps.{CarriesOn, SendsRows, TakesFrame}
use Rattle.schedule_service.specs.SiteSteps.{TakesWhat, TakesOne, DrainsOver, DrainsOne, SiteStep}
use Rattle.schedule_service.specs.Channels.{IsAllDue}
use Rattle.schedule_service.specs.declared.site_channel.SiteChannel.{SiteChannel}
use Rattle.schedule_service.proofs.StepExamples.{seen, site, opened, not_fall, not_filling, not_rise, not_drain}
use Rattle.schedule_service.proofs.StepExamples.{not_taken}

-- a connection, on which nothing was sent, and a frame
module _ (c : Connection) (relay : Relay) (nothing : (p : Pair) → marks_of relay p ≡ 0) (f : Content) where
  abbrev due : Relay
  due = record relay { behind = None; rows = 0 }

  abbrev all_due : IsAllDue due
  all_due = record { marks = nothing; knows = λ rows messages. (omega arith, λ x upto some. absurd upto) }

  -- it was just made, nothing came down and no frame waits
  abbrev fresh : Connection
  fresh = record c {
    channel = record c.channel {
      client = record c.channel.client { client = new_client };
      decoder = nothing_held;
      waiting = None;
    };
  }

  abbrev channel : SiteChannel
  channel = record { connection = fresh; relay = due }

  abbrev waits : SiteChannel
  waits = over channel (record fresh { channel = record fresh.channel { waiting = Some f } })

  -- with another connection a channel has the same relay, and not the connection that it had
  channels_go_over : ((over channel c).relay ≡ due) × ((over channel c).connection ≡ c) × (waits ≡ channel → ⊥)
  channels_go_over = (
    refl,
    refl,
    λ h. let none : Some f ≡ None =
        ap (λ (l : SiteChannel). l.connection.channel.waiting) h in absurd (cc),
  )

  -- an event of a connection that isn't open does nothing, and tells that
  abbrev Never : SiteChannel → Type 0
  Never l = ⊥

  events_ask_for_a_channel : IfOpen None told.Closed (site true None) new_mail (site true None) new_mail Never
      × IfOpen (Some channel) told.Closed (site true None) new_mail (site true None) new_mail (λ l. l ≡ channel)
      × (IfOpen None told.Cut (site true None) new_mail (site true None) new_mail (λ l. l ≡ channel) → ⊥)
      × (IfOpen (Some channel) told.Closed (site true None) new_mail (site true None) new_mail Never → ⊥)
  events_ask_for_a_channel = ((refl, (refl, refl)), refl, λ h. let told = h.0 in absurd (cc), λ h. h)

  -- a new connection is put in its place with a relay on which nothing counts as sent, and a fault puts none there
  channels_are_added : Adds Zero (Ok fresh) (site true None) (site true (Some channel))
      × Adds Zero (Err (open_fault.Client client.Memory)) (site true None) (site true None)
      × (Adds Zero (Ok fresh) (site true None) (site true None) → ⊥)
      × (Adds Zero (Err (open_fault.Client client.Memory)) (site true None) (site true (Some channel)) → ⊥)
  channels_are_added = (
    (due, all_due, refl),
    refl,
    λ h. let none : 0 ≡ 1 = ap opened h.2 in omega (arith, none),
    λ h. let one : 1 ≡ 0 = ap opened h in omega (arith, one),
  )

  -- one that is open isn't opened anew; one that isn't may be refused for want of memory, and then nothing changes
  channels_are_opened : OpensChannel Zero (Some channel) told.Already (site true (Some channel)) new_mail (site true
      (Some channel)) new_mail
      × OpensChannel Zero None (told.Refused 44) (site true None) new_mail (site true None) new_mail
      × (OpensChannel Zero (Some channel) told.Opened (site true (Some channel)) new_mail (site true (Some channel))
      new_mail → ⊥)
  channels_are_opened = (
    (refl, (refl, refl)),
    (Err (open_fault.Client client.Memory), (refl, refl), refl, refl),
    λ h. let told = h.0 in absurd (cc),
  )

  -- a connection that was cut isn't there any more
  channels_are_cut : CutsChannel Zero channel told.Cut (site true (Some channel)) new_mail (site true None) new_mail
      × (CutsChannel Zero channel told.Cut (site true (Some channel)) new_mail (site true (Some channel)) new_mail
      → ⊥)
      × (CutsChannel Zero channel told.Closed (site true (Some channel)) new_mail (site true None) new_mail → ⊥)
  channels_are_cut = (
    (
      refl,
      (Ok tt, record { deals = (record { handed = []; deals = refl; taken = refl }, refl); earlier = refl }),
      refl,
    ),
    λ h. let still : 1 ≡ 0 = ap opened h.2 in omega (arith, still),
    λ h. let told = h.0 in absurd (cc),
  )

  -- all is due again on a connection, which stays
  rows_are_due_again : Resends Zero channel told.Due (site true (Some channel)) new_mail (site true (Some channel))
      new_mail
      × (Resends Zero channel told.Due (site true (Some channel)) new_mail (site true None) new_mail → ⊥)
      × (Resends Zero channel (told.Sent 0) (site true (Some channel)) new_mail (site true (Some channel)) new_mail
      → ⊥)
  rows_are_due_again = (
    (refl, (due, all_due, (refl, refl))),
    λ h. let gone : 0 ≡ 1 = ap opened h.1.2.0 in omega (arith, gone),
    λ h. let told = h.0 in absurd (cc),
  )

  -- where the broker has no session nothing goes up; no octets open a connection
  octets_go_up : Rises Zero 5 channel (told.Refused 37) (site true (Some channel)) new_mail (site true (Some channel))
      new_mail
      × (Rises Zero 5 channel told.Opened (site true (Some channel)) new_mail (site true (Some channel)) new_mail
      → ⊥)
      × CarriesOn Up Zero 5 channel (told.Refused 37) (site true (Some channel)) new_mail (site true (Some channel))
      new_mail
      × (CarriesOn Up Zero 5 channel told.Opened (site true (Some channel)) new_mail (site true (Some channel))
      new_mail → ⊥)
  octets_go_up = (goes, λ h. not_rise h.result h.tells, goes, λ h. not_rise h.result h.tells)
    where
      goes : Rises Zero 5 channel (told.Refused 37) (site true (Some channel)) new_mail (site true (Some channel))
          new_mail
      goes = record {
        result = Err broker.NoSession;
        later = fresh;
        carries = ((refl, refl), refl, refl);
        tells = refl;
        site = refl;
      }

  -- where none wait none goes down, and the connection stays
  octets_go_down : Falls Zero 5 channel (told.Carried 0) (site true (Some channel)) new_mail
      (site true (Some channel)) new_mail
      × (Falls Zero 5 channel told.Opened (site true (Some channel)) new_mail (site true (Some channel)) new_mail
      → ⊥)
      × CarriesOn Down Zero 5 channel (told.Carried 0) (site true (Some channel)) new_mail (site true (Some channel))
      new_mail
  octets_go_down = (goes, λ h. not_fall h.result h.tells, goes)
    where
      goes : Falls Zero 5 channel (told.Carried 0) (site true (Some channel)) new_mail (site true (Some channel))
          new_mail
      goes = record {
        result = Ok 0;
        later = fresh;
        between = new_mail;
        carries = record { counted = refl; feeds = ((refl, refl, refl), refl); same = refl; left = refl };
        tells = refl;
        meets = (refl, refl);
      }

  -- before CONNECTED no row is sent; none opens a connection
  no_row_is_sent : SendsRows seen orders Zero 64 channel (told.Sent 0) (site true (Some channel)) new_mail (site true
      (Some channel)) new_mail
      × (SendsRows seen orders Zero 64 channel told.Opened (site true (Some channel)) new_mail
      (site true (Some channel)) new_mail → ⊥)
  no_row_is_sent = (
    record {
      result = Ok 0;
      later = channel;
      idle = (refl, refl, refl);
      reads = λ connected. absurd (cc);
      keeps = λ clean t left. left;
      unused = λ _. refl;
      fills = λ connected. absurd (cc);
      knows = λ clean known. known;
      rest = refl;
      tells = refl;
      meets = (refl, refl);
    },
    λ h. not_filling h.result h.tells,
  )

  -- for want of memory a frame isn't taken, and waits; no frame opens a connection
  frames_are_taken : TakesFrame seen orders Zero channel f (told.Refused 44) (site true (Some channel)) new_mail
      (site true (Some waits)) new_mail
      × (TakesFrame seen orders Zero channel f told.Opened (site true (Some channel)) new_mail
      (site true (Some channel)) new_mail → ⊥)
  frames_are_taken = (
    record {
      result = Err (fault.Client client.Memory);
      client = fresh.channel.client;
      answers = refl;
      comes = λ clean good t left. record { before = t; deed = Nothing; was = left; may = refl; did = refl };
      used = inl refl;
      tells = refl;
      meets = (refl, refl);
    },
    λ h. not_taken h.result h.tells,
  )

  -- no whole frame is nothing to do, and a decoder without memory is told; the frame that waits is the one that is
  -- taken
  frames_come : TakesWhat seen orders (Ok None) Zero channel told.Idle (site true (Some channel)) new_mail (site true
      (Some channel)) new_mail
      × TakesWhat seen orders (Err frame.Memory) Zero channel (told.Refused 44) (site true (Some channel)) new_mail
      (site true (Some channel)) new_mail
      × TakesOne seen orders Zero waits (told.Refused 44) (site true (Some waits)) new_mail (site true (Some waits))
      new_mail
      × (TakesWhat seen orders (Ok None) Zero channel told.Held (site true (Some channel)) new_mail (site true
      (Some channel)) new_mail → ⊥)
      × (TakesOne seen orders Zero waits told.Opened (site true (Some waits)) new_mail (site true (Some waits))
      new_mail → ⊥)
  frames_come = (
    (refl, (refl, refl)),
    (refl, (refl, refl)),
    (Ok (Some f), fresh, ((refl, refl), refl), taken_again),
    λ h. let told = h.0 in absurd (cc),
    no_opened,
  )
    where
      taken_again : TakesFrame seen orders Zero channel f (told.Refused 44) (site true (Some waits)) new_mail
          (site true (Some waits)) new_mail
      taken_again = record {
        result = Err (fault.Client client.Memory);
        client = fresh.channel.client;
        answers = refl;
        comes = λ clean good t left. record { before = t; deed = Nothing; was = left; may = refl; did = refl };
        used = inl refl;
        tells = refl;
        meets = (refl, refl);
      }

      no_opened : TakesOne seen orders Zero waits told.Opened (site true (Some waits)) new_mail
          (site true (Some waits)) new_mail → ⊥
      no_opened (Ok None, later, next, what) = let none = next.0.0 in absurd (cc)
      no_opened (Err cause, later, next, what) = let none = next.0.0 in absurd (cc)
      no_opened (Ok (Some g), later, next, what) = not_taken what.result what.tells

  -- a held letter isn't handled for want of memory; where the connection isn't open it is asked for alone
  letters_are_drained_over : DrainsOver seen orders Zero channel (told.Refused 44) (site true (Some channel)) new_mail
      (site true (Some channel)) new_mail
      × (DrainsOver seen orders Zero channel told.Opened (site true (Some channel)) new_mail
      (site true (Some channel)) new_mail → ⊥)
      × DrainsOne seen orders Zero (Some channel) (told.Refused 44) (site true (Some channel)) new_mail (site true
      (Some channel)) new_mail
      × (DrainsOne seen orders Zero None told.Opened (site true None) new_mail (site true None) new_mail → ⊥)
  letters_are_drained_over = (drained, λ h. not_drain h.result h.tells, drained, λ h. not_drain h.result h.tells)
    where
      drained : DrainsOver seen orders Zero channel (told.Refused 44) (site true (Some channel)) new_mail
          (site true (Some channel)) new_mail
      drained = record {
        result = Err (fault.Client client.Memory);
        client = fresh.channel.client;
        wrote = (tt, refl);
        comes = λ clean good t left. record { before = t; deed = Nothing; was = left; may = refl; did = refl };
        used = (refl, refl, refl, refl);
        tells = refl;
        meets = (refl, refl);
      }

  -- each event is that of its name: one of a connection that isn't open tells `Closed`, and an open one isn't opened
  -- anew
  events_are_steps : SiteStep seen orders (event.Fills One 64) told.Closed (site true (Some channel)) new_mail
      (site true (Some channel)) new_mail
      × SiteStep seen orders (event.Opens Zero) told.Already (site true (Some channel)) new_mail
      (site true (Some channel)) new_mail
      × SiteStep seen orders (event.Takes Zero) (told.Refused 44) (site true (Some waits)) new_mail
      (site true (Some waits)) new_mail
      × (SiteStep seen orders (event.Fills One 64) (told.Sent 0) (site true (Some channel)) new_mail
      (site true (Some channel)) new_mail → ⊥)
      × (SiteStep seen orders (event.Opens One) told.Already (site true (Some channel)) new_mail
      (site true (Some channel)) new_mail → ⊥)
  events_are_steps = (
    (refl, (refl, refl)),
    (refl, (refl, refl)),
    frames_come.2,
    λ h. let told = h.0 in absurd (cc),
    no_opening,
  )
    where
      no_opening : SiteStep seen orders (event.Opens One) told.Already (site true (Some channel)) new_mail
          (site true (Some channel)) new_mail → ⊥
      no_opening (Ok d, opens, tells, adds) = absurd (cc)
      no_opening (Err cause, opens, tells, adds) = absurd (cc)
