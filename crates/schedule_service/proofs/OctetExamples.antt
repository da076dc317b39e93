-- Examples: a connection is opened, and octets are carried on it, down to its client and up to its broker.
use Rattle.std.proofs.Common.{◌≡◌, ◌∙◌, ℕ, List, [], ◌∷◌, length, drop, Option, Some, None, Result, Ok, Err, true, refl}
use Rattle.std.proofs.Common.{sym, ap, subst}
use Rattle.std.proofs.Common.{arith}
use Rattle.std.specs.Prelude.{codes}
use Rattle.std.specs.Str.{is_utf8, chars}
use Rattle.base.specs.declared.limits.TheConstants.{MAX_BODY}
use Rattle.stomp_frame.specs.Decoding.{NoFault}
use Rattle.stomp_frame.specs.FaultTable.{meant, line_fault, length_fault, next_fault, unescaped}
use Rattle.stomp_frame.specs.Frames.{IsFrame, canonical, escape, line_of}
use Rattle.stomp_frame.specs.Inner.Reading.{frame_at, line_at, after_gap, command_of, headers_at, body_at}
use Rattle.stomp_frame.specs.Spelling.{NoFrame}
use Rattle.stomp_frame.specs.declared.fault.FrameFault.{FrameFault}
use Rattle.stomp_frame.proofs.FrameFound.{no_frame_yet, no_fault_yet}
use Rattle.stomp_client.specs.Clients.{Client}
use Rattle.stomp_client.specs.Frames.{connect_frame}
use Rattle.stomp_client.specs.declared.session.Stage.TheVariants as stage
use Rattle.broker_core.specs.Calls.{empty as no_session, new_session}
use Rattle.broker_core.specs.Feeding as ends
use Rattle.broker_core.specs.Serving.{Server}
use Rattle.broker_core.specs.declared.fault.BrokerFault.{BrokerFault}
use Rattle.broker_core.specs.declared.incoming.Incoming.{Incoming}
use Rattle.endpoint.proofs.CallExamples.{before}
use Rattle.schedule_mail.specs.Connecting.{CarriesDown, CarriesUp, falling}
use Rattle.schedule_mail.specs.Mails.{Mail, new_mail}
use Rattle.schedule_mail.specs.declared.connection.Connection.{Connection}
use Rattle.relay.specs.declared.relay.Relay.{Relay}
use Rattle.schedule_text.specs.declared.event.ConnectionNumber.TheVariants.{Zero}
use Rattle.schedule_text.specs.declared.outcome.Outcome.TheVariants as told
use Rattle.schedule_service.specs.Channels.{IsAllDue, Meets, with_channel}
use Rattle.schedule_service.specs.SiteSteps.{over, Falls, Rises, OpensChannel}
use Rattle.schedule_service.specs.Outcomes.{fall_told, fall_fate, rise_told}
use Rattle.schedule_service.specs.declared.site_channel.SiteChannel.{SiteChannel}
use Rattle.schedule_service.proofs.FrameExamples.{decoder_is_refusal, held, client, channel}
use Rattle.schedule_service.proofs.Framing.{framed}
use Rattle.schedule_service.proofs.WorkExamples.{no_refusal, store, Service, site, served}

module _ (relay : Relay) where
  -- a service of this connection
  abbrev serving : SiteChannel → Service
  serving l = site (store true before) (Some l)

  -- ---- down

  -- a connection to which nothing came down, and what its broker has for it
  abbrev empty : SiteChannel
  empty = channel relay (client stage.Connecting []) []

  abbrev text : List ℕ
  text = codes "CONNECTED\nversion:1.2\n\n\0"

  abbrev Goes : SiteChannel → Mail → Type 0
  Goes l to = Falls Zero 5 empty (told.Carried 5) (serving empty) (served text) (serving l) to

  abbrev decoded : Option SiteChannel → List ℕ
  decoded None = []
  decoded (Some l) = l.connection.channel.decoder.octets

  -- the first five octets go to the client, and the broker has the others; they don't stay, and none stands at both
  five_go_down : Goes (channel relay (client stage.Connecting []) (codes "CONNE"))
      (served (codes "CTED\nversion:1.2\n\n\0"))
      × (Goes empty (served text) → ⊥)
      × (Goes empty (served (codes "CTED\nversion:1.2\n\n\0")) → ⊥)
      × (Goes (channel relay (client stage.Connecting []) (codes "CONNE")) (served text) → ⊥)
  five_go_down = (
    record {
      result = Ok 5;
      later = (channel relay (client stage.Connecting []) (codes "CONNE")).connection;
      between = served (codes "CTED\nversion:1.2\n\n\0");
      carries = record { counted = refl; feeds = ((refl, refl, refl), refl); same = refl; left = refl };
      tells = refl;
      meets = (refl, refl);
    },
    λ h. not_fed empty (served text) refl h,
    λ h. not_fed empty (served (codes "CTED\nversion:1.2\n\n\0")) refl h,
    λ h. still_there h.result h.later h.between h.tells h.carries h.meets,
  )
    where
      not_fed : (l : SiteChannel) (to : Mail) → l.connection.channel.decoder.octets ≡ [] → Goes l to → ⊥
      not_fed l to none h = by_result h.result h.tells h.carries h.meets
        where
          by_result : (r : Result ℕ FrameFault) → told.Carried 5 ≡ fall_told r
              → CarriesDown 5 empty.connection (served text) h.later h.between r
              → Meets (fall_fate r) Zero (over empty h.later) (serving empty) h.between (serving l) to → ⊥
          by_result (Ok n) tells carries meets =
              let same : l.connection.channel.decoder.octets ≡ h.later.channel.decoder.octets =
              ap (λ (x : Service). decoded x.zero) meets.0 in
              let five : h.later.channel.decoder.octets ≡ codes "CONNE" = carries.feeds.0.2 in
              let lengths : 0 ≡ 5 = ap length (sym none ∙ same ∙ five) in omega (arith, lengths)
          by_result (Err f) tells carries meets =
              no_refusal (told.Carried 5) (fall_told (Err f)) refl (decoder_is_refusal f) tells

      still_there : (r : Result ℕ FrameFault) (later : Connection) (between : Mail) → told.Carried 5 ≡ fall_told r
          → CarriesDown 5 empty.connection (served text) later between r
          → Meets (fall_fate r) Zero (over empty later) (serving empty) between
          (serving (channel relay (client stage.Connecting []) (codes "CONNE"))) (served text) → ⊥
      still_there (Ok n) later between tells carries meets =
          let count : n ≡ 5 = carries.counted in
          let same = ap (λ (o : Mail). length (falling empty.connection o)) (meets.1 ∙ carries.left) in
          let fewer : 24 ≡ 19 = subst (λ k. 24 ≡ length (drop k text)) count same in omega (arith, fewer)
      still_there (Err f) later between tells carries meets =
          no_refusal (told.Carried 5) (fall_told (Err f)) refl (decoder_is_refusal f) tells

  -- ---- up

  -- the broker's session that was fed these octets, which are no frame yet
  abbrev incoming : List ℕ → Incoming
  incoming octets = record { decoder = held octets; waiting = None }

  abbrev fed : List ℕ → Mail
  fed octets = record {
    broker = record no_session { sessions = record (new_session 1) { incoming = incoming octets } ∷ []; opened = 1 };
    earlier = [];
  }

  abbrev saying : List ℕ → SiteChannel
  saying out = channel relay (client stage.Connecting out) []

  no_frame : NoFrame MAX_BODY (codes "CONNECT")
  unfolding frame_at line_at after_gap command_of headers_at body_at meant line_fault length_fault next_fault unescaped
      is_utf8 chars
      lib.Utf8.encode
  no_frame = no_frame_yet MAX_BODY (codes "CONNECT") refl

  no_fault : NoFault MAX_BODY (codes "CONNECT")
  unfolding frame_at line_at after_gap command_of headers_at body_at meant line_fault length_fault next_fault unescaped
      is_utf8 chars
      lib.Utf8.encode
  no_fault = no_fault_yet MAX_BODY (codes "CONNECT") refl

  abbrev connect : List ℕ
  connect = codes "CONNECT\naccept-version:1.2\nhost:outbox\n\n\0"

  abbrev GoesUp : SiteChannel → Mail → Type 0
  GoesUp l to = Rises Zero 7 (saying connect) (told.Carried 7) (serving (saying connect)) (fed []) (serving l) to

  abbrev waiting : Option SiteChannel → ℕ
  waiting None = 0
  waiting (Some l) = length l.connection.channel.client.client.out

  -- the first seven octets go to the broker, which waits for more of the frame; they don't stay with the client
  seven_go_up : GoesUp (saying (codes "\naccept-version:1.2\nhost:outbox\n\n\0")) (fed (codes "CONNECT"))
      × (GoesUp (saying connect) (fed []) → ⊥) × (GoesUp (saying connect) (fed (codes "CONNECT")) → ⊥)
  seven_go_up = (
    record {
      result = Ok 7;
      later = (saying (codes "\naccept-version:1.2\nhost:outbox\n\n\0")).connection;
      carries = record {
        handled = 0;
        counted = refl;
        feeds = record {
          frames = [];
          handled = (fed (codes "CONNECT")).broker;
          ended = (fed (codes "CONNECT")).broker;
          there = refl;
          handles = refl;
          counted = refl;
          ends = ends.awaits (record (new_session 1) { incoming = incoming (codes "CONNECT") })
              (incoming (codes "CONNECT"))
              (record { found = refl; is_open = refl })
              (record {
                none_waits = refl;
                sound = refl;
                no_frame = no_frame;
                no_fault = no_fault;
                gap = [];
                is_gap = (0, refl);
                octets = refl;
                still_sound = refl;
                still_none = refl;
              })
              refl;
          settles = (record { handed = []; deals = refl; taken = refl }, refl);
        };
        earlier = refl;
        sends = record {
          session = refl;
          channel = record { client = refl; room = omega arith; decoder = refl; waiting = refl };
        };
      };
      tells = refl;
      site = refl;
    },
    λ h. stays (fed []) h.result h.later h.tells h.carries h.site,
    λ h. stays (fed (codes "CONNECT")) h.result h.later h.tells h.carries h.site,
  )
    where
      stays : (to : Mail) (r : Result ℕ BrokerFault) (later : Connection) → told.Carried 7 ≡ rise_told r
          → CarriesUp 7 (saying connect).connection (fed []) later to r
          → serving (saying connect) ≡ with_channel Zero (Some (over (saying connect) later)) (serving (saying connect))
          → ⊥
      stays to (Ok n) later tells carries same =
          let count : n ≡ 7 = carries.counted in
          let now : length connect ≡ length later.channel.client.client.out =
          ap (λ (x : Service). waiting x.zero) same in
          let less = ap (λ (k : Client ℕ). length k.out) carries.sends.channel.client in
          let fewer : length connect ≡ 34 =
          subst (λ k. length connect ≡ length (drop k connect)) count (now ∙ less) in omega (arith, fewer)
      stays to (Err f) later tells carries same = absurd (cc)

  -- ---- a connection is opened

  is_connect : IsFrame MAX_BODY connect_frame
  unfolding line_of escape is_utf8 chars lib.Utf8.encode
  is_connect = framed _ refl

  -- a relay on which nothing counts as sent
  module _ (due : IsAllDue relay) where
    abbrev Opened : SiteChannel → Mail → Type 0
    Opened l to = OpensChannel Zero None told.Opened (site (store true before) None) new_mail (serving l) to

    -- CONNECT waits to go up, and the broker has a session; it doesn't open without the one or the other
    one_is_opened : Opened (saying connect) (served []) × (Opened (saying []) (served []) → ⊥)
        × (Opened (saying connect) new_mail → ⊥)
    unfolding canonical line_of escape
    one_is_opened = (
      (
        Ok (saying connect).connection,
        record {
          session = record { next = refl; unused = refl; changed = refl; found = refl };
          earlier = refl;
          is_frame = is_connect;
          client = refl;
          decoder = refl;
          waiting = refl;
        },
        refl,
        (relay, due, refl),
      ),
      nothing_waits,
      no_session_there,
    )
      where
        nothing_waits : Opened (saying []) (served []) → ⊥
        nothing_waits (Ok d, opens, tells, adds) =
            let waits : length d.channel.client.client.out ≡ 41 = ap (λ (k : Client ℕ). length k.out) opens.client in
            let none : 0 ≡ length d.channel.client.client.out =
            ap (λ (x : Service). waiting x.zero) adds.2 in omega (arith, waits, none)
        nothing_waits (Err f, opens, tells, adds) = absurd (cc)

        no_session_there : Opened (saying connect) new_mail → ⊥
        no_session_there (Ok d, opens, tells, adds) =
            let one : 0 ≡ 1 = ap (λ (b : Server). b.opened) opens.session.changed in omega (arith, one)
        no_session_there (Err f, opens, tells, adds) = absurd (cc)
