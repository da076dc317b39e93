-- Examples: frames that came are taken and do something: the session begins, and the server ends it.
use Rattle.std.proofs.Common.{◌≡◌, ℕ, List, [], ◌∷◌, ◌++◌, length, Option, Some, None, Result, Ok, Err, true, false}
use Rattle.std.proofs.Common.{refl}
use Rattle.std.proofs.Common.{ap, arith}
use Rattle.std.proofs.lemmas.List.{length-append}
use Rattle.std.specs.Global.{Global}
use Rattle.std.specs.Prelude.{codes}
use Rattle.std.specs.Str.{is_utf8, chars}
use Rattle.std.specs.String.{string_bytes}
use Rattle.std.specs.declared.string.String.{String}
use Rattle.base.specs.declared.entity.Kind.TheVariants.{Order}
use Rattle.base.specs.declared.limits.TheConstants.{MAX_BODY}
use Rattle.stomp_frame.specs.Decoding.{Held, Nexts}
use Rattle.stomp_frame.specs.FaultTable.{meant, line_fault, length_fault, next_fault, unescaped}
use Rattle.stomp_frame.specs.Frames.{Content, frame, header, canonical, escape, line_of}
use Rattle.stomp_frame.specs.Inner.Reading.{frame_at, line_at, after_gap, command_of, headers_at, body_at}
use Rattle.stomp_frame.specs.Spelling.{SpellsAfterGap}
use Rattle.stomp_frame.specs.Streams.{AreFrames}
use Rattle.stomp_frame.specs.declared.command.Command.TheVariants as command
use Rattle.stomp_frame.specs.declared.fault.FrameFault.{FrameFault}
use Rattle.stomp_frame.specs.declared.fault.FrameFault.TheVariants as frame_fault
use Rattle.stomp_frame.proofs.Holding.{next_frame}
use Rattle.stomp_client.specs.Clients.{Client, ClientWithRoom, new_client}
use Rattle.stomp_client.specs.Frames.{subscribe_frame}
use Rattle.stomp_client.specs.declared.session.Stage.{Stage}
use Rattle.stomp_client.specs.declared.session.Stage.TheVariants as stage
use Rattle.endpoint.specs.Deeds.{Nothing}
use Rattle.endpoint.proofs.CallExamples.{orders, before}
use Rattle.schedule_mail.specs.Mails.{Mail, new_mail}
use Rattle.schedule_mail.specs.declared.connection.Connection.{Connection}
use Rattle.reception.specs.Answers.{Answers}
use Rattle.reception.specs.declared.fault.ReceptionFault.{ReceptionFault}
use Rattle.reception.specs.declared.fault.ReceptionFault.TheVariants as fault
use Rattle.reception.specs.declared.taken.Taken.{Taken}
use Rattle.reception.specs.declared.taken.Taken.TheVariants as taken
use Rattle.relay.specs.declared.relay.Relay.{Relay}
use Rattle.schedule_text.specs.declared.event.ConnectionNumber.TheVariants.{Zero}
use Rattle.schedule_text.specs.declared.outcome.Outcome.TheVariants as told
use Rattle.schedule_service.specs.Channels.{Meets}
use Rattle.schedule_service.specs.SiteSteps.{over, waiting_of, with_store, TakesFrame, TakesOne, SiteStep}
use Rattle.schedule_service.specs.Outcomes.{reception_told, taken_told, taken_fate, decoder_told}
use Rattle.schedule_service.specs.SiteEvents as event
use Rattle.schedule_service.specs.declared.site_channel.SiteChannel.{SiteChannel}
use Rattle.schedule_service.proofs.Framing.{framed}
use Rattle.schedule_service.proofs.WorkExamples.{is_refusal, fault_is_refusal, no_refusal, seen, store, Service, site}
use Rattle.schedule_service.proofs.WorkExamples.{served, left, is_open}
use Rattle.schedule_service.proofs.WorkExamples.{cut_leaves}

-- why a frame isn't taken is told as a refusal, and so is why none was found
pub reception_is_refusal : (f : ReceptionFault) → is_refusal (reception_told f) ≡ true
reception_is_refusal (fault.End f) = fault_is_refusal f
reception_is_refusal _ = refl

pub decoder_is_refusal : (f : FrameFault) → is_refusal (decoder_told f) ≡ true
decoder_is_refusal frame_fault.Memory = refl
decoder_is_refusal _ = refl

-- ---- a connection

abbrev pub held : List ℕ → Held
held octets = record { octets = octets; failed = false }

-- a client of this stage with these octets to be sent
abbrev pub client : Stage → List ℕ → ClientWithRoom ℕ
client stage out = record { client = record new_client { stage = stage; out = out }; room = 0 }

module _ (relay : Relay) where
  abbrev pub channel : ClientWithRoom ℕ → List ℕ → SiteChannel
  channel k octets = record {
    connection = record { session = 1; channel = record { client = k; decoder = held octets; waiting = None } };
    relay = relay;
  }

  -- ---- CONNECTED

  -- its text came whole
  abbrev opening : Content
  opening = frame command.Connected (header (codes "version") (codes "1.2") ∷ []) []

  abbrev text : List ℕ
  text = codes "CONNECTED\nversion:1.2\n\n\0"

  it_comes : Nexts MAX_BODY (held text) (held []) (Ok (Some opening))
  unfolding frame_at line_at after_gap command_of headers_at body_at meant line_fault length_fault next_fault unescaped
      is_utf8 chars
      lib.Utf8.encode
  it_comes = next_frame MAX_BODY (held text) (held []) opening [] refl refl refl refl

  -- behind it the client subscribes to the queue of purchasing
  abbrev subscribed : ClientWithRoom ℕ
  subscribed =
      client stage.Connected (codes "SUBSCRIBE\nid:0\ndestination:/queue/purchasing\nack:client-individual\n\n\0")

  subscribing : AreFrames MAX_BODY (subscribe_frame (codes "/queue/purchasing") ∷ [])
  unfolding line_of escape is_utf8 chars lib.Utf8.encode
  subscribing = (framed _ refl, tt)

  abbrev begun : Service
  begun = site (store true before) (Some (channel (client stage.Connecting []) text))

  abbrev Begins : SiteChannel → Type 0
  Begins l = TakesOne seen orders Zero (channel (client stage.Connecting []) text) told.Connected begun new_mail
      (site (store true before) (Some l)) new_mail

  it_is_taken : Begins (channel subscribed [])
  unfolding canonical line_of escape
  it_is_taken = (
    Ok (Some opening),
    record { session = 1; channel = record { client = client stage.Connecting []; decoder = held []; waiting = None } },
    ((it_comes, refl), refl),
    record {
      result = Ok taken.Connected;
      client = subscribed;
      answers = (refl, refl, record { each = subscribing; all = refl });
      comes = λ clean good t was. record { before = t; deed = Nothing; was = was; may = refl; did = refl };
      used = refl;
      tells = refl;
      meets = (refl, refl);
    },
  )

  -- where CONNECTED is told the client is connected, and the connection stays with it
  abbrev Stands : SiteChannel → Option SiteChannel → Type 0
  Stands l now = (k : ClientWithRoom ℕ) × (k.client.stage ≡ stage.Connected)
      × (now ≡ Some (over l (record l.connection {
        channel =
            record l.connection.channel { client = k; waiting = None };
      })))

  it_stands : (l : SiteChannel) (f : Content) (s t : Service) (from to : Mail)
      → TakesFrame seen orders Zero l f told.Connected s from t to
      → Stands l t.zero
  it_stands l f s t from to h = by_result h.result h.tells h.answers h.meets
    where
      by_result : (r : Result Taken ReceptionFault) → told.Connected ≡ taken_told r
          → Answers Order f l.connection.channel.client.client h.client.client r
          → Meets (taken_fate r) Zero (over l (record l.connection {
            channel =
                record l.connection.channel { client = h.client; waiting = waiting_of r f };
          }))
          (with_store t.endpoint s) from t to → Stands l t.zero
      by_result (Ok taken.Connected) tells answers meets =
          (h.client, ap (λ (c : Client ℕ). c.stage) answers.2.all, ap (λ (x : Service). x.zero) meets.0)
      by_result (Ok _) tells answers meets = absurd (cc)
      by_result (Err e) tells answers meets =
          absurd (no_refusal told.Connected (reception_told e) refl (reception_is_refusal e) tells)

  -- so behind what is begun a frame came, and the connection stands without it
  came_as : (l : SiteChannel) → Begins l → (f : Content) × (later : Connection)
      × Nexts MAX_BODY (held text) later.channel.decoder (Ok (Some f))
      × Stands (over (channel (client stage.Connecting []) text) later) (Some l)
  came_as l (Ok None, later, next, what) = let told = what.0 in absurd (cc)
  came_as l (Err e, later, next, what) =
      absurd (no_refusal told.Connected (decoder_told e) refl (decoder_is_refusal e) what.0)
  came_as l (Ok (Some f), later, next, what) = (
    f,
    later,
    next.0.0,
    it_stands (over (channel (client stage.Connecting []) text) later) f begun (site (store true before) (Some l))
        new_mail new_mail
        what,
  )

  abbrev stage_of : Option SiteChannel → Stage
  stage_of None = stage.Fresh
  stage_of (Some l) = l.connection.channel.client.client.stage

  abbrev octets_of : Option SiteChannel → List ℕ
  octets_of None = []
  octets_of (Some l) = l.connection.channel.decoder.octets

  -- a frame has octets
  no_empty : (f : Content) (front rest : List ℕ) → SpellsAfterGap MAX_BODY f front → text ≡ front ++ rest → text ≡ rest
      → ⊥
  no_empty f front rest (eols, s) whole same = omega (
    arith,
    ap length whole,
    length-append front rest,
    ap length same,
    ap length s.whole,
    length-append (s.head ++ f.body) (0 ∷ []),
  )

  -- the client is connected then and subscribes; it isn't connecting any more, and the frame doesn't stay to come again
  the_session_begins : Begins (channel subscribed [])
      × SiteStep seen orders (event.Takes Zero) told.Connected begun new_mail
      (site (store true before) (Some (channel subscribed []))) new_mail
      × (Begins (channel (client stage.Connecting []) []) → ⊥) × (Begins (channel subscribed text) → ⊥)
  the_session_begins = (
    it_is_taken,
    it_is_taken,
    λ h. let came = came_as (channel (client stage.Connecting []) []) h in
        connecting (over (channel (client stage.Connecting []) text) came.1) came.3,
    λ h. let came = came_as (channel subscribed text) h in
        no_empty came.0 came.2.2 came.1.channel.decoder.octets came.2.3 came.2.4 (ap octets_of came.3.2),
  )
    where
      connecting : (l : SiteChannel) → Stands l (Some (channel (client stage.Connecting []) [])) → ⊥
      connecting l (k, connected, now) = let same : stage.Connecting ≡ k.client.stage = ap stage_of now in absurd (cc)

  -- ---- ERROR

  abbrev refusing : Content
  refusing = frame command.Error (header (codes "message") (codes "bad frame") ∷ []) []

  abbrev connected : SiteChannel
  connected = channel (client stage.Connected []) []

  -- its text is told, and the connection is cut with its session; it doesn't stay open, closed as its client is
  the_server_ends_it : (message : String Global) → string_bytes message ≡ codes "bad frame" → (octets : List ℕ)
      → TakesFrame seen orders Zero connected refusing (told.Error message) (site (store true before) (Some connected))
      (served octets)
      (site (store true before) None) left
      × (TakesFrame seen orders Zero connected refusing (told.Error message) (site (store true before) (Some connected))
      (served octets)
      (site (store true before) (Some (channel (client stage.Closed []) []))) left → ⊥)
  the_server_ends_it message is octets = (
    record {
      result = Ok (taken.Error message);
      client = client stage.Closed [];
      answers = (refl, (refl, is, refl));
      comes = λ clean good t was. record { before = t; deed = Nothing; was = was; may = refl; did = refl };
      used = refl;
      tells = refl;
      meets = (cut_leaves (channel (client stage.Closed []) []).connection relay octets, refl);
    },
    λ h. stays_open h.result h.client h.tells h.meets,
  )
    where
      stays_open : (r : Result Taken ReceptionFault) (k : ClientWithRoom ℕ) → told.Error message ≡ taken_told r
          → Meets (taken_fate r) Zero (over connected (record connected.connection
          { channel = record connected.connection.channel { client = k; waiting = waiting_of r refusing } }))
          (site (store true before) (Some connected)) (served octets)
          (site (store true before) (Some (channel (client stage.Closed []) []))) left → ⊥
      stays_open (Ok (taken.Error text)) k tells meets = let still : 1 ≡ 0 = ap is_open meets.1 in omega (arith, still)
      stays_open (Ok _) k tells meets = absurd (cc)
      stays_open (Err e) k tells meets =
          no_refusal (told.Error message) (reception_told e) refl (reception_is_refusal e) tells
