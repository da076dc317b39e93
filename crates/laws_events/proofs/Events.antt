-- Each event of a service leaves all good.
use Rattle.std.proofs.Common.{◌≡◌, ℕ, List, Option, Some, None, Result, Ok, Err, refl, sym, ap, subst}
use Rattle.stomp_frame.specs.Frames.{Content}
use Rattle.stomp_frame.specs.declared.fault.FrameFault.{FrameFault}
use Rattle.stomp_frame.specs.declared.fault.FrameFault.TheVariants.{Memory}
use Rattle.stomp_wire.specs.declared.wire.Way.{Way}
use Rattle.stomp_wire.specs.declared.wire.Way.TheVariants.{Up, Down}
use Rattle.envelope.specs.declared.message.Envelope.{Envelope}
use Rattle.activities.specs.Service.{Service}
use Rattle.keep.specs.Failing.{Failing}
use Rattle.keep.specs.Seen.{Seen, IsSound}
use Rattle.keep.specs.Tables.{Tables}
use Rattle.endpoint.specs.Matches.{AllMatch}
use Rattle.schedule_mail.specs.Connecting.{TakesNext, Opens}
use Rattle.schedule_mail.specs.Mails.{Mail}
use Rattle.schedule_mail.specs.declared.connection.Connection.{Connection}
use Rattle.schedule_mail.specs.declared.fault.OpenFault.{OpenFault}
use Rattle.laws_mail.specs.Passing.{GoodConnection, GoodFrame, GoodNext, GoodMail, GoodWith, HasWritten}
use Rattle.schedule_text.specs.declared.event.ConnectionNumber.{ConnectionNumber}
use Rattle.schedule_text.specs.declared.outcome.Outcome.{Outcome}
use Rattle.laws_events.specs.Sitting.{Sits, Passes}
use Rattle.laws_events.specs.Writing.{IsTrue}
use Rattle.laws_events.proofs.Cutting.{after_passes, alone_passes, cuts_pass, found_with, meets_pass, same_passes}
use Rattle.laws_events.proofs.Cutting.{with_again}
use Rattle.laws_mail.proofs.Mails.{carried_up_good, carried_up_connection, carried_up_session, carried_down_good}
use Rattle.laws_mail.proofs.Mails.{carried_down_connection, carried_down_session, next_good, next_session}
use Rattle.laws_mail.proofs.Mails.{unopened_same}
use Rattle.laws_mail.proofs.Rising.{carried_up_opened, carried_down_opened}
use Rattle.laws_mail.proofs.Writing.{client_written_good, more_written}
use Rattle.laws_events.proofs.Replying.{WritesGood, answers_good, waiting_good, writes_none}
use Rattle.laws_events.proofs.Rows.{rows_good}
use Rattle.laws_events.proofs.Sitting.{again, cut_off, linked, moved, opened_channel, passes_any_store, sits_any_store}
use Rattle.laws_events.proofs.Telling.{drains_good, settles_ok}
use Rattle.schedule_service.specs.Cursors.{AreRight}
use Rattle.schedule_service.specs.SiteSteps.{Adds, CarriesOn, DrainsOne, DrainsOver, Falls, SiteStep, IfOpen}
use Rattle.schedule_service.specs.SiteSteps.{OpensChannel, Rises}
use Rattle.schedule_service.specs.SiteSteps.{SendsRows, TakesFrame, TakesOne, TakesWhat, leaves_of, over, waiting_of}
use Rattle.schedule_service.specs.SiteSteps.{with_store}
use Rattle.schedule_service.specs.Channels.{channel_of, with_channel, MailAfterCut, Meets, Same}
use Rattle.schedule_service.specs.Outcomes.{decoder_fate, drain_fate, fall_fate, fill_fate, taken_fate}
use Rattle.schedule_service.specs.SiteEvents.{SiteEvent}
use Rattle.schedule_service.specs.SiteEvents as event
use Rattle.schedule_service.specs.declared.fate.ChannelFate.TheVariants.{Stays}
use Rattle.schedule_service.specs.declared.site_channel.SiteChannel.{SiteChannel}
use Rattle.schedule_service.specs.declared.site.Site.{Site}

module _ {H K S C : Type 0} (ok : Envelope → Type 0) where
  module _ (up down : ℕ → List ℕ) (number : ConnectionNumber) (s : Site H K S C) (l : SiteChannel)
      (is : channel_of number s ≡ Some l) where
    -- ---- octets that wait to be carried up

    -- a client wrote good frames, or none; what waits is good
    pub written : (o : Mail) (k : SiteChannel) → k.connection.session ≡ l.connection.session
        → k.connection.channel.decoder ≡ l.connection.channel.decoder
        → GoodNext ok k.connection.channel.waiting
        → WritesGood ok l.connection.channel.client.client k.connection.channel.client.client → Sits ok up down s o
        → GoodMail ok up down o → Passes ok up down s o (with_channel number (Some k) s) o
    written o k session decoder waits wrote h mail =
        let here = linked ok up down number s l is o h in
        let was : HasWritten ok l.connection.channel.client.client.out = here.good.wrote in
        let more = more_written ok l.connection.channel.client.client.out wrote.frames wrote.each was in
        let good : GoodConnection ok k.connection =
        record { waits = waits; wrote = subst (HasWritten ok) (sym wrote.out) more } in
        moved ok up down number s l is k o o session good refl h
        (client_written_good ok up down l.connection k.connection wrote.frames o here.opened session decoder wrote.out
        wrote.each
        here.texts mail)

    -- nothing of the connection is another but what was sent on it
    same_connection : (o : Mail) (k : SiteChannel) → k.connection ≡ l.connection → Sits ok up down s o
        → GoodMail ok up down o
        → Passes ok up down s o (with_channel number (Some k) s) o
    same_connection o k same h mail =
        written o k (ap (λ (c : Connection). c.session) same) (ap (λ (c : Connection). c.channel.decoder) same)
        (subst (λ (c : Connection). GoodNext ok c.channel.waiting) (sym same)
        (linked ok up down number s l is o h).good.waits)
        (writes_none ok l.connection.channel.client.client k.connection.channel.client.client
        (ap (λ (c : Connection). c.channel.client.client.out) same)) h mail

    module _ (most : ℕ) (outcome : Outcome) (from : Mail) (t : Site H K S C) (to : Mail)
        (h : Sits ok up down s from)
        (mail : GoodMail ok up down from) where
      -- ---- octets that are carried

      rises_pass : Rises number most l outcome s from t to → Passes ok up down s from t to
      rises_pass r =
          let here = linked ok up down number s l is from h in
          subst (λ x. Passes ok up down s from x to) (sym r.site)
          (moved ok up down number s l is (over l r.later) from to
          (carried_up_session most l.connection from r.later to r.result r.carries)
          (carried_up_connection ok most l.connection from r.later to r.result r.carries here.good)
          (carried_up_opened most l.connection from r.later to r.result r.carries) h
          (carried_up_good ok up down most l.connection from r.later to r.result r.carries here.texts mail))

      falls_pass : Falls number most l outcome s from t to → Passes ok up down s from t to
      falls_pass r =
          let here = linked ok up down number s l is from h in
          meets_pass ok up down (fall_fate r.result) number (over l r.later) s from r.between t to r.meets
          (moved ok up down number s l is (over l r.later) from r.between
          (carried_down_session most l.connection from r.later r.between r.result r.carries)
          (carried_down_connection ok most l.connection from r.later r.between r.result r.carries here.good)
          (carried_down_opened most l.connection from r.later r.between r.result r.carries) h
          (carried_down_good ok up down most l.connection from r.later r.between r.result r.carries here.opened
          here.texts mail))

      carries_pass : (way : Way) → CarriesOn way number most l outcome s from t to → Passes ok up down s from t to
      carries_pass Up r = rises_pass r
      carries_pass Down r = falls_pass r

    -- ---- a frame that is taken

    module _ (later : Connection) (from : Mail) (h : Sits ok up down s from) (mail : GoodMail ok up down from)
      where
        -- it leaves the decoder, or where it waited
        taken : GoodConnection ok later → later.session ≡ l.connection.session → GoodWith ok later up down from
            → Passes ok up down s from (with_channel number (Some (over l later)) s) from
        taken good session texts = moved ok up down number s l is (over l later) from from session good refl h texts

        -- what came is no frame, or memory was refused
        fault_passes : (fault : FrameFault) → TakesNext l.connection later (Err fault)
            → (t : Site H K S C) (to : Mail)
            → Meets (decoder_fate fault) number (over l later) s from t to → Passes ok up down s from t to
        fault_passes Memory next t to meets =
            let here = linked ok up down number s l is from h in
            let same : later ≡ l.connection =
            next_good ok up down l.connection later from (Err Memory) next here.texts here.good mail in
            meets_pass ok up down Stays number (over l later) s from from t to meets
            (same_connection from (over l later) same h mail)
        fault_passes fault next t to meets = subst (λ x. Passes ok up down s from x to) (sym meets.1)
            (cut_off ok up down number s l is later from to meets.0.0 (next_session l.connection later (Err fault) next)
            meets.0.1 h mail)

  -- a frame was taken, and a reply to it is written
  replied : (up down : ℕ → List ℕ) (number : ConnectionNumber) (s : Site H K S C) (l : SiteChannel)
      → channel_of number s ≡ Some l
      → (later : Connection) (from : Mail) → Sits ok up down s from → GoodMail ok up down from → (k : SiteChannel)
      → GoodConnection ok later
      → later.session ≡ l.connection.session → GoodWith ok later up down from → k.connection.session ≡ later.session
      → k.connection.channel.decoder ≡ later.channel.decoder → GoodNext ok k.connection.channel.waiting
      → WritesGood ok later.channel.client.client k.connection.channel.client.client
      → Passes ok up down s from (with_channel number (Some k) s) from
  replied up down number s l is later from h mail k good session texts same decoder waits wrote =
      let first = taken up down number s l is later from h mail good session texts in
      let mid : Site H K S C = with_channel number (Some (over l later)) s in
      subst (λ x. Passes ok up down s from x from) (with_again number (Some k) (Some (over l later)) s)
      (again ok up down s mid (with_channel number (Some k) mid) from from from first
      (written first.rising first.falling number mid (over l later) (found_with number (Some (over l later)) s) from k
      same decoder waits
      wrote first.sits first.mail))

  -- an event of a connection that isn't open does nothing
  if_open : (up down : ℕ → List ℕ) (outcome : Outcome) (s : Site H K S C) (from : Mail) (t : Site H K S C)
      (to : Mail)
      (number : ConnectionNumber) (Does : SiteChannel → Type 0) (o : Option SiteChannel) → channel_of number s ≡ o
      → IfOpen o outcome s from t to Does
      → Sits ok up down s from → GoodMail ok up down from
      → ((l : SiteChannel) → channel_of number s ≡ Some l → Does l → Passes ok up down s from t to)
      → Passes ok up down s from t to
  if_open up down outcome s from t to number Does None is does h mail each =
      same_passes ok up down s from t to does.1 h mail
  if_open up down outcome s from t to number Does (Some l) is does h mail each = each l is does

  module _ (up down : ℕ → List ℕ) (outcome : Outcome) (s : Site H K S C) (from : Mail) (t : Site H K S C)
      (to : Mail)
      (h : Sits ok up down s from) (mail : GoodMail ok up down from) where
    -- a connection is opened
    new_channel : (number : ConnectionNumber) (r : Result Connection OpenFault) → Opens from to r → Adds number r s t
        → Passes ok up down s from t to
    new_channel number (Ok c) opens adds = subst (λ x. Passes ok up down s from x to) (sym adds.2)
        (opened_channel ok up down s from to number c adds.0 opens h mail)
    new_channel number (Err fault) opens adds =
        same_passes ok up down s from t to (adds, unopened_same from to fault opens) h mail

    opens_pass : (number : ConnectionNumber) (o : Option SiteChannel) → OpensChannel number o outcome s from t to
        → Passes ok up down s from t to
    opens_pass number (Some l) opens = same_passes ok up down s from t to opens.1 h mail
    opens_pass number None opens = new_channel number opens.0 opens.1 opens.3

    cuts_channel : (number : ConnectionNumber) (l : SiteChannel) → channel_of number s ≡ Some l
        → MailAfterCut (Some l) from to
        → t ≡ with_channel number None s
        → Passes ok up down s from t to
    cuts_channel number l is leaves site = subst (λ x. Passes ok up down s from x to) (sym site)
        (cut_off ok up down number s l is l.connection from to leaves.0 refl leaves.1 h mail)

    resends_pass : (number : ConnectionNumber) (l : SiteChannel) → channel_of number s ≡ Some l → (k : SiteChannel)
        → k.connection ≡ l.connection
        → Same (with_channel number (Some k) s) from t to → Passes ok up down s from t to
    resends_pass number l is k same meets = meets_pass ok up down Stays number k s from from t to meets
        (same_connection up down number s l is from k same h mail)

  -- ---- what uses the store

  module _ (seen : K → Seen (Tables S C)) (sound : (k : K) → IsSound (seen k)) (service : Service S C)
      (outcome : Outcome)
      (s : Site H K S C) (from : Mail) (t : Site H K S C) (to : Mail) (clean : (seen t.endpoint.keep).doubt ≡ 0)
      (match : AllMatch service (seen s.endpoint.keep).may_leave) (right : AreRight seen service s)
      (true_ok : (e : Envelope) → IsTrue service (seen t.endpoint.keep).may_leave e → ok e) (up down : ℕ → List ℕ)
      (h : Sits ok up down s from) (mail : GoodMail ok up down from) where
    -- the same service with the store that it has then
    abbrev stored : Site H K S C
    stored = with_store t.endpoint s

    sits_then : Sits ok up down stored from
    sits_then = sits_any_store ok up down t.endpoint s from h

    module _ (number : ConnectionNumber) (l : SiteChannel) (is : channel_of number s ≡ Some l) where
      fills_pass : (limit : ℕ) → SendsRows seen service number limit l outcome s from t to
          → Passes ok up down s from t to
      fills_pass limit r =
          let here = linked ok up down number s l is from h in
          let wrote = rows_good ok seen sound service s from t to clean match right true_ok number limit l is outcome r
          here.good.wrote in
          let p : Passes ok up down stored from (with_channel number (Some r.later) stored) from =
          written up down number stored l is from r.later
          (ap (λ (c : Connection). c.session) r.rest) (ap (λ (c : Connection). c.channel.decoder) r.rest)
          (subst (λ (c : Connection). GoodNext ok c.channel.waiting) (sym r.rest) here.good.waits) wrote sits_then
          mail in
          passes_any_store ok up down t.endpoint s t from to
          (meets_pass ok up down (fill_fate r.result) number r.later stored from from t to r.meets p)

      frame_passes : (later : Connection) (f : Content) → GoodFrame ok f → GoodConnection ok later
          → later.session ≡ l.connection.session
          → GoodWith ok later up down from → TakesFrame seen service number (over l later) f outcome s from t to
          → Passes ok up down s from t to
      frame_passes later f frame good session texts r =
          let k : SiteChannel = over (over l later) (record later {
            channel =
                record later.channel { client = r.client; waiting = waiting_of r.result f };
          }) in
          let wrote = answers_good ok service.kind f later.channel.client.client r.client.client r.result r.answers
          (settles_ok ok seen sound service s.endpoint t.endpoint clean match true_ok f r.result r.comes r.used) in
          let p : Passes ok up down stored from (with_channel number (Some k) stored) from =
          replied up down number stored l is later from sits_then mail k good session texts refl refl
          (waiting_good ok f frame r.result) wrote in
          passes_any_store ok up down t.endpoint s t from to
          (meets_pass ok up down (taken_fate r.result) number k stored from from t to r.meets p)

      what_passes : (later : Connection) (came : Result (Option Content) FrameFault) → TakesNext l.connection later came
          → TakesWhat seen service came number (over l later) outcome s from t to → Passes ok up down s from t to
      what_passes later (Ok None) next what =
          let here = linked ok up down number s l is from h in
          let came = next_good ok up down l.connection later from (Ok None) next here.texts here.good mail in
          meets_pass ok up down Stays number (over l later) s from from t to what.1
          (taken up down number s l is later from h mail came.0 (next_session l.connection later (Ok None) next)
          came.1)
      what_passes later (Ok (Some f)) next what =
          let here = linked ok up down number s l is from h in
          let came = next_good ok up down l.connection later from (Ok (Some f)) next here.texts here.good mail in
          frame_passes later f came.0 came.1.0 (next_session l.connection later (Ok (Some f)) next) came.1.1 what
      what_passes later (Err fault) next what =
          fault_passes up down number s l is later from h mail fault next t to what.1

      takes_pass : TakesOne seen service number l outcome s from t to → Passes ok up down s from t to
      takes_pass takes = what_passes takes.1 takes.0 takes.2 takes.3

      drains_over : DrainsOver seen service number l outcome s from t to → Passes ok up down s from t to
      drains_over r =
          let k : SiteChannel =
          over l (record l.connection { channel = record l.connection.channel { client = r.client } }) in
          let wrote = drains_good ok seen sound service s.endpoint t.endpoint clean match true_ok r.result
          l.connection.channel.client.client
          r.client.client r.wrote r.comes r.used in
          let p : Passes ok up down stored from (with_channel number (Some k) stored) from =
          written up down number stored l is from k refl refl (linked ok up down number s l is from h).good.waits wrote
          sits_then mail in
          passes_any_store ok up down t.endpoint s t from to
          (meets_pass ok up down (drain_fate r.result) number k stored from from t to r.meets p)

    drains_pass : (number : ConnectionNumber) (o : Option SiteChannel) → channel_of number s ≡ o
        → DrainsOne seen service number o outcome s from t to
        → Passes ok up down s from t to
    drains_pass number None is r = passes_any_store ok up down t.endpoint s t from to
        (alone_passes ok up down (drain_fate r.result) stored from t to r.meets sits_then mail)
    drains_pass number (Some l) is r = drains_over number l is r

    pub event_passes : (what : SiteEvent C) → SiteStep seen service what outcome s from t to
        → Passes ok up down s from t to
    event_passes (event.Commits asked) r = passes_any_store ok up down t.endpoint s t from to
        (after_passes ok up down r.result stored from t to r.after sits_then mail)
    event_passes (event.Opens number) r = opens_pass up down outcome s from t to h mail number (channel_of number s) r
    event_passes (event.Cuts number) r =
        if_open up down outcome s from t to number _ (channel_of number s) refl r h mail
        (λ l is does. cuts_channel up down outcome s from t to h mail number l is does.1 does.2)
    event_passes (event.Fills number limit) r =
        if_open up down outcome s from t to number _ (channel_of number s) refl r h mail
        (λ l is does. fills_pass number l is limit does)
    event_passes (event.Resends number) r =
        if_open up down outcome s from t to number _ (channel_of number s) refl r h mail
        (λ l is does. resends_pass up down outcome s from t to h mail number l is (record l { relay = does.1.0 }) refl
        does.1.2)
    event_passes (event.Carries number way most) r =
        if_open up down outcome s from t to number _ (channel_of number s) refl r h mail
        (λ l is does. carries_pass up down number s l is most outcome from t to h mail way does)
    event_passes (event.Takes number) r =
        if_open up down outcome s from t to number _ (channel_of number s) refl r h mail
        (λ l is does. takes_pass number l is does)
    event_passes (event.Drains number) r = drains_pass number (channel_of number s) refl r
    event_passes (event.Arms n leaves) r =
        let armed : Failing K = record s.endpoint { armed = Some (record { calls = n; leaves = leaves_of leaves }) } in
        passes_any_store ok up down armed s t from to
        (same_passes ok up down (with_store armed s) from t to r.1 (sits_any_store ok up down armed s from h) mail)
    event_passes event.Reopens r = passes_any_store ok up down t.endpoint s t from to
        (after_passes ok up down r.result stored from t to r.after sits_then mail)
    event_passes event.Stops r = passes_any_store ok up down (record r.opened { armed = None }) s t from to
        (cuts_pass ok up down (with_store (record r.opened { armed = None }) s) from t to r.cuts
        (sits_any_store ok up down (record r.opened { armed = None }) s from h) mail)
