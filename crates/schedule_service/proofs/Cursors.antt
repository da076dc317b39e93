-- The relays' cursors of a service stay right of its outbox.
use Rattle.std.proofs.Common.{◌≡◌, ℕ, length, take, Option, Some, None, Result, Ok, Err, refl, sym, subst}
use Rattle.std.proofs.Math.Logic.{∥∥₁_elim}
use Rattle.activities.specs.Service.{Service}
use Rattle.stomp_frame.specs.Frames.{Content}
use Rattle.stomp_frame.specs.declared.fault.FrameFault.{FrameFault}
use Rattle.stomp_wire.specs.declared.wire.Way.{Way}
use Rattle.stomp_wire.specs.declared.wire.Way.TheVariants.{Up, Down}
use Rattle.keep.specs.Failing.{through}
use Rattle.keep.specs.Seen.{Seen}
use Rattle.keep.specs.Tables.{Tables}
use Rattle.endpoint.specs.Deeds.{Kept, kept, Deed}
use Rattle.endpoint.specs.Matches.{AllMatch}
use Rattle.endpoint.specs.declared.fault.EndFault.{EndFault}
use Rattle.endpoint.specs.declared.fault.EndFault.TheVariants.{NotMine, Business, TooEarly, StoreFailed, Memory}
use Rattle.endpoint.specs.declared.fault.EndFault.TheVariants.{Unusable, NumberLimit}
use Rattle.endpoint.specs.declared.fault.EndFault.TheVariants.{NotSent}
use Rattle.schedule_mail.specs.Mails.{Mail}
use Rattle.schedule_mail.specs.declared.connection.Connection.{Connection}
use Rattle.schedule_mail.specs.declared.fault.OpenFault.{OpenFault}
use Rattle.outbox.specs.Rows.{unsettled_of}
use Rattle.relay.specs.declared.relay.Relay.{Relay}
use Rattle.relay.proofs.Knowing.{deed_known, knows-prop}
use Rattle.schedule_text.specs.declared.event.ConnectionNumber.{ConnectionNumber}
use Rattle.schedule_text.specs.declared.event.ConnectionNumber.TheVariants.{Zero, One}
use Rattle.schedule_text.specs.declared.outcome.Outcome.{Outcome}
use Rattle.schedule_service.specs.Cursors.{KnowsEach, AreRight, KeepsRight}
use Rattle.schedule_service.specs.Deeds.{Goes, SiteMay, channels_of}
use Rattle.schedule_service.specs.SiteSteps.{Adds, CarriesOn, DrainsOne, SiteStep, IfOpen, OpensChannel, SendsRows}
use Rattle.schedule_service.specs.SiteSteps.{TakesWhat, over, with_store}
use Rattle.schedule_service.specs.Channels.{channel_of, with_channel, Same, CutsBoth, After, AfterFault, Meets}
use Rattle.schedule_service.specs.Channels.{MeetsAlone, IsAllDue}
use Rattle.schedule_service.specs.Channels.{ChannelHas, ChannelsHave}
use Rattle.schedule_service.specs.Outcomes.{decoder_fate, drain_fate, fall_fate, fill_fate, taken_fate}
use Rattle.schedule_service.specs.SiteEvents.{SiteEvent}
use Rattle.schedule_service.specs.SiteEvents as event
use Rattle.schedule_service.specs.declared.fate.ChannelFate.{ChannelFate}
use Rattle.schedule_service.specs.declared.fate.ChannelFate.TheVariants.{Stays, IsCut, BothAreCut}
use Rattle.schedule_service.specs.declared.site_channel.SiteChannel.{SiteChannel}
use Rattle.schedule_service.specs.declared.site.Site.{Site}

-- ---- connections that come and go

channel_more : (Was Is : Relay → Type 0) → ((r : Relay) → Was r → Is r) → (l : Option SiteChannel) → ChannelHas Was l
    → ChannelHas Is l
channel_more Was Is more None h = tt
channel_more Was Is more (Some l) h = more l.relay h

module _ {H K S C : Type 0} (Is : Relay → Type 0) where
  pub channels_more : (Was : Relay → Type 0) → ((r : Relay) → Was r → Is r) → (s : Site H K S C) → ChannelsHave Was s
      → ChannelsHave Is s
  channels_more Was more s h = (channel_more Was Is more s.zero h.0, channel_more Was Is more s.one h.1)

  pub channel_has : (number : ConnectionNumber) (s : Site H K S C) (l : SiteChannel) → channel_of number s ≡ Some l
      → ChannelsHave Is s
      → Is l.relay
  channel_has Zero s l is h = subst (ChannelHas Is) is h.0
  channel_has One s l is h = subst (ChannelHas Is) is h.1

  put_has : (number : ConnectionNumber) (l : Option SiteChannel) (s : Site H K S C) → ChannelHas Is l
      → ChannelsHave Is s
      → ChannelsHave Is (with_channel number l s)
  put_has Zero l s own h = (own, h.1)
  put_has One l s own h = (h.0, own)

  module _ (s : Site H K S C) (from : Mail) (t : Site H K S C) (to : Mail) where
    same_has : Same s from t to → ChannelsHave Is s → ChannelsHave Is t
    same_has same h = subst (ChannelsHave Is) (sym same.0) h

    pub cut_has : CutsBoth s from t to → ChannelsHave Is t
    cut_has cuts = subst (ChannelsHave Is) (sym cuts.site) (tt, tt)

    fault_has : (fault : EndFault) → AfterFault fault s from t to → ChannelsHave Is s → ChannelsHave Is t
    fault_has StoreFailed after h = cut_has after
    fault_has NotMine after h = same_has after h
    fault_has (Business refusal) after h = same_has after h
    fault_has TooEarly after h = same_has after h
    fault_has Memory after h = same_has after h
    fault_has Unusable after h = same_has after h
    fault_has NumberLimit after h = same_has after h
    fault_has NotSent after h = same_has after h

    pub after_has : {R : Type 0} (r : Result R EndFault) → After r s from t to → ChannelsHave Is s → ChannelsHave Is t
    after_has (Ok done) after h = same_has after h
    after_has (Err fault) after h = fault_has fault after h

    alone_has : (fate : ChannelFate) → MeetsAlone fate s from t to → ChannelsHave Is s → ChannelsHave Is t
    alone_has Stays meets h = same_has meets h
    alone_has IsCut meets h = same_has meets h
    alone_has BothAreCut meets h = cut_has meets

  meets_has : (fate : ChannelFate) (number : ConnectionNumber) (l : SiteChannel) (s : Site H K S C) (from : Mail)
      (t : Site H K S C)
      (to : Mail) → Meets fate number l s from t to → Is l.relay → ChannelsHave Is s → ChannelsHave Is t
  meets_has Stays number l s from t to meets own h =
      same_has (with_channel number (Some l) s) from t to meets (put_has number (Some l) s own h)
  meets_has IsCut number l s from t to meets own h = subst (ChannelsHave Is) (sym meets.1) (put_has number None s tt h)
  meets_has BothAreCut number l s from t to meets own h = cut_has (with_channel number (Some l) s) from t to meets

  -- an event of a connection that isn't open does nothing
  if_open : (outcome : Outcome) (s : Site H K S C) (from : Mail) (t : Site H K S C) (to : Mail)
      (number : ConnectionNumber)
      (Does : SiteChannel → Type 0) (o : Option SiteChannel) → channel_of number s ≡ o
      → IfOpen o outcome s from t to Does → ChannelsHave Is s
      → ((l : SiteChannel) → channel_of number s ≡ Some l → Does l → ChannelsHave Is t) → ChannelsHave Is t
  if_open outcome s from t to number Does None is does h each = same_has s from t to does.1 h
  if_open outcome s from t to number Does (Some l) is does h each = each l is does

-- ---- an event

module _ {H K S C : Type 0} (Is : Relay → Type 0) (due : (r : Relay) → IsAllDue r → Is r) (outcome : Outcome)
    (s : Site H K S C)
    (from : Mail) (t : Site H K S C) (to : Mail) (h : ChannelsHave Is s) where
  adds_has : (number : ConnectionNumber) (r : Result Connection OpenFault) → Adds number r s t → ChannelsHave Is t
  adds_has number (Ok c) adds = subst (ChannelsHave Is) (sym adds.2)
      (put_has Is number (Some (record { connection = c; relay = adds.0 })) s (due adds.0 adds.1) h)
  adds_has number (Err fault) adds = subst (ChannelsHave Is) (sym adds) h

  opens_has : (number : ConnectionNumber) (o : Option SiteChannel) → OpensChannel number o outcome s from t to
      → ChannelsHave Is t
  opens_has number (Some l) opens = same_has Is s from t to opens.1 h
  opens_has number None opens = adds_has number opens.0 opens.3

  module _ (number : ConnectionNumber) (l : SiteChannel) (is : channel_of number s ≡ Some l) where
    own : Is l.relay
    own = channel_has Is number s l is h

    carries_has : (way : Way) (most : ℕ) → CarriesOn way number most l outcome s from t to → ChannelsHave Is t
    carries_has Up most r = subst (ChannelsHave Is) (sym r.site) (put_has Is number (Some (over l r.later)) s own h)
    carries_has Down most r = meets_has Is (fall_fate r.result) number (over l r.later) s r.between t to r.meets own h

    what_has : (seen : K → Seen (Tables S C)) (service : Service S C) (later : Connection)
        (came : Result (Option Content) FrameFault)
        → TakesWhat seen service came number (over l later) outcome s from t to → ChannelsHave Is t
    what_has seen service later (Ok None) what =
        same_has Is (with_channel number (Some (over l later)) s) from t to what.1
        (put_has Is number (Some (over l later)) s own h)
    what_has seen service later (Ok (Some f)) what =
        meets_has Is (taken_fate what.result) number _ (with_store t.endpoint s) from t to what.meets own h
    what_has seen service later (Err fault) what =
        meets_has Is (decoder_fate fault) number (over l later) s from t to what.1 own h

  drains_has : (seen : K → Seen (Tables S C)) (service : Service S C) (number : ConnectionNumber)
      (o : Option SiteChannel)
      → channel_of number s ≡ o
      → DrainsOne seen service number o outcome s from t to → ChannelsHave Is t
  drains_has seen service number None is r =
      alone_has Is (with_store t.endpoint s) from t to (drain_fate r.result) r.meets h
  drains_has seen service number (Some l) is r =
      meets_has Is (drain_fate r.result) number _ (with_store t.endpoint s) from t to r.meets (own number l is) h

module _ {H K S C : Type 0} (seen : K → Seen (Tables S C)) (service : Service S C) (outcome : Outcome)
    (s : Site H K S C) (from : Mail)
    (t : Site H K S C) (to : Mail) (clean : (seen t.endpoint.keep).doubt ≡ 0)
    (match : AllMatch service (seen s.endpoint.keep).may_leave)
    (right : AreRight seen service s) where
  abbrev Was : Relay → Type 0
  Was = KnowsEach service (seen s.endpoint.keep).may_leave

  abbrev Is : Relay → Type 0
  Is = KnowsEach service (seen t.endpoint.keep).may_leave

  -- a cursor that leaves out nothing is right of each content
  due_known : (r : Relay) → IsAllDue r → Is r
  due_known r all u may = all.knows (length (kept u).journal)
      (unsettled_of service.reactions (take r.rows (kept u).journal) (kept u).settled)

  fills_has : (number : ConnectionNumber) (l : SiteChannel) → channel_of number s ≡ Some l → (limit : ℕ)
      → SendsRows seen service number limit l outcome s from t to → ChannelsHave Is s → ChannelsHave Is t
  fills_has number l is limit r h =
      meets_has Is (fill_fate r.result) number r.later (with_store t.endpoint s) from t to r.meets
      (r.knows clean (match, channel_has Was number s l is right)).1 h

  step_has : ChannelsHave Is s → (e : SiteEvent C) → SiteStep seen service e outcome s from t to → ChannelsHave Is t
  step_has h (event.Commits asked) r = after_has Is (with_store t.endpoint s) from t to r.result r.after h
  step_has h (event.Opens number) r = opens_has Is due_known outcome s from t to h number (channel_of number s) r
  step_has h (event.Cuts number) r = if_open Is outcome s from t to number _ (channel_of number s) refl r h
      (λ l is does. subst (ChannelsHave Is) (sym does.2) (put_has Is number None s tt h))
  step_has h (event.Fills number limit) r = if_open Is outcome s from t to number _ (channel_of number s) refl r h
      (λ l is does. fills_has number l is limit does h)
  step_has h (event.Resends number) r = if_open Is outcome s from t to number _ (channel_of number s) refl r h
      (λ l is does. same_has Is (with_channel number (Some (record l { relay = does.1.0 })) s) from t to does.1.2
      (put_has Is number (Some (record l { relay = does.1.0 })) s (due_known does.1.0 does.1.1) h))
  step_has h (event.Carries number way most) r =
      if_open Is outcome s from t to number _ (channel_of number s) refl r h
      (λ l is does. carries_has Is due_known outcome s from t to h number l is way most does)
  step_has h (event.Takes number) r = if_open Is outcome s from t to number _ (channel_of number s) refl r h
      (λ l is does. what_has Is due_known outcome s from t to h number l is seen service does.1 does.0 does.3)
  step_has h (event.Drains number) r =
      drains_has Is due_known outcome s from t to h seen service number (channel_of number s) refl r
  step_has h (event.Arms n leaves) r = subst (ChannelsHave Is) (sym r.1.0) h
  step_has h event.Reopens r = after_has Is (with_store t.endpoint s) from t to r.result r.after h
  step_has h event.Stops r = cut_has Is _ from t to r.cuts

  -- what an event leaves of a store comes of what it might have left before
  grown : (allowed : Kept C → Deed C → Type 0) → Goes seen s t service allowed → (r : Relay) → Was r → Is r
  grown allowed goes r known u may = ∥∥₁_elim (goes clean match u may) (knows-prop service r (kept u))
      (λ came. deed_known service r (kept came.before) (kept u) came.deed (known came.before came.was) came.did)

pub event_right : {H K S C : Type 0} (seen : K → Seen (Tables S C)) (service : Service S C) (e : SiteEvent C)
    (outcome : Outcome)
    (s : Site H K S C) (from : Mail) (t : Site H K S C) (to : Mail) → KeepsRight seen service e outcome s from t to
event_right seen service e outcome s from t to clean match step goes right =
    step_has seen service outcome s from t to clean match right
    (channels_more (KnowsEach service (seen t.endpoint.keep).may_leave) (KnowsEach service
    (seen s.endpoint.keep).may_leave)
    (grown seen service outcome s from t to clean match right (SiteMay service (channels_of s) e outcome) goes) s right)
    e step

-- ---- no event

-- whatever was so of a service's relays is so of those that it still has
abbrev pub RelaysRest : {H K S C : Type 0} → (s t : Site H K S C) → Type 1
RelaysRest s t = (Is : Relay → Type 0) → ChannelsHave Is s → ChannelsHave Is t

-- a store that may leave no more than before
pub still_right : {H K S C : Type 0} (seen : K → Seen (Tables S C)) (service : Service S C) (s t : Site H K S C)
    → ((u : Tables S C) → (seen t.endpoint.keep).may_leave u → (seen s.endpoint.keep).may_leave u)
    → RelaysRest s t → AreRight seen service s → AreRight seen service t
still_right seen service s t stays channels right = channels (KnowsEach service (seen t.endpoint.keep).may_leave)
    (channels_more (KnowsEach service (seen t.endpoint.keep).may_leave) (KnowsEach service
    (seen s.endpoint.keep).may_leave)
    (λ r known u may. known u (stays u may)) s right)

-- the same store
pub stored_right : {H K S C : Type 0} (seen : K → Seen (Tables S C)) (service : Service S C) (s t : Site H K S C)
    → t.endpoint ≡ s.endpoint
    → RelaysRest s t → AreRight seen service s → AreRight seen service t
stored_right seen service s t same = still_right seen service s t
    (λ u may. subst (λ e. (through seen e).may_leave u) same may)

-- no connection
pub closed_right : {H K S C : Type 0} (seen : K → Seen (Tables S C)) (service : Service S C) (s : Site H K S C)
    → s.zero ≡ None
    → s.one ≡ None → AreRight seen service s
closed_right seen service s zero one = let Is : Relay → Type 0 = KnowsEach service (seen s.endpoint.keep).may_leave in
    (subst (ChannelHas Is) (sym zero) tt, subst (ChannelHas Is) (sym one) tt)
