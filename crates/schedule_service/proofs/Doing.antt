-- What was done to a service that a connection was taken out of, was done to the service.
use Rattle.std.proofs.Common.{◌≡◌, ℕ, Option, Some, None, ◌∙◌, sym, subst, Result, Ok, Err}
use Rattle.schedule_mail.specs.Mails.{Mail}
use Rattle.stomp_frame.specs.Frames.{Content}
use Rattle.stomp_frame.specs.declared.fault.FrameFault.{FrameFault}
use Rattle.activities.specs.Service.{Service}
use Rattle.keep.specs.Seen.{Seen}
use Rattle.keep.specs.Tables.{Tables}
use Rattle.schedule_text.specs.declared.event.ConnectionNumber.{ConnectionNumber}
use Rattle.schedule_text.specs.declared.outcome.Outcome.{Outcome}
use Rattle.schedule_service.specs.SiteSteps.{Falls, SendsRows, TakesFrame, TakesWhat, TakesOne, DrainsOver, DrainsOne}
use Rattle.schedule_service.specs.SiteSteps.{over, with_store, waiting_of}
use Rattle.schedule_service.specs.Channels.{channel_of, with_channel, TakesChannel}
use Rattle.schedule_service.specs.Outcomes.{decoder_fate, fall_fate, fill_fate, taken_fate, drain_fate}
use Rattle.schedule_service.specs.declared.site_channel.SiteChannel.{SiteChannel}
use Rattle.schedule_service.specs.declared.site.Site.{Site}
use Rattle.schedule_service.proofs.Fates.{with_again, meets_again, took_open}

module _ {H K S C : Type 0} (number : ConnectionNumber) (k : Option SiteChannel) (l : SiteChannel) (outcome : Outcome)
    (s : Site H K S C)
    (from : Mail)
    (t : Site H K S C) (to : Mail) where
  pub falls_again : (most : ℕ) → Falls number most l outcome (with_channel number k s) from t to
      → Falls number most l outcome s from t to
  falls_again most h = record {
    result = h.result;
    later = h.later;
    between = h.between;
    carries = h.carries;
    tells = h.tells;
    meets = meets_again (fall_fate h.result) number (over l h.later) k s h.between t to h.meets;
  }

  module _ (seen : K → Seen (Tables S C)) (service : Service S C) where
    pub sends_again : (limit : ℕ) → SendsRows seen service number limit l outcome (with_channel number k s) from t to
        → SendsRows seen service number limit l outcome s from t to
    sends_again limit h = record {
      result = h.result;
      later = h.later;
      idle = h.idle;
      reads = h.reads;
      keeps = h.keeps;
      unused = h.unused;
      fills = h.fills;
      knows = h.knows;
      rest = h.rest;
      tells = h.tells;
      meets = meets_again (fill_fate h.result) number h.later k (with_store t.endpoint s) from t to h.meets;
    }

    pub frame_again : (f : Content) → TakesFrame seen service number l f outcome (with_channel number k s) from t to
        → TakesFrame seen service number l f outcome s from t to
    frame_again f h = record {
      result = h.result;
      client = h.client;
      answers = h.answers;
      comes = h.comes;
      used = h.used;
      tells = h.tells;
      meets = meets_again (taken_fate h.result) number
          (over l (record l.connection {
            channel =
                record l.connection.channel { client = h.client; waiting = waiting_of h.result f };
          })) k
          (with_store t.endpoint s)
          from t to h.meets;
    }

    pub drains_again : DrainsOver seen service number l outcome (with_channel number k s) from t to
        → DrainsOver seen service number l outcome s from t to
    drains_again h = record {
      result = h.result;
      client = h.client;
      wrote = h.wrote;
      comes = h.comes;
      used = h.used;
      tells = h.tells;
      meets = meets_again (drain_fate h.result) number (over l (record l.connection
          { channel = record l.connection.channel { client = h.client } })) k (with_store t.endpoint s)
          from t to h.meets;
    }

    pub what_again : (came : Result (Option Content) FrameFault)
        → TakesWhat seen service came number l outcome (with_channel number k s) from t to
        → TakesWhat seen service came number l outcome s from t to
    what_again (Ok None) h = (h.0, (h.1.0 ∙ with_again number (Some l) k s, h.1.1))
    what_again (Ok (Some f)) h = frame_again f h
    what_again (Err fault) h = (h.0, meets_again (decoder_fate fault) number l k s from t to h.1)

module _ {H K S C : Type 0} (seen : K → Seen (Tables S C)) (service : Service S C) (number : ConnectionNumber)
    (k : Option SiteChannel)
    (l : SiteChannel)
    (outcome : Outcome) (s : Site H K S C) (from : Mail) (t : Site H K S C) (to : Mail) where
  pub takes_again : TakesOne seen service number l outcome (with_channel number k s) from t to
      → TakesOne seen service number l outcome s from t to
  takes_again h = (h.0, h.1, h.2, what_again number k (over l h.1) outcome s from t to seen service h.0 h.3)

module _ {H K S C : Type 0} (seen : K → Seen (Tables S C)) (service : Service S C) (number : ConnectionNumber)
    (l : SiteChannel)
    (outcome : Outcome) (s : Site H K S C) (from : Mail) (t : Site H K S C) (to : Mail) where
  -- a held letter was handled over a connection that was open
  pub drains_open : (between : Site H K S C) (r : Option SiteChannel) → r ≡ Some l → TakesChannel number s between r
      → DrainsOver seen service number l outcome between from t to
      → DrainsOne seen service number (channel_of number s) outcome s from t to
  drains_open between r is takes d =
      let took = took_open number s between r l is takes in
      subst (λ o. DrainsOne seen service number o outcome s from t to) (sym took.0)
      (drains_again number None l outcome s from t to seen service
      (subst (λ x. DrainsOver seen service number l outcome x from t to) took.1 d))
