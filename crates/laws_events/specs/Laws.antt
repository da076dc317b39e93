-- What the laws say.
use Rattle.std.specs.Prelude.{◌≡◌, ℕ, Bool, List}
use Rattle.envelope.specs.declared.message.Envelope.{Envelope}
use Rattle.activities.specs.Service.{Service}
use Rattle.keep.specs.Seen.{Seen}
use Rattle.keep.specs.Tables.{Tables}
use Rattle.endpoint.specs.Matches.{AllMatch}
use Rattle.schedule_mail.specs.Mails.{Mail}
use Rattle.laws_mail.specs.Passing.{GoodMail, passing}
use Rattle.schedule_text.specs.declared.outcome.Outcome.{Outcome}
use Rattle.laws_events.specs.Sitting.{Sits, Passes}
use Rattle.laws_events.specs.Three.{Genuine}
use Rattle.laws_events.specs.Writing.{IsTrue}
use Rattle.schedule_service.specs.Cursors.{AreRight}
use Rattle.schedule_service.specs.SiteSteps.{SiteStep}
use Rattle.schedule_service.specs.SiteEvents.{SiteEvent}
use Rattle.schedule_service.specs.declared.site.Site.{Site}

module _ {H K S C : Type 0} (seen : K → Seen (Tables S C)) (service : Service S C) (test : Envelope → Bool)
    (s t : Site H K S C)
    (from to : Mail) where
  -- An event leads there. No file is in doubt then, all contents of the store matched their journal before, of which
  -- the relays' cursors were right, and what is true in each content that there is then passes.
  pub record EventLeads : Type 0 where
    pub event : SiteEvent C
    pub outcome : Outcome
    pub step : SiteStep seen service event outcome s from t to
    pub clean : (seen t.endpoint.keep).doubt ≡ 0
    pub matched : AllMatch service (seen s.endpoint.keep).may_leave
    pub right : AreRight seen service s
    pub true_passes : (e : Envelope) → IsTrue service (seen t.endpoint.keep).may_leave e → passing test e

  -- then all is good again where it was good
  abbrev pub EventPasses : Type 0
  EventPasses =
      EventLeads → (up down : ℕ → List ℕ) → GoodMail (passing test) up down from → Sits (passing test) up down s from
      → Passes (passing test) up down s from t to

  -- then all is genuine again among three services, of which this is the first
  abbrev pub FirstKeeps : {H' K' S' C' H'' K'' S'' C'' : Type 0} → Site H' K' S' C' → Site H'' K'' S'' C'' → Type 0
  FirstKeeps b c = EventLeads → Genuine (passing test) s b c from → Genuine (passing test) t b c to
