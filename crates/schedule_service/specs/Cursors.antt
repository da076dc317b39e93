-- What the relays of a service's connections know of its outbox, so that they needn't go over it from the first row.
use Rattle.std.specs.Prelude.{◌≡◌}
use Rattle.activities.specs.Service.{Service}
use Rattle.keep.specs.Seen.{Seen}
use Rattle.keep.specs.Tables.{Tables}
use Rattle.endpoint.specs.Deeds.{kept}
use Rattle.endpoint.specs.Matches.{AllMatch}
use Rattle.relay.specs.Knowing.{Knows}
use Rattle.relay.specs.declared.relay.Relay.{Relay}
use Rattle.schedule_service.specs.Deeds.{Goes, SiteMay, channels_of}
use Rattle.schedule_mail.specs.Mails.{Mail}
use Rattle.schedule_text.specs.declared.outcome.Outcome.{Outcome}
use Rattle.schedule_service.specs.SiteSteps.{SiteStep}
use Rattle.schedule_service.specs.Channels.{ChannelsHave}
use Rattle.schedule_service.specs.SiteEvents.{SiteEvent}
use Rattle.schedule_service.specs.declared.site.Site.{Site}

-- a relay's cursor is right of each of these contents
abbrev pub KnowsEach : {S C : Type 0} → Service S C → (Tables S C → Type 0) → Relay → Type 0
KnowsEach {S} {C} service may_leave r = (t : Tables S C) → may_leave t → Knows service r (kept t)

-- the cursors of a service's open connections are right of each content that a stop may leave of its store
abbrev pub AreRight : {H K S C : Type 0} → (K → Seen (Tables S C)) → Service S C → Site H K S C → Type 0
AreRight seen service s = ChannelsHave (KnowsEach service (seen s.endpoint.keep).may_leave) s

-- where they were right they are so behind an event, if no file is in doubt
abbrev pub KeepsRight : {H K S C : Type 0} → (K → Seen (Tables S C)) → Service S C → SiteEvent C → Outcome
    → Site H K S C → Mail
    → Site H K S C → Mail → Type 0
KeepsRight seen service e outcome s from t to =
    (seen t.endpoint.keep).doubt ≡ 0 → AllMatch service (seen s.endpoint.keep).may_leave
    → SiteStep seen service e outcome s from t to → Goes seen s t service (SiteMay service (channels_of s) e outcome)
    → AreRight seen service s → AreRight seen service t
