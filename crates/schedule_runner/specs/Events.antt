-- What a service is told to do.
use Rattle.schedule_runner.specs.declared.acting.ServiceEvent.{ServiceEvent}
use Rattle.schedule_runner.specs.declared.acting.ServiceEvent.TheVariants.{Open, Cut, Fill, Resend, Carry, Take, Drain}
use Rattle.schedule_runner.specs.declared.acting.ServiceEvent.TheVariants.{Fail, Reopen, Stop}
use Rattle.schedule_service.specs.SiteEvents.{SiteEvent, Opens, Cuts, Fills, Resends, Carries, Takes, Drains, Arms}
use Rattle.schedule_service.specs.SiteEvents.{Reopens, Stops}

-- the event of a site
abbrev pub asked_of : {C : Type 0} → ServiceEvent → SiteEvent C
asked_of (Open number) = Opens number
asked_of (Cut number) = Cuts number
asked_of (Fill number limit) = Fills number limit
asked_of (Resend number) = Resends number
asked_of (Carry number way most) = Carries number way most
asked_of (Take number) = Takes number
asked_of (Drain number) = Drains number
asked_of (Fail n leaves) = Arms n leaves
asked_of Reopen = Reopens
asked_of Stop = Stops
