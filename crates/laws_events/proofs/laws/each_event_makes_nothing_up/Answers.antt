use Rattle.laws_mail.specs.Passing.{passing}
use Rattle.laws_events.proofs.Events.{event_passes}
use Rattle.laws_events.proofs.laws.each_event_makes_nothing_up.Goals as goal

pub returns : goal.returns
returns g c test s t from to leads up down mail sits =
    event_passes (passing test) g.K.Keep.seen g.met.K.Keep.sound g.H.Handler.service leads.outcome s from t to
    leads.clean leads.matched
    leads.right leads.true_passes up down sits mail leads.event leads.step
