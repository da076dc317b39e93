use Rattle.schedule_service.proofs.Cursors.{event_right}
use Rattle.schedule_service.proofs.laws.cursors_stay_right.Goals as goal

pub returns : goal.returns
returns g c event outcome s t from to = event_right g.K.Keep.seen g.H.Handler.service event outcome s from t to
