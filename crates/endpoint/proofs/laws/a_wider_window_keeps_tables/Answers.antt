use Rattle.endpoint.proofs.Opening.{wider-matches}
use Rattle.endpoint.proofs.laws.a_wider_window_keeps_tables.Goals as goal

pub returns : goal.returns
returns g c = λ ahead wider t more h. wider-matches ahead wider g.H.Handler.service t more h
