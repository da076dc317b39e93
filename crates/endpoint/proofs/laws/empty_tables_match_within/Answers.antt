use Rattle.endpoint.proofs.Opening.{empty-matches}
use Rattle.endpoint.proofs.laws.empty_tables_match_within.Goals as goal

pub returns : goal.returns
returns g c = λ ahead. empty-matches ahead g.H.Handler.service
