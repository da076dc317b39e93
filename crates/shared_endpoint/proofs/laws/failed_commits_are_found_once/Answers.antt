use Rattle.shared_endpoint.proofs.Failing.{failed_commits}
use Rattle.shared_endpoint.proofs.laws.failed_commits_are_found_once.Goals as goal

pub returns : goal.returns
returns g c = failed_commits g.K.Keep.seen g.H.Handler.service g.met.K.Keep.sound
