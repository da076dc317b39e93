use Rattle.laws_services.proofs.Contracts.{commit_does}
use Rattle.laws_services.proofs.calls.commits_are_steps.Goals as goal

pub returns : goal.returns
returns g c = λ old new written e seat command result.
    commit_does g.K.Keep.seen g.met.K.Keep.sound g.H.Handler.service old new written e seat command result
