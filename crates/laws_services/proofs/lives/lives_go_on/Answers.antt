use Rattle.laws_services.proofs.Living.{new_has_lived, lived_on}
use Rattle.laws_services.proofs.lives.lives_go_on.Goals as goal

pub returns-clause-new : goal.returns-clause-new
returns-clause-new g c = new_has_lived g.H.Handler.service

pub returns-clause-life : goal.returns-clause-life
returns-clause-life g c = λ earlier later found t was life.
    lived_on g.H.Handler.service earlier later found t was life
