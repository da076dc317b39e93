use Rattle.std.proofs.Common.{◌≡◌, refl}
use Rattle.endpoint.specs.Deeds.{Nothing}
use Rattle.schedule_service.proofs.Going.{finds_goes}
use Rattle.schedule_service.proofs.site.Site.reopen.Goals as goal

pub returns-in-Ok-clause-comes : goal.returns-in-Ok-clause-comes
returns-in-Ok-clause-comes g c =
    finds_goes g.K.Keep.seen c.args.self.now (record c.args.self.now { endpoint = c.reopen.new.self })
    g.H.Handler.service (λ x d. d ≡ Nothing) (λ x. refl) c.reopen.ensures.finds
