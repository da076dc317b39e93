use Rattle.std.proofs.Common.{◌≡◌, refl, sym, ◌∙◌, subst}
use Rattle.keep.specs.Failing.{through}
use Rattle.endpoint.specs.Calls.{Finds}
use Rattle.endpoint.specs.Deeds.{Nothing}
use Rattle.schedule_text.specs.declared.outcome.Outcome.TheVariants.{Stopped}
use Rattle.schedule_service.specs.SiteSteps.{with_store}
use Rattle.schedule_service.specs.Channels.{CutsBoth}
use Rattle.schedule_service.proofs.Going.{finds_goes, told_refused}
use Rattle.schedule_service.proofs.site.Site.stop.Goals as goal

pub returns-in-Ok-clause-did : goal.returns-in-Ok-clause-did
returns-in-Ok-clause-did g c = record {
  result = c.reopen-answer.result;
  opened = c.reopen-answer.new.self;
  reopens = c.reopen-answer.ensures.reopens;
  finds = c.reopen-answer.ensures.finds;
  tells = rw c.in-Ok.is refl;
  cuts = subst (λ e. CutsBoth (with_store e c.args.self.now) c.args.mail.now c.disconnect.new.self
      c.disconnect.new.mail) c.disarm.ensures
      c.disconnect.ensures.cuts;
}

pub returns-in-Ok-clause-comes : goal.returns-in-Ok-clause-comes
returns-in-Ok-clause-comes g c =
    finds_goes g.K.Keep.seen c.args.self.now c.disconnect.new.self g.H.Handler.service (λ x d. d ≡ Nothing) (λ x. refl)
    (subst (λ e. Finds (through g.K.Keep.seen) c.args.self.now.endpoint e)
    (sym (c.disconnect.ensures.store ∙ c.disarm.ensures))
    c.reopen-answer.ensures.finds)

pub returns-in-Err-clause-did : goal.returns-in-Err-clause-did
returns-in-Err-clause-did g c = record {
  result = c.reopen-answer.result;
  opened = c.reopen-answer.new.self;
  reopens = c.reopen-answer.ensures.reopens;
  finds = c.reopen-answer.ensures.finds;
  tells = told_refused (λ _. Stopped) c.reopen-answer.result c.in-Err.fault c.fault_told.result c.in-Err.is
      c.fault_told.ensures;
  cuts = subst (λ e. CutsBoth (with_store e c.args.self.now) c.args.mail.now c.disconnect.new.self
      c.disconnect.new.mail) c.disarm.ensures
      c.disconnect.ensures.cuts;
}
