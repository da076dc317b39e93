use Rattle.std.proofs.Common.{ap}
use Rattle.schedule_service.specs.declared.site.Site.{Site}
use Rattle.schedule_runner.proofs.Righting.{opened_good, new_good}
use Rattle.schedule_runner.proofs.world.World.open.Goals as goal

pub returns-clause-good : goal.returns-clause-good
returns-clause-good g c = opened_good g.KO.Keep.seen g.KS.Keep.seen g.KA.Keep.seen (record {
  purchasing = c.new.result;
  warehouse = c.new-2.result;
  billing = c.new-3.result;
  mail = c.new-4.result;
  alloc = c.args.alloc;
})
    (ap (λ (s : Site _ _ _ _). s.zero) c.new.ensures) (ap (λ (s : Site _ _ _ _). s.one) c.new.ensures)
    (ap (λ (s : Site _ _ _ _). s.zero) c.new-2.ensures) (ap (λ (s : Site _ _ _ _). s.one) c.new-2.ensures)
    (ap (λ (s : Site _ _ _ _). s.zero) c.new-3.ensures) (ap (λ (s : Site _ _ _ _). s.one) c.new-3.ensures)
    c.new-4.ensures

pub returns-clause-unused : goal.returns-clause-unused
returns-clause-unused g c = new_good g.KO.Keep.seen g.KS.Keep.seen g.KA.Keep.seen (record {
  purchasing = c.new.result;
  warehouse = c.new-2.result;
  billing = c.new-3.result;
  mail = c.new-4.result;
  alloc = c.args.alloc;
})
    (ap (λ (s : Site _ _ _ _). s.zero) c.new.ensures) (ap (λ (s : Site _ _ _ _). s.one) c.new.ensures)
    (ap (λ (s : Site _ _ _ _). s.zero) c.new-2.ensures) (ap (λ (s : Site _ _ _ _). s.one) c.new-2.ensures)
    (ap (λ (s : Site _ _ _ _). s.zero) c.new-3.ensures) (ap (λ (s : Site _ _ _ _). s.one) c.new-3.ensures)
    c.new-4.ensures
