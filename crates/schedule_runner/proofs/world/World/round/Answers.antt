use Rattle.std.proofs.Common.{◌++◌}
use Rattle.schedule_text.specs.declared.event.ServiceName.TheVariants.{Purchasing, Warehouse, Billing}
use Rattle.schedule_runner.specs.Rounds.{service_events}
use Rattle.schedule_runner.proofs.Stepping.{passes_all}
use Rattle.schedule_runner.proofs.world.World.round.Goals as goal

pub returns : goal.returns
returns g c =
    passes_all g.KO.Keep.seen g.KS.Keep.seen g.KA.Keep.seen (service_events Purchasing ++ service_events Warehouse)
    (service_events Billing)
    c.args.self.now c.pump_service-2.new.self c.pump_service-3.new.self
    (passes_all g.KO.Keep.seen g.KS.Keep.seen g.KA.Keep.seen (service_events Purchasing) (service_events Warehouse)
    c.args.self.now
    c.pump_service.new.self c.pump_service-2.new.self c.pump_service.ensures c.pump_service-2.ensures)
    c.pump_service-3.ensures
