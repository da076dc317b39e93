use Rattle.std.proofs.Common.{[], ◌∷◌, ◌++◌}
use Rattle.schedule_text.specs.declared.event.ConnectionNumber.TheVariants.{Zero, One}
use Rattle.schedule_text.specs.declared.event.Event.TheVariants.{Drain}
use Rattle.schedule_runner.specs.Rounds.{connection_events, named}
use Rattle.schedule_runner.proofs.Stepping.{passes_all, passes_one}
use Rattle.schedule_runner.proofs.world.World.pump_service.Goals as goal

pub returns : goal.returns
returns g c =
    let zero = named c.args.service Zero in
    let one = named c.args.service One in
    passes_all g.KO.Keep.seen g.KS.Keep.seen g.KA.Keep.seen (connection_events zero ++ connection_events one)
    (Drain zero ∷ [])
    c.args.self.now c.pump_connection-2.new.self c.at.new.self
    (passes_all g.KO.Keep.seen g.KS.Keep.seen g.KA.Keep.seen (connection_events zero) (connection_events one)
    c.args.self.now
    c.pump_connection.new.self c.pump_connection-2.new.self c.pump_connection.ensures c.pump_connection-2.ensures)
    (passes_one g.KO.Keep.seen g.KS.Keep.seen g.KA.Keep.seen (Drain zero) c.at.result c.pump_connection-2.new.self
    c.at.new.self
    c.at.ensures)
