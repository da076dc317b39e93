use Rattle.stomp_wire.specs.Pump.{no_put}
use Rattle.stomp_wire.proofs.pump.pump_out.Goals as goal

pub returns-clause-run : goal.returns-clause-run
returns-clause-run g c = c.pump_rest.ensures.run c.args.link.now 0 no_put
