use Rattle.envelope.proofs.Texts.{number_made}
use Rattle.sql_bodies.proofs.states.as_number.Goals as goal

pub returns : goal.returns
returns c = number_made c.new.result c.args.number c.new.ensures
