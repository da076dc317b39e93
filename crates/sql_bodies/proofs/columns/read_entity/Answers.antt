use Rattle.std.proofs.Common.{rules, sym}
use Rattle.base.specs.declared.fault.EntityFault.TheVariants.{BadKind, BadKey}
use Rattle.envelope.proofs.Answered.{entity_refused}
use Rattle.sql_bodies.proofs.columns.read_entity.Goals as goal

pub returns-in-Err-BadKind : goal.returns-in-Err-BadKind
returns-in-Err-BadKind c = sym (entity_refused c.args.text.now BadKind (search rules))

pub returns-in-Err-BadKey : goal.returns-in-Err-BadKey
returns-in-Err-BadKey c = sym (entity_refused c.args.text.now BadKey (search rules))
