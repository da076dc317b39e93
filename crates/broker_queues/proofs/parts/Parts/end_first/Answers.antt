use Rattle.std.proofs.Common.{◌-◌, length, sym}
use Rattle.broker_index.specs.Index.{places_at}
use Rattle.broker_queues.specs.Parts.Held.{holding_of}
use Rattle.broker_queues.proofs.Released.{ends_first, ends_nothing, no_first}
use Rattle.broker_queues.proofs.parts.Parts.end_first.Goals as goal

pub returns-in-Some : goal.returns-in-Some
returns-in-Some c is =
    ends_first (holding_of c.args.self.now) (holding_of c.leave.new.self) is c.args.session c.in-Some.place
    (sym c.in-Some.ensures) c.leave.ensures

pub returns-in_default : goal.returns-in_default
returns-in_default c is =
    ends_nothing (holding_of c.args.self.now) is c.args.session (length (places_at c.args.self.now.sessions
    c.args.session) - 1)
    (no_first (places_at c.args.self.now.sessions c.args.session) (sym c.in_default.ensures))
