use Rattle.std.proofs.Common.{sym}
use Rattle.broker_queues.specs.Parts.Held.{holding_of}
use Rattle.broker_queues.proofs.Released.{released_found, released_none}
use Rattle.broker_queues.proofs.parts.Parts.release.Goals as goal

pub returns-in-Some : goal.returns-in-Some
returns-in-Some c is =
    released_found (holding_of c.args.self.now) (holding_of c.leave.new.self) is c.args.session c.args.id.now
    c.in-Some.place
    (sym c.in-Some.ensures) c.leave.ensures

pub returns-in_default : goal.returns-in_default
returns-in_default c is = (
  is,
  λ accepted. released_none (holding_of c.args.self.now) is c.args.session c.args.id.now (sym c.in_default.ensures)
      accepted,
  λ none. none,
)
