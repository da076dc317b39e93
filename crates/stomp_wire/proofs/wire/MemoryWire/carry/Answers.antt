use Rattle.stomp_wire.proofs.Journeys.{carried_travels}
use Rattle.stomp_wire.proofs.wire.MemoryWire.carry.Goals as goal

pub returns-in-Up-clause-travels : goal.returns-in-Up-clause-travels
returns-in-Up-clause-travels c =
    rw c.in-Up.is (carried_travels c.args.most c.args.self.now.near c.args.self.now.far c.carry_to.new.self
    c.carry_to.new.to
    c.carry_to.result c.carry_to.ensures)

pub returns-in-Down-clause-travels : goal.returns-in-Down-clause-travels
returns-in-Down-clause-travels c =
    rw c.in-Down.is (carried_travels c.args.most c.args.self.now.far c.args.self.now.near c.carry_to-in-Down.new.self
    c.carry_to-in-Down.new.to c.carry_to-in-Down.result c.carry_to-in-Down.ensures)
