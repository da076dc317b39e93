use Rattle.schedule_runner.proofs.Stepping.{passes_pump}
use Rattle.schedule_runner.proofs.world.World.single_step.Goals as goal

pub returns-in-Order : goal.returns-in-Order
returns-in-Order g c = rw c.in-Order.is c.order.ensures

pub returns-in-Stock : goal.returns-in-Stock
returns-in-Stock g c = rw c.in-Stock.is c.stock.ensures

pub returns-in-Account : goal.returns-in-Account
returns-in-Account g c = rw c.in-Account.is c.account.ensures

pub returns-in-Open : goal.returns-in-Open
returns-in-Open g c = rw c.in-Open.is c.at.ensures

pub returns-in-Cut : goal.returns-in-Cut
returns-in-Cut g c = rw c.in-Cut.is c.at-in-Cut.ensures

pub returns-in-Fill : goal.returns-in-Fill
returns-in-Fill g c = rw c.in-Fill.is c.at-in-Fill.ensures

pub returns-in-Resend : goal.returns-in-Resend
returns-in-Resend g c = rw c.in-Resend.is c.at-in-Resend.ensures

pub returns-in-Carry : goal.returns-in-Carry
returns-in-Carry g c = rw c.in-Carry.is c.at-in-Carry.ensures

pub returns-in-Take : goal.returns-in-Take
returns-in-Take g c = rw c.in-Take.is c.at-in-Take.ensures

pub returns-in-Drain : goal.returns-in-Drain
returns-in-Drain g c = rw c.in-Drain.is c.at-in-Drain.ensures

pub returns-in-Fail : goal.returns-in-Fail
returns-in-Fail g c = rw c.in-Fail.is c.at-in-Fail.ensures

pub returns-in-Reopen : goal.returns-in-Reopen
returns-in-Reopen g c = rw c.in-Reopen.is c.at-in-Reopen.ensures

pub returns-in-Stop : goal.returns-in-Stop
returns-in-Stop g c = rw c.in-Stop.is c.at-in-Stop.ensures

pub returns-in-Repeat : goal.returns-in-Repeat
returns-in-Repeat g c = rw c.in-Repeat.is c.repeat.ensures

pub returns-in-StopBroker : goal.returns-in-StopBroker
returns-in-StopBroker g c = rw c.in-StopBroker.is c.stop_broker.ensures

pub returns-in-Pump : goal.returns-in-Pump
returns-in-Pump g c =
    rw c.in-Pump.is (passes_pump g.KO.Keep.seen g.KS.Keep.seen g.KA.Keep.seen c.in-Pump.rounds c.args.self.now
    c.pump.new.self c.pump.ensures)

pub returns-in-Show : goal.returns-in-Show
returns-in-Show g c = rw c.in-Show.is c.show.ensures

pub returns-in-Pair : goal.returns-in-Pair
returns-in-Pair g c = rw c.in-Pair.is c.pair.ensures

pub returns-in-Frames : goal.returns-in-Frames
returns-in-Frames g c = rw c.in-Frames.is c.frames.ensures

pub returns-in-Journal : goal.returns-in-Journal
returns-in-Journal g c = rw c.in-Journal.is c.journal.ensures

pub returns-in-Agreement : goal.returns-in-Agreement
returns-in-Agreement g c = rw c.in-Agreement.is c.tell_agreement.ensures
