use Rattle.schedule_runner.proofs.acting.act.Goals as goal

pub returns-in-Open-clause-comes : goal.returns-in-Open-clause-comes
returns-in-Open-clause-comes g c = rw c.in-Open.is c.open.ensures.comes

pub returns-in-Cut-clause-comes : goal.returns-in-Cut-clause-comes
returns-in-Cut-clause-comes g c = rw c.in-Cut.is c.cut.ensures.comes

pub returns-in-Fill-clause-comes : goal.returns-in-Fill-clause-comes
returns-in-Fill-clause-comes g c = rw c.in-Fill.is c.fill.ensures.comes

pub returns-in-Resend-clause-comes : goal.returns-in-Resend-clause-comes
returns-in-Resend-clause-comes g c = rw c.in-Resend.is c.resend.ensures.comes

pub returns-in-Carry-clause-comes : goal.returns-in-Carry-clause-comes
returns-in-Carry-clause-comes g c = rw c.in-Carry.is c.carry.ensures.comes

pub returns-in-Take-clause-comes : goal.returns-in-Take-clause-comes
returns-in-Take-clause-comes g c = rw c.in-Take.is c.take.ensures.comes

pub returns-in-Drain-clause-comes : goal.returns-in-Drain-clause-comes
returns-in-Drain-clause-comes g c = rw c.in-Drain.is c.drain.ensures.comes

pub returns-in-Fail-clause-comes : goal.returns-in-Fail-clause-comes
returns-in-Fail-clause-comes g c = rw c.in-Fail.is c.fail.ensures.comes

pub returns-in-Reopen-clause-comes : goal.returns-in-Reopen-clause-comes
returns-in-Reopen-clause-comes g c = rw c.in-Reopen.is c.reopen.ensures.comes

pub returns-in-Stop-clause-comes : goal.returns-in-Stop-clause-comes
returns-in-Stop-clause-comes g c = rw c.in-Stop.is c.stop.ensures.comes

pub returns-in-Fail-clause-did : goal.returns-in-Fail-clause-did
returns-in-Fail-clause-did g c = rw c.in-Fail.is (c.fail.ensures.did c.args.mail.now)
