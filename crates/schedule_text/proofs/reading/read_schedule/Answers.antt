use Rattle.std.proofs.Common.{◌≡◌, None, arith}
use Rattle.schedule_text.specs.Schedules.{found_on}
use Rattle.schedule_text.proofs.Faulty.{one_read, fault_read}
use Rattle.schedule_text.specs.Events.{event_of}
use Rattle.schedule_text.proofs.reading.read_schedule.Goals as goal

pub loop-rest-preserved : goal.loop-rest-preserved
loop-rest-preserved c = record {
  read = rw c.in_ok-add.ensures (one_read event_of c.args.text.now c.loop-rest.rest.now c.first_line.result.1.now
      c.first_line.result.0.now c.loop-rest.number c.loop-rest.events.items c.in-Ok.found
      c.loop-rest.invariant.read c.first_line.ensures.line c.in-Ok.ensures);
  counted = omega (arith, c.first_line.ensures.shorter);
}

pub returns-in-Err-Bad : goal.returns-in-Err-Bad
returns-in-Err-Bad c =
    let bad : found_on event_of c.first_line.result.0.now ≡ None = rw c.in-Err-Bad.field-0-is at c.in-Err-Bad.ensures in
    fault_read event_of c.args.text.now c.loop-rest.rest.now c.first_line.result.1.now c.first_line.result.0.now
    c.loop-rest.number c.loop-rest.events.items c.loop-rest.invariant.read c.first_line.ensures.line bad
