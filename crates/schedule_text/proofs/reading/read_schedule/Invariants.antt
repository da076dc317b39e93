use Rattle.std.proofs.Common.{◌+◌, ◌≤◌, length}
use Rattle.schedule_text.proofs.Faulty.{AreRead}
use Rattle.schedule_text.specs.Events.{event_of}
use Rattle.schedule_text.proofs.reading.read_schedule.Given as goal

-- what is read so far
abbrev pub invariant-loop-rest : goal.invariant-loop-rest
invariant-loop-rest l = record {
  read : AreRead event_of l.text l.rest l.number l.events.items;
  counted : l.number + length l.rest ≤ length l.text;
}

abbrev pub decreases-loop-rest : goal.decreases-loop-rest
decreases-loop-rest l = length l.rest
