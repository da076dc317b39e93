use Rattle.schedule_text.proofs.Again.{ended_again, unended_again, each_is_written}
use Rattle.schedule_text.proofs.laws.written_lines_are_read_again.Goals as goal

pub returns-clause-ended : goal.returns-clause-ended
returns-clause-ended c = ended_again

pub returns-clause-unended : goal.returns-clause-unended
returns-clause-unended c = unended_again

pub returns-clause-each : goal.returns-clause-each
returns-clause-each c = each_is_written
