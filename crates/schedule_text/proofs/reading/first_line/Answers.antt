use Rattle.std.proofs.Common.{sym}
use Rattle.schedule_text.proofs.Cuts.{line_cut, line_last}
use Rattle.schedule_text.proofs.reading.first_line.Goals as goal

pub returns-in-Some-clause-line : goal.returns-in-Some-clause-line
returns-in-Some-clause-line c = line_cut c.args.text.now c.in-Some.at (sym c.in-Some.ensures)

pub returns-in-None-clause-line : goal.returns-in-None-clause-line
returns-in-None-clause-line c = line_last c.args.text.now c.requires (sym c.in-None.ensures)
