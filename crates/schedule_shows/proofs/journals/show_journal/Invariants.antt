use Rattle.std.proofs.Common.{◌≡◌, ◌+◌, ◌++◌, drop}
use Rattle.schedule_shows.proofs.Pieces.{lines_from}
use Rattle.schedule_shows.proofs.journals.show_journal.Given as goal

abbrev pub invariant-loop-row : goal.invariant-loop-row
invariant-loop-row g l = record {
  counted : l.pos ≡ l.row-index;
  told : l.lines.items ++ lines_from g.H.Shown.shown_command (l.pos + 1) (drop l.row-index l.rows)
      ≡ lines_from g.H.Shown.shown_command 1 l.rows;
}
