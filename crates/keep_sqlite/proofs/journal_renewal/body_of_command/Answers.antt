use Rattle.std.proofs.Common.{sym, ap, ◌∙◌}
use Rattle.std.specs.Prelude.{string_bytes}
use Rattle.sql_bodies.specs.FirstVersion.{read_first_order_command}
use Rattle.keep_sqlite.proofs.JournalRenewal.{command_renewed}
use Rattle.keep_sqlite.proofs.journal_renewal.body_of_command.Goals as goal

pub returns : goal.returns
returns c = command_renewed c.args.row.now c.requires.seat.0 (string_bytes c.in_ok-text.text)
    (string_bytes c.in_ok-body.body) c.in-Some.command c.requires.seat.1 c.in_ok-text.ensures.ok.1
    (sym (sym c.in-Some.is ∙ c.in_ok-command.ensures ∙ ap read_first_order_command c.as_str.ensures.value))
    c.in_ok-body.ensures.reads
