use Rattle.std.proofs.Common.{sym, ap, ◌∙◌}
use Rattle.std.specs.Prelude.{string_bytes}
use Rattle.sqlite_value.specs.Order.{column}
use Rattle.envelope.specs.Reading.{read_entity}
use Rattle.keep_sqlite.proofs.Journals.{entry_is}
use Rattle.keep_sqlite.proofs.journal.row_at.Goals as goal

pub returns : goal.returns
returns g c =
    let row = c.args.row.now in
    entry_is g.H.Filed.filing g.H.Command.CommandBody.read g.met.H.Filed.commands (column row 1) (column row 2)
    (column row 3) (column row 4) (column row 5) (string_bytes c.in_ok-text.text) c.in-Some.entity c.in_ok-input.input
    c.in_ok-text.ensures.ok.1 (sym c.in-Some.is ∙ c.in_ok-entity.ensures ∙ ap read_entity c.as_str.ensures.value)
    c.in_ok-input.ensures
