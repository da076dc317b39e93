use Rattle.std.proofs.Common.{◌∙◌, sym}
use Rattle.sqlite.proofs.Callers.{memory_is_clean}
use Rattle.sql_rows.proofs.first_version.has_first_purchasing.Goals as goal

pub returns : goal.returns
returns g c has =
    sym c.schema.ensures.value ∙ c.same_schema.ensures has ∙ c.schema-2.ensures.value
    ∙ c.in_ok-make_first_tables.ensures.ok (memory_is_clean c.make_first_tables.new.conn)
