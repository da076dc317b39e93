use Rattle.std.proofs.Common.{sym, ap, ◌∙◌}
use Rattle.std.specs.Prelude.{string_bytes}
use Rattle.sqlite.specs.declared.types.Value.TheVariants.{Text}
use Rattle.envelope.specs.Reading.{read_entity}
use Rattle.envelope.proofs.Texts.{read_entity-is}
use Rattle.keep_sqlite.proofs.listing.entity_at.Goals as goal

pub returns-in-Some : goal.returns-in-Some
returns-in-Some c =
    let read = read_entity-is (string_bytes c.in_ok-text.text) c.in-Some.entity
    (sym (sym c.in-Some.is ∙ c.in_ok-entity.ensures ∙ ap read_entity c.as_str.ensures.value)) in
    c.in_ok-text.ensures.ok.1 ∙ ap Text (sym read.written)
