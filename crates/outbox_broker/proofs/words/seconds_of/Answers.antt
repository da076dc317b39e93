use Rattle.std.proofs.Common.{◌∙◌, ap, sym}
use Rattle.std.specs.Prelude.{option_and_then}
use Rattle.outbox_broker.specs.Asked.{unless_zero}
use Rattle.outbox_broker.proofs.words.seconds_of.Goals as goal

pub returns-in-Some : goal.returns-in-Some
returns-in-Some c = c.unless_zero.ensures ∙ ap unless_zero c.from.ensures
    ∙ ap (option_and_then unless_zero) (sym c.in-Some.is ∙ c.number_of.ensures)

pub returns-in-None : goal.returns-in-None
returns-in-None c = ap (option_and_then unless_zero) (sym c.in-None.is ∙ c.number_of.ensures)
