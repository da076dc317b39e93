use Rattle.std.proofs.Common.{◌∙◌, ap, sym}
use Rattle.std.specs.Prelude.{option_and_then}
use Rattle.std.specs.Str.Parse.{ExplainsUnsignedError, HasUnsignedDigitsIfOk, ParsesUnsigned}
use Rattle.clap.specs.Words.{found_of}
use Rattle.command_line.proofs.Matches.{number_is}
use Rattle.outbox_broker.specs.Asked.{unless_zero}
use Rattle.outbox_broker.proofs.words.octets_of.Goals as goal

pub returns-in-Some : goal.returns-in-Some
returns-in-Some c = c.unless_zero.ensures ∙ ap (option_and_then unless_zero) (sym c.in-Some.is
    ∙ number_is (λ text r. ParsesUnsigned 64 10 text r × ExplainsUnsignedError 10 text r × HasUnsignedDigitsIfOk text r) 64
    (found_of c.args.matches.now) c.args.name.now c.get_one.result (λ text r h. h.0) c.get_one.ensures.none
    c.get_one.ensures.value)

pub returns-in-None : goal.returns-in-None
returns-in-None c = ap (option_and_then unless_zero) (sym c.in-None.is
    ∙ number_is (λ text r. ParsesUnsigned 64 10 text r × ExplainsUnsignedError 10 text r × HasUnsignedDigitsIfOk text r) 64
    (found_of c.args.matches.now) c.args.name.now c.get_one.result (λ text r h. h.0) c.get_one.ensures.none
    c.get_one.ensures.value)
