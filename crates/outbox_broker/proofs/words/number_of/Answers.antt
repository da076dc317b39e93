use Rattle.std.specs.Str.Parse.{ExplainsUnsignedError, HasUnsignedDigitsIfOk, ParsesUnsigned}
use Rattle.clap.specs.Words.{found_of}
use Rattle.command_line.proofs.Matches.{number_is}
use Rattle.outbox_broker.proofs.words.number_of.Goals as goal

pub returns : goal.returns
returns c =
    number_is (λ text r. ParsesUnsigned 16 10 text r × ExplainsUnsignedError 10 text r × HasUnsignedDigitsIfOk text r) 16
    (found_of c.args.matches.now) c.args.name.now c.get_one.result (λ text r h. h.0) c.get_one.ensures.none
    c.get_one.ensures.value
