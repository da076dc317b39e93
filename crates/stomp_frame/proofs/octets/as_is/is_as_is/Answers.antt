use Rattle.std.proofs.Common.{◌∙◌, ap, arith}
use Rattle.stomp_frame.specs.Inner.Writing.{is_as_is}
use Rattle.stomp_frame.proofs.AsIs.{ends_tell}
use Rattle.stomp_frame.proofs.octets.as_is.is_as_is.Goals as goal

pub returns-then-text-ge8 : goal.returns-then-text-ge8
returns-then-text-ge8 c = c.are_as_is.ensures ∙ ap is_as_is c.ends_of_8.ensures
    ∙ ends_tell c.args.text.now 8 (omega (arith, c.if-text-ge16.false))

pub returns-then-text-ge4 : goal.returns-then-text-ge4
returns-then-text-ge4 c = c.are_as_is-then-text-ge4.ensures ∙ ap is_as_is c.ends_of_4.ensures
    ∙ ends_tell c.args.text.now 4 (omega (arith, c.if-text-ge8.false))
