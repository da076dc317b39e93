use Rattle.std.proofs.Common.{◌∙◌, sym, ap}
use Rattle.text.specs.Numerals.{are_digits}
use Rattle.text.proofs.Digits.{parsed}
use Rattle.text.proofs.numerals.read_digits.Goals as goal

pub returns-then-are_digits : goal.returns-then-are_digits
returns-then-are_digits c =
    c.ok.ensures.value
    ∙ parsed c.args.text.now c.parse.result c.parse.ensures.value.0
    (sym (c.are_digits.ensures ∙ ap are_digits c.as_bytes.ensures.value) ∙ c.if-are_digits.true)
