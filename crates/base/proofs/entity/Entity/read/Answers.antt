use Rattle.std.proofs.Common.{rules, sym, ◌∙◌}
use Rattle.base.proofs.entity.Entity.read.Goals as goal

-- the key that was refused is the text's own
pub returns-then-not-is_key : goal.returns-then-not-is_key
returns-then-not-is_key c = (
  record { kind = c.in-Some-of_word.kind; key = c.in-Some.key.now },
  search rules,
  sym c.is_key.ensures ∙ c.if-not-is_key.true,
)
