use Rattle.std.proofs.Common.{◌≡◌, Less, Equal, Greater, sym, ◌∙◌}
use Rattle.relay.proofs.pages.is_upto.Goals as goal

pub returns-in-Less : goal.returns-in-Less
returns-in-Less c = λ e g. let z : Less ≡ Greater = sym (sym c.cmp.ensures ∙ c.in-Less.is) ∙ g in absurd cc

pub returns-in-Equal : goal.returns-in-Equal
returns-in-Equal c = λ e g. let z : Equal ≡ Greater = sym (sym c.cmp.ensures ∙ c.in-Equal.is) ∙ g in absurd cc
