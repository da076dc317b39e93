use Rattle.std.proofs.Common.{[], ◌∷◌, ap, ◌∙◌, refl}
use Rattle.intake.specs.declared.rule.Known.{Known}
use Rattle.intake.specs.Rule.{rest_of, nothing_put}
use Rattle.intake.proofs.Moves.{opens, forks, one_apart}
use Rattle.intake.proofs.intake.Intake.open.Goals as goal

pub bounded_with-requires-clause-rule : goal.bounded_with-requires-clause-rule
bounded_with-requires-clause-rule g c = opens

pub another-zero-requires-clause-rule : goal.another-zero-requires-clause-rule
another-zero-requires-clause-rule g c =
    forks _ _ (nothing_put 0) (nothing_put 1 ∷ []) (ap (λ (k : Known g.row.M.Denot). k.own) c.in_ok-to.ensures.3)
    (one_apart 1 0 refl refl, tt)

pub another-one-requires-clause-rule : goal.another-one-requires-clause-rule
another-one-requires-clause-rule g c =
    forks _ _ (nothing_put 1) []
    (ap (λ (k : Known g.row.M.Denot). k.own) (c.another-zero.ensures.rule.0 ∙ ap rest_of c.in_ok-to.ensures.3)) tt
