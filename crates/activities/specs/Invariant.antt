-- What every state of an entity has.
use Rattle.std.specs.Prelude.{IfOk}
use Rattle.activities.specs.declared.input.Input.{Input}
use Rattle.activities.specs.Reaction.{Reactions, react}

-- it holds of the opening state, and no reaction ends it
pub record IsInvariant {S C : Type 0} (t : Reactions S C) (P : S → Type 0) : Type 0 where
  pub opening : P t.opening
  pub kept : (s : S) (input : Input C) → P s → IfOk (react t s input) (λ done. P done.0)
