-- What the opening state has and each reaction keeps, every state has.
use Rattle.std.proofs.Common.{List, Result, Ok, Err}
use Rattle.std.specs.Prelude.{IfOk}
use Rattle.activities.specs.declared.handler.Refusal.{Refusal}
use Rattle.activities.specs.declared.input.Input.{Input}
use Rattle.activities.specs.declared.outs.Out.{Out}
use Rattle.activities.specs.Invariant.{IsInvariant}
use Rattle.activities.specs.Reaction.{Reactions, react, after_answer, state}
use Rattle.activities.proofs.Reactions.{holds_along}

kept_by : {S : Type 0} (P : S → Type 0) (at : S × List Out) (answer : Result (S × List Out) Refusal) → P at.0
    → IfOk answer (λ done. P done.0) → P (after_answer at answer).0
kept_by P at (Ok done) h k = k
kept_by P at (Err refusal) h k = h

pub invariant-always : {S C : Type 0} (t : Reactions S C) (P : S → Type 0) → IsInvariant t P → (inputs : List (Input C))
    → P (state t inputs)
invariant-always t P h inputs =
    holds_along t (λ _ at. P at.0) h.opening (λ _ x at was. kept_by P at (react t at.0 x) was (h.kept at.0 x was))
    inputs
