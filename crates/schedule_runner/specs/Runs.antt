-- What a run appends.
use Rattle.std.specs.Prelude.{◌≡◌, List, ◌++◌, length, take, Result, OnOk}
use Rattle.schedule_text.specs.declared.event.Event.{Event}
use Rattle.schedule_text.specs.declared.outcome.Outcome.{Outcome}

-- One outcome was appended for each step that was made: the steps of the first events, and of all where the answer is
-- Ok. `Made` holds of these events and outcomes.
pub record Ran {E : Type 0} (Made : List Event → List Outcome → Type 0) (events : List Event) (old new : List Outcome)
    (result : Result Unit E) : Type 0 where
  pub outcomes : List Outcome
  pub appended : new ≡ old ++ outcomes
  pub made : Made (take (length outcomes) events) outcomes
  pub all : OnOk result (length outcomes ≡ length events)
