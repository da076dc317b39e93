-- Events that are made one after another.
use Rattle.std.specs.Prelude.{◌≡◌, List, [], ◌∷◌}
use Rattle.schedule_text.specs.declared.event.Event.{Event}
use Rattle.schedule_text.specs.declared.event.Event.TheVariants.{Pump}
use Rattle.schedule_text.specs.declared.outcome.Outcome.{Outcome}
use Rattle.schedule_text.specs.declared.outcome.Outcome.TheVariants.{Pumped}
use Rattle.schedule_runner.specs.Rounds.{all_rounds}

module _ {Z : Type 0} (Step : Event → Outcome → Z → Z → Type 0) where
  -- one step for each event, with its outcome, leads from the first to the last
  abbrev pub IsPath : List Event → List Outcome → Z → Z → Type 0
  IsPath [] [] a b = b ≡ a
  IsPath (event ∷ events) (outcome ∷ outcomes) a b =
      (next : Z) × Step event outcome a next × IsPath events outcomes next b
  IsPath [] (_ ∷ _) a b = ⊥
  IsPath (_ ∷ _) [] a b = ⊥

  -- so do these events, whatever their outcomes were
  abbrev pub Leads : List Event → Z → Z → Type 0
  Leads events a b = (outcomes : List Outcome) × IsPath events outcomes a b

  -- a pump makes all events of its rounds; any other event is one step
  abbrev pub Makes : Event → Outcome → Z → Z → Type 0
  Makes (Pump rounds) outcome a b = (outcome ≡ Pumped) × Leads (all_rounds rounds) a b
  Makes event outcome a b = Step event outcome a b

  -- the same, where an event that is no pump is told otherwise
  abbrev pub MakesApart : (Event → Outcome → Z → Z → Type 0) → Event → Outcome → Z → Z → Type 0
  MakesApart Alone (Pump rounds) outcome a b = (outcome ≡ Pumped) × Leads (all_rounds rounds) a b
  MakesApart Alone event outcome a b = Alone event outcome a b
