-- Examples: how outcomes are told.
use Rattle.std.proofs.Common.{◌≡◌, ℕ, List, true, false, refl}
use Rattle.std.specs.Prelude.{codes}
use Rattle.std.specs.Fmt.{digits}
use Rattle.std.specs.Global.{Vec}
use Rattle.base.specs.Entity.{order_of, stock_of}
use Rattle.activities.specs.declared.handler.Refusal.TheVariants.{NotOpen}
use Rattle.schedule_text.specs.declared.outcome.Outcome.{Outcome}
use Rattle.schedule_text.specs.declared.outcome.Outcome.TheVariants.{Committed, Already, Drained, Absent, Refused}
use Rattle.schedule_text.specs.declared.outcome.Outcome.TheVariants.{NotDone, Pumped, Shown}
use Rattle.schedule_text.specs.declared.outcome.Outcome.TheVariants.{Agreement}
use Rattle.schedule_text.specs.Outcomes.{outcome_lines}

-- the lines of an outcome
abbrev IsPrinted : Outcome → List ℕ → Type 0
IsPrinted outcome text = outcome_lines outcome ≡ text

-- a word, or words and numbers, in a line
outcomes_are_lines : IsPrinted (Committed 1) (codes "committed 1\n") × IsPrinted Already (codes "already\n")
    × IsPrinted Absent (codes "none\n")
    × IsPrinted (Refused 63) (codes "refused 63\n") × IsPrinted (NotDone NotOpen) (codes "refused 61 71\n")
    × IsPrinted Pumped (codes "pumped\n")
    × IsPrinted (Agreement true) (codes "agreement true\n") × IsPrinted (Agreement false) (codes "agreement false\n")
unfolding digits
outcomes_are_lines = (refl, refl, refl, refl, refl, refl, refl, refl)

-- what was drained is named by its pair and number, with the escapes of words
drains_name_their_pair : IsPrinted (Drained (record { from = order_of (codes "a b"); to = stock_of (codes "bolts") }) 2)
    (codes "drained order/a\\sb stock/bolts 2\n")
unfolding digits
drains_name_their_pair = refl

-- what is shown is told as it is
shown_lines_are_told : (lines : Vec ℕ) → IsPrinted (Shown lines) lines.items
shown_lines_are_told lines = refl
