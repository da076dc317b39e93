-- Examples: lines that may follow others, and lines that may not.
use Rattle.std.proofs.Common.{List, [], ◌∷◌, refl, ap, arith, Some, None}
use Rattle.std.specs.List.Sorted.{IsStrictlySortedBy}
use Rattle.std.specs.Prelude.{codes}
use Rattle.base.specs.Entity.{Entity, order_of}
use Rattle.base.specs.Order.{same_entity}
use Rattle.trade.specs.declared.line_phase.LinePhase.{LinePhase}
use Rattle.trade.specs.declared.line_phase.LinePhase.TheVariants.{Held, Done}
use Rattle.trade.specs.Following.{LinesFollow}
use Rattle.trade.specs.Lines.{Line, is_before, total}
use Rattle.trade.specs.Sound.{AreLinesSound}

abbrev o1 : Entity
o1 = order_of (codes "o1")

abbrev o2 : Entity
o2 = order_of (codes "o2")

-- lines of `o1` for 3 and of `o2` for 6
abbrev lines : LinePhase → LinePhase → List Line
lines first second = record { order = o1; n = 3; phase = first } ∷ record { order = o2; n = 6; phase = second } ∷ []

abbrev later_line : List Line
later_line = record { order = o2; n = 6; phase = Held } ∷ []

lines_sound : (first second : LinePhase) → AreLinesSound (lines first second)
unfolding same_entity IsStrictlySortedBy
lines_sound first second =
    record { of_orders = (refl, (refl, tt)); one_each = (refl, (refl, tt)); in_order = ((refl, tt), (tt, tt)) }

-- a sender's line may come, change, or stay as it was; at a seat's command all lines stay
these_follow : LinesFollow (Some o1) later_line (lines Held Held)
    × LinesFollow (Some o1) (lines Held Held) (lines Done Held)
    × LinesFollow (Some o1) (lines Held Held) (lines Held Held) × LinesFollow (Some o1) later_line later_line
    × LinesFollow None (lines Held Held) (lines Held Held)
unfolding same_entity is_before
these_follow = (λ _. refl, λ _. refl, λ _. refl, λ _. refl, refl)

-- no other's line changes, no line goes, and no seat changes one
these_do_not_follow : (LinesFollow (Some o1) (lines Held Held) (lines Held Done) → ⊥)
    × (LinesFollow (Some o1) (lines Held Held) later_line → ⊥)
    × (LinesFollow None (lines Held Held) (lines Done Held) → ⊥)
unfolding same_entity is_before
these_do_not_follow = (
  λ h. omega (arith, ap (total Done) (h (lines_sound Held Held))),
  λ h. omega (arith, ap (total Held) (h (lines_sound Held Held))),
  λ h. omega (arith, ap (total Done) h),
)
