-- Examples: the numbers of letters and of refusals.
use Rattle.std.proofs.Common.{◌≡◌, [], ◌∷◌, refl}
use Rattle.std.specs.Prelude.{Some, None}
use Rattle.envelope.specs.declared.message.Message.TheVariants.{Request, Confirm}
use Rattle.activities.specs.declared.handler.Refusal.TheVariants.{AlreadyPlaced, NotOpen, OutOfRange, BelowUse}
use Rattle.activities.specs.declared.handler.Refusal.TheVariants.{BadLines, Own}
use Rattle.activities.specs.Faults.{refusal_number}
use Rattle.activities.specs.OwnRefusals.{own}
use Rattle.activities.specs.Numbered.{numbered, nth}

-- letters are numbered from 1, and none has the number 0
letters_are_numbered : (numbered 0 (Request 3 ∷ Confirm ∷ []) ≡ (1, Request 3) ∷ (2, Confirm) ∷ [])
    × (nth (Request 3 ∷ Confirm ∷ []) 0 ≡ None) × (nth (Request 3 ∷ Confirm ∷ []) 1 ≡ Some (Request 3))
    × (nth (Request 3 ∷ Confirm ∷ []) 3 ≡ None)
letters_are_numbered = (refl, refl, refl, refl)

-- refusals are numbered
refusals_are_numbered : (refusal_number AlreadyPlaced ≡ 70) × (refusal_number NotOpen ≡ 71)
    × (refusal_number OutOfRange ≡ 72)
    × (refusal_number BelowUse ≡ 73) × (refusal_number BadLines ≡ 74) × (refusal_number (Own (own 75)) ≡ 75)
refusals_are_numbered = (refl, refl, refl, refl, refl, refl)
