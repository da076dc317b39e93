-- Rows that are taken in one after the other, each where it can be.
use Rattle.std.specs.Prelude.{◌≡◌, Bool, true, false, List, [], ◌∷◌, Option, Some, None}
use Rattle.std.specs.Option.{option_and_then}

-- what is made of all of them, if each can be taken in
abbrev pub steps : {R S : Type 0} → (R → S → Option S) → List R → S → Option S
steps step [] made = Some made
steps step (r ∷ rs) made = option_and_then (steps step rs) (step r made)

-- what stands there afterwards: what was to be made; or what stood there, where it can't be made
abbrev pub IsMade : {S : Type 0} → Option S → S → S → Bool → Type 0
IsMade (Some made) old new done = (done ≡ true) × (new ≡ made)
IsMade None old new done = (done ≡ false) × (new ≡ old)
