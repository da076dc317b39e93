-- Examples: which lines have no answer of their own.
use Rattle.std.proofs.Common.{◌≡◌, [], true, false, refl}
use Rattle.std.specs.Prelude.{codes}
use Rattle.test_script.specs.Lines.{is_quiet}

-- an empty line and a comment are printed as they are; a space before a comment makes it a line that is asked
lines_are_quiet : (is_quiet [] ≡ true) × (is_quiet (codes "# a") ≡ true) × (is_quiet (codes " # a") ≡ false)
    × (is_quiet (codes "a #") ≡ false)
lines_are_quiet = (refl, refl, refl, refl)
