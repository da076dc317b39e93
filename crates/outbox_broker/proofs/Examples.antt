-- What some words ask for, so that the definitions aren't of other values.
use Rattle.std.proofs.Common.{◌≡◌, List, [], ◌∷◌, Some, None, refl}
use Rattle.std.specs.Prelude.{codes, option_and_then}
use Rattle.clap.proofs.OnLiterals.{clap_on_literals}
use Rattle.clap.specs.Simple.{matches_of}
use Rattle.clap.specs.Words.{Row, Text, first_of, one_of}
use Rattle.command_line.specs.Matches.{number_in, number_of}
use Rattle.log.specs.declared.level.LevelFilter.TheVariants as level
use Rattle.outbox_broker.specs.Asked.{unless_zero}
use Rattle.outbox_broker.specs.Plans.{level_of}
use Rattle.outbox_broker.specs.Usage.{command_line}

-- the matches of the program's name, a port and these words
abbrev rows : List Text → List Row
rows words = matches_of command_line (codes "outbox-broker" ∷ codes "--port=80" ∷ words)

numbers_are_read : (number_of 16 (codes "port") (rows []) ≡ Some 80)
    × (number_of 16 (codes "idle") (rows []) ≡ None)
    × (number_of 16 (codes "idle") (rows (codes "--idle" ∷ codes "7" ∷ codes "--figures=9" ∷ [])) ≡ Some 7)
    × (number_of 64 (codes "memory") (rows (codes "--memory" ∷ codes "1048576" ∷ [])) ≡ Some 1_048_576)
    × (option_and_then unless_zero (number_of 64 (codes "memory") (rows (codes "--memory=0" ∷ []))) ≡ None)
unfolding clap_on_literals
numbers_are_read = (refl, refl, refl, refl, refl)

texts_and_flags_are_read : (first_of (codes "listen") (rows []) ≡ Some (codes "127.0.0.1"))
    × (first_of (codes "listen") (rows (codes "--listen" ∷ codes "::1" ∷ [])) ≡ Some (codes "::1"))
    × (first_of (codes "log") (rows []) ≡ Some (codes "error"))
    × (one_of (codes "until-input-ends") (rows []) ≡ Some (codes "false"))
    × (one_of (codes "until-input-ends") (rows (codes "--until-input-ends" ∷ [])) ≡ Some (codes "true"))
unfolding clap_on_literals
texts_and_flags_are_read = (refl, refl, refl, refl, refl)

numbers_have_bits : (number_in 16 (codes "65535") ≡ Some 65_535) × (number_in 16 (codes "65536") ≡ None)
    × (number_in 16 (codes "+007") ≡ Some 7) × (number_in 16 (codes "7s") ≡ None) × (number_in 16 [] ≡ None)
numbers_have_bits = (refl, refl, refl, refl, refl)

levels_are_named : (level_of (codes "info") ≡ Some level.Info) × (level_of (codes "off") ≡ Some level.Off)
    × (level_of (codes "trace") ≡ None)
levels_are_named = (refl, refl, refl)
