use Rattle.std.proofs.Common.{◌≡◌, length}
use Rattle.std.specs.Option.{option_map}
use Rattle.schedule_text.specs.Commands.{asked_first, pairs_of}
use Rattle.schedule_text.proofs.commands.read_placing.Given as goal

-- the items so far, and what the rest asks for
abbrev pub invariant-loop-rest : goal.invariant-loop-rest
invariant-loop-rest l = option_map (asked_first l.items.items) (pairs_of l.rest) ≡ pairs_of l.words

abbrev pub decreases-loop-rest : goal.decreases-loop-rest
decreases-loop-rest l = length l.rest
