use Rattle.std.proofs.Common.{◌≡◌, ◌++◌, take}
use Rattle.std.specs.List.{flat_map}
use Rattle.schedule_text.specs.Words.{spelled}
use Rattle.schedule_shows.proofs.words.push_escaped.Given as goal

abbrev pub invariant-loop-octet : goal.invariant-loop-octet
invariant-loop-octet l = l.line.items ≡ l.fn.line.items ++ flat_map spelled (take l.octet-index l.octet-items)
