use Rattle.std.proofs.Common.{◌≡◌, ◌++◌, take}
use Rattle.std.specs.List.{flat_map}
use Rattle.service_program.specs.Rows.{on_one_line}
use Rattle.service_program.proofs.rows.push_words.Given as goal

abbrev pub invariant-loop-octet : goal.invariant-loop-octet
invariant-loop-octet l = l.line.items ≡ l.fn.line.items ++ flat_map on_one_line (take l.octet-index l.octet-items)
