use Rattle.std.proofs.Common.{◌≡◌, ◌++◌, take}
use Rattle.std.specs.List.{flat_map}
use Rattle.schedule_shows.specs.Printed.{shown_item}
use Rattle.schedule_shows.proofs.journals.push_items.Given as goal

abbrev pub invariant-loop-item : goal.invariant-loop-item
invariant-loop-item l = l.line.items ≡ l.fn.line.items ++ flat_map shown_item (take l.item-index l.items)
