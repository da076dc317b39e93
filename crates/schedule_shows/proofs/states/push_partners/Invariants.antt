use Rattle.std.proofs.Common.{◌≡◌, ◌++◌, take}
use Rattle.std.specs.List.{flat_map}
use Rattle.schedule_shows.specs.Printed.{shown_partner}
use Rattle.schedule_shows.proofs.states.push_partners.Given as goal

abbrev pub invariant-loop-at : goal.invariant-loop-at
invariant-loop-at l = l.line.items ≡ l.fn.line.items ++ flat_map shown_partner (take l.at l.order.partners)
