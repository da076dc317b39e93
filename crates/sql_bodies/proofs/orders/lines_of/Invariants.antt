use Rattle.std.proofs.Common.{◌≡◌, ◌++◌, drop}
use Rattle.std.specs.Option.{option_map}
use Rattle.serde_json.specs.View.{items_view}
use Rattle.sql_bodies.specs.Reading.{lines_in}
use Rattle.sql_bodies.proofs.orders.lines_of.Given as goal

-- what is read is what was read so far, and then what is read of the rest
abbrev pub invariant-loop-value : goal.invariant-loop-value
invariant-loop-value l = lines_in (items_view l.values)
    ≡ option_map (λ rest. l.lines.items ++ rest) (lines_in (items_view (drop l.value-index l.values)))
