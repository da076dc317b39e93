use Rattle.std.proofs.Common.{◌≡◌, take, map}
use Rattle.std.specs.List.{AllByRecursion}
use Rattle.serde_json.specs.View.{view}
use Rattle.sql_bodies.specs.Bodies.{line_data, IsLine}
use Rattle.sql_bodies.proofs.orders.lines_value.Given as goal

abbrev pub invariant-loop-line : goal.invariant-loop-line
invariant-loop-line l = record {
  value : map view l.values.items ≡ map line_data (take l.line-index l.lines);
  lines : AllByRecursion IsLine (take l.line-index l.lines);
}
