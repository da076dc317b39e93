-- Rows that are added one by one.
use Rattle.std.specs.Prelude.{◌≡◌, List, ◌++◌, map, drop}
use Rattle.sqlite_value.specs.Order.{Row}
use Rattle.sql_rows.specs.Tables.{Cells}

-- rows of these cells stand behind the others
pub record AreAdded (all : List Cells) (rows after : List Row) : Type 0 where
  pub added : List Row
  pub behind : after ≡ rows ++ added
  pub cells : map (drop 1) added ≡ all
