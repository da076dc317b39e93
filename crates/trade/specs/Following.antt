-- What an input may change of the lines of a stock or an account: those of its sender.
use Rattle.std.specs.Prelude.{◌≡◌, not, List, Option, Some, None, filter}
use Rattle.base.specs.Entity.{Entity}
use Rattle.base.specs.Order.{same_entity}
use Rattle.trade.specs.Lines.{Line, line_of, with_line}
use Rattle.trade.specs.Sound.{AreLinesSound}

-- the lines without that of an order
abbrev pub without : Entity → List Line → List Line
without order ls = filter (λ l. not (same_entity order l.order)) ls

-- the lines with this one, if it is one, in place of its order's
abbrev pub put_line : Option Line → List Line → List Line
put_line None ls = ls
put_line (Some l) ls = with_line l (without l.order ls)

-- the new lines are the old ones but for the sender's; a seat has none
abbrev pub LinesFollow : Option Entity → List Line → List Line → Type 0
LinesFollow None old new = new ≡ old
LinesFollow (Some sender) old new = AreLinesSound old → new ≡ put_line (line_of sender new) old
