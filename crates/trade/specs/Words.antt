-- The words of statuses and of lines' phases, as tables and printed lines have them.
use Rattle.std.specs.Prelude.{ℕ, List, codes}
use Rattle.trade.specs.declared.line_phase.LinePhase.{LinePhase}
use Rattle.trade.specs.declared.line_phase.LinePhase.TheVariants as line
use Rattle.trade.specs.declared.status.Status.{Status}
use Rattle.trade.specs.declared.status.Status.TheVariants as status

-- the word of an order's status
abbrev pub status_word : Status → List ℕ
status_word status.Open = codes "open"
status_word status.Confirmed = codes "confirmed"
status_word status.Cancelled = codes "cancelled"

-- the word of a line's phase at a stock
abbrev pub stock_line_word : LinePhase → List ℕ
stock_line_word line.Held = codes "held"
stock_line_word line.Refused = codes "refused"
stock_line_word line.Done = codes "shipped"
stock_line_word line.Released = codes "released"

-- the word of a line's phase at an account
abbrev pub account_line_word : LinePhase → List ℕ
account_line_word line.Held = codes "held"
account_line_word line.Refused = codes "refused"
account_line_word line.Done = codes "billed"
account_line_word line.Released = codes "released"
