-- The lines of stocks and accounts, by the columns of their rows.
use Rattle.std.specs.Prelude.{◌≡◌, ℕ, true, List, Option, Some, None, if◌then◌else◌}
use Rattle.std.specs.Option.{is_some, option_map, option_and_then}
use Rattle.base.specs.Entity.{order_of, is_key}
use Rattle.base.specs.Number.{IsNumber}
use Rattle.envelope.specs.Reading.{as_number}
use Rattle.trade.specs.Lines.{Line, line_of, with_line}
use Rattle.trade.specs.Words.{stock_line_word, account_line_word}
use Rattle.trade.specs.declared.line_phase.LinePhase.{LinePhase}
use Rattle.sql_bodies.specs.Reading.{as_key}
use Rattle.sql_bodies.specs.Words.{stock_phase_in, account_phase_in}

-- the line of the order with this key, in this phase
abbrev pub line_from : Option LinePhase → List ℕ → ℕ → Option Line
line_from phase key number =
    option_and_then (λ k. option_and_then (λ n. option_map
    (λ p. record { order = order_of k; n = n; phase = p }) phase)
    (as_number number))
    (as_key key)

-- what is read of what is written of a line: the key of its order, its number, and the word of its phase
abbrev pub stock_line_row : Line → Option Line
stock_line_row l = line_from (stock_phase_in (stock_line_word l.phase)) l.order.key l.n

abbrev pub account_line_row : Line → Option Line
account_line_row l = line_from (account_phase_in (account_line_word l.phase)) l.order.key l.n

-- what holds of what is written: the key is a key, and the number is from 1 to 2^40
abbrev pub IsRow : Line → Type 0
IsRow l = (is_key l.order.key ≡ true) × IsNumber l.n

-- the lines with one more, in its place, where its order has none
abbrev pub lines_with : Option Line → List Line → Option (List Line)
lines_with None ls = None
lines_with (Some l) ls = if is_some (line_of l.order ls) then None else Some (with_line l ls)
