-- What the rows of stocks and of accounts have alike: a head with numbers each, and a line for each order.
use Rattle.std.specs.Prelude.{◌≡◌, ℕ, pos, Bool, if◌then◌else◌, List, [], ◌∷◌, filter, find, Option}
use Rattle.std.specs.Prelude.{Some, None, option_map, option_and_then, true, false, refl}
use Rattle.std.proofs.Common.{ap, cond, ◌∙◌}
use Rattle.sqlite.specs.declared.types.Value.{Value}
use Rattle.sqlite.specs.declared.types.Value.TheVariants.{Int, Text}
use Rattle.sqlite_value.specs.Order.{Row, column, bytes}
use Rattle.base.specs.Entity.{Entity}
use Rattle.base.specs.declared.entity.Kind.{Kind}
use Rattle.trade.specs.Lines.{Line, line_of}
use Rattle.trade.specs.declared.line_phase.LinePhase.{LinePhase}
use Rattle.sql_bodies.specs.LineRows.{line_from, lines_with}
use Rattle.sql_bodies.specs.Steps.{steps}
use Rattle.sql_rows.specs.Tables.{Cells, has_key, text_key}
use Rattle.keep_sqlite.specs.Tables.{number_in}

-- ---- what rows tell

-- the line of these values: the key of its order, its number, and the word of its phase
abbrev pub told_line : (List ℕ → Option LinePhase) → Value → Value → Value → Option Line
told_line phase_in order n word = line_from (phase_in (bytes word)) (bytes order) (number_in n)

-- as it stands in its table, behind its rowid and its holder's key; and as a read shows it
abbrev pub line_in : (List ℕ → Option LinePhase) → Row → Option Line
line_in phase_in r = told_line phase_in (column r 2) (column r 3) (column r 4)

abbrev pub shown_line : (List ℕ → Option LinePhase) → Row → Option Line
shown_line phase_in r = told_line phase_in (column r 0) (column r 1) (column r 2)

-- the lines that rows tell, in whatever order these stand; `None` where one of them tells none, or two are of one order
abbrev pub lines_in : {R : Type 0} → (R → Option Line) → List R → Option (List Line)
lines_in line rows = steps (λ r. lines_with (line r)) rows []

-- the state of a head and its lines
abbrev pub state_in : {S : Type 0} → (Row → List Line → S) → (Row → Option Line) → Option Row → List Row → Option S
state_in state line None rows = None
state_in state line (Some head) rows = option_map (state head) (lines_in line rows)

-- which entities hold for orders, what a head and its lines are, and which phase a word tells
pub record Holders (S : Type 0) : Type 0 where
  pub is_one : Kind → Bool
  pub state : Row → List Line → S
  pub phase_in : List ℕ → Option LinePhase

-- the state of an entity, by all heads and all lines
abbrev pub holder_in : {S : Type 0} → Holders S → Entity → List Row → List Row → Option S
holder_in h e heads lines =
    if h.is_one e.kind
    then state_in h.state (line_in h.phase_in) (find (has_key (text_key e.key)) heads)
    (filter (has_key (text_key e.key)) lines)
    else None

-- where there are no heads, there is none; the filings name it
pub no_holder : {S : Type 0} (h : Holders S) (e : Entity) (heads lines : List Row) → heads ≡ []
    → holder_in h e heads lines ≡ None
no_holder {S} h e heads lines none =
    ap (λ rows. holder_in h e rows lines) none
    ∙ elim (h.is_one e.kind) as (λ is. cond {A = Option S} is None None ≡ None) [ true ↦ refl | false ↦ refl ]

-- ---- what is written

-- the line of a sender, where there is one and it has one
abbrev pub sender_line : Option Entity → List Line → Option Line
sender_line sender ls = option_and_then (λ order. line_of order ls) sender

-- the columns of a line behind its rowid, with the word of its phase
abbrev pub line_cells : (LinePhase → List ℕ) → List ℕ → Line → Cells
line_cells word key l = Text key ∷ Text l.order.key ∷ Int (pos l.n) ∷ Text (word l.phase) ∷ []
