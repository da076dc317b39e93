-- The lines of a stock or an account: what it does for each order that asked it, one line an order, in order of the
-- orders' keys.
use Rattle.std.specs.Prelude.{ℕ, Bool, true, false, List, [], ◌∷◌, Option, Some, None, if◌then◌else◌, sum_by}
use Rattle.std.specs.Ordering.{is_lt, nat_cmp}
use Rattle.std.specs.Cmp.Lexicographic.{slice_cmp}
use Rattle.base.specs.Entity.{Entity}
use Rattle.base.specs.Order.{same_entity}
use Rattle.base.specs.declared.entity.Kind.{Kind}
use Rattle.base.specs.declared.entity.Kind.TheVariants.{Order}
use Rattle.trade.specs.declared.line_phase.LinePhase.{LinePhase}
use Rattle.trade.specs.declared.line_phase.LinePhase.TheVariants.{Held, Refused, Done, Released}

-- a line: for which order, for how much, and how far it is
pub record Line : Type 0 where
  pub order : Entity
  pub n : ℕ
  pub phase : LinePhase

-- whether a kind is that of orders
abbrev pub is_order : Kind → Bool
is_order Order = true
is_order _ = false

-- whether two phases are one
abbrev pub same_phase : LinePhase → LinePhase → Bool
same_phase Held Held = true
same_phase Refused Refused = true
same_phase Done Done = true
same_phase Released Released = true
same_phase _ _ = false

-- the line of an order
abbrev pub line_of : Entity → List Line → Option Line
line_of order [] = None
line_of order (l ∷ ls) = if same_entity order l.order then Some l else line_of order ls

-- whether the first one's key comes first
unfoldable pub is_before : Entity → Entity → Bool
is_before a b = is_lt (slice_cmp nat_cmp a.key b.key)

-- the lines with one more, in its place
abbrev pub with_line : Line → List Line → List Line
with_line l [] = l ∷ []
with_line l (k ∷ ks) = if is_before l.order k.order then l ∷ k ∷ ks else k ∷ with_line l ks

-- the lines, with this phase for the line of this order
abbrev pub with_line_phase : Entity → LinePhase → List Line → List Line
with_line_phase order phase [] = []
with_line_phase order phase (l ∷ ls) = if same_entity order l.order then record l { phase = phase } ∷ ls else l
    ∷ with_line_phase order phase ls

-- what a line adds to the total of a phase
abbrev pub share_of : LinePhase → Line → ℕ
share_of phase l = if same_phase phase l.phase then l.n else 0

-- the total over the lines in a phase
abbrev pub total : LinePhase → List Line → ℕ
total phase ls = sum_by (share_of phase) ls
