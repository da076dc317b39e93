-- What contracts see of marks and of their seats.
use Rattle.std.specs.Prelude.{◌≡◌, ℕ, List, slice_index}
use Rattle.marks.specs.declared.rule.Entry.{Entry}
use Rattle.marks.specs.declared.marks.Marks.{Marks}
use Rattle.marks.specs.declared.marks.MarkSeat.{MarkSeat}
use Rattle.marks.specs.declared.closed.Closed.{Closed}

-- how many places there are
abbrev pub places_of : Marks → ℕ
places_of marks = marks.places

-- how many seats there are
abbrev pub seats_of : Marks → ℕ
seats_of marks = marks.table.shared.key.seats

-- the seat was opened with these marks
abbrev pub IsSeatOf : Marks → MarkSeat → Type 0
IsSeatOf marks s = s.seat.table_id ≡ marks.table.shared.table_id

-- what the seat raised, in order
abbrev pub raised_by : MarkSeat → List Entry
raised_by s = s.seat.me.0.raised

-- what the seat read, in order
abbrev pub read_by : MarkSeat → List Entry
read_by s = s.seat.me.0.read

-- how many places marks had that were closed
abbrev pub marked_places : Closed → ℕ
marked_places closed = closed.places

-- the mark at a place
abbrev pub mark_of : Closed → ℕ → ℕ
mark_of closed place = slice_index closed.marks place
