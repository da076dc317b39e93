use Rattle.std.proofs.Common.{◌≡◌, ◌<◌, ◌++◌, [], length, ◌+◌}
use Rattle.std.specs.List.{All, flat_map}
use Rattle.marks.specs.Seats.{IsSeatOf, raised_by, read_by, seats_of}
use Rattle.marks.proofs.marks.Marks.gather.Given as goal

-- what was taken in stands behind what is left
abbrev pub invariant-loop-other : goal.invariant-loop-other
invariant-loop-other l =
    (l.all.table_id ≡ l.self.table.shared.table_id) × (l.all.me.1 ≡ []) × (0 < l.all.me.0.parts)
    × (l.all.me.0.parts + length l.seats.items ≡ seats_of l.self) × All (IsSeatOf l.self) l.seats.items
    × (flat_map raised_by l.seats.items ++ l.all.me.0.raised ≡ flat_map raised_by l.fn.seats.items)
    × (flat_map read_by l.seats.items ++ l.all.me.0.read ≡ flat_map read_by l.fn.seats.items)

abbrev pub decreases-loop-other : goal.decreases-loop-other
decreases-loop-other l = length l.seats.items
