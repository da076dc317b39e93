-- Where each row of the journal has the position behind the last.
use Rattle.std.proofs.Common.{ℕ, ◌+◌, ◌≡◌, Option, List, [], ◌∷◌, ◌++◌, length}
use Rattle.base.specs.Entity.{Entity}
use Rattle.activities.specs.declared.input.JournalRow.{JournalRow}
use Rattle.keep.specs.declared.change.Change.{Change}
use Rattle.keep.specs.declared.change.Change.TheVariants.{Journal, State, Sent, Settled, Handled, Held, NotHeld}
use Rattle.keep.specs.Tables.{Tables, changed_by, ArePlaced}
use Rattle.endpoint.specs.Parts.Handling.{SetNoRow}

-- a row after changes that add none
pub placed-last : {S C : Type 0} (cs : List (Change S C)) (t : Tables S C) (e : Entity) (state : Option S)
    (position : ℕ) (row : JournalRow C) → SetNoRow cs → position ≡ length t.journal + 1
    → ArePlaced (cs ++ State e state ∷ Journal position row ∷ []) t
placed-last [] t e state position row none is = (tt, (is, tt))
placed-last (Journal k r ∷ cs) t e state position row none is = absurd none
placed-last (State x s ∷ cs) t e state position row none is = absurd none
placed-last (Sent l ∷ cs) t e state position row none is =
    (tt, placed-last cs (changed_by (Sent l) t) e state position row none is)
placed-last (Settled p n ∷ cs) t e state position row none is =
    (tt, placed-last cs (changed_by (Settled p n) t) e state position row none is)
placed-last (Handled p n ∷ cs) t e state position row none is =
    (tt, placed-last cs (changed_by (Handled p n) t) e state position row none is)
placed-last (Held l ∷ cs) t e state position row none is =
    (tt, placed-last cs (changed_by (Held l) t) e state position row none is)
placed-last (NotHeld p n ∷ cs) t e state position row none is =
    (tt, placed-last cs (changed_by (NotHeld p n) t) e state position row none is)
