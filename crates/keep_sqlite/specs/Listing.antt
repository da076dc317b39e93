-- What rows tell that are read in order.
use Rattle.std.specs.Prelude.{◌≡◌, pos, List, [], ◌∷◌, Bool, true, Option, Some, None}
use Rattle.sqlite.specs.declared.types.Value.TheVariants.{Int, Text}
use Rattle.sqlite_value.specs.Order.{Row, column}
use Rattle.base.specs.Entity.{text_of}
use Rattle.base.specs.declared.pair.Pair.{Pair}
use Rattle.envelope.specs.declared.message.Letter.{Letter}
use Rattle.keep.specs.declared.change.LetterPlace.{LetterPlace}
use Rattle.sql_rows.specs.Tables.{is_after}
use Rattle.keep_sqlite.specs.Tables.{message_in}

-- the row stands behind that place, or behind none
abbrev pub is_behind : Option LetterPlace → Row → Bool
is_behind None r = true
is_behind (Some a) r = is_after (text_of a.pair.from) (text_of a.pair.to) (pos a.number) r

-- the first two values are the texts of this pair
pub record IsPairAt (r : Row) (p : Pair) : Type 0 where
  pub sender : column r 0 ≡ Text (text_of p.from)
  pub receiver : column r 1 ≡ Text (text_of p.to)

-- this is the pair that an answer's first row tells, if it has one
abbrev pub IsFirstPair : List Row → Option Pair → Type 0
IsFirstPair [] found = found ≡ None
IsFirstPair (r ∷ rs) found = (p : Pair) × (found ≡ Some p) × IsPairAt r p

-- the values are the pair, the number and the body of this letter
pub record IsLetterAt (r : Row) (l : Letter) : Type 0 where
  pub pair : IsPairAt r l.pair
  pub number : column r 2 ≡ Int (pos l.number)
  pub message : l.message ≡ message_in (column r 3)
