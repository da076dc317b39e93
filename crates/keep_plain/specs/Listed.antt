-- What is read of slots in order.
use Rattle.std.specs.Prelude.{List, [], ◌∷◌, ◌++◌, Option, Some, None, is_some, if◌then◌else◌}
use Rattle.std.specs.declared.ops.Bound.{Bound}
use Rattle.std.specs.declared.ops.Bound.TheVariants.{Excluded, Unbounded}
use Rattle.envelope.specs.declared.message.Message.{Message}
use Rattle.envelope.specs.declared.message.Letter.{Letter}
use Rattle.keep.specs.declared.change.LetterPlace.{LetterPlace}

-- where a range after a place begins
abbrev pub start_after : Option LetterPlace → Bound LetterPlace
start_after None = Unbounded
start_after (Some a) = Excluded a

-- the letter that stands at a place, if one does
abbrev pub letter_in : LetterPlace → Option Message → List Letter
letter_in x None = []
letter_in x (Some message) = record { pair = x.pair; number = x.number; message = message } ∷ []

-- the letters that stand in slots, in order
abbrev pub letters_at : List (LetterPlace × Option Message) → List Letter
letters_at [] = []
letters_at (e ∷ es) = letter_in e.0 e.1 ++ letters_at es

-- the key of the first slot that is filled
abbrev pub first_key : {K V : Type 0} → List (K × Option V) → Option K
first_key [] = None
first_key (e ∷ es) = if is_some e.1 then Some e.0 else first_key es
