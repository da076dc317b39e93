-- Frames that services read of a broker.
use Rattle.std.specs.Prelude.{◌≡◌, List, Some, Contains, ⊤}
use Rattle.stomp_frame.specs.Frames.{Content}
use Rattle.envelope.specs.Reading.{read_frame}
use Rattle.envelope.specs.declared.message.Envelope.{Envelope}
use Rattle.reception.specs.declared.taken.Taken.{Taken}
use Rattle.reception.specs.declared.taken.Taken.TheVariants.{Handled, Repeated, Held}

-- the frame carries an envelope that was written, or none
abbrev pub CarriesWritten : List Envelope → Content → Type 0
CarriesWritten written f = (e : Envelope) → read_frame f ≡ Some e → Contains written e

-- what is told of a letter: it is handled, was handled before, or is held
abbrev pub IsOfLetter : Taken → Type 0
IsOfLetter (Handled position) = ⊤
IsOfLetter (Repeated number) = ⊤
IsOfLetter Held = ⊤
IsOfLetter _ = ⊥
