-- What only private functions speak of.
use Rattle.std.specs.Prelude.{◌≡◌, ◌≤◌, ℕ, List, [], length, take, Option, Result, Ok, Err}
use Rattle.std.specs.Io.KnownBytes.{Appends, Consumes, IsAtEnd, Keeps}
use Rattle.broker_server.specs.declared.fault.TurnFault.{TurnFault}
use Rattle.broker_server.specs.declared.fault.TurnFault.TheVariants.{Stream, Memory}
use Rattle.broker_server.specs.declared.turn.Piece.{Piece}
use Rattle.broker_server.specs.declared.turn.Piece.TheVariants.{Octets, Blocked, Ended, Interrupted}
use Rattle.broker_server.specs.declared.turn.Written.{Written}
use Rattle.broker_server.specs.declared.turn.Written.TheVariants as written

-- What one read answers: so many octets at the front of the buffer; or none.
abbrev pub PieceAnswer : Option (List ℕ) → Option (List ℕ) → List ℕ → Result Piece TurnFault → Type 0
PieceAnswer before after buffer (Ok (Octets count)) =
    (count ≤ length buffer) × Consumes before after (take count buffer)
PieceAnswer before after buffer (Ok Blocked) = Consumes before after []
PieceAnswer before after buffer (Ok Ended) = Consumes before after [] × IsAtEnd after
PieceAnswer before after buffer (Ok Interrupted) = Consumes before after []
PieceAnswer before after buffer (Err Stream) = Consumes before after []
PieceAnswer before after buffer (Err Memory) = ⊥

-- the first so many octets were written
pub record WritesSome (octets : List ℕ) (before after : Option (List ℕ)) (count : ℕ) : Type 0 where
  pub within : count ≤ length octets
  pub appended : Appends before after (take count octets)

-- What one write answers: at `All` all of them were.
abbrev pub SomeAnswer : Option (List ℕ) → Option (List ℕ) → List ℕ → Result (ℕ × Written) TurnFault → Type 0
SomeAnswer before after octets (Ok (count, written.All)) =
    WritesSome octets before after count × (count ≡ length octets)
SomeAnswer before after octets (Ok (count, written.Blocked)) = WritesSome octets before after count
SomeAnswer before after octets (Ok (count, written.Again)) = WritesSome octets before after count
SomeAnswer before after octets (Err Stream) = Keeps before after
SomeAnswer before after octets (Err Memory) = ⊥
