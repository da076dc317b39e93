-- What a turn of a connection reads and writes, where it is known what its stream gives and holds.
use Rattle.std.specs.Prelude.{◌≡◌, ◌≤◌, ℕ, List, [], ◌++◌, length, take, Option, Result, Ok, Err}
use Rattle.std.specs.Io.KnownBytes.{Appends, Consumes, IsAtEnd, Keeps}
use Rattle.broker_core.specs.Calls.{out_in, without_first}
use Rattle.broker_core.specs.Feeding.{Feeds, FeedsNone, FeedsPart}
use Rattle.broker_core.specs.Serving.{Server, changing, session_of}
use Rattle.broker_server.specs.declared.fault.ReadFault.{ReadFault}
use Rattle.broker_server.specs.declared.fault.ReadFault.TheVariants.{Waits, Untaken}
use Rattle.broker_server.specs.declared.fault.ReadFault.TheVariants as read
use Rattle.broker_server.specs.declared.fault.TurnFault.{TurnFault}
use Rattle.broker_server.specs.declared.fault.TurnFault.TheVariants.{Stream, Memory}
use Rattle.broker_server.specs.declared.turn.Brought.{Brought}
use Rattle.broker_server.specs.declared.turn.ReadTurn.{ReadTurn}
use Rattle.broker_server.specs.declared.turn.ReadTurn.TheVariants as turn
use Rattle.broker_server.specs.declared.turn.Written.{Written}
use Rattle.broker_server.specs.declared.turn.Written.TheVariants as written

-- ---- feeding

-- What feeding an open session answers: at `Ok` the session took the piece, all its whole frames were handled, so many,
-- and messages were dealt until none could be. At `Waits` the session has the piece, and goes on at the next feed; at
-- `Untaken` nothing has changed, which never comes of a piece without an octet.
abbrev pub FedAnswer : ℕ → ℕ → List ℕ → Server → Server → Result ℕ ReadFault → Type 0
FedAnswer full n piece old new (Ok frames) = Feeds full old n piece new frames
FedAnswer full n piece old new (Err Waits) = FeedsPart full old n piece new
FedAnswer full n piece old new (Err (Untaken count)) = (count ≡ length piece) × FeedsNone old n piece new
FedAnswer full n piece old new (Err read.Stream) = ⊥

-- ---- reading

-- nothing was read, and nothing has changed
pub record ReadsNone (old new : Server) (before after : Option (List ℕ)) : Type 0 where
  pub same : new ≡ old
  pub kept : Consumes before after []

-- the octets that were read are those that the session was fed, so many, of which so many frames were handled; or nothing
-- was read
pub data ReadsIn (full n : ℕ) (old new : Server) (before after : Option (List ℕ)) (brought : Brought) : Type 0 where
  some : (piece : List ℕ) → brought.octets ≡ length piece → Feeds full old n piece new brought.frames
      → Consumes before after piece → ReadsIn full n old new before after brought
  none : brought.octets ≡ 0 → brought.frames ≡ 0 → ReadsNone old new before after
      → ReadsIn full n old new before after brought

-- the session took the octets that were read, and then memory was refused
pub record ReadsPart (full n : ℕ) (old new : Server) (before after : Option (List ℕ)) : Type 0 where
  pub piece : List ℕ
  pub feeds : FeedsPart full old n piece new
  pub octets : Consumes before after piece

-- the session took none of the octets that were read: they begin the buffer, and nothing else has changed
pub record ReadsUntaken (n : ℕ) (old new : Server) (before after : Option (List ℕ)) (buffer : List ℕ) (count : ℕ) : Type
    0 where
  pub within : count ≤ length buffer
  pub feeds : FeedsNone old n (take count buffer) new
  pub octets : Consumes before after (take count buffer)

-- What a turn of reading answers: what was read is what the session was fed, and how many octets and frames that was. At
-- `Ended` the stream gave nothing and has no more.
abbrev pub ReadAnswer : ℕ → ℕ → Server → Server → Option (List ℕ) → Option (List ℕ) → List ℕ
    → Result (ReadTurn × Brought) ReadFault → Type 0
ReadAnswer full n old new before after buffer (Ok (turn.Ended, brought)) =
    ReadsNone old new before after × IsAtEnd after × (brought.octets ≡ 0) × (brought.frames ≡ 0)
ReadAnswer full n old new before after buffer (Ok (turn.Blocked, brought)) = ReadsIn full n old new before after brought
ReadAnswer full n old new before after buffer (Ok (turn.More, brought)) = ReadsIn full n old new before after brought
ReadAnswer full n old new before after buffer (Err read.Stream) = ReadsNone old new before after
ReadAnswer full n old new before after buffer (Err Waits) = ReadsPart full n old new before after
ReadAnswer full n old new before after buffer (Err (Untaken count)) = ReadsUntaken n old new before after buffer count

-- so many octets were read, and thrown away; at `Ended` none, and the stream has no more
pub record Discards (before after : Option (List ℕ)) (count : ℕ) : Type 0 where
  pub octets : List ℕ
  pub counted : count ≡ length octets
  pub gone : Consumes before after octets

-- What throwing octets away answers.
abbrev pub DiscardAnswer : Option (List ℕ) → Option (List ℕ) → Result (ℕ × ReadTurn) TurnFault → Type 0
DiscardAnswer before after (Ok (count, turn.Ended)) = (count ≡ 0) × Consumes before after [] × IsAtEnd after
DiscardAnswer before after (Ok (count, turn.Blocked)) = Discards before after count
DiscardAnswer before after (Ok (count, turn.More)) = Discards before after count
DiscardAnswer before after (Err Stream) = Consumes before after []
DiscardAnswer before after (Err Memory) = ⊥

-- ---- writing

-- octets were written: the first of those for a session, from which they are taken away
pub record WritesOut (n : ℕ) (old new : Server) (before after : Option (List ℕ)) : Type 0 where
  pub octets : List ℕ
  pub first : out_in (session_of n old) ≡ octets ++ out_in (session_of n new)
  pub changed : new ≡ changing n (without_first (length octets)) old
  pub appended : Appends before after octets

-- What a turn of writing answers: at `All` nothing is left; where the stream failed nothing was written, and nothing
-- has changed.
abbrev pub WriteAnswer : ℕ → Server → Server → Option (List ℕ) → Option (List ℕ) → Result Written TurnFault → Type 0
WriteAnswer n old new before after (Ok written.All) =
    WritesOut n old new before after × (out_in (session_of n new) ≡ [])
WriteAnswer n old new before after (Ok written.Blocked) = WritesOut n old new before after
WriteAnswer n old new before after (Ok written.Again) = WritesOut n old new before after
WriteAnswer n old new before after (Err Stream) = (new ≡ old) × Keeps before after
WriteAnswer n old new before after (Err Memory) = ⊥

-- octets were written: the first of the rest, from which they are taken away
pub record WritesRest (old new : List ℕ) (before after : Option (List ℕ)) : Type 0 where
  pub octets : List ℕ
  pub first : old ≡ octets ++ new
  pub appended : Appends before after octets

-- What writing a rest answers.
abbrev pub RestAnswer : List ℕ → List ℕ → Option (List ℕ) → Option (List ℕ) → Result Written TurnFault → Type 0
RestAnswer old new before after (Ok written.All) = WritesRest old new before after × (new ≡ [])
RestAnswer old new before after (Ok written.Blocked) = WritesRest old new before after
RestAnswer old new before after (Ok written.Again) = WritesRest old new before after
RestAnswer old new before after (Err Stream) = (new ≡ old) × Keeps before after
RestAnswer old new before after (Err Memory) = ⊥
