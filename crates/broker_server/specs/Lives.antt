-- What a connection reads over its life, and what is handled of it.
use Rattle.std.specs.Prelude.{◌≡◌, ℕ, Bool, List, [], ◌∷◌, Option, Some}
use Rattle.std.specs.List.{flat_map}
use Rattle.std.specs.Io.KnownBytes.{Consumes}
use Rattle.broker_core.specs.Serving.{Server, session_of, nothing_incoming}
use Rattle.broker_core.specs.Streams.{AreFirst, Fed, Took, Untouched}
use Rattle.broker_core.specs.declared.session.Session.{Session}

-- a turn: whatever happened before, a piece was read from the stream, and the session took it
pub record Reads (full n : ℕ) (old : Server) (before : Option (List ℕ)) (f : Fed) (new : Server)
    (after : Option (List ℕ)) : Type 0 where
  pub from : Server
  pub untouched : Untouched n old from
  pub took : Took full n from f new
  pub octets : Consumes before after f.piece

-- these turns were made one after another, whatever happened between
abbrev pub ReadInTurn : ℕ → ℕ → Server → Option (List ℕ) → List Fed → Server → Option (List ℕ) → Type 0
ReadInTurn full n old before [] new after = Untouched n old new × Consumes before after []
ReadInTurn full n old before (f ∷ feeds) new after =
    (mid : Server) × (here : Option (List ℕ)) × (Reads full n old before f mid here
    × ReadInTurn full n mid here feeds new after)

-- the frames that were handled are the first of all that was read from the stream
pub record HandlesFirst (connected : Bool) (feeds : List Fed) (before after : Option (List ℕ)) : Type 0 where
  pub text : List ℕ
  pub octets : Consumes before after text
  pub first : AreFirst connected (flat_map (λ f. f.frames) feeds) text

-- However the octets of a connection come, the frames of its session that had their step are the first of what was read
-- from its stream, each once and in order.
abbrev pub ReadIsHandled : Type 0
ReadIsHandled = (full n : ℕ) (old new : Server) (before after : Option (List ℕ)) (feeds : List Fed) (s : Session)
    → ReadInTurn full n old before feeds new after → session_of n old ≡ Some s → s.incoming ≡ nothing_incoming
    → HandlesFirst s.server feeds before after
