-- The turns of a connection feed its session in turn, and what they read is what they fed.
use Rattle.std.proofs.Common.{ℕ, List, [], ◌∷◌, Option}
use Rattle.std.specs.List.{flat_map}
use Rattle.std.specs.Io.KnownBytes.{Consumes}
use Rattle.std.proofs.KnownBytes.{Consumes-trans}
use Rattle.broker_core.specs.Serving.{Server}
use Rattle.broker_core.specs.Streams.{Fed, FedInTurn}
use Rattle.broker_core.proofs.Feedings.{handled_first}
use Rattle.broker_server.specs.Lives.{ReadInTurn, ReadIsHandled}

fed_in_turn : (full n : ℕ) (old : Server) (before : Option (List ℕ)) (feeds : List Fed) (new : Server)
    (after : Option (List ℕ))
    → ReadInTurn full n old before feeds new after → FedInTurn full n old feeds new
fed_in_turn full n old before [] new after h = h.0
fed_in_turn full n old before (f ∷ feeds) new after h =
    (h.2.0.from, (h.0, (h.2.0.untouched, h.2.0.took, fed_in_turn full n h.0 h.1 feeds new after h.2.1)))

read_in_turn : (full n : ℕ) (old : Server) (before : Option (List ℕ)) (feeds : List Fed) (new : Server)
    (after : Option (List ℕ))
    → ReadInTurn full n old before feeds new after → Consumes before after (flat_map (λ f. f.piece) feeds)
read_in_turn full n old before [] new after h = h.1
read_in_turn full n old before (f ∷ feeds) new after h =
    Consumes-trans before h.1 after f.piece (flat_map (λ (x : Fed). x.piece) feeds) h.2.0.octets
    (read_in_turn full n h.0 h.1 feeds new after h.2.1)

-- what was read from a stream is handled once and in order
pub read_is_handled : ReadIsHandled
read_is_handled full n old new before after feeds s h found none = record {
  text = flat_map (λ (x : Fed). x.piece) feeds;
  octets = read_in_turn full n old before feeds new after h;
  first = handled_first full n old new feeds s (fed_in_turn full n old before feeds new after h) found none;
}
