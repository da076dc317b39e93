use Rattle.shared_endpoint.specs.Keys.{IsHandOf, told_hand}
use Rattle.shared_endpoint.specs.Token.{hand_number}
use Rattle.service_workers.specs.Taking.{NoEnvelope, Takes}
use Rattle.service_workers.specs.Tokens.{GoesOn}
use Rattle.service_workers.specs.Truth.{Learns, DrainedIn}
use Rattle.service_workers.proofs.run.Run.drain.Given as goal

abbrev pub invariant-loop : goal.invariant-loop
invariant-loop g l = IsHandOf l.self.shared.now l.hand
    × GoesOn g.K.Keep.seen g.H.Handler.service hand_number (told_hand l.fn.hand) (told_hand l.hand)
    × Learns g.K.Keep.seen g.H.Handler.service (DrainedIn g.H.Handler.service l.pair l.last) (told_hand l.fn.hand) (told_hand l.hand)
    × Takes g.K.Keep.seen g.H.Handler.service NoEnvelope (told_hand l.fn.hand) (told_hand l.hand)
