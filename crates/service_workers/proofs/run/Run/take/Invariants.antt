use Rattle.std.specs.Vec.Iter.{into_iter_items, into_iter_len}
use Rattle.envelope.specs.declared.message.Envelope.{Envelope}
use Rattle.shared_endpoint.specs.Keys.{IsHandOf, told_hand}
use Rattle.shared_endpoint.specs.Token.{hand_number}
use Rattle.service_workers.specs.Batches.{all_of, Carry}
use Rattle.service_workers.specs.Taking.{CarriedAmong, Takes}
use Rattle.service_workers.specs.Tokens.{GoesOn}
use Rattle.service_workers.specs.Truth.{Knows, IsLeftIn}
use Rattle.service_workers.proofs.run.Run.take.Given as goal

abbrev pub invariant-loop-arrival : goal.invariant-loop-arrival
invariant-loop-arrival g l = record {
  hand : IsHandOf l.self.shared.now l.hand;
  goes_on : GoesOn g.K.Keep.seen g.H.Handler.service hand_number (told_hand l.fn.hand) (told_hand l.hand);
  carried : Carry (into_iter_items l.arrival-iterator) l.rest;
  left : Knows g.K.Keep.seen g.H.Handler.service g.N.Naming.sound (IsLeftIn g.H.Handler.service l.rest (into_iter_len l.told) (into_iter_items l.told)) (told_hand l.hand);
  took : Takes g.K.Keep.seen g.H.Handler.service (CarriedAmong (all_of l.fn.batch.arrivals.items l.fn.batch.last)) (told_hand l.fn.hand) (told_hand l.hand);
  among : (e : Envelope) → CarriedAmong (into_iter_items l.arrival-iterator) e → CarriedAmong (all_of l.fn.batch.arrivals.items l.fn.batch.last) e;
}
