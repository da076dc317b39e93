use Rattle.shared_endpoint.specs.Keys.{IsHandOf, told_hand}
use Rattle.service_workers.specs.Lives.{TakesWhatCame}
use Rattle.service_workers.specs.Truth.{IsGoodWhile}
use Rattle.service_workers.proofs.run.Run.work.Given as goal

abbrev pub invariant-loop : goal.invariant-loop
invariant-loop g l = record {
  hand : IsHandOf l.self.shared.now l.hand;
  sound : IsGoodWhile g.K.Keep.seen g.H.Handler.service g.N.Naming.sound (told_hand l.hand);
  took : TakesWhatCame g.L.Link.put_gives g.L.Link.take_gives g.K.Keep.seen g.H.Handler.service g.N.Naming.sound
      g.N.Naming.given (told_hand l.fn.hand) (told_hand l.hand);
}
