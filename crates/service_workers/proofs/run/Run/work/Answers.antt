use Rattle.shared_endpoint.specs.Keys.{told_hand}
use Rattle.shared_endpoint.specs.Token.{hand_number}
use Rattle.service_workers.specs.Batches.{all_of}
use Rattle.service_workers.proofs.Lives.{both_came, nothing_came}
use Rattle.service_workers.proofs.Truth.{still_sound}
use Rattle.service_workers.proofs.run.Run.work.Goals as goal

pub loop-init : goal.loop-init
loop-init g c = record {
  hand = c.requires.hand;
  sound = c.requires.sound;
  took = nothing_came g.L.Link.put_gives g.L.Link.take_gives g.K.Keep.seen g.H.Handler.service g.N.Naming.sound
      g.N.Naming.given _ _ c.requires.hand.0.own;
}

pub loop-preserved-in-Some-take : goal.loop-preserved-in-Some-take
loop-preserved-in-Some-take g c = record {
  hand = c.take-count.ensures.hand;
  sound = still_sound g.K.Keep.seen g.H.Handler.service hand_number g.N.Naming.sound _ _ c.take-count.ensures.goes_on
      c.loop.invariant.sound;
  took = both_came g.L.Link.put_gives g.L.Link.take_gives g.K.Keep.seen g.H.Handler.service g.N.Naming.sound
      g.N.Naming.given (told_hand c.args.hand.now) _ _ c.loop.invariant.took
      (record {
        goes_on = c.take-count.ensures.goes_on;
        messages = all_of c.gather-batch.result.arrivals.items c.gather-batch.result.last;
        came = c.gather-batch.ensures.came;
        took = c.take-count.ensures.took;
      });
}

pub returns-clause-goes_on : goal.returns-clause-goes_on
returns-clause-goes_on g c = c.loop.invariant.took.goes_on
