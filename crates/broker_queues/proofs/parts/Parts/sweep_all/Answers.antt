use Rattle.std.proofs.Common.{drop}
use Rattle.std.proofs.lemmas.List.{drop_all}
use Rattle.broker_queues.specs.Parts.Held.{holding_of}
use Rattle.broker_queues.proofs.Acting.{tidies_again, tidies_none}
use Rattle.broker_queues.proofs.Swept.{left_first, left_next, none_left}
use Rattle.broker_queues.proofs.parts.Parts.sweep_all.Goals as goal

pub loop-logged-init : goal.loop-logged-init
loop-logged-init c = record {
  sweeps = λ is. tidies_none (holding_of c.args.self.now) is;
  left = λ is held noted. left_first (holding_of c.args.self.now) c.args.log.now held noted;
}

pub loop-logged-preserved : goal.loop-logged-preserved
loop-logged-preserved c =
    let h = holding_of c.args.self.now in
    let i = holding_of c.loop-logged.self in
    let j = holding_of c.sweep.new.self in
    record {
      sweeps = λ is.
          let before = c.loop-logged.invariant.sweeps is in
          tidies_again h i j before (c.sweep.ensures.sweeps before.sound);
      left = λ is held noted.
          let sound = (c.loop-logged.invariant.sweeps is).sound in
          left_next i j c.args.log.now c.loop-logged.logged-index c.logged-item.result c.loop-logged-test.true
          c.logged-item.is sound
          (c.sweep.ensures.rest sound) c.sweep.ensures.clears (c.loop-logged.invariant.left is held noted);
    }

pub returns-clause-taken : goal.returns-clause-taken
returns-clause-taken c is held noted =
    none_left (holding_of c.loop-logged.self) (drop c.loop-logged.logged-index c.args.log.now)
    (drop_all c.loop-logged.logged-index c.args.log.now c.loop-logged-test.false)
    (c.loop-logged.invariant.left is held noted)
