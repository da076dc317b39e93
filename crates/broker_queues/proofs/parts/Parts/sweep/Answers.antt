use Rattle.std.proofs.Common.{◌∙◌, sym}
use Rattle.broker_queues.specs.Parts.Held.{holding_of}
use Rattle.broker_queues.specs.Parts.Storing.{Tidies}
use Rattle.broker_queues.specs.Parts.Whole.{IsSound}
use Rattle.broker_queues.proofs.Clearing.{cleared, clearing_more, clearing_none, fewer_noted, forgets_stale, swept_more}
use Rattle.broker_queues.proofs.Clearing.{swept_none}
use Rattle.broker_queues.proofs.Sweeping.{tidies, tidy}
use Rattle.broker_queues.proofs.parts.Parts.sweep.Goals as goal

pub loop-entry-init : goal.loop-entry-init
loop-entry-init c = record {
  tidies = λ is. tidy (holding_of c.args.self.now) is;
  clearing = λ s is sits. clearing_none (holding_of c.args.self.now) c.args.age s sits;
  swept = λ is. swept_none (holding_of c.args.self.now) c.args.age;
}

pub loop-entry-smaller : goal.loop-entry-smaller
loop-entry-smaller c =
    fewer_noted c.args.age c.loop-entry.self.messages c.in-Some.entry c.loop-entry.self.subscribers
    c.purge.new.self.subscribers
    c.in-Some.ensures (c.purge.ensures.subscribers ∙ c.forget.ensures)

pub loop-entry-preserved : goal.loop-entry-preserved
loop-entry-preserved c =
    let h = holding_of c.args.self.now in
    let i = holding_of c.loop-entry.self in
    let j = holding_of c.purge.new.self in
    let forgets : (is : IsSound i) → Tidies i (record i { subscribers = c.forget.new.self }) =
    λ is. forgets_stale i is c.args.age c.in-Some.entry c.forget.new.self c.in-Some.ensures c.forget.ensures in
    record {
      tidies = λ is.
          let before = c.loop-entry.invariant.tidies is in
          let mid = forgets before.sound in
          tidies h i j before (tidies i (record i { subscribers = c.forget.new.self }) j mid
          (c.purge.ensures.sweeps mid.sound));
      clearing = λ s is sits.
          let mid = forgets (c.loop-entry.invariant.tidies is).sound in
          clearing_more i j c.args.age s c.in-Some.entry c.forget.new.self (c.loop-entry.invariant.clearing s is sits)
          c.forget.ensures
          (c.purge.ensures.rest mid.sound);
      swept = λ is.
          let mid = forgets (c.loop-entry.invariant.tidies is).sound in
          swept_more h i j c.args.age c.in-Some.entry.number c.forget.new.self (c.loop-entry.invariant.swept is)
          c.forget.ensures
          (c.purge.ensures.rest mid.sound);
    }

pub returns-clause-clears : goal.returns-clause-clears
returns-clause-clears c s is sits =
    cleared (holding_of c.loop-entry.self) c.args.age s (c.loop-entry.invariant.clearing s is sits)
    (sym c.in_default.ensures)
