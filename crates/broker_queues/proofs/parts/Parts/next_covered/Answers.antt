use Rattle.std.proofs.Common.{◌<◌, ◌∙◌, arith, get_or, length, refl, sym}
use Rattle.broker_index.specs.declared.places.Entry.{Entry}
use Rattle.broker_queues.specs.Parts.Held.{holding_of}
use Rattle.broker_queues.proofs.Turning.{next_miss, within}
use Rattle.broker_queues.proofs.parts.Parts.next_covered.Goals as goal

-- what a read past the end gives
nothing : Entry
nothing = record { ack = 0; number = 0; key = 0 }

pub returns-in_default-clause-passes : goal.returns-in_default-clause-passes
returns-in_default-clause-passes c h s again is t = t

pub loop-index-init : goal.loop-index-init
loop-index-init c = record { behind = omega arith; passes = λ h s again is t. t }

pub loop-index-preserved : goal.loop-index-preserved
unfolding nothing
loop-index-preserved c = record {
  behind = omega arith;
  passes = λ h s again is t.
      let now = c.loop-index.invariant.passes h s again is t in
      let short : c.loop-index.index < length s.entries =
      within h (holding_of c.args.self.now) c.args.age s c.args.answered again c.loop-index.index
      c.in-Some.subscriber.now c.entries-entries.result.now c.in-Some.ensures c.entries-entries.ensures now
      (omega arith) in
      next_miss h (holding_of c.args.self.now) is c.args.age s again c.args.answered c.loop-index.index
      c.in-Some.subscriber.now
      c.entries-entries.result.now c.subscription-subscription.result.now
      (get_or c.entries-entries.result.now c.loop-index.index nothing)
      nothing
      c.in-Some.ensures c.entries-entries.ensures c.subscription-subscription.ensures refl short now
      (sym c.is_covered.ensures ∙ c.if-is_covered.false);
}
