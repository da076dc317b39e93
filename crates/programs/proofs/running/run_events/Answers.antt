use Rattle.std.proofs.Common.{◌≡◌, length, arith, subst, Ok, Err}
use Rattle.schedule_io.specs.Ends.{AreRun}
use Rattle.schedule_io.specs.Opened.{AreLeftBy, shown}
use Rattle.programs.specs.Runs.{HasLeft}
use Rattle.schedule_io.specs.declared.fault.RunFault.TheVariants.{Device}
use Rattle.programs.proofs.Going.{told_none, told_more, all_told, not_flushed, cut_off}
use Rattle.programs.proofs.running.run_events.Goals as goal

pub loop-event-init : goal.loop-event-init
loop-event-init g c =
    told_none g.O.Keep.seen g.S.Keep.seen g.A.Keep.seen c.as_slice-event-items.result.now c.make_world-world.result
    (g.W.Write.contents c.args.out.now)

pub loop-event-preserved : goal.loop-event-preserved
loop-event-preserved g c =
    let at = g.W.Write.contents in
    told_more g.O.Keep.seen g.S.Keep.seen g.A.Keep.seen c.as_slice-event-items.result.now c.event-item.result
    c.step-outcome.result c.loop-event.event-index c.make_world-world.result c.loop-event.world
    c.step-outcome.new.self (at c.args.out.now) (at c.loop-event.out) (at c.write_outcome.new.out)
    c.loop-event-test.true c.event-item.is c.loop-event.invariant c.step-outcome.ensures.passes
    c.in-Ok.ensures.ok

pub returns-in-Err : goal.returns-in-Err
returns-in-Err g c =
    let at = g.W.Write.contents in
    let orders = g.O.Keep.seen in
    let stocks = g.S.Keep.seen in
    let accounts = g.A.Keep.seen in
    let left = AreLeftBy (shown orders stocks accounts c.args.keeps) in
    subst (λ es. AreRun (HasLeft orders stocks accounts left c.step-outcome.new.self) (λ _. ⊥) es (at c.args.out.now)
    (at c.write_outcome.new.out) (Err Device))
    c.as_slice-event-items.ensures.value
    (cut_off orders stocks accounts left c.make_world-world.result c.make_world-world.ensures
    c.as_slice-event-items.result.now c.event-item.result c.step-outcome.result c.loop-event.event-index
    c.loop-event.world c.step-outcome.new.self (at c.args.out.now) (at c.loop-event.out) (at c.write_outcome.new.out)
    c.loop-event-test.true c.event-item.is c.loop-event.invariant c.step-outcome.ensures.passes c.in-Err.ensures.err)

pub returns-in-Ok-flush : goal.returns-in-Ok-flush
returns-in-Ok-flush g c =
    let at = g.W.Write.contents in
    let orders = g.O.Keep.seen in
    let stocks = g.S.Keep.seen in
    let accounts = g.A.Keep.seen in
    let left = AreLeftBy (shown orders stocks accounts c.args.keeps) in
    let all : c.loop-event.event-index ≡ length c.as_slice-event-items.result.now = omega arith in
    subst (λ es. AreRun (HasLeft orders stocks accounts left c.loop-event.world) (λ _. ⊥) es (at c.args.out.now) (at c.flush.new.self) (Ok tt))
    c.as_slice-event-items.ensures.value
    (all_told orders stocks accounts left c.make_world-world.result c.make_world-world.ensures
    c.as_slice-event-items.result.now c.loop-event.event-index c.loop-event.world (at c.args.out.now)
    (at c.loop-event.out) (at c.flush.new.self) all c.loop-event.invariant c.flush.ensures.bytes)

pub returns : goal.returns
returns g c =
    let at = g.W.Write.contents in
    let orders = g.O.Keep.seen in
    let stocks = g.S.Keep.seen in
    let accounts = g.A.Keep.seen in
    let left = AreLeftBy (shown orders stocks accounts c.args.keeps) in
    subst (λ es. AreRun (HasLeft orders stocks accounts left c.loop-event.world) (λ _. ⊥) es (at c.args.out.now) (at c.flush.new.self)
    (Err Device))
    c.as_slice-event-items.ensures.value
    (not_flushed orders stocks accounts left c.make_world-world.result c.make_world-world.ensures
    c.as_slice-event-items.result.now c.loop-event.event-index c.loop-event.world (at c.args.out.now)
    (at c.loop-event.out) (at c.flush.new.self) c.loop-event.invariant c.flush.ensures.bytes)
