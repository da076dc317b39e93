use Rattle.std.proofs.Common.{◌≡◌, ◌+◌, ◌++◌, ◌∷◌, [], take, length, arith, ap, sym, ◌∙◌, refl, subst}
use Rattle.std.proofs.lemmas.List.{take_more, append-nil}
use Rattle.schedule_runner.proofs.Stepping.{passes_made}
use Rattle.schedule_runner.proofs.Advancing.{SoFar, far_none, far_more, ran_did, ran_goes, ran_told}
use Rattle.schedule_runner.proofs.world.World.run.Goals as goal

pub loop-event-init : goal.loop-event-init
loop-event-init g c = far_none g.KO.Keep.seen g.KS.Keep.seen g.KA.Keep.seen c.args.events.now c.args.outcomes.now.items
    c.args.outcomes.now.items c.args.self.now (sym (append-nil c.args.outcomes.now.items))

pub loop-event-preserved : goal.loop-event-preserved
loop-event-preserved g c =
    let events = c.args.events.now in
    let i = c.loop-event.event-index in
    let e = c.event-item.result in
    let more : take (i + 1) events ≡ take i events ++ e ∷ [] =
    take_more events i e c.loop-event-test.true ∙ ap (λ v. take i events ++ v ∷ []) (sym c.event-item.is) in
    far_more g.KO.Keep.seen g.KS.Keep.seen g.KA.Keep.seen events e c.single_step-outcome.result i (i + 1)
    c.args.outcomes.now.items
    c.loop-event.outcomes.items c.push_reserved.new.self.items c.args.self.now c.loop-event.self
    c.single_step-outcome.new.self refl more
    (c.push_reserved.ensures.items ∙ ap (λ l. l ++ c.single_step-outcome.result ∷ []) c.reserve.ensures.items)
    c.loop-event.invariant
    (passes_made g.KO.Keep.seen g.KS.Keep.seen g.KA.Keep.seen e c.single_step-outcome.result c.loop-event.self
    c.single_step-outcome.new.self
    c.single_step-outcome.ensures)

pub returns-in-Err-clause-did : goal.returns-in-Err-clause-did
returns-in-Err-clause-did g c =
    ran_did g.KO.Keep.seen g.KS.Keep.seen g.KA.Keep.seen c.args.events.now c.loop-event.event-index
    c.args.outcomes.now.items c.reserve.new.self.items c.args.self.now c.loop-event.self _
    (subst (λ now. SoFar g.KO.Keep.seen g.KS.Keep.seen g.KA.Keep.seen c.args.events.now c.loop-event.event-index
    c.args.outcomes.now.items
    now c.args.self.now c.loop-event.self) (sym c.reserve.ensures.items) c.loop-event.invariant) tt

pub returns-clause-did : goal.returns-clause-did
returns-clause-did g c =
    let all : c.loop-event.event-index ≡ length c.args.events.now = omega arith in
    ran_did g.KO.Keep.seen g.KS.Keep.seen g.KA.Keep.seen c.args.events.now c.loop-event.event-index
    c.args.outcomes.now.items
    c.loop-event.outcomes.items c.args.self.now c.loop-event.self _ c.loop-event.invariant all

pub returns-in-Err-clause-goes : goal.returns-in-Err-clause-goes
returns-in-Err-clause-goes g c =
    ran_goes g.KO.Keep.seen g.KS.Keep.seen g.KA.Keep.seen c.args.events.now c.loop-event.event-index
    c.args.outcomes.now.items c.reserve.new.self.items c.args.self.now c.loop-event.self _
    (subst (λ now. SoFar g.KO.Keep.seen g.KS.Keep.seen g.KA.Keep.seen c.args.events.now c.loop-event.event-index
    c.args.outcomes.now.items
    now c.args.self.now c.loop-event.self) (sym c.reserve.ensures.items) c.loop-event.invariant) tt

pub returns-clause-goes : goal.returns-clause-goes
returns-clause-goes g c =
    let all : c.loop-event.event-index ≡ length c.args.events.now = omega arith in
    ran_goes g.KO.Keep.seen g.KS.Keep.seen g.KA.Keep.seen c.args.events.now c.loop-event.event-index
    c.args.outcomes.now.items
    c.loop-event.outcomes.items c.args.self.now c.loop-event.self _ c.loop-event.invariant all

pub returns-in-Err-clause-told : goal.returns-in-Err-clause-told
returns-in-Err-clause-told g c =
    ran_told g.KO.Keep.seen g.KS.Keep.seen g.KA.Keep.seen c.args.events.now c.loop-event.event-index
    c.args.outcomes.now.items c.reserve.new.self.items c.args.self.now c.loop-event.self _
    (subst (λ now. SoFar g.KO.Keep.seen g.KS.Keep.seen g.KA.Keep.seen c.args.events.now c.loop-event.event-index
    c.args.outcomes.now.items
    now c.args.self.now c.loop-event.self) (sym c.reserve.ensures.items) c.loop-event.invariant) tt

pub returns-clause-told : goal.returns-clause-told
returns-clause-told g c =
    let all : c.loop-event.event-index ≡ length c.args.events.now = omega arith in
    ran_told g.KO.Keep.seen g.KS.Keep.seen g.KA.Keep.seen c.args.events.now c.loop-event.event-index
    c.args.outcomes.now.items
    c.loop-event.outcomes.items c.args.self.now c.loop-event.self _ c.loop-event.invariant all
