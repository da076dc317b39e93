use Rattle.std.proofs.Common.{◌≡◌, ◌∙◌, [], ap, length, refl}
use Rattle.broker_queues.specs.Parts.Held.{holding_of}
use Rattle.broker_queues.proofs.Acting.{applied, grown_cut, unapplied}
use Rattle.broker_queues.proofs.Begun.{begins}
use Rattle.broker_queues.proofs.Swept.{begun_noted, none_same}
use Rattle.broker_queues.proofs.parts.Parts.apply.Goals as goal

pub returns-in-Err-clause-applies : goal.returns-in-Err-clause-applies
returns-in-Err-clause-applies c =
    unapplied c.args.full c.args.session c.args.actions.now (holding_of c.args.self.now) (holding_of c.act_all.new.self)
    (holding_of c.undo.new.self) c.new.result.items c.act_all.new.undo_log.answers.items c.args.accepted.now.items
    c.act_all.new.accepted.items c.truncate.new.self.items c.in-Err.fault c.requires c.new.ensures.items
    c.in-Err.ensures
    (λ b. (c.undo.ensures (holding_of c.args.self.now) b refl).1)
    (c.truncate.ensures.items ∙ grown_cut c.args.accepted.now.items c.act_all.new.accepted.items
    (length c.as_slice-len.result.now) c.in-Err.ensures.grows (ap length c.as_slice-len.ensures.value))

pub returns-in-Err-clause-taken : goal.returns-in-Err-clause-taken
returns-in-Err-clause-taken c none =
    let h = holding_of c.args.self.now in
    let nothing : c.new.result.items ≡ [] = c.new.ensures.items in
    let b = c.in-Err.ensures.begun h (rw nothing (begins h c.requires)) in
    none_same c.args.self.now.messages c.undo.new.self.messages (c.undo.ensures h b refl).0 none

pub returns-clause-applies : goal.returns-clause-applies
returns-clause-applies c =
    applied c.args.full c.args.session c.args.actions.now (holding_of c.args.self.now) (holding_of c.act_all.new.self)
    (holding_of c.sweep_all.new.self) c.new.result.items c.act_all.new.undo_log.answers.items c.args.accepted.now.items
    c.act_all.new.accepted.items c.in_default.ensures c.sweep_all.ensures.sweeps

pub returns-clause-taken : goal.returns-clause-taken
returns-clause-taken c none =
    let h = holding_of c.args.self.now in
    let nothing : c.new.result.items ≡ [] = c.new.ensures.items in
    let b = c.in_default.ensures.begun h (rw nothing (begins h c.requires)) in
    let swept = rw c.deref.ensures.value at c.sweep_all.ensures.taken in
    swept b.sound b.held
    (begun_noted h (holding_of c.act_all.new.self) c.act_all.new.undo_log.answers.items b none)
