use Rattle.std.proofs.Common.{◌≡◌, Some, None, ap, refl, sym, ◌∙◌}
use Rattle.broker_index.specs.Index.{queue_at}
use Rattle.broker_queues.specs.Parts.Held.{holding_of}
use Rattle.broker_queues.specs.Parts.Storing.{is_gone}
use Rattle.broker_queues.proofs.Sweeping.{between, gone_none, leaves_others, purged, taken_away, taken_first, taken_then}
use Rattle.broker_queues.proofs.parts.Parts.purge.Goals as goal

pub returns-clause-sweeps : goal.returns-clause-sweeps
returns-clause-sweeps c is =
    let gone : c.in-Some.stored.now.fate ≡ None =
    gone_none c.in-Some.stored.now.fate (ap is_gone (sym c.standing.ensures) ∙ sym c.is_gone.ensures
    ∙ c.if-not-is_gone.false) in
    let before = queue_at c.args.self.now.destinations in
    let name = c.get-2.result.now.destination in
    purged (holding_of c.args.self.now) _ is c.args.number c.in-Some.stored.now (between before name c.args.number)
    name (sym c.in-Some.ensures) gone (taken_first before name c.args.number)
    (taken_then before (queue_at c.take_number.new.self) name c.args.number c.take_number.ensures) c.remove.ensures
    refl refl refl refl refl

pub returns-clause-taken : goal.returns-clause-taken
returns-clause-taken c k is there none =
    let both : Some c.in-Some.stored.now ≡ Some k = c.in-Some.ensures ∙ there in
    let one : c.in-Some.stored.now ≡ k = cc in
    let own : c.get-2.result.now.destination ≡ k.sent.destination = cc in
    let before = queue_at c.args.self.now.destinations in
    let name = c.get-2.result.now.destination in
    taken_away (holding_of c.args.self.now) _ is c.args.number k (between before name c.args.number)
    name there none (taken_first before name c.args.number)
    (taken_then before (queue_at c.take_number.new.self) name c.args.number c.take_number.ensures) own c.remove.ensures
    refl refl refl refl refl

pub returns-clause-rest : goal.returns-clause-rest
returns-clause-rest c is = leaves_others (holding_of c.args.self.now) _ c.args.number c.remove.ensures refl
