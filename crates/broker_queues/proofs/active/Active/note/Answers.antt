use Rattle.std.proofs.Common.{◌≡◌, Some, true, is_ok, option_map, sym, ◌∙◌}
use Rattle.broker_index.specs.Index.{Queue, queue_at}
use Rattle.broker_queues.proofs.Returning.{noted_name, told_name}
use Rattle.broker_queues.proofs.active.Active.note.Goals as goal

pub returns-in-Ok-Some-clause-awake : goal.returns-in-Ok-Some-clause-awake
returns-in-Ok-Some-clause-awake c noted =
    let pushed : is_ok c.push.result ≡ true = sym c.is_ok.ensures.value ∙ noted in
    let q = queue_at c.args.destinations.now c.args.name.now in
    let told : Some c.in-Ok-Some.shared ≡ option_map (λ (q : Queue). c.args.name.now) q =
    cc (c.in-Ok-Some.field-0-is, c.in-Ok-Some.ensures) in
    rw (c.push.ensures.items, pushed) (noted_name c.args.self.now.all c.args.self.now.names.items c.in-Ok-Some.shared
    c.args.name.now
    (told_name q c.in-Ok-Some.shared c.args.name.now told))
