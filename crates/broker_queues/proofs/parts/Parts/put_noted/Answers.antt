use Rattle.std.proofs.lemmas.Result.{err_from_is_err_and}
use Rattle.broker_queues.specs.Parts.Held.{holding_of}
use Rattle.broker_queues.proofs.Acting.{put_acts, put_refused}
use Rattle.broker_queues.proofs.parts.Parts.put_noted.Goals as goal

pub returns-in_err-key : goal.returns-in_err-key
returns-in_err-key c =
    let p = err_from_is_err_and c.from_residual-in_err-key.result c.from_residual-in_err-key.ensures.1 in
    rw (p.1, p.2) (put_refused c.args.full (holding_of c.args.self.now) (holding_of c.put_accepted.new.self)
    c.args.undo_log.now.answers.items c.args.accepted.now.items c.put_accepted.new.accepted.items c.args.sent.now
    c.in_err-key.field-0.0
    c.in_err-key.ensures.0 c.in_err-key.ensures.1)

pub returns : goal.returns
returns c =
    put_acts c.args.full (holding_of c.args.self.now) (holding_of c.put_accepted.new.self)
    c.args.undo_log.now.answers.items
    c.args.accepted.now.items c.put_accepted.new.accepted.items c.args.sent.now c.in_ok-key.ensures
