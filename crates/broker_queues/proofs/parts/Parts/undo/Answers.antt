use Rattle.broker_queues.specs.Parts.Held.{holding_of}
use Rattle.broker_queues.proofs.Acting.{undone_kept, undone_tidies}
use Rattle.broker_queues.proofs.parts.Parts.undo.Goals as goal

pub returns : goal.returns
returns c start b is =
    let out = c.unput_all.ensures start c.args.undo_log.now.answers.items b is in
    let back = c.put_back_all.ensures start out.0 out.1 in (
      undone_kept start (holding_of c.put_back_all.new.self) back.0 back.1,
      undone_tidies start (holding_of c.put_back_all.new.self) back.0 back.1,
    )
