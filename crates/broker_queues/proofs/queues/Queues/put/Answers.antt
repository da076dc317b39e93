use Rattle.std.proofs.Common.{◌+◌, ◌++◌, ◌∷◌, [], refl}
use Rattle.broker_queues.specs.Parts.Whole.{new_kept}
use Rattle.broker_queues.proofs.Swept.{none_pushed, none_same}
use Rattle.broker_queues.proofs.queues.Queues.put.Goals as goal

pub invariant_of-self-2 : goal.invariant_of-self-2
invariant_of-self-2 g c =
    let old = c.self.inside.parts in
    let new = new_kept (old.last + 1) c.args.sent.now in
    record {
      sound = c.in_ok-put_accepted.ensures.sound;
      none_gone =
          none_same (old.messages ++ new ∷ []) c.put_accepted.new.self.messages c.in_ok-put_accepted.ensures.puts.kept
          (none_pushed new refl old.messages c.self.invariant.none_gone);
    }
