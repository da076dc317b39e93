use Rattle.std.proofs.Common.{◌≡◌, drop}
use Rattle.std.specs.Prelude.{Ok}
use Rattle.broker_book.specs.Steps.{apply_of, then_all}
use Rattle.broker_queues.specs.Parts.Begun.{Grows, IsBegun}
use Rattle.broker_queues.specs.Parts.Held.{holding_of}
use Rattle.broker_queues.specs.Parts.Whole.{Holding, IsSound, book_of}
use Rattle.broker_queues.proofs.parts.Parts.act_all.Given as goal

abbrev pub invariant-loop-action : goal.invariant-loop-action
invariant-loop-action l = record {
  sound : IsSound (holding_of l.self);
  begun : (start : Holding) → IsBegun start l.initial.undo_log.answers.items (holding_of l.initial.self)
      → IsBegun start l.undo_log.answers.items (holding_of l.self);
  left : then_all l.full l.session (drop l.action-index l.actions) (Ok (book_of (holding_of l.self) l.accepted.items))
      ≡ apply_of l.full l.session (book_of (holding_of l.initial.self) l.initial.accepted.items) l.actions;
  grows : Grows l.initial.accepted.items l.accepted.items;
}
