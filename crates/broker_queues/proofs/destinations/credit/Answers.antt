use Rattle.std.proofs.Common.{◌∙◌, sym, inr}
use Rattle.broker_index.specs.Index.{queue_at}
use Rattle.broker_queues.specs.Parts.Facts.{queue_of}
use Rattle.broker_queues.proofs.Searching.{past, past_still}
use Rattle.broker_queues.proofs.destinations.credit.Goals as goal

pub returns-else-is_awake : goal.returns-else-is_awake
returns-else-is_awake c = record {
  lowers = c.take_from.ensures.lowers;
  counts = c.take_from.ensures.counts;
  wakes = λ d on. on;
  from = c.take_from.ensures.from;
  awake = inr (past_still (queue_at c.args.destinations.now) (queue_at c.take_from.new.destinations) c.args.name.now
      c.args.age c.take_from.ensures (past (queue_of (queue_at c.args.destinations.now) c.args.name.now)
      (sym c.lists_more-is_awake.ensures ∙ c.if-is_awake.false)));
}
