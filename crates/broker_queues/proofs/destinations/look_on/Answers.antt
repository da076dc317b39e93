use Rattle.std.proofs.Common.{sym, ◌∙◌}
use Rattle.std.specs.Prelude.{◌==◌}
use Rattle.std.proofs.lemmas.Bool.{and_parts, eqb-true}
use Rattle.broker_index.specs.Index.{queue_at}
use Rattle.broker_queues.specs.Parts.Facts.{queue_of}
use Rattle.broker_queues.proofs.Searching.{looks_there, takes_there}
use Rattle.broker_queues.proofs.destinations.look_on.Goals as goal

pub returns-then-looks_on : goal.returns-then-looks_on
returns-then-looks_on c =
    let queues = queue_at c.args.destinations.now in
    let q = queue_of queues c.args.name.now in
    let parts = and_parts (q.ready_from == c.args.ready) (q.taker_from == c.args.taker)
    (sym c.looks_on.ensures ∙ c.if-looks_on.true) in
    record {
      between = queues;
      ready = looks_there c.args.name.now queues c.args.ready (eqb-true q.ready_from c.args.ready parts.0);
      takers = takes_there c.args.name.now queues c.args.taker (eqb-true q.taker_from c.args.taker parts.1);
    }

pub returns : goal.returns
returns c = record {
  between = queue_at c.set_ready_from.new.self;
  ready = c.set_ready_from.ensures;
  takers = c.set_taker_from.ensures;
}
