use Rattle.std.proofs.Common.{◌≡◌, ◌∙◌, arith}
use Rattle.broker_index.specs.Index.{queue_at}
use Rattle.broker_queues.specs.Parts.Held.{holding_of}
use Rattle.broker_queues.specs.Parts.Facts.{queue_of}
use Rattle.broker_queues.proofs.Accepting.{accepts, memory_refused}
use Rattle.broker_queues.proofs.Adding.{told_counts}
use Rattle.broker_queues.proofs.parts.Parts.put.Goals as goal

pub returns-in_err-key : goal.returns-in_err-key
returns-in_err-key c =
    let moves = rw c.seek-told.ensures.same at c.in_err-key.ensures in
    memory_refused c.args.full (holding_of c.args.self.now) c.args.sent.now (holding_of c.store.new.self) c.requires
    moves
    c.from_residual.result c.from_residual.ensures.1

pub store-requires-clause-count : goal.store-requires-clause-count
store-requires-clause-count c =
    let told = rw c.get.ensures at c.seek-told.ensures.told in
    let count : c.told_count.result ≡ (queue_of (queue_at c.args.self.now.destinations) c.args.sent.now.destination).count =
    c.told_count.ensures ∙ told_counts (queue_at c.args.self.now.destinations) c.args.sent.now.destination
    c.seek-told.result told in
    rw c.seek-told.ensures.same (omega (arith, count))

pub store-requires-clause-told : goal.store-requires-clause-told
store-requires-clause-told c = rw c.seek-told.ensures.same (rw c.get.ensures at c.seek-told.ensures.told)

pub returns : goal.returns
returns c =
    let told = rw c.get.ensures at c.seek-told.ensures.told in
    let count : c.told_count.result ≡ (queue_of (queue_at c.args.self.now.destinations) c.args.sent.now.destination).count =
    c.told_count.ensures ∙ told_counts (queue_at c.args.self.now.destinations) c.args.sent.now.destination
    c.seek-told.result told in
    let stores = rw c.seek-told.ensures.same at c.in_ok-key.ensures in
    accepts c.args.full (holding_of c.args.self.now) c.args.sent.now (holding_of c.store.new.self) c.requires
    stores.0 stores.1
    (omega arith) (omega arith)
