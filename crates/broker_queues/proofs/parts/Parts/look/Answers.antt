use Rattle.std.proofs.Common.{◌≡◌, ◌∙◌, List, [], ℕ, Option, Some, None, get_or, refl, subst, arith}
use Rattle.std.proofs.lemmas.List.{get_or_default}
use Rattle.broker_index.specs.Index.{Queue, queue_at}
use Rattle.broker_queues.specs.Parts.Choosing.{Looked, pick_of}
use Rattle.broker_queues.specs.Parts.Dealings.{LooksOn, SeeksReady, SeeksTaker}
use Rattle.broker_queues.specs.Parts.Held.{holding_of}
use Rattle.broker_queues.proofs.Looking.{looked_none, looked_with}
use Rattle.broker_queues.proofs.Searching.{seeks_ready, seeks_taker}
use Rattle.broker_queues.proofs.parts.Parts.look.Goals as goal

pub returns-in_default-clause-looks : goal.returns-in_default-clause-looks
returns-in_default-clause-looks c is =
    let name : c.get-name.result.now ≡ get_or c.args.self.now.active.names.items c.args.index [] =
    c.get-name.ensures ∙ c.index.ensures ∙ get_or_default c.args.self.now.active.names.items c.args.index
    c.index.result.now []
    (omega arith) in
    let P : List ℕ → Type 0 = λ d. Looked (holding_of c.args.self.now) d
    (holding_of (record c.args.self.now { destinations = c.set_ready_from.new.self })) None in
    subst P name (looked_none (holding_of c.args.self.now) is c.get-name.result.now
    (queue_at c.set_ready_from.new.self)
    (seeks_ready c.args.self.now.messages c.args.self.now.last c.saturating_add.result c.saturating_add.result
    c.get-name.result.now (queue_at c.args.self.now.destinations) (queue_at c.set_ready_from.new.self) None refl
    c.set_ready_from.ensures c.in_default.ensures))

pub returns-clause-looks : goal.returns-clause-looks
returns-clause-looks c is =
    let name : c.get-name.result.now ≡ get_or c.args.self.now.active.names.items c.args.index [] =
    c.get-name.ensures ∙ c.index.ensures ∙ get_or_default c.args.self.now.active.names.items c.args.index
    c.index.result.now []
    (omega arith) in
    let old : List ℕ → Option Queue = queue_at c.args.self.now.destinations in
    let on : LooksOn old (queue_at c.look_on.new.destinations) c.get-name.result.now c.in-Some.message.number
    c.number_or.result = c.look_on.ensures in
    let one : SeeksReady c.args.self.now.messages c.args.self.now.last c.get-name.result.now old on.between
    (Some c.in-Some.message) =
    seeks_ready c.args.self.now.messages c.args.self.now.last c.in-Some.message.number
    c.in-Some.message.number c.get-name.result.now old on.between (Some c.in-Some.message) refl on.ready
    c.in-Some.ensures in
    let two : SeeksTaker c.args.self.now.subscribers c.args.self.now.given c.get-name.result.now on.between
    (queue_at c.look_on.new.destinations) c.next_taker-taken.result =
    seeks_taker c.args.self.now.subscribers c.args.self.now.given c.next_age-last.result
    c.number_or.result c.get-name.result.now old on.between (queue_at c.look_on.new.destinations)
    c.next_taker-taken.result c.next_age-last.ensures c.number_or.ensures (one.subscribers c.get-name.result.now)
    (one.takers c.get-name.result.now) on.takers c.next_taker-taken.ensures in
    let P : List ℕ → Type 0 = λ d. Looked (holding_of c.args.self.now) d
    (holding_of (record c.args.self.now { destinations = c.look_on.new.destinations }))
    (pick_of c.in-Some.message c.next_taker-taken.result) in
    rw c.pick_of.ensures (subst P name (looked_with (holding_of c.args.self.now) is c.get-name.result.now on.between
    c.in-Some.message one (queue_at c.look_on.new.destinations) c.next_taker-taken.result two))
