use Rattle.std.proofs.Common.{◌≡◌, ◌∙◌, Some, ap, arith, length, take}
use Rattle.std.proofs.lemmas.List.{take_all}
use Rattle.std.proofs.lemmas.Result.{err_from_is_err_and}
use Rattle.broker_index.specs.Index.{Subscriber}
use Rattle.broker_index.specs.declared.places.Entry.{Entry}
use Rattle.broker_queues.specs.Parts.Held.{holding_of}
use Rattle.broker_queues.proofs.Noting.{noted_entry, noted_less, noted_none}
use Rattle.broker_queues.proofs.parts.Parts.note_all.Goals as goal

-- what a read past the end gives
nothing : Entry
nothing = record { ack = 0; number = 0; key = 0 }

pub returns-in_err-note_one : goal.returns-in_err-note_one
returns-in_err-note_one c =
    let p = err_from_is_err_and c.from_residual.result c.from_residual.ensures.1 in
    rw p.1 (λ s sits. noted_less (holding_of c.args.self.now) s c.args.answered
    (take c.loop-entry.entry-index s.entries)
    c.args.log.now.items c.note_one.new.log.items (rw c.in_err-note_one.ensures (c.loop-entry.invariant s sits)))

pub loop-entry-init : goal.loop-entry-init
loop-entry-init c s sits = noted_none (holding_of c.args.self.now) s c.args.answered c.args.log.now.items

pub loop-entry-preserved : goal.loop-entry-preserved
unfolding nothing
loop-entry-preserved c s sits =
    noted_entry (holding_of c.args.self.now) c.args.place.number s c.in-Some.subscriber.now c.args.answered
    c.entries-entry-items.result.now c.subscription.result.now c.loop-entry.entry-index nothing c.args.log.now.items
    c.loop-entry.log.items c.note_one.new.log.items sits c.in-Some.ensures c.entries-entry-items.ensures
    c.subscription.ensures
    c.loop-entry-test.true (c.loop-entry.invariant s sits) c.in_ok-note_one.ensures

pub returns : goal.returns
returns c s sits =
    let both : Some c.in-Some.subscriber.now ≡ Some s = c.in-Some.ensures ∙ sits in
    let it : c.in-Some.subscriber.now ≡ s = cc in
    let same : length c.entries-entry-items.result.now ≡ length s.entries =
    ap length (c.entries-entry-items.ensures ∙ ap (λ (v : Subscriber). v.entries) it) in
    let all : take c.loop-entry.entry-index s.entries ≡ s.entries =
    take_all c.loop-entry.entry-index s.entries (omega (arith, same, c.loop-entry-test.false)) in
    rw all at (c.loop-entry.invariant s sits)
