use Rattle.std.proofs.Common.{◌≡◌, ◌<◌, ◌∙◌, ap, length, take, arith}
use Rattle.std.proofs.lemmas.List.{take_all}
use Rattle.broker_queues.specs.Parts.Fates.{back, counts_in}
use Rattle.broker_queues.specs.Parts.Held.{entries_of, holding_of}
use Rattle.broker_queues.proofs.Turning.{turns_none, uncovered}
use Rattle.broker_queues.proofs.parts.Parts.answer.Goals as goal

pub loop-index-init : goal.loop-index-init
loop-index-init c s is sits =
    c.next_covered-index.ensures.passes (holding_of c.args.self.now) s c.args.again is
    (turns_none (holding_of c.args.self.now) c.args.age s (back c.args.again)
    (counts_in s.subscription c.args.answered)
    (uncovered s.subscription c.args.answered c.args.again) is sits)

pub loop-index-preserved : goal.loop-index-preserved
loop-index-preserved c s is sits =
    let len : c.entries_len-len.result ≡ length s.entries =
    c.entries_len-len.ensures ∙ ap (λ o. length (entries_of o)) sits in
    let short : c.loop-index.index < length s.entries = omega (arith, len, c.loop-index-test.true) in
    c.next_covered-index-in-loop-index.ensures.passes (holding_of c.args.self.now) s c.args.again is
    (c.answer_one.ensures (holding_of c.args.self.now) s is short (c.loop-index.invariant s is sits))

pub returns : goal.returns
returns c s is sits =
    let len : c.entries_len-len.result ≡ length s.entries =
    c.entries_len-len.ensures ∙ ap (λ o. length (entries_of o)) sits in
    let all : take c.loop-index.index s.entries ≡ s.entries =
    take_all c.loop-index.index s.entries (omega (arith, len, c.loop-index-test.false)) in
    let t = c.loop-index.invariant s is sits in
    rw all at t
