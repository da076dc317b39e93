use Rattle.std.proofs.Common.{◌∙◌, sym}
use Rattle.schedule_mail.proofs.Places.{place_in, place_past}
use Rattle.schedule_mail.proofs.accepted.find.Goals as goal

pub returns-then-index-len : goal.returns-then-index-len
returns-then-index-len c =
    sym (c.loop-list.invariant ∙ place_in (λ list. list.items) c.args.lists.now c.loop-list.list-index
    c.loop-list.index c.len-len.result c.list-item.result c.loop-list-test.true c.list-item.is
    (c.len-len.ensures ∙ c.list-item.result.ok.0)
    c.index.result.now
    c.if-index-len.true c.index.ensures)

pub loop-list-preserved : goal.loop-list-preserved
loop-list-preserved c = c.loop-list.invariant ∙ place_past (λ list. list.items) c.args.lists.now c.loop-list.list-index
    c.loop-list.index c.len-len.result c.list-item.result c.loop-list-test.true c.list-item.is
    (c.len-len.ensures ∙ c.list-item.result.ok.0)
    c.if-index-len.false
