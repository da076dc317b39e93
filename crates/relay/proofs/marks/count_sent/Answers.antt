use Rattle.relay.specs.Marks.{mark_in}
use Rattle.relay.proofs.Knowing.{counted_sent, is_low}
use Rattle.relay.proofs.marks.count_sent.Goals as goal

pub loop-letter-preserved : goal.loop-letter-preserved
loop-letter-preserved c =
    counted_sent (mark_in c.args.marks.now) c.args.letters.now c.loop-letter.count c.loop-letter.letter-index
    c.letter-item.result
    c.loop-letter-test.true c.letter-item.is
    (is_low c.find.result c.get.result _ _ c.find.ensures c.get.ensures.value c.if-find-get.false)
    c.loop-letter.invariant.0
    c.loop-letter.invariant.1
