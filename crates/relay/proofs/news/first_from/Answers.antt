use Rattle.std.proofs.Common.{sym, subst, take, ◌+◌}
use Rattle.relay.proofs.Firsts.{Best, too_early, not_first, is_first}
use Rattle.relay.proofs.news.first_from.Goals.{then-is_from+then-is_before, else-is_from}
use Rattle.relay.proofs.news.first_from.Goals.{else-is_from-via-then-is_from+else-is_before}
use Rattle.relay.proofs.news.first_from.Goals.{else-is_from-via-else-is_from}
use Rattle.relay.proofs.news.first_from.Goals as goal

pub loop-row-preserved : goal.loop-row-preserved
loop-row-preserved g c = elim c.if-is_from.branch [
  | then-is_from+then-is_before w ↦
      subst (λ best. Best (λ e. e.now) (take (c.loop-row.row-index + 1) c.args.news.now) c.args.behind.now best)
      (sym w.first-is)
      (is_first (λ e. e.now) c.args.news.now c.loop-row.row-index c.row-item.result c.args.behind.now
      c.loop-row-test.true c.row-item.is
      c.loop-row.first (w.is_before.ensures.less w.if-is_before.true) c.loop-row.invariant)
  | else-is_from w ↦
      subst (λ best. Best (λ e. e.now) (take (c.loop-row.row-index + 1) c.args.news.now) c.args.behind.now best)
      (sym w.first-is)
      (elim w.else-is_from.branch [
        | else-is_from-via-then-is_from+else-is_before v ↦
            not_first (λ e. e.now) c.args.news.now c.loop-row.row-index c.row-item.result c.args.behind.now
            c.loop-row-test.true
            c.row-item.is c.loop-row.first (v.is_before.ensures.not_less v.if-is_before.false) c.loop-row.invariant
        | else-is_from-via-else-is_from v ↦
            too_early (λ e. e.now) c.args.news.now c.loop-row.row-index c.row-item.result c.args.behind.now
            c.loop-row-test.true
            c.row-item.is c.loop-row.first (c.is_from.ensures v.if-is_from.false) c.loop-row.invariant
      ])
]
