use Rattle.std.proofs.Common.{◌∙◌, length, sym, ap, subst, arith}
use Rattle.std.specs.Vec.Iter.{into_iter_items}
use Rattle.std.specs.List.{AllByRecursion}
use Rattle.keep.specs.Tables.{changed}
use Rattle.keep_plain.specs.Maps.{tables_in}
use Rattle.keep_plain.specs.Ready.{IsReady}
use Rattle.keep_plain.proofs.Made.{all_kept}
use Rattle.keep_plain.proofs.apply.make_all.Goals as goal

pub loop-change-preserved : goal.loop-change-preserved
loop-change-preserved g c =
    let inv = c.loop-change.invariant in
    let next = c.in-Some.ensures.steps.0 in
    let rest = into_iter_items c.next.new.self in
    let old = c.loop-change.maps in
    let new = c.make_change-left.new.maps in
    let room = inv.room in
    let long = ap length next in
    let kept = c.make_change-left.ensures.room in
    let grown = c.make_change-left.ensures.len in
    record {
      made = ap (changed rest) c.make_change-left.ensures.made ∙ sym (ap (λ cs. changed cs (tables_in old)) next)
          ∙ inv.made;
      ready = all_kept old new c.make_change-left.ensures.keeps rest (subst (AllByRecursion (IsReady old)) next
          inv.ready).1;
      room = omega (arith, room, long, kept, grown);
    }
