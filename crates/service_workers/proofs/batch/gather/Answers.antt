use Rattle.std.proofs.Common.{◌∷◌, [], sym, subst}
use Rattle.told_lock.specs.Rule.{Every}
use Rattle.told_lock.proofs.Views.{every_both}
use Rattle.service_workers.specs.Batches.{all_of}
use Rattle.service_workers.specs.Reads.{Came}
use Rattle.service_workers.proofs.Batching.{one_more}
use Rattle.service_workers.proofs.batch.gather.Goals as goal

pub loop-preserved : goal.loop-preserved
loop-preserved g c =
    let P = Came g.L.Link.put_gives g.L.Link.take_gives g.N.Naming.given in
    let put = c.put-is_open-in-loop.ensures in
    record {
      is_open = put.open;
      carried = put.carried;
      all = one_more (λ s. s.arrival) _ _ _ c.loop.invariant.all.0 c.in-Some.slip _ _ _ c.loop.invariant.all.1
          c.in-Some.ensures.taken c.loop.invariant.all.2 put.all;
      came = λ s. subst (Every P) (sym put.all)
          (every_both P (all_of c.loop.batch.arrivals.items c.loop.batch.last) (c.in-Some.slip.arrival ∷ [])
          (c.loop.invariant.came s) (put.came s, tt));
    }
