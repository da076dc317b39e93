use Rattle.std.proofs.Common.{rules, arith}
use Rattle.std.proofs.lemmas.Slice.Zip.{zip_end}
use Rattle.sql_rows.proofs.SameLists.{same_lists}
use Rattle.sql_rows.proofs.same.all_same.Goals as goal

pub returns : goal.returns
returns g c _ =
    let n = zip_end c.args.ones.now c.args.others.now c.loop-one.yielded _ _ c.next.new.self _ (search rules)
    (search rules) c.loop-one.yielded_by c.in-None.is c.next.ensures.steps in
    same_lists c.args.ones.now c.args.others.now c.loop-one.invariant.0
    (λ k low. c.loop-one.invariant.1 k (omega (arith, n)))
