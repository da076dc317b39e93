use Rattle.std.proofs.Common.{ap, arith}
use Rattle.marks.proofs.Sharing.{deals_keep}
use Rattle.marks.proofs.marks.Marks.deal.Goals as goal

pub split_seat-seat-requires : goal.split_seat-seat-requires
split_seat-seat-requires c =
    let i = c.loop-left.invariant in
    let words = c.args.self.now.words in
    let some = c.args.self.now.some in
    let parts = ap (λ m. m.0.parts) i.1 in
    let two = c.loop-left-test.true in
    (i.0, omega arith, deals_keep _ _ _ _ (omega arith))
