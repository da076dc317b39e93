use Rattle.std.proofs.Common.{arith}
use Rattle.marks.proofs.Steps.{reads_keep}
use Rattle.marks.proofs.marks.Marks.read.Goals as goal

pub load-requires : goal.load-requires
load-requires c =
    let words = c.args.self.now.words in
    let within = c.requires.place in
    let one = c.args.seat.now.one in
    (c.requires.seat, omega arith, reads_keep _ _ _ _ _ _ (omega arith))
