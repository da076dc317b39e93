use Rattle.std.proofs.Common.{arith}
use Rattle.marks.proofs.Steps.{raises_keep}
use Rattle.marks.proofs.marks.Marks.raise.Goals as goal

pub fetch_max-requires : goal.fetch_max-requires
fetch_max-requires c =
    let words = c.args.self.now.words in
    let known = c.args.self.now.known in
    let within = c.requires.place in
    let one = c.args.seat.now.one in
    (c.requires.seat, omega arith, raises_keep _ _ _ _ _ _ _ (omega arith) (omega arith))
