use Rattle.keep_plain.proofs.Index.{result_drains}
use Rattle.keep_plain.proofs.arrivals.Arrivals.first_drainable.Goals as goal

pub returns : goal.returns
returns c = let a =
    c.args.self.now in result_drains a.handled a.held a.drainable a.indexed c.first_filled.result c.first_filled.ensures
