use Rattle.std.proofs.Common.{arith}
use Rattle.broker_index.proofs.Searches.{from_first}
use Rattle.broker_index.proofs.numbers.most_before.Goals as goal

pub returns-in-Some-clause-behind : goal.returns-in-Some-clause-behind
returns-in-Some-clause-behind c = λ k d from upto.
    from_first c.args.number c.args.places.now.items c.in-Some.first.now c.saturating_sub.result c.requires
    c.in-Some.ensures.lookup (omega arith) k d (omega arith) upto
