use Rattle.std.proofs.Common.{arith}
use Rattle.broker_index.proofs.Searches.{before_upto, from_on}
use Rattle.broker_index.proofs.numbers.search.Goals as goal

pub loop-low-preserved-then-index-number : goal.loop-low-preserved-then-index-number
loop-low-preserved-then-index-number c = record {
  order = omega arith;
  bound = c.loop-low.invariant.bound;
  before = before_upto c.args.number c.args.places.now.items _ c.index.result.now c.requires.rising (omega arith)
      c.index.ensures c.if-index-number.true;
  behind = c.loop-low.invariant.behind;
}

pub loop-low-preserved : goal.loop-low-preserved
loop-low-preserved c = record {
  order = omega arith;
  bound = omega arith;
  before = c.loop-low.invariant.before;
  behind = from_on c.args.number c.args.places.now.items _ c.index.result.now c.requires.rising (omega arith)
      c.index.ensures c.if-index-number.false;
}
