use Rattle.std.proofs.Common.{arith}
use Rattle.broker_index.proofs.Searches.{before_upto, from_on}
use Rattle.broker_index.proofs.numbers.bounds.Goals as goal
use Rattle.broker_index.proofs.numbers.bounds.Goals.{then-loop-high-test+else-index-number, else-loop-high-test}

pub loop-high-preserved : goal.loop-high-preserved
loop-high-preserved c = record {
  positive = omega arith;
  order = omega arith;
  bound = omega arith;
  before = λ k d from upto.
      before_upto c.args.number c.args.places.now.items c.loop-high.high c.index.result.now c.requires.rising
      (omega arith) c.index.ensures c.if-index-number.true k d from (omega arith);
}

pub returns-clause-behind : goal.returns-clause-behind
returns-clause-behind c = λ k d from upto.
    elim c.loop-high-test.branch [
      | then-loop-high-test+else-index-number w ↦
          from_on c.args.number c.args.places.now.items c.loop-high.high w.index.result.now c.requires.rising
          (omega arith) w.index.ensures w.if-index-number.false k d (omega arith) upto
      | else-loop-high-test w ↦ c.requires.behind k d (omega arith) upto
    ]
