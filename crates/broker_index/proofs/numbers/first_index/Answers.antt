use Rattle.std.proofs.Common.{◌-◌, arith}
use Rattle.broker_index.proofs.Searches.{before_upto, from_on}
use Rattle.broker_index.proofs.numbers.first_index.Goals as goal
use Rattle.broker_index.proofs.numbers.first_index.Goals.{then-most-eq0-via-then-most-eq0}
use Rattle.broker_index.proofs.numbers.first_index.Goals.{then-most-eq0-via-else-most-eq0+then-index-number}
use Rattle.broker_index.proofs.numbers.first_index.Goals.{then-most-eq1-via-then-most-eq1}
use Rattle.broker_index.proofs.numbers.first_index.Goals.{then-most-eq1-via-else-most-eq1+then-index-number-2}

pub returns-then-most-eq0 : goal.returns-then-most-eq0
returns-then-most-eq0 c = (
  λ k d from upto.
      elim c.then-most-eq0.branch [
        | then-most-eq0-via-then-most-eq0 w ↦ absurd (omega arith)
        | then-most-eq0-via-else-most-eq0+then-index-number w ↦
            before_upto c.args.number c.args.places.now.items (c.most_before-most.result - 1) w.index.result.now
            c.requires (omega arith) w.index.ensures w.if-index-number.true k d from (omega arith)
      ],
  c.most_before-most.ensures.behind,
)

pub returns-then-most-eq1 : goal.returns-then-most-eq1
returns-then-most-eq1 c = (
  λ k d from upto.
      elim c.then-most-eq1.branch [
        | then-most-eq1-via-then-most-eq1 w ↦ absurd (omega arith)
        | then-most-eq1-via-else-most-eq1+then-index-number-2 w ↦
            before_upto c.args.number c.args.places.now.items (c.most_before-most.result - 2) w.index-else-most-eq1.result.now
            c.requires (omega arith) w.index-else-most-eq1.ensures w.if-index-number-2.true k d from (omega arith)
      ],
  from_on c.args.number c.args.places.now.items (c.most_before-most.result - 1) c.index.result.now c.requires
      (omega arith) c.index.ensures c.if-index-number.false,
)
