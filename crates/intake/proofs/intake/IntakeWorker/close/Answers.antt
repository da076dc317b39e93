use Rattle.std.proofs.Common.{◌∙◌}
use Rattle.crossbeam_channel.specs.Claims.{view}
use Rattle.intake.proofs.Moves.{merges, compares, ends}
use Rattle.intake.proofs.intake.IntakeWorker.close.Goals as goal

pub absorb-requires-clause-rule : goal.absorb-requires-clause-rule
absorb-requires-clause-rule g c = merges _ _ _ _

pub absorb-requires-2-clause-rule : goal.absorb-requires-2-clause-rule
absorb-requires-2-clause-rule g c = merges _ _ _ _

pub learn_as-requires-clause-rule : goal.learn_as-requires-clause-rule
learn_as-requires-clause-rule g c = compares _ _

pub returns : goal.returns
returns g c =
    let worker = c.args.self in
    let zero = c.args.zero in
    let one = c.args.one in
    let learned = c.learn_as.ensures.rule in
    let both = ends 0 1 worker.counts.zero worker.counts.one (view worker.key) (view zero.key) (view one.key)
    (view c.absorb.new.pass) (view c.absorb-2.new.pass) worker.mine.1 worker.mine.2
    (zero.mine.1, zero.mine.2 ∙ c.requires.numbers.0) (one.mine.1, one.mine.2 ∙ c.requires.numbers.1)
    worker.counted.zero worker.counted.one c.absorb.ensures.rule c.absorb-2.ensures.rule learned.0 learned.1 in
    record { zero = both.0; one = both.1 }
