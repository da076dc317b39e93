-- what was gathered is written
use Rattle.std.proofs.Common.{sym, subst}
use Rattle.keep.specs.Steps.{AreSteps}
use Rattle.group_commit.proofs.Writing.{written}
use Rattle.group_commit.proofs.group.take.Goals as goal

pub write-requires-clause-steps : goal.write-requires-clause-steps
write-requires-clause-steps g c = λ clean.
    let told = c.in-Ok.ensures.clean clean in
    subst (AreSteps g.H.State.Parts.follows c.in-Ok.group.changes.items) (sym told.1) told.0.1

pub returns-in-Ok-clause-groups : goal.returns-in-Ok-clause-groups
returns-in-Ok-clause-groups g c =
    (written g.K.Keep.seen g.met.K.Keep.sound g.H.Handler.service g.H.State.Parts.follows
    c.args.envelopes.now c.args.keep.now c.gather.new.keep
    c.write.new.keep c.in-Ok.group c.in-Ok.ensures c.write.result c.write.ensures).0

pub returns-in-Ok-clause-matches : goal.returns-in-Ok-clause-matches
returns-in-Ok-clause-matches g c =
    (written g.K.Keep.seen g.met.K.Keep.sound g.H.Handler.service g.H.State.Parts.follows
    c.args.envelopes.now c.args.keep.now c.gather.new.keep
    c.write.new.keep c.in-Ok.group c.in-Ok.ensures c.write.result c.write.ensures).1
