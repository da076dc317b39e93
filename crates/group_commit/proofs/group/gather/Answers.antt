-- each exit by its lemma
use Rattle.group_commit.proofs.Gathering.{gathered, last_step, ended_step, lost_step, more_so_far}
use Rattle.group_commit.proofs.group.gather.Goals as goal

pub returns : goal.returns
returns g c = gathered g.K.Keep.seen g.H.Handler.service g.H.State.Parts.follows
    c.args.keep.now c.args.envelopes.now c.loop-at.keep
    c.loop-at.group c.loop-at.rows c.loop-at.at c.loop-at.invariant

pub returns-in_default : goal.returns-in_default
returns-in_default g c = last_step g.K.Keep.seen g.H.Handler.service g.H.State.Parts.follows
    c.args.keep.now c.args.envelopes.now c.loop-at.keep
    c.loop-at.group c.loop-at.rows c.loop-at.at c.loop-at.invariant
    c.plan.new.keep c.index-envelopes-at.result c.in-Ok.found (rw c.deref.ensures.value at c.in-Ok.ensures)

pub returns-in-Err : goal.returns-in-Err
returns-in-Err g c = rw c.ended.ensures (ended_step g.K.Keep.seen g.H.Handler.service g.H.State.Parts.follows
    c.args.keep.now c.args.envelopes.now c.loop-at.keep
    c.loop-at.group c.loop-at.rows c.loop-at.at c.loop-at.invariant
    c.plan.new.keep c.index-envelopes-at.result c.in-Err.fault c.in-Err.ensures)

pub returns-in-Err-add : goal.returns-in-Err-add
returns-in-Err-add g c = lost_step g.K.Keep.seen g.H.Handler.service g.H.State.Parts.follows
    c.args.keep.now c.args.envelopes.now c.loop-at.keep
    c.loop-at.group c.loop-at.rows c.loop-at.at c.loop-at.invariant
    c.plan.new.keep c.index-envelopes-at.result c.in-Ok.found (rw c.deref.ensures.value at c.in-Ok.ensures)

pub loop-at-preserved : goal.loop-at-preserved
loop-at-preserved g c = more_so_far g.K.Keep.seen g.H.Handler.service g.H.State.Parts.follows
    c.args.keep.now c.args.envelopes.now c.loop-at.keep
    c.loop-at.group c.loop-at.rows c.loop-at.at c.loop-at.invariant
    c.plan.new.keep c.index-envelopes-at.result c.in-Ok.found c.in-Some.step c.add.new.self c.rows_behind-rows.result
    c.in-Some.is c.loop-at-test.true c.index-envelopes-at.is (rw c.deref.ensures.value at c.in-Ok.ensures) c.rows_behind-rows.ensures
    c.in-Ok-add.ensures.0 c.in-Ok-add.ensures.1
