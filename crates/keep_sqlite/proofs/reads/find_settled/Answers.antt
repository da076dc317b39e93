use Rattle.sqlite.specs.Held.{state}
use Rattle.sqlite.specs.State.{HasCleanDisk}
use Rattle.keep_sqlite.proofs.Clean.{clean_before}
use Rattle.keep_sqlite.proofs.Through.{through}
use Rattle.keep_sqlite.proofs.Reading.{settled_is}
use Rattle.keep_sqlite.proofs.reads.find_settled.Goals as goal

pub returns-clause-mark : goal.returns-clause-mark
returns-clause-mark g c clean =
    let old = state g.S.Store c.args.conn.now in
    let early : HasCleanDisk old = clean_before _ _ c.read_marks-rows.ensures.clean clean in
    let ready = c.requires.ready early in
    through _ _ _ c.read_marks-rows.result c.mark_of.result
    (rw (c.text.ensures.text, c.text-2.ensures.text) at (c.read_marks-rows.ensures.rows clean)) c.mark_of.ensures
    (λ rows n told mark. settled_is g.H.Filed.filing c.args._count old.now ready.filed
    (c.schema.ensures.live ready.is_open).0 c.args.pair.now _ rows.items n told mark)

pub returns-clause-open : goal.returns-clause-open
returns-clause-open g c clean =
    through _ _ _ c.read_marks-rows.result c.mark_of.result (c.read_marks-rows.ensures.open clean) c.mark_of.ensures
    (λ rows n live mark. live)
