use Rattle.sqlite.specs.Held.{state}
use Rattle.sqlite.specs.State.{HasCleanDisk}
use Rattle.keep_sqlite.specs.Parts.{with_sent, with_letter}
use Rattle.keep_sqlite.proofs.Clean.{clean_before}
use Rattle.keep_sqlite.proofs.Changes.{both_made}
use Rattle.keep_sqlite.proofs.writes.write_sent.Goals as goal

pub returns-clause-ok : goal.returns-clause-ok
returns-clause-ok g c clean =
    let old = state g.S.Store c.args.tx.now.conn.now in
    let mid = state g.S.Store c.put_sent.new.tx.conn.now in
    let new = state g.S.Store c.put_letter.new.tx.conn.now in
    let between : HasCleanDisk mid = clean_before _ _ c.put_letter.ensures.survives.clean clean in
    both_made g.H.Filed.filing old mid new (with_sent c.args.letter.now.pair c.args.letter.now.number) (with_letter
    c.args.letter.now) _ c.put_letter.result (c.in_ok-count.ensures.ok between) (c.put_letter.ensures.ok clean)
