use Rattle.std.proofs.Common.{◌≡◌, ap, rules}
use Rattle.sqlite.specs.Held.{state}
use Rattle.sqlite.specs.State.{HasCleanDisk}
use Rattle.keep_sqlite.proofs.Clean.{clean_before}
use Rattle.keep_sqlite.proofs.NewFiles.{founded, founded_may, shown_of}
use Rattle.keep_sqlite.proofs.founding.found.Goals as goal

pub returns-in-Ok-clause-ready : goal.returns-in-Ok-clause-ready
returns-in-Ok-clause-ready g c =
    let staged = state g.S.Store c.create_tables.new.tx.conn.now in
    let same : c.conn-1.given.0 ≡ c.commit.new.self.0 = search rules in
    rw same (λ clean.
    let sent : HasCleanDisk staged = clean_before _ _ c.commit.ensures.survives.clean clean in
    founded g.H.Filed.filing c.service.result c.service.ensures _ staged (state g.S.Store c.commit.new.self.0)
    c.commit.result (c.in-Ok.ensures.ok sent) (shown_of _ _ _ _ c.commit.result (c.commit.ensures.ok clean)))

pub returns-in-Ok-clause-crash : goal.returns-in-Ok-clause-crash
returns-in-Ok-clause-crash g c =
    let staged = state g.S.Store c.create_tables.new.tx.conn.now in
    let same : c.conn-1.given.0 ≡ c.commit.new.self.0 = search rules in
    rw same (founded_may g.H.Filed.filing c.service.result c.service.ensures _ staged (state g.S.Store c.commit.new.self.0)
    (state g.S.Store c.args.conn.now) (ap (state g.S.Store) c.transaction-tx.ensures.begun) c.in-Ok.ensures.ok
    c.create_tables.ensures.survives c.commit.ensures.survives)
