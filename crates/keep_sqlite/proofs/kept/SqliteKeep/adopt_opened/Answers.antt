use Rattle.sqlite.specs.Held.{state}
use Rattle.keep_sqlite.proofs.Abouts.{opened_clean, opened_taken}
use Rattle.keep_sqlite.proofs.kept.SqliteKeep.adopt_opened.Goals as goal

pub returns-in-Ok-clause-found : goal.returns-in-Ok-clause-found
returns-in-Ok-clause-found g c =
    opened_taken g.H.Filed.filing _ _ (state g.S.Store) c.in-Ok.conn c.args.opened c.in-Ok.is c.adopt.result
    c.adopt.ensures.found

pub returns-in-Ok-clause-clean : goal.returns-in-Ok-clause-clean
returns-in-Ok-clause-clean g c =
    opened_clean _ (state g.S.Store) c.in-Ok.conn c.args.opened c.in-Ok.is c.adopt.result c.adopt.ensures.clean
