use Rattle.std.proofs.Common.{sym}
use Rattle.sqlite.specs.Held.{state}
use Rattle.keep_sqlite.proofs.kept.SqliteKeep.keep_state.Goals as goal

pub invariant_of-self-clause-known : goal.invariant_of-self-clause-known
invariant_of-self-clause-known g c clean live = c.remember_row.ensures
    (g.H.Filed.filing.entity (state g.S.Store c.args.self.now.conn).now.trees) (sym (c.requires clean))
    (c.args.self.now.known clean live)
