use Rattle.std.proofs.Common.{arith}
use Rattle.sqlite_trees.specs.Tree.{Trees}
use Rattle.sqlite.specs.Held.{state}
use Rattle.keep.specs.Tables.{empty}
use Rattle.keep_sqlite.specs.Tables.{tables_of}
use Rattle.keep_sqlite.specs.Law.{seen_of}
use Rattle.keep_files.proofs.Reopenings.{files_by, held_again}
use Rattle.keep_files.proofs.files.FileKeep.into_files.Goals as goal

pub returns-in-Open : goal.returns-in-Open
returns-in-Open g c zero =
    let quiet = rw c.into_conn-conn.ensures.conn at c.into_store.ensures.quiet in
    let into = c.into_files.ensures in
    files_by (λ k. seen_of g.H.Filed.filing (state g.S.Store k.conn) k.is_usable k.failures) empty
    (λ f. f.is_told) (λ f. f.failures) (λ f. f.access) c.args.self c.args.self c.in-Open.keep c.in-Open.is
    (λ left. ∥ ((db : Trees) × g.S.Reopenable.holds c.into_files.result db × left (tables_of g.H.Filed.filing db)) ∥₁)
    (λ none. held_again g.H.Filed.filing _ _ _ quiet.outcomes
    (into.holds zero (c.into_store.ensures.numbered (omega (arith, zero, into.clean)))
    (c.into_store.ensures.sound (omega (arith, zero, into.clean)))))
