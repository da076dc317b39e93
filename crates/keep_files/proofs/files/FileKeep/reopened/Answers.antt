use Rattle.std.proofs.Common.{arith}
use Rattle.sqlite.specs.Held.{state}
use Rattle.keep.specs.Tables.{empty}
use Rattle.keep_sqlite.specs.Law.{seen_of}
use Rattle.keep_files.proofs.Reopenings.{found_again, on_ok, reopens_by, small_doubt}
use Rattle.keep_files.proofs.files.FileKeep.reopened.Goals as goal

pub returns-in-Open : goal.returns-in-Open
returns-in-Open g c =
    let k = c.in-Open.keep in
    let quiet = rw c.into_conn-conn.ensures.conn at c.into_store.ensures.quiet in
    let into = c.into_files-files.ensures in
    let e = c.opened.ensures in
    reopens_by (λ k. seen_of g.H.Filed.filing (state g.S.Store k.conn) k.is_usable k.failures) empty
    (λ f. f.is_told) (λ f. f.failures) (λ f. f.access) c.args.self c.opened.result.0 k c.in-Open.is c.opened.result.1
    e.usable (rw c.into_conn-conn.ensures.failures at e.counted) e.armed
    (small_doubt (state g.S.Store k.conn).is_clean)
    (on_ok c.opened.result.1 e.doubted e.doubted (λ d _ told. omega (arith, d told, quiet.clean, into.clean)))
    e.told e.closed
    (on_ok c.opened.result.1 e.doubted e.tables (λ d t told none.
    found_again g.H.Filed.filing _ _ _ _ quiet.outcomes (t none)
    (into.holds (omega (arith, d told, none)) (c.into_store.ensures.numbered (omega (arith, d told, none, into.clean)))
    (c.into_store.ensures.sound (omega (arith, d told, none, into.clean))))))
