use Rattle.std.proofs.Common.{◌≡◌, ap, arith, subst, ◌∙◌}
use Rattle.sqlite.specs.Held.{state}
use Rattle.sqlite.specs.State.{State, HasCleanDisk}
use Rattle.sqlite_trees.specs.View.{doubt}
use Rattle.keep_sqlite.specs.Law.{seen_of}
use Rattle.keep_sqlite.specs.Tables.{tables_of}
use Rattle.keep_files.proofs.Reopenings.{open_counts, open_shows}
use Rattle.keep_files.proofs.files.FileKeep.opened.Goals as goal

pub returns-in-Ok-resume-clause-counted : goal.returns-in-Ok-resume-clause-counted
returns-in-Ok-resume-clause-counted g c =
    let k = c.with_failures.result in
    open_counts c.args.is_told (seen_of g.H.Filed.filing (state g.S.Store k.conn) k.is_usable k.failures) c.args.failures
    c.with_failures.ensures.failures

pub returns-in-Ok-resume-clause-tables : goal.returns-in-Ok-resume-clause-tables
returns-in-Ok-resume-clause-tables g c none db held =
    let f = g.H.Filed.filing in
    let k = c.with_failures.result in
    let found = state g.S.Store c.in-Ok.conn in
    let kept = state g.S.Store c.in-Ok-resume.keep.conn in
    let same : state g.S.Store k.conn ≡ kept = ap (state g.S.Store) c.with_failures.ensures.conn in
    open_shows c.args.is_told (seen_of f (state g.S.Store k.conn) k.is_usable k.failures) (tables_of f db)
    (λ clean.
    let here : HasCleanDisk kept = subst HasCleanDisk same clean in
    let there : HasCleanDisk found = omega (arith, here, c.in-Ok-resume.ensures.clean) in
    ap (λ (s : State). tables_of f s.now.trees) same
    ∙ ap (tables_of f) (c.in-Ok-resume.ensures.tables here ∙ c.in-Ok.ensures.holds there db held))
    none

pub returns-in-Ok-resume-clause-doubted : goal.returns-in-Ok-resume-clause-doubted
returns-in-Ok-resume-clause-doubted g c told =
    let same = ap (λ h. doubt (state g.S.Store h).is_clean) c.with_failures.ensures.conn in
    rw told (omega (arith, same, c.in-Ok.ensures.clean, c.in-Ok-resume.ensures.clean))
