use Rattle.std.proofs.Common.{◌≡◌, ◌∙◌, false, IsTrue, arith, sym, subst}
use Rattle.std.specs.List.{AllByRecursion}
use Rattle.sqlite.specs.Effect.{IsDatabase}
use Rattle.sqlite_schema.specs.declared.schema.Table.{Table}
use Rattle.sqlite_trees.specs.Tree.{Trees}
use Rattle.sqlite_trees.specs.View.{IsClean}
use Rattle.sql_rows.specs.Tables.{IsRising}
use Rattle.sql_rows.proofs.RisingRows.{are_rising, if_ok_thrice, open_if_whole}
use Rattle.sql_rows.proofs.sorting.with_sorted_rows.Goals as goal

pub returns-clause-rising : goal.returns-clause-rising
returns-clause-rising g c =
    let store = c.into_store-store.result in
    let v = g.S.Store.view store in
    if_ok_thrice c.over.result c.over.ensures.opens c.over.ensures.clean c.over.ensures.trees
    (λ it opens early trees clean.
    let whole : IsClean v = omega (arith, early, clean) in
    let unbroken : v.is_broken ≡ false = sym (c.is_broken.ensures whole) ∙ c.if-is_broken.false in
    let sound = ((opens clean).1 (opens clean).0.is_open).0 in
    let same = trees clean in
    let rising = are_rising v.trees v.shape v.reals (g.met.S.Store.ordered store unbroken)
    (g.met.S.Alter.listed store unbroken)
    it.schema (subst (λ (t : Trees). IsDatabase (record { schema = it.schema; trees = t })) same sound) in
    subst (λ (t : Trees). AllByRecursion (λ (x : Table). IsRising (t x.tree)) it.schema.tables) (sym same) rising)

pub returns-clause-same : goal.returns-clause-same
returns-clause-same g c =
    let store = c.into_store-store.result in
    let v = g.S.Store.view store in
    if_ok_thrice c.over.result c.over.ensures.opens c.over.ensures.clean c.over.ensures.trees
    (λ it opens early trees clean.
    let whole : IsClean v = omega (arith, early, clean) in
    let unbroken : v.is_broken ≡ false = sym (c.is_broken.ensures whole) ∙ c.if-is_broken.false in
    let live : IsTrue v.is_open = open_if_whole v.is_open v.is_broken (g.met.S.Store.broken_if_shut store) unbroken in
    trees clean ∙ (c.into_store-store.ensures.undone.undone live).0)
