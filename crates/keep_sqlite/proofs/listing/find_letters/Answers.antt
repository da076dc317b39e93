use Rattle.std.proofs.Common.{◌≡◌, ◌≤◌, ◌^◌, arith, sym, subst, w64, MatchOption}
use Rattle.std.proofs.lemmas.Int.{to_z-of_z}
use Rattle.sqlite.specs.Held.{state}
use Rattle.sqlite.specs.State.{HasCleanDisk}
use Rattle.sqlite.specs.declared.types.Value.TheVariants.{Int}
use Rattle.sqlite_sql.specs.Query.{as_count}
use Rattle.keep_sqlite.proofs.Clean.{clean_before}
use Rattle.keep_sqlite.proofs.Letters.{letters_are}
use Rattle.keep_sqlite.proofs.listing.find_letters.Goals as goal

pub returns-clause-letters : goal.returns-clause-letters
returns-clause-letters g c clean =
    let old = state g.S.Store c.args.conn.now in
    let early : HasCleanDisk old = clean_before _ _ c.read_after.ensures.clean clean in
    let ready = c.requires.ready early in
    letters_are g.H.Filed.filing c.args._count old.now ready.filed (c.schema.ensures.live ready.is_open).0
    (λ v. v.items) c.letters_at.result c.args.after.now c.args.limit _
    (subst (λ z. MatchOption (as_count (Int z)) (2 ^ 63 ≤ c.args.limit) (λ most. most ≡ c.args.limit))
    (sym (to_z-of_z w64 c.bound_limit.result c.bound_limit.ensures.fits)) c.bound_limit.ensures.limit)
    c.in_ok-rows.rows.items (omega (arith, c.in_ok-rows.rows.ok, c.in_ok-rows.rows.small))
    (c.in_ok-rows.ensures.rows clean) (rw c.as_slice.ensures.value at c.letters_at.ensures)
