use Rattle.std.proofs.Common.{◌≡◌, pos, ap, ◌∙◌, to_z, of_z, w64}
use Rattle.std.proofs.lemmas.Int.{to_z_pos, to_z-of_z}
use Rattle.sqlite.specs.Held.{state}
use Rattle.keep_sqlite.proofs.Letters.{behind_none, behind_some}
use Rattle.keep_sqlite.proofs.listing.read_after.Goals as goal

pub returns-in-None-clause-rows : goal.returns-in-None-clause-rows
returns-in-None-clause-rows g c clean =
    behind_none (λ v. v.items) c.read_letters.result ((state g.S.Store c.args.conn.now).now.trees 1) c.args.after.now
    _ c.args.limit (to_z-of_z w64 c.args.limit c.ranges.limit) c.in-None.is (c.read_letters.ensures.rows clean)

pub returns-in-Some-clause-rows : goal.returns-in-Some-clause-rows
returns-in-Some-clause-rows g c clean =
    let place = c.in-Some.place in
    let number : to_z w64 (of_z w64 c.bound_number-number.result) ≡ pos place.number =
    ap (λ z. to_z w64 (of_z w64 z)) c.bound_number-number.ensures.value
    ∙ to_z_pos w64 place.number c.bound_number-number.ensures.small in
    behind_some (λ v. v.items) c.read_letters_after.result ((state g.S.Store c.args.conn.now).now.trees 1)
    c.args.after.now _ c.args.limit (to_z-of_z w64 c.args.limit c.ranges.limit) place _ _ _ c.in-Some.is
    c.text.ensures.text c.text-in-Some.ensures.text number (c.read_letters_after.ensures.rows clean)
