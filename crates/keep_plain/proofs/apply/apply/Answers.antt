use Rattle.std.proofs.Common.{◌∙◌, ap}
use Rattle.keep.specs.Tables.{changed}
use Rattle.keep_plain.proofs.Made.{same_tables, with_room}
use Rattle.keep_plain.proofs.apply.apply.Goals as goal

pub returns-in-Err-clause-err : goal.returns-in-Err-clause-err
returns-in-Err-clause-err g c = same_tables c.make_all_slots.new.maps c.sweep_all.new.maps c.sweep_all.ensures
    ∙ same_tables _ c.make_all_slots.new.maps c.make_all_slots.ensures.same
    ∙ with_room c.args.maps.now c.reserve.new.self c.reserve.ensures.items

pub returns-clause-ok : goal.returns-clause-ok
returns-clause-ok g c =
    same_tables c.make_all.new.maps c.sweep_all-2.new.maps c.sweep_all-2.ensures ∙ c.make_all.ensures
    ∙ ap (changed c.args.changes.items)
    (same_tables _ c.make_all_slots.new.maps c.make_all_slots.ensures.same
    ∙ with_room c.args.maps.now c.reserve.new.self c.reserve.ensures.items)
