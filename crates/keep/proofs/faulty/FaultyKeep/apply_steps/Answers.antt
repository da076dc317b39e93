-- the store inside is asked, and then the call fails
use Rattle.std.proofs.Common.{Some, refl, sym, ap, ◌∙◌}
use Rattle.keep.specs.Tables.{changed, ArePlaced}
use Rattle.keep.specs.Failing.{Failing}
use Rattle.keep.proofs.Faults.{write_hidden}
use Rattle.keep.proofs.faulty.FaultyKeep.apply_steps.Goals as goal

pub returns-in-Some-New : goal.returns-in-Some-New
returns-in-Some-New g c =
    let s = c.self-in-Some-New.inside in
    let mid : Failing g.row.K.Denot =
    record { keep = s.keep; armed = s.armed; is_down = s.is_down; failures = s.failures } in
    write_hidden g.K.Keep.seen c.args.self.now c.fail-in-Some-New.new.self mid
    (record mid { keep = c.apply_steps-in-Some-New.new.self })
    (g.met.K.Keep.sound c.apply_steps-in-Some-New.new.self)
    c.requires.usable (c.self-in-Some-New.view_is ∙ c.strike.ensures.armed) c.fail-in-Some-New.ensures.counted
    c.fail-in-Some-New.ensures.more refl
    refl (ArePlaced c.args.changes.items) (changed c.args.changes.items) c.fail-in-Some-New.result
    c.apply_steps-in-Some-New.result (sym c.in-Some-New.ensures.due ∙ ap Some c.in-Some-New.field-0-is)
    c.fail-in-Some-New.ensures.failed
    c.apply_steps-in-Some-New.ensures
