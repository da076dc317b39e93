use Rattle.std.proofs.Common.{None, ap, arith, ◌∙◌}
use Rattle.std.specs.Option.{unwrap_or}
use Rattle.std.proofs.lemmas.Grind.{common_steps}
use Rattle.keep_plain.proofs.WrittenBack.{same_slot}
use Rattle.keep_plain.proofs.slots.make_slot.Goals as goal

pub returns-clause-same : goal.returns-clause-same
returns-clause-same g c = λ q.
    let h = same_slot g.met.K.Ord.total c.args.map.now c.args.key q c.or_insert.result.now _
    (c.or_insert.ensures.value ∙ ap (λ o. unwrap_or o None) c.in_ok-map.ensures.value)
    ((c.in_ok-map.ensures.update.0 c.or_insert.result.now).0 q) in
    grind (arith, common_steps, h)
