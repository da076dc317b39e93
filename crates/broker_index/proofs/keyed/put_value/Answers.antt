use Rattle.std.proofs.Common.{ap, ◌∙◌}
use Rattle.broker_index.specs.Slots.{in_order, is_rising}
use Rattle.broker_index.proofs.Sorting.{rising-push}
use Rattle.broker_index.proofs.Slots.{in_order-more}
use Rattle.broker_index.proofs.keyed.put_value.Goals as goal

pub returns-clause-ok : goal.returns-clause-ok
returns-clause-ok g c =
    let e = c.in_ok-key.ensures in
    in_order-more g.T.Keyed.number_of c.args.slab.now.slots c.insert.new.self.slots c.in_ok-key.key c.args.value
    e.was_vacant
    e.updates.changed e.updates.others c.requires.below

pub returns-clause-rising : goal.returns-clause-rising
returns-clause-rising g c =
    ap (is_rising g.T.Keyed.number_of) (returns-clause-ok g c)
    ∙ rising-push g.T.Keyed.number_of c.args.value (in_order g.T.Keyed.number_of c.args.slab.now.slots)
    c.requires.rising c.requires.below
