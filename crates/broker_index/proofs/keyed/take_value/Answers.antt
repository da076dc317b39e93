use Rattle.std.proofs.Common.{◌≡◌, None, set, sym, ap, ◌∙◌}
use Rattle.broker_index.specs.Slots.{in_order, is_rising}
use Rattle.broker_index.proofs.Sorting.{rising-filter}
use Rattle.broker_index.proofs.Touching.{is_other, in_order-taken, in_order-not_taken}
use Rattle.broker_index.proofs.keyed.take_value.Goals as goal

pub returns-in-Some-clause-taken : goal.returns-in-Some-clause-taken
returns-in-Some-clause-taken g c =
    let found = c.in-Some.ensures.found in
    let is = c.try_remove.ensures.value ∙ found.1 in
    let slots : c.try_remove.new.self.slots ≡ set c.args.slab.now.slots c.in-Some.key None =
    rw is at c.try_remove.ensures.slots in
    ap (in_order g.T.Keyed.number_of) slots
    ∙ in_order-taken g.T.Keyed.number_of c.args.slab.now.slots c.in-Some.key c.args.number found.0 found.1 found.2
    c.requires

pub returns-in-Some-clause-rising : goal.returns-in-Some-clause-rising
returns-in-Some-clause-rising g c =
    ap (is_rising g.T.Keyed.number_of) (returns-in-Some-clause-taken g c)
    ∙ rising-filter g.T.Keyed.number_of (is_other g.T.Keyed.number_of c.args.number)
    (in_order g.T.Keyed.number_of c.args.slab.now.slots)
    c.requires

pub returns-in-None-clause-taken : goal.returns-in-None-clause-taken
returns-in-None-clause-taken g c = sym (in_order-not_taken g.T.Keyed.number_of c.args.slab.now.slots c.args.number
    c.in-None.ensures.absent)
