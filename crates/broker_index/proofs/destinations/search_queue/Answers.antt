use Rattle.std.proofs.Common.{sym, ap, ◌∙◌}
use Rattle.std.specs.BTreeMap.{get_by_text}
use Rattle.broker_index.proofs.Named.{misled}
use Rattle.broker_index.proofs.destinations.search_queue.Goals as goal

pub returns-in-Some-clause-found : goal.returns-in-Some-clause-found
returns-in-Some-clause-found c =
    c.requires.led c.args.name.now c.in-Some.key.now
    (ap (λ n. get_by_text c.args.keys.now n) (sym c.as_str.ensures) ∙ sym c.in-Some.ensures.value)

pub returns-in-None-clause-absent : goal.returns-in-None-clause-absent
returns-in-None-clause-absent c =
    misled c.args.slab.now c.args.keys.now c.requires.found c.args.name.now
    (ap (λ n. get_by_text c.args.keys.now n) (sym c.as_str.ensures) ∙ sym c.in-None.ensures.value)
