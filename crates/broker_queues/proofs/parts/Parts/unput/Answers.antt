use Rattle.broker_queues.proofs.parts.Parts.unput.Goals as goal

pub returns-clause-begun : goal.returns-clause-begun
returns-clause-begun c start log b later = rw c.saturating_sub-last.ensures (c.take_last.ensures start log b later)
