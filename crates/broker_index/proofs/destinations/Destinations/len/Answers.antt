use Rattle.std.proofs.Common.{length, sym, ap, ◌∙◌}
use Rattle.broker_index.proofs.Named.{names_length}
use Rattle.broker_index.proofs.destinations.Destinations.len.Goals as goal

pub returns : goal.returns
returns c = c.len.ensures ∙ sym (names_length c.self.inside.slab.slots) ∙ ap length c.self.view_is
