use Rattle.std.proofs.Common.{length, sym, ap, ◌∙◌}
use Rattle.broker_index.specs.Index.{Kept}
use Rattle.broker_index.proofs.Slots.{length-in_order}
use Rattle.broker_index.proofs.messages.Messages.len.Goals as goal

pub returns : goal.returns
returns c =
    c.len.ensures ∙ sym (length-in_order (λ (k : Kept). k.number) c.self.inside.slab.slots) ∙ ap length c.self.view_is
