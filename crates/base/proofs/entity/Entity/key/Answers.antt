use Rattle.std.proofs.Common.{◌∙◌}
use Rattle.base.proofs.Texts.{cut_after_prefix}
use Rattle.base.proofs.entity.Entity.key.Goals as goal

pub range_from-requires : goal.range_from-requires
range_from-requires c =
    cut_after_prefix c.self.inside.kind c.deref.result.now c.prefix-start.result.now c.prefix-start.ensures _
    (c.deref.ensures ∙ c.self.invariant.text) c.deref.utf8
