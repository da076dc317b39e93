use Rattle.std.proofs.Common.{◌≡◌, ℕ, ap₂, ◌∙◌, subst, nat_cmp}
use Rattle.std.specs.Str.{IsUtf8}
use Rattle.std.proofs.lemmas.Str.{IsUtf8-string_bytes}
use Rattle.base.specs.Entity.{Entity}
use Rattle.base.specs.EntityView.{entity_of}
use Rattle.base.specs.Order.{entity_cmp}
use Rattle.base.proofs.Leads.{lead_of-decides}
use Rattle.base.proofs.entity.EntityOrd.cmp.Goals as goal

-- the leads differ, and so they order the entities
pub returns-in_default : goal.returns-in_default
returns-in_default c =
    subst (λ (a : Entity). c.cmp.result ≡ entity_cmp a c.args.other.now) c.self.view_is
    (subst (λ (b : Entity). c.cmp.result ≡ entity_cmp (entity_of c.self.inside) b) c.other.view_is
    (lead_of-decides (entity_of c.self.inside) (entity_of c.other.inside) c.cmp.result
    (subst IsUtf8 c.self.invariant.text (IsUtf8-string_bytes c.self.inside.text))
    (subst IsUtf8 c.other.invariant.text (IsUtf8-string_bytes c.other.inside.text))
    (c.cmp.ensures ∙ ap₂ (λ (x y : ℕ). nat_cmp x y) c.self.invariant.lead c.other.invariant.lead)
    c.in_default.not-Equal))
