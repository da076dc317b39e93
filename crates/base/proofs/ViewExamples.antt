-- Examples: the entity that a kind and a text in memory are.
use Rattle.std.proofs.Common.{◌≡◌, ℕ, get_or, true, false, refl, ap, arith}
use Rattle.std.specs.Prelude.{codes}
use Rattle.std.specs.Str.{is_utf8, chars}
use Rattle.std.specs.String.{string_bytes}
use Rattle.base.specs.declared.entity.Entity.TheInside.{Inside}
use Rattle.base.specs.declared.entity.Kind.TheVariants.{Order}
use Rattle.base.specs.Entity.{order_of}
use Rattle.base.specs.EntityView.{entity_of, IsWhole}
use Rattle.base.specs.Parts.Lead.{lead_of}

-- the kind Order with the text `order/o1` and the octets `oo1` with zeros behind is the order of `o1`
an_order_is_whole : (e : Inside) → e.kind ≡ Order → string_bytes e.text ≡ codes "order/o1"
    → e.lead ≡ 0x6f6f_3100_0000_0000
    → (entity_of e ≡ order_of (codes "o1")) × IsWhole e
unfolding is_utf8 chars lib.Utf8.encode lead_of
an_order_is_whole e kind text lead = (
  rw (kind, text) refl,
  record {
    text = rw (kind, text) refl;
    entity = rw (kind, text) refl;
    lead = rw (kind, text, lead) refl;
  },
)

-- with the text of a stock it's no entity
a_kind_fits_its_text : (e : Inside) → e.kind ≡ Order → string_bytes e.text ≡ codes "stock/o1" → IsWhole e → ⊥
a_kind_fits_its_text e kind text whole = apart (ap (λ t. get_or t 0 0) (rw (kind, text) at whole.text))
  where
    apart : ◌≡◌ {A = ℕ} 115 111 → ⊥
    apart first = omega arith

-- and neither with a text that ends behind the slash
a_key_is_never_empty : (e : Inside) → e.kind ≡ Order → string_bytes e.text ≡ codes "order/" → IsWhole e → ⊥
a_key_is_never_empty e kind text whole = let is : false ≡ true = rw (kind, text) at whole.entity in cc

-- with the lead of no entity it's none either
a_lead_fits_its_text : (e : Inside) → e.kind ≡ Order → string_bytes e.text ≡ codes "order/o1" → e.lead ≡ 0 → IsWhole e
    → ⊥
unfolding lead_of
a_lead_fits_its_text e kind text lead whole = apart (rw (kind, text, lead) at whole.lead)
  where
    apart : ◌≡◌ {A = ℕ} 0 0x6f6f_3100_0000_0000 → ⊥
    apart same = omega arith
