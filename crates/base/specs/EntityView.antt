-- An entity without where its text lies in memory.
use Rattle.std.specs.Prelude.{◌≡◌, drop, length}
use Rattle.std.specs.String.{string_bytes}
use Rattle.base.specs.declared.entity.Entity.TheInside.{Inside}
use Rattle.base.specs.Entity.{Entity, prefix_of, text_of, IsEntity}
use Rattle.base.specs.Parts.Lead.{lead_of}

-- the kind, and as key what follows the kind's prefix in the text
abbrev pub entity_of : Inside → Entity
entity_of e = record { kind = e.kind; key = drop (length (prefix_of e.kind)) (string_bytes e.text) }

-- the text is that of the entity, its key is a key, and the lead is that of the entity
pub record IsWhole (e : Inside) : Type 0 where
  pub text : string_bytes e.text ≡ text_of (entity_of e)
  pub entity : IsEntity (entity_of e)
  pub lead : e.lead ≡ lead_of (entity_of e)
