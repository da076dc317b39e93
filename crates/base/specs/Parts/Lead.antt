-- How an entity's text begins, as one word of memory.
use Rattle.std.specs.Prelude.{ℕ, ◌∷◌, slice_index}
use Rattle.std.specs.Int.{w64, from_be_bytes}
use Rattle.base.specs.Entity.{Entity, word_of}

-- the first octet of the kind's word and the first seven of the key as one number: the first is the highest, and 0
-- stands for what a key lacks
unfoldable pub lead_of : Entity → ℕ
lead_of e = from_be_bytes w64 (slice_index (word_of e.kind) 0 ∷ e.key)
