-- Queues in slots, each under its name, and a map that tells the slot of a name.
use Rattle.std.specs.Prelude.{◌≡◌, ℕ, List, [], ◌∷◌, Option, Some, None, String, slice_index_or}
use Rattle.std.specs.BTreeMap.{BTreeMap, get_by_text}
use Rattle.broker_index.specs.Index.{Queue}
use Rattle.broker_index.specs.declared.destinations.Destination.{Destination}

-- the queues of slots, each with its name
abbrev pub queues_in : List (Option Destination) → List (List ℕ × Queue)
queues_in [] = []
queues_in (None ∷ slots) = queues_in slots
queues_in (Some d ∷ slots) = (d.name, d.queue) ∷ queues_in slots

-- the name of each leads to its slot
abbrev pub AreFound : {Y : Type 0} → List (Option Destination) → BTreeMap (String Y) ℕ → Type 0
AreFound slots keys =
    (key : ℕ) (d : Destination) → slice_index_or slots key None ≡ Some d → get_by_text keys d.name ≡ Some key

-- and each name leads to a slot that has it
abbrev pub AreLed : {Y : Type 0} → List (Option Destination) → BTreeMap (String Y) ℕ → Type 0
AreLed slots keys = (name : List ℕ) (key : ℕ) → get_by_text keys name ≡ Some key
    → (d : Destination) × (slice_index_or slots key None ≡ Some d) × (d.name ≡ name)

-- The map tells the slot of each queue, and nothing else.
pub record IsIndexed {Y : Type 0} (slots : List (Option Destination)) (keys : BTreeMap (String Y) ℕ) : Type 0 where
  pub found : AreFound slots keys
  pub led : AreLed slots keys
