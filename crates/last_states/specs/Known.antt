-- What is known of entities.
use Rattle.std.specs.Prelude.{◌≡◌, ℕ, true, false, if◌then◌else◌, ◌⊎◌, List, [], ◌∷◌, map, length, Option, Some}
use Rattle.std.specs.Coded.{Coded, coded_option}
use Rattle.std.specs.Map.{lookup}
use Rattle.std.specs.Str.{bytes_eq}
use Rattle.std.specs.String.{string_bytes}
use base.Stored.{Coded-set}
use mathlib.Core.HLevel.{Π_prop}
use Rattle.base.specs.Entity.{Entity, text_of}
use Rattle.base.specs.Order.{same_entity}
use Rattle.last_states.specs.declared.states.LastStates.{LastStates}

-- these texts without this one
abbrev pub without : List ℕ → List (List ℕ) → List (List ℕ)
without text [] = []
without text (other ∷ others) = if bytes_eq text other then others else other ∷ without text others

module _ {S : Type 0} where
  -- what is known of an entity
  abbrev pub known_of : LastStates S → Entity → Option S
  known_of states entity = lookup (λ k. bytes_eq (text_of entity) (string_bytes k)) states.states.entries

  -- of how many entities something is known
  abbrev pub count_of : LastStates S → ℕ
  count_of states = length states.states.entries

  -- the texts of the entities, the last to go first
  abbrev pub order_of : LastStates S → List (List ℕ)
  order_of states = map (λ entry. string_bytes entry.0) states.states.entries

  -- of an entity this state is known or none, and of each other one what was known of it or nothing
  abbrev pub Remembers : Entity → S → (old new : Entity → Option S) → Type 0
  Remembers entity state old new = (e : Entity) (s : S) → new e ≡ Some s
      → ((same_entity entity e ≡ true) × (s ≡ state)) ⊎ ((same_entity entity e ≡ false) × (old e ≡ Some s))

  -- what is known of an entity is its row
  abbrev pub Knows : (known rows : Entity → Option S) → Type 0
  Knows known rows = (e : Entity) (s : S) → known e ≡ Some s → rows e ≡ Some s

  -- where states are equal in one way at most, it is a proposition: so a ghost field may have it
  pub Knows-prop : Coded S → (known rows : Entity → Option S) → IsProp (Knows known rows)
  Knows-prop coded known rows =
      Π_prop (λ e. Π_prop (λ s. Π_prop (λ _. Coded-set (coded_option coded) (rows e) (Some s))))
