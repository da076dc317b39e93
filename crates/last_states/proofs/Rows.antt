-- What is known stays what the rows have. The premises are what the calls ensure; each row is set as in a function that
-- has one row at an entity and is as before elsewhere.
use Rattle.std.proofs.Common.{◌≡◌, true, false, if◌then◌else◌, inl, inr, Option, Some, None, refl, sym, ap, subst, ◌∙◌}
use Rattle.base.specs.Entity.{Entity}
use Rattle.base.specs.Order.{same_entity}
use Rattle.base.proofs.Entities.{same_entity-Decides}
use Rattle.last_states.specs.Known.{Knows, Remembers}

module _ {S : Type 0} where
  -- after `new` and `clear`, whatever the rows are
  pub Knows-none : (new rows : Entity → Option S) → ((e : Entity) → new e ≡ None) → Knows new rows
  Knows-none new rows none e s is = let it : None ≡ Some s = sym (none e) ∙ is in absurd cc

  -- after `touch`
  pub Knows-same : (old new rows : Entity → Option S) → ((e : Entity) → new e ≡ old e) → Knows old rows → Knows new rows
  Knows-same old new rows same knows e s is = knows e s (sym (same e) ∙ is)

  -- after `forget`, whatever row the entity has then
  pub Knows-forgotten : (old new rows : Entity → Option S) (entity : Entity) (row : Option S)
      → ((e : Entity) → new e ≡ (if same_entity entity e then None else old e)) → Knows old rows
      → Knows new (λ x. if same_entity entity x then row else rows x)
  Knows-forgotten old new rows entity row forgotten knows e s is = let it = sym (forgotten e) ∙ is in
      (elim (same_entity entity e) as (λ y. same_entity entity e ≡ y → (if y then row else rows e) ≡ Some s) [
        | true ↦ λ t. let h = rw t at it in absurd cc
        | false ↦ λ t. knows e s (rw t at it)
      ]) refl

  -- after `remember`, where that state is the entity's row then
  pub Knows-remembered : (old new rows : Entity → Option S) (entity : Entity) (state : S)
      → Remembers entity state old new → Knows old rows
      → Knows new (λ x. if same_entity entity x then Some state else rows x)
  Knows-remembered old new rows entity state remembers knows e s is = elim (remembers e s is) [
    | inl it ↦ rw it.0 (ap Some (sym it.1))
    | inr it ↦ rw it.0 (knows e s it.1)
  ]

  -- after `remember`, where that state was the entity's row already
  pub Knows-read : (old new rows : Entity → Option S) (entity : Entity) (state : S) → rows entity ≡ Some state
      → Remembers entity state old new
      → Knows old rows → Knows new rows
  Knows-read old new rows entity state row remembers knows e s is = elim (remembers e s is) [
    | inl it ↦ subst (λ x. rows x ≡ Some s) ((same_entity-Decides entity e).0 it.0) (row ∙ ap Some (sym it.1))
    | inr it ↦ knows e s it.1
  ]
