-- How the states and commands of a service stand in its file.
use Rattle.std.specs.Prelude.{◌≡◌, ℕ, nat_le, true, List, [], drop, Option, None}
use Rattle.std.specs.List.{AllByRecursion}
use Rattle.sqlite_trees.specs.Tree.{Trees}
use Rattle.sqlite_schema.specs.declared.schema.Schema.{Schema}
use Rattle.sqlite_schema.specs.declared.schema.Table.{Table}
use Rattle.base.specs.Entity.{Entity}
use Rattle.sql_rows.specs.Schema.{IsService}
use Rattle.sql_rows.specs.Schema as sql

-- the tables that a service has beside the five that all have
abbrev pub own_tables : Schema → List Table
own_tables schema = drop 5 schema.tables

-- the rows of a service's own tables are the same
abbrev pub KeepsOwn : Schema → Trees → Trees → Type 0
KeepsOwn schema old new = AllByRecursion (λ (t : Table). new t.tree ≡ old t.tree) (own_tables schema)

-- the tables of a service, which state its own rows have of an entity, and the command whose body a text is
pub record Filing (S C : Type 0) : Type 0 where
  pub schema : Schema
  pub entity : Trees → Entity → Option S
  pub command : List ℕ → Option C
  pub is_service : IsService schema
  -- its own rows stand behind those of the common tables, and tell alone which states there are
  pub apart : AllByRecursion (λ (t : Table). nat_le 9 t.tree ≡ true) (own_tables schema)
  pub depends : (old new : Trees) → KeepsOwn schema old new → entity new ≡ entity old
  -- where these have no rows, there are none
  pub nothing : (db : Trees) → AllByRecursion (λ (t : Table). db t.tree ≡ []) (sql.own_tables is_service.service)
      → (e : Entity) → entity db e ≡ None
