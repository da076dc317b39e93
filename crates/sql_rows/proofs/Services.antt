-- What holds of each service holds of every schema that is one's.
use Rattle.std.proofs.Common.{◌≡◌, List, [], ◌++◌, drop, ℕ, Bool, true, false, length, ◌==◌, None, refl, sym, subst}
use Rattle.sqlite.specs.Order.{Row}
use Rattle.sqlite.specs.Schema.{Schema}
use Rattle.sqlite.specs.Listing.{understood}
use Rattle.sqlite.proofs.Callers.{IsPlain}
use Rattle.sqlite_rules.specs.Action.{works, deed_for}
use Rattle.sqlite_schema.specs.declared.schema.Keys.{Keys}
use Rattle.sqlite_schema.specs.declared.schema.Keys.TheVariants.{Enforced, Deferred, Off}
use Rattle.sql_rows.specs.Schema.{IsService, schema_of, common_tables, refers_to}
use Rattle.sql_rows.specs.declared.service.Service.{Service}
use Rattle.sql_rows.specs.declared.service.Service.TheVariants.{Purchasing, Warehouse, Billing}

-- a text that is plain over each service's schema is plain over the schema of any
pub plain_in : (sql : List ℕ) → ((service : Service) → IsPlain (understood (schema_of service) sql))
    → (schema : Schema) → IsService schema → IsPlain (understood schema sql)
plain_in sql plain schema it = subst (λ s. IsPlain (understood s sql)) (sym it.is) (plain it.service)

-- a text that is plain over a schema is plain over an equal one
pub plain_at : {known : Schema} (sql : List ℕ) → IsPlain (understood known sql) → (schema : Schema) → schema ≡ known
    → IsPlain (understood schema sql)
plain_at sql plain schema is = subst (λ s. IsPlain (understood s sql)) (sym is) plain

-- the tables of every service come first
pub common_first : (schema : Schema) → IsService schema → schema.tables ≡ common_tables ++ drop 5 schema.tables
common_first schema it = subst (λ (s : Schema). s.tables ≡ common_tables ++ drop 5 s.tables) (sym it.is)
    (of_each it.service)
  where
    of_each : (service : Service) → (schema_of service).tables ≡ common_tables ++ drop 5 (schema_of service).tables
    of_each Purchasing = refl
    of_each Warehouse = refl
    of_each Billing = refl

-- a reference with no action sets off nothing
none_due : (parent : List ℕ) (deletes : Bool) (keys : Keys) → deed_for keys deletes (refers_to parent) ≡ None
none_due parent true Enforced = refl
none_due parent true Deferred = refl
none_due parent true Off = refl
none_due parent false Enforced = refl
none_due parent false Deferred = refl
none_due parent false Off = refl

pub idle : (service : Service) (tree : ℕ) (keys : Keys) (olds news : List Row)
    → works (schema_of service) keys 0 tree olds news ≡ []
idle Purchasing tree keys olds news = rw (none_due _ (length news == 0) keys) refl
idle Warehouse tree keys olds news = rw (none_due _ (length news == 0) keys) refl
idle Billing tree keys olds news = rw (none_due _ (length news == 0) keys) refl
