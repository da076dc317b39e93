-- What looking at three stores does to them.
use Rattle.std.specs.Prelude.{◌≡◌, ◌⊎◌, true, Result, Ok, Err, ⊤}
use Rattle.keep.specs.Law.{Reads}
use Rattle.keep.specs.Seen.{Seen}
use Rattle.endpoint.specs.Faults.{end_cause}
use Rattle.endpoint.specs.declared.fault.EndFault.{EndFault}
use Rattle.laws_stores.specs.Sight.{OrderTables, StockTables, AccountTables}
use Rattle.schedule_audit.specs.declared.fault.AuditFault.{AuditFault}
use Rattle.schedule_audit.specs.declared.fault.AuditFault.TheVariants.{Purchasing, Warehouse, Billing}

-- These may be taken for a store's tables: those that it has, while it is usable. One that isn't usable answers
-- nothing, so that any may.
abbrev pub StandsFor : {E T : Type 0} → (E → Seen T) → E → T → Type 0
StandsFor seen store t = (seen store).usable ≡ true → t ≡ (seen store).tables

module _ {E T : Type 0} (seen : E → Seen T) (old new : E) where
  -- the store wasn't asked, or was read, and stays as it is
  abbrev pub Rests : Type 0
  Rests = (new ≡ old) ⊎ Reads seen old new {R = Unit {0}} {F = EndFault} (λ _ _. ⊤) (Ok tt)

  -- a read of the store wasn't done
  abbrev pub FailsToRead : EndFault → Type 0
  FailsToRead fault = Reads seen old new {R = Unit {0}} {F = EndFault} (λ _ _. ⊤) (Err (end_cause fault))

module _ {KS KA : Type 0} (stocks : KS → Seen StockTables) (accounts : KA → Seen AccountTables) where
  -- What is read at warehouse and billing: it is what their tables give while no file is in doubt, whatever stands for
  -- those of a store that isn't usable. Where a read isn't done it tells at which service, and the other stays.
  abbrev pub LooksAtPartners : {R : Type 0} → (StockTables → AccountTables → R → Type 0) → Result R AuditFault
      → (s t : KS) (a b : KA) → Type 0
  LooksAtPartners gives (Ok r) s t a b = Rests stocks s t × Rests accounts a b
      × ((stocks t).doubt ≡ 0 → (accounts b).doubt ≡ 0 → (y : StockTables) (z : AccountTables) → StandsFor stocks s y
      → StandsFor accounts a z → gives y z r)
  LooksAtPartners gives (Err (Purchasing fault)) s t a b = ⊥
  LooksAtPartners gives (Err (Warehouse fault)) s t a b = FailsToRead stocks s t fault × Rests accounts a b
  LooksAtPartners gives (Err (Billing fault)) s t a b = Rests stocks s t × FailsToRead accounts a b fault

module _ {KO KS KA : Type 0} (orders : KO → Seen OrderTables) (stocks : KS → Seen StockTables)
    (accounts : KA → Seen AccountTables) where
  -- what is read at all three
  abbrev pub Looks : {R : Type 0} → (OrderTables → StockTables → AccountTables → R → Type 0) → Result R AuditFault
      → (o p : KO) (s t : KS) (a b : KA) → Type 0
  Looks gives (Ok r) o p s t a b = Rests orders o p × Rests stocks s t × Rests accounts a b
      × ((orders p).doubt ≡ 0 → (stocks t).doubt ≡ 0 → (accounts b).doubt ≡ 0
      → (x : OrderTables) (y : StockTables) (z : AccountTables) → StandsFor orders o x → StandsFor stocks s y
      → StandsFor accounts a z
      → gives x y z r)
  Looks gives (Err (Purchasing fault)) o p s t a b = FailsToRead orders o p fault × Rests stocks s t
      × Rests accounts a b
  Looks gives (Err (Warehouse fault)) o p s t a b = Rests orders o p × FailsToRead stocks s t fault × Rests accounts a b
  Looks gives (Err (Billing fault)) o p s t a b = Rests orders o p × Rests stocks s t × FailsToRead accounts a b fault
