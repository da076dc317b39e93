-- Whether the partners of all orders agree, asked of three services.
use Rattle.std.specs.Prelude.{◌≡◌, Bool, true, Result, Ok, Err, IfOk}
use Rattle.keep.specs.Failing.{through}
use Rattle.keep.specs.Seen.{Seen}
use Rattle.endpoint.specs.Faults.{end_fault_number}
use Rattle.endpoint.specs.declared.fault.EndFault.{EndFault}
use Rattle.schedule_audit.specs.Agree.{partners_agree}
use Rattle.schedule_audit.specs.Looks.{Looks}
use Rattle.schedule_audit.specs.declared.fault.AuditFault.{AuditFault}
use Rattle.schedule_audit.specs.declared.fault.AuditFault.TheVariants.{Purchasing, Warehouse, Billing}
use Rattle.laws_stores.specs.Sight.{OrderTables, StockTables, AccountTables, AreClean, AreMatching}
use Rattle.schedule_text.specs.declared.outcome.Outcome.{Outcome}
use Rattle.schedule_text.specs.declared.outcome.Outcome.TheVariants.{Agreement, Refused}
use Rattle.schedule_service.specs.Channels.{After}
use Rattle.schedule_runner.specs.declared.world.World.{World}
use Rattle.schedule_runner.specs.Good.{IsGoodWorld}
use Rattle.schedule_runner.specs.Sight.{sight}

-- what is told of it
abbrev pub agreement_told : Result Bool EndFault → Outcome
agreement_told (Ok agree) = Agreement agree
agreement_told (Err fault) = Refused (end_fault_number fault)

-- the world with these stores in place of its own
abbrev pub with_stores : {KO KS KA : Type 0} → (a b : World KO KS KA) → World KO KS KA
with_stores a b = record a {
  purchasing = record a.purchasing { endpoint = b.purchasing.endpoint };
  warehouse = record a.warehouse { endpoint = b.warehouse.endpoint };
  billing = record a.billing { endpoint = b.billing.endpoint };
}

-- the service at fault cuts its connections where its store failed, and the others and their connections stay
abbrev pub AfterFault : {KO KS KA : Type 0} → AuditFault → (a b : World KO KS KA) → Type 0
AfterFault (Purchasing fault) a b = After {R = Bool} (Err fault) a.purchasing a.mail b.purchasing b.mail
    × (b.warehouse ≡ a.warehouse) × (b.billing ≡ a.billing)
AfterFault (Warehouse fault) a b = After {R = Bool} (Err fault) a.warehouse a.mail b.warehouse b.mail
    × (b.purchasing ≡ a.purchasing) × (b.billing ≡ a.billing)
AfterFault (Billing fault) a b = After {R = Bool} (Err fault) a.billing a.mail b.billing b.mail
    × (b.purchasing ≡ a.purchasing) × (b.warehouse ≡ a.warehouse)

-- the fault, whichever service's it is
abbrev pub fault_of : AuditFault → EndFault
fault_of (Purchasing fault) = fault
fault_of (Warehouse fault) = fault
fault_of (Billing fault) = fault

module _ {KO KS KA : Type 0} (orders : KO → Seen OrderTables) (stocks : KS → Seen StockTables)
    (accounts : KA → Seen AccountTables) where
  -- all three stores were looked at, and tell whether partners agree
  abbrev pub LooksAtAll : Result Bool AuditFault → (a b : World KO KS KA) → Type 0
  LooksAtAll result a b =
      Looks (through orders) (through stocks) (through accounts) (λ x y z agree. agree ≡ partners_agree x y z) result
      a.purchasing.endpoint b.purchasing.endpoint a.warehouse.endpoint b.warehouse.endpoint a.billing.endpoint
      b.billing.endpoint

  -- and nothing but the stores changes
  abbrev pub AsksAll : Result Bool AuditFault → (a b : World KO KS KA) → Type 0
  AsksAll result a b = LooksAtAll result a b × (b ≡ with_stores a b)

  -- what they tell; or a read wasn't done, and its fault is told, behind which its service's connections may be cut
  abbrev pub FindsAgreement : Result Bool EndFault → (a b : World KO KS KA) → Type 0
  FindsAgreement (Ok agree) a b = AsksAll (Ok agree) a b
  FindsAgreement (Err fault) a b =
      (at : AuditFault) × LooksAtAll (Err at) a b × (fault ≡ fault_of at) × AfterFault at (with_stores a b) b

  -- in a good world, whatever became of its stores, an answer is that partners agree
  abbrev pub AgreesWhereGood : Result Bool EndFault → (a b : World KO KS KA) → Type 0
  AgreesWhereGood result a b = AreClean (sight orders stocks accounts b) → AreMatching (sight orders stocks accounts a)
      → IsGoodWorld orders stocks accounts a → IfOk result (λ agree. agree ≡ true)

  -- the outcome that tells it
  abbrev pub TellsAgreement : Outcome → (a b : World KO KS KA) → Type 0
  TellsAgreement o a b = (result : Result Bool EndFault) × FindsAgreement result a b × AgreesWhereGood result a b
      × (o ≡ agreement_told result)
