-- What deeds of three services take in, and where they lead.
use Rattle.std.specs.Prelude.{◌≡◌, ◌⊎◌, ⊤}
use Rattle.envelope.specs.declared.message.Envelope.{Envelope}
use Rattle.envelope.specs.declared.message.Envelope.TheVariants.{Letter, Settle}
use Rattle.activities.specs.Service.{Service}
use Rattle.laws_journals.specs.Growth.{IsFrom}
use Rattle.keep.specs.Tables.{Tables}
use Rattle.endpoint.specs.Deeds.{kept, Deed, Nothing, TakesIn, Holds, Settles, Did}
use Rattle.laws_stores.specs.Good.{IsHeldIn}
use Rattle.laws_stores.specs.Sight.{AllTables, Sight, MayLeave, orders_service, stocks_service, accounts_service}

-- what a deed takes in, holds or settles has this property; a command needs none
abbrev pub DeedIs : {C : Type 0} → (Envelope → Type 0) → Deed C → Type 0
DeedIs P Nothing = ⊤
DeedIs P (TakesIn row) = IsFrom P row.entity row.input
DeedIs P (Holds l) = P (Letter l)
DeedIs P (Settles p n) = P (Settle p n)

-- a deed leads from tables to these, and what it takes in, holds or settles is known or was held
pub record FoundedDeed {S C : Type 0} (service : Service S C) (known : Envelope → Type 0) (x y : Tables S C)
    : Type 0 where
  pub deed : Deed C
  pub founded : DeedIs (λ e. known e ⊎ IsHeldIn x.held e) deed
  pub did : Did service (kept x) deed (kept y)

-- one of three services does so, and the tables of the other two stay as they are
pub data DeedOfOne (known : Envelope → Type 0) (x y : AllTables) : Type 0 where
  OfPurchasing : FoundedDeed orders_service known x.purchasing y.purchasing → y.warehouse ≡ x.warehouse
      → y.billing ≡ x.billing
      → DeedOfOne known x y
  OfWarehouse : FoundedDeed stocks_service known x.warehouse y.warehouse → y.purchasing ≡ x.purchasing
      → y.billing ≡ x.billing
      → DeedOfOne known x y
  OfBilling : FoundedDeed accounts_service known x.billing y.billing → y.purchasing ≡ x.purchasing
      → y.warehouse ≡ x.warehouse
      → DeedOfOne known x y

-- what a stop may leave now comes so of what it might leave before
abbrev pub ComesOf : (AllTables → AllTables → Type 0) → (old new : Sight) → Type 0
ComesOf Leads old new = (y : AllTables) → MayLeave new y → ∥ ((x : AllTables) × MayLeave old x × Leads x y) ∥₁
