-- What three services may do. Of the broker between them one thing is asked: what a service takes in was written.
use Rattle.std.specs.Prelude.{◌≡◌, ◌⊎◌, ◌≤◌, List, [], ◌∷◌, Ok, Contains, ⊤}
use Rattle.base.specs.declared.limits.TheConstants.{HELD_WINDOW}
use Rattle.envelope.specs.declared.message.Envelope.{Envelope}
use Rattle.envelope.specs.declared.message.Letter.{Letter}
use Rattle.activities.specs.Service.{Service}
use Rattle.keep.specs.Seen.{Seen}
use Rattle.keep.specs.Tables.{Tables}
use Rattle.endpoint.specs.Arrivals.{DidAllowed, IngestMay}
use Rattle.endpoint.specs.Calls.{StillMatches}
use Rattle.endpoint.specs.Deeds.{Kept, kept, Deed}
use Rattle.endpoint.specs.Matches.{AllMatch}
use Rattle.endpoint.specs.declared.answer.Ingested.{Ingested}
use Rattle.laws_stores.specs.Deeds.{DeedIs}
use Rattle.laws_stores.specs.Good.{IsHeldIn}
use Rattle.laws_stores.specs.Sight.{OrderTables, StockTables, AccountTables}
use Rattle.laws_stores.specs.Sight.{orders_service, stocks_service, accounts_service}
use Rattle.laws_stores.specs.Writing.{IsTrueIn}
use Rattle.laws_services.specs.Services.{Traffic, Services}

-- what a deed takes in, holds or settles was written before, or is a letter that was held
abbrev pub IsFounded : {C : Type 0} → List Envelope → Kept C → Deed C → Type 0
IsFounded written x d = DeedIs (λ e. Contains written e ⊎ IsHeldIn x.held e) d

module _ {S C : Type 0} (service : Service S C) where
  -- deeds lead from a content through these to the last, one after another, each allowed where it's done
  abbrev pub DidEach : (Kept C → Deed C → Type 0) → Tables S C → List (Tables S C) → Tables S C → Type 0
  DidEach allowed x [] y = y ≡ x
  DidEach allowed x (next ∷ through) y =
      DidAllowed HELD_WINDOW service (allowed (kept x)) (kept x) (kept next) × DidEach allowed next through y

  -- one of the deeds through these contents is allowed where it's done
  abbrev pub DidSome : (Kept C → Deed C → Type 0) → Tables S C → List (Tables S C) → Type 0
  DidSome allowed x [] = ⊥
  DidSome allowed x (next ∷ through) =
      DidAllowed HELD_WINDOW service (allowed (kept x)) (kept x) (kept next) ⊎ DidSome allowed next through

  -- A content after a call comes of one before it by deeds that are allowed: a call does one or none, and a group one
  -- for each envelope that it takes in.
  pub record CameByDeeds (allowed : Kept C → Deed C → Type 0) (old : Tables S C → Type 0) (now : Tables S C) : Type 0
    where
      pub before : Tables S C
      pub through : List (Tables S C)
      pub was : old before
      pub did : DidEach allowed before through now

module _ {E S C : Type 0} (seen : E → Seen (Tables S C)) (service : Service S C) where
  -- While no file is in doubt, where all that a stop might leave before a call matched its journal, this holds of each
  -- content that a stop may leave behind it.
  abbrev pub HoldsOfEach : (old new : E) → (Tables S C → Type 0) → Type 0
  HoldsOfEach old new P =
      (seen new).doubt ≡ 0 → AllMatch service (seen old).may_leave → (t : Tables S C) → (seen new).may_leave t → P t

  -- One call. Doubt never falls. Each content that a stop may leave then comes of one before by deeds that are allowed,
  -- and where all matched their journals, all match again.
  pub record Does (allowed : Kept C → Deed C → Type 0) (old new : E) : Type 0 where
    pub doubt : (seen old).doubt ≤ (seen new).doubt
    pub comes : HoldsOfEach old new (λ t. ∥ CameByDeeds service allowed (seen old).may_leave t ∥₁)
    pub matches : StillMatches seen old new service

  -- a letter is given to the service, and the answer is an `Ok`: it is handled, was handled before, or is held; other
  -- deeds may be done before it and behind it
  abbrev pub TakesLetter : Letter → (old new : E) → Type 0
  TakesLetter l old new = HoldsOfEach old new (λ t. ∥ ((c : CameByDeeds service (λ x d. ⊤) (seen old).may_leave t)
      × DidSome service (λ x d. (answer : Ingested) × IngestMay service l (Ok answer) x d) c.before c.through) ∥₁)

  -- an envelope is true by the journal, in each content that a stop may leave behind the call
  abbrev pub MayWrite : (old new : E) → Envelope → Type 0
  MayWrite old new e = HoldsOfEach old new (λ t. IsTrueIn service.reactions t.journal e)

  -- One call of one service: it takes in what was written, or was held; what is written then was written before, or is
  -- true; and a letter that was taken then was taken before, or is by this call.
  pub record ServiceStep (old new : E) (from to : Traffic) : Type 0 where
    pub does : Does (IsFounded from.written) old new
    pub writes : (e : Envelope) → Contains to.written e → Contains from.written e ⊎ MayWrite old new e
    pub takes : (l : Letter) → Contains to.taken l → Contains from.taken l ⊎ TakesLetter l old new

module _ {KO KS KA : Type 0} (orders : KO → Seen OrderTables) (stocks : KS → Seen StockTables)
    (accounts : KA → Seen AccountTables) where
  -- one of three services does so, and the stores of the other two stay as they are
  pub data StepOfOne (a b : Services KO KS KA) : Type 0 where
    AtPurchasing : ServiceStep orders orders_service a.purchasing b.purchasing a.traffic b.traffic
        → b.warehouse ≡ a.warehouse → b.billing ≡ a.billing → StepOfOne a b
    AtWarehouse : ServiceStep stocks stocks_service a.warehouse b.warehouse a.traffic b.traffic
        → b.purchasing ≡ a.purchasing → b.billing ≡ a.billing → StepOfOne a b
    AtBilling : ServiceStep accounts accounts_service a.billing b.billing a.traffic b.traffic
        → b.purchasing ≡ a.purchasing → b.warehouse ≡ a.warehouse → StepOfOne a b

  -- one step after another leads through these to the last
  abbrev pub IsPathOfSteps : Services KO KS KA → List (Services KO KS KA) → Services KO KS KA → Type 0
  IsPathOfSteps a [] b = b ≡ a
  IsPathOfSteps a (next ∷ path) b = StepOfOne a next × IsPathOfSteps next path b
