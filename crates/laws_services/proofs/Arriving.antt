-- A letter that was taken is there for good: handled, or held.
use Rattle.std.proofs.Common.{◌≡◌, ℕ, ◌<◌, ◌⊎◌, inl, inr, sym, subst, arith, Ok, IsSome, List, [], ◌∷◌, length}
use Rattle.std.specs.Prelude.{⊤}
use Rattle.std.proofs.Props.{props}
use Rattle.base.specs.declared.entity.Kind.{Kind}
use Rattle.base.specs.declared.entity.Kind.TheVariants.{Order, Stock, Account}
use Rattle.base.specs.declared.pair.Pair.{Pair}
use Rattle.envelope.specs.declared.message.Letter.{Letter}
use Rattle.activities.specs.Journal.{AreOf}
use Rattle.activities.specs.Service.{Service}
use Rattle.activities.proofs.Legal.{are_of-more}
use Rattle.activities.proofs.Sameness.{either}
use Rattle.keep.specs.Tables.{Tables}
use Rattle.endpoint.specs.Arrivals.{IngestMay}
use Rattle.endpoint.specs.Deeds.{Kept, kept, Deed, Nothing, TakesIn, Holds, Settles, Did}
use Rattle.endpoint.specs.declared.answer.Ingested.{Ingested}
use Rattle.endpoint.specs.declared.answer.Ingested.TheVariants.{Handled, Repeated, Held}
use Rattle.envelope.specs.declared.message.Envelope.{Envelope}
use Rattle.laws_journals.specs.Journals.{letters_by}
use Rattle.laws_network.proofs.Arriving.{HasArrived, did_arrived, ingest_arrived}
use Rattle.laws_stores.specs.Deeds.{DeedOfOne, OfPurchasing, OfWarehouse, OfBilling}
use Rattle.laws_stores.specs.Good.{journals_of, letters_held_by}
use Rattle.laws_stores.specs.Sight.{AllTables, OrderTables, StockTables, AccountTables}
use Rattle.laws_stores.specs.Sight.{orders_service, stocks_service, accounts_service}
use Rattle.laws_stores.proofs.Writing.{receiver-kind}
use Rattle.laws_services.specs.Good.{IsThere}
use Rattle.laws_services.specs.Steps.{DidEach, DidSome}

-- ---- one service

-- the letter has arrived at a service of its receiver's kind, or its number is none
abbrev pub IsReceived : {S C : Type 0} → Service S C → Kept C → Letter → Type 0
IsReceived service y l = HasArrived y l.pair l.number × ((l.number ≡ 0) ⊎ (l.pair.to.kind ≡ service.kind))

module _ {S C : Type 0} (s : Service S C) (l : Letter) where
  of_kind : (answer : Ingested) (x y : Kept C) (d : Deed C) → IngestMay s l (Ok answer) x d → Did s x d y
      → AreOf s.kind x.journal
      → (l.number ≡ 0) ⊎ (l.pair.to.kind ≡ s.kind)
  of_kind (Handled pos) x y d may did kinds = let h = subst (λ e. Did s x e y) may.0 did in inr h.0.follows.of_kind
  of_kind Held x y d may did kinds = let h = subst (λ e. Did s x e y) may did in inr h.0.mine
  of_kind (Repeated handled) x y d may did kinds = either (receiver-kind s.kind x.journal l.pair kinds)
      (λ none. let old = may.1 in inl (omega (arith, none, old)))
      inr

  is_received : (answer : Ingested) (x y : Kept C) (d : Deed C) → IngestMay s l (Ok answer) x d → Did s x d y
      → AreOf s.kind x.journal
      → IsReceived s y l
  is_received answer x y d may did kinds =
      (ingest_arrived s l answer x y d may did, of_kind answer x y d may did kinds)

  -- ---- on the way of several deeds

  did_kinds : (x y : Kept C) (d : Deed C) → Did s x d y → AreOf s.kind x.journal → AreOf s.kind y.journal
  did_kinds x y Nothing did kinds = subst (λ (k : Kept C). AreOf s.kind k.journal) (sym did) kinds
  did_kinds x y (TakesIn row) did kinds =
      subst (AreOf s.kind) (sym did.0.appended) (are_of-more s.kind x.journal row kinds did.0.follows.of_kind)
  did_kinds x y (Holds k) did kinds = subst (λ (k : Kept C). AreOf s.kind k.journal) (sym did.2) kinds
  did_kinds x y (Settles p n) did kinds = subst (λ (k : Kept C). AreOf s.kind k.journal) (sym did.2) kinds

  still_received : (through : List (Tables S C)) (x y : Tables S C) → DidEach s (λ _ _. ⊤) x through y
      → IsReceived s (kept x) l
      → IsReceived s (kept y) l
  still_received [] x y did h = subst (λ (t : Tables S C). IsReceived s (kept t) l) (sym did) h
  still_received (next ∷ through) x y did h = still_received through next y did.1
      (did_arrived s (kept x) (kept next) did.0.0 did.0.2 l.pair l.number h.0, h.1)

  pub some_received : (through : List (Tables S C)) (x y : Tables S C) → DidEach s (λ _ _. ⊤) x through y
      → DidSome s (λ u d. (answer : Ingested) × IngestMay s l (Ok answer) u d) x through
      → AreOf s.kind x.journal
      → IsReceived s (kept y) l
  some_received [] x y did some kinds = absurd some
  some_received (next ∷ through) x y did (inl one) kinds = still_received through next y did.1
      (is_received one.1.0 (kept x) (kept next) one.0 one.1.1 one.2 kinds)
  some_received (next ∷ through) x y did (inr some) kinds = some_received through next y did.1 some
      (did_kinds (kept x) (kept next) did.0.0 did.0.2 kinds)

-- ---- three services

-- the letter of a pair and number was handled by the service of this kind, or is held there
abbrev pub IsThereBy : AllTables → Kind → Pair → ℕ → Type 0
IsThereBy t kind p n = length (letters_by (journals_of t) kind p) < n → IsSome (letters_held_by t kind p n)

pub there-prop : (t : AllTables) (l : Letter) → IsProp (IsThere t l)
there-prop t l = hlevel props

module _ (t : AllTables) (l : Letter) where
  there_by : (kind : Kind) → IsThereBy t kind l.pair l.number → (l.number ≡ 0) ⊎ (l.pair.to.kind ≡ kind) → IsThere t l
  there_by kind here is = either is
      (λ none. λ later. absurd (omega (arith, none, later)))
      (λ same. subst (λ k. IsThereBy t k l.pair l.number) (sym same) here)

  pub at_purchasing : IsReceived orders_service (kept t.purchasing) l → IsThere t l
  at_purchasing h = there_by Order h.0 h.1

  pub at_warehouse : IsReceived stocks_service (kept t.warehouse) l → IsThere t l
  at_warehouse h = there_by Stock h.0 h.1

  pub at_billing : IsReceived accounts_service (kept t.billing) l → IsThere t l
  at_billing h = there_by Account h.0 h.1

-- whatever one service does
module _ (known : Envelope → Type 0) (x y : AllTables) (p : Pair) (n : ℕ) where
  same_orders : y.purchasing ≡ x.purchasing → IsThereBy x Order p n → IsThereBy y Order p n
  same_orders same h = subst (λ (t : OrderTables). HasArrived (kept t) p n) (sym same) h

  same_stocks : y.warehouse ≡ x.warehouse → IsThereBy x Stock p n → IsThereBy y Stock p n
  same_stocks same h = subst (λ (t : StockTables). HasArrived (kept t) p n) (sym same) h

  same_accounts : y.billing ≡ x.billing → IsThereBy x Account p n → IsThereBy y Account p n
  same_accounts same h = subst (λ (t : AccountTables). HasArrived (kept t) p n) (sym same) h

  pub one_there : DeedOfOne known x y → (kind : Kind) → IsThereBy x kind p n → IsThereBy y kind p n
  one_there (OfPurchasing m w b) Order h =
      did_arrived orders_service (kept x.purchasing) (kept y.purchasing) m.deed m.did p n h
  one_there (OfPurchasing m w b) Stock h = same_stocks w h
  one_there (OfPurchasing m w b) Account h = same_accounts b h
  one_there (OfWarehouse m o b) Order h = same_orders o h
  one_there (OfWarehouse m o b) Stock h =
      did_arrived stocks_service (kept x.warehouse) (kept y.warehouse) m.deed m.did p n h
  one_there (OfWarehouse m o b) Account h = same_accounts b h
  one_there (OfBilling m o w) Order h = same_orders o h
  one_there (OfBilling m o w) Stock h = same_stocks w h
  one_there (OfBilling m o w) Account h =
      did_arrived accounts_service (kept x.billing) (kept y.billing) m.deed m.did p n h
