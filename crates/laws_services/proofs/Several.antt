-- Deeds of three services, one after another, that take in what is genuine, keep them good.
use Rattle.std.proofs.Common.{◌≡◌, ℕ, List, [], ◌∷◌, refl, sym, subst}
use Rattle.std.proofs.Math.Logic.{∥∥₁_elim}
use Rattle.base.specs.declared.entity.Kind.{Kind}
use Rattle.base.specs.declared.pair.Pair.{Pair}
use Rattle.envelope.specs.declared.message.Envelope.{Envelope}
use Rattle.laws_journals.specs.Journals.{AreLawful}
use Rattle.laws_journals.specs.Envelopes.{IsAuthentic, SettledAreHandled}
use Rattle.laws_journals.proofs.Propositions.{lawful-prop, authentic-prop, settled-prop}
use Rattle.laws_stores.specs.Deeds.{DeedOfOne, OfPurchasing, OfWarehouse, OfBilling, ComesOf}
use Rattle.laws_stores.specs.Good.{journals_of, settled_in, letters_held_by, HoldsAuthentic, IsHeldIn, IsGenuine, IsGood}
use Rattle.laws_stores.specs.Sight.{AllTables, Sight, OrderTables, StockTables, AccountTables}
use Rattle.laws_stores.specs.Sight.{orders_service, stocks_service, accounts_service}
use Rattle.laws_stores.proofs.Keeping.{genuine-prop, one_lawful, one_authentic, one_settled, one_holds}
use Rattle.laws_stores.proofs.OneDeed.{one_held}
use Rattle.laws_services.specs.Steps.{DidEach}
use Rattle.laws_services.proofs.Arriving.{IsThereBy, one_there}
use Rattle.laws_services.proofs.Deeds.{Founded}

module _ (known : Envelope → Type 0) where
  -- deeds of three services lead through these tables to the last
  abbrev LeadThrough : AllTables → List AllTables → AllTables → Type 0
  LeadThrough x [] y = y ≡ x
  LeadThrough x (next ∷ through) y = DeedOfOne known x next × LeadThrough next through y

  abbrev pub Leads : AllTables → AllTables → Type 0
  Leads x y = (through : List AllTables) × LeadThrough x through y

  -- ---- the deeds of one are such deeds, while the tables of the other two stay as they are

  pub orders_lead : (w : StockTables) (b : AccountTables) (through : List OrderTables) (x y : OrderTables)
      → DidEach orders_service (Founded known) x through y
      → Leads (record { purchasing = x; warehouse = w; billing = b })
      (record { purchasing = y; warehouse = w; billing = b })
  orders_lead w b [] x y did = ([], λ i. record { purchasing = did i; warehouse = w; billing = b })
  orders_lead w b (next ∷ through) x y did = let rest = orders_lead w b through next y did.1 in (
    record { purchasing = next; warehouse = w; billing = b } ∷ rest.0,
    (OfPurchasing (record { deed = did.0.0; founded = did.0.1; did = did.0.2 }) refl refl, rest.1),
  )

  pub stocks_lead : (p : OrderTables) (b : AccountTables) (through : List StockTables) (x y : StockTables)
      → DidEach stocks_service (Founded known) x through y
      → Leads (record { purchasing = p; warehouse = x; billing = b })
      (record { purchasing = p; warehouse = y; billing = b })
  stocks_lead p b [] x y did = ([], λ i. record { purchasing = p; warehouse = did i; billing = b })
  stocks_lead p b (next ∷ through) x y did = let rest = stocks_lead p b through next y did.1 in (
    record { purchasing = p; warehouse = next; billing = b } ∷ rest.0,
    (OfWarehouse (record { deed = did.0.0; founded = did.0.1; did = did.0.2 }) refl refl, rest.1),
  )

  pub accounts_lead : (p : OrderTables) (w : StockTables) (through : List AccountTables) (x y : AccountTables)
      → DidEach accounts_service (Founded known) x through y
      → Leads (record { purchasing = p; warehouse = w; billing = x })
      (record { purchasing = p; warehouse = w; billing = y })
  accounts_lead p w [] x y did = ([], λ i. record { purchasing = p; warehouse = w; billing = did i })
  accounts_lead p w (next ∷ through) x y did = let rest = accounts_lead p w through next y did.1 in (
    record { purchasing = p; warehouse = w; billing = next } ∷ rest.0,
    (OfBilling (record { deed = did.0.0; founded = did.0.1; did = did.0.2 }) refl refl, rest.1),
  )

  -- ---- what each deed keeps several keep

  pub there_later : (through : List AllTables) (x y : AllTables) → LeadThrough x through y → (p : Pair) (n : ℕ)
      (kind : Kind)
      → IsThereBy x kind p n → IsThereBy y kind p n
  there_later [] x y led p n kind h = subst (λ t. IsThereBy t kind p n) (sym led) h
  there_later (next ∷ through) x y led p n kind h =
      there_later through next y led.1 p n kind (one_there known x next p n led.0 kind h)

  -- all that is known is authentic
  abbrev KnownIn : AllTables → Type 0
  KnownIn x = (e : Envelope) → known e → IsAuthentic (journals_of x) e

  keeps : (P : AllTables → Type 0)
      → ((x y : AllTables) → DeedOfOne known x y → KnownIn x → HoldsAuthentic x → P x → P y)
      → (through : List AllTables) (x y : AllTables) → LeadThrough x through y → KnownIn x → HoldsAuthentic x
      → P x → P y
  keeps P one [] x y led all held h = subst P (sym led) h
  keeps P one (next ∷ through) x y led all held h = keeps P one through next y led.1
      (λ e k. one_authentic known x next led.0 all held e (all e k))
      (one_holds known x next led.0 all held)
      (one x next led.0 all held h)

  module _ (x y : AllTables) (led : Leads x y) (all : KnownIn x) (held : HoldsAuthentic x) where
    lawful : AreLawful (journals_of x) → AreLawful (journals_of y)
    lawful = keeps (λ t. AreLawful (journals_of t)) (λ a b one k h. one_lawful known a b one k h) led.0 x y led.1 all held

    authentic : (e : Envelope) → IsAuthentic (journals_of x) e → IsAuthentic (journals_of y) e
    authentic e = keeps (λ t. IsAuthentic (journals_of t) e) (λ a b one k h. one_authentic known a b one k h e) led.0 x y
        led.1 all held

    settled : SettledAreHandled (journals_of x) (settled_in x) → SettledAreHandled (journals_of y) (settled_in y)
    settled = keeps (λ t. SettledAreHandled (journals_of t) (settled_in t))
        (λ a b one k h. one_settled known a b one k h) led.0 x y led.1 all held

    -- what is held then has a property that what is known has, and what was held
    holds : (P : Envelope → Type 0) → ((e : Envelope) → known e → P e)
        → ((kind : Kind) (e : Envelope) → IsHeldIn (letters_held_by x kind) e → P e)
        → (kind : Kind) (e : Envelope) → IsHeldIn (letters_held_by y kind) e → P e
    holds P is was = keeps (λ t. (kind : Kind) (e : Envelope) → IsHeldIn (letters_held_by t kind) e → P e)
        (λ a b one k h now. one_held known P a b is now one) led.0 x y led.1 all held was

-- ---- what comes of good tables is good

module _ (old new : Sight) (good : IsGood old) (comes : ComesOf (Leads (IsGenuine old)) old new) where
  -- what is genuine stays so
  pub genuine_later : (e : Envelope) → IsGenuine old e → IsGenuine new e
  genuine_later e genuine y may = ∥∥₁_elim (comes y may) (authentic-prop (journals_of y) e) (λ from.
      authentic (IsGenuine old) from.0 y from.2 (λ f k. k from.0 from.1)
      (λ kind f h. good.held from.0 from.1 kind f h from.0 from.1) e (genuine from.0 from.1))

  pub good_later : IsGood new
  good_later = record {
    lawful = λ y may. ∥∥₁_elim (comes y may) (lawful-prop (journals_of y)) (λ from.
        lawful (IsGenuine old) from.0 y from.2 (λ f k. k from.0 from.1)
        (λ kind f h. good.held from.0 from.1 kind f h from.0 from.1) (good.lawful from.0 from.1));
    settled = λ y may. ∥∥₁_elim (comes y may) (settled-prop (journals_of y) (settled_in y)) (λ from.
        settled (IsGenuine old) from.0 y from.2 (λ f k. k from.0 from.1)
        (λ kind f h. good.held from.0 from.1 kind f h from.0 from.1) (good.settled from.0 from.1));
    held = λ y may kind e h. ∥∥₁_elim (comes y may) (genuine-prop new e) (λ from.
        holds (IsGenuine old) from.0 y from.2 (λ f k. k from.0 from.1)
        (λ k f i. good.held from.0 from.1 k f i from.0 from.1) (IsGenuine new) genuine_later
        (λ k f i. genuine_later f (good.held from.0 from.1 k f i)) kind e h);
  }
