-- A step of one of three services leaves them good.
use Rattle.std.proofs.Common.{◌≡◌, ◌⊎◌, inl, inr, sym, subst, arith}
use Rattle.std.specs.Prelude.{Contains}
use Rattle.std.proofs.Math.Logic.{∥∥₁_elim, ∥∥₁_map}
use Rattle.envelope.specs.declared.message.Envelope.{Envelope}
use Rattle.envelope.specs.declared.message.Letter.{Letter}
use Rattle.activities.proofs.Sameness.{either}
use Rattle.keep.specs.Seen.{Seen}
use Rattle.endpoint.specs.Matches.{AllMatch}
use Rattle.laws_stores.specs.Deeds.{ComesOf}
use Rattle.laws_stores.specs.Good.{IsGenuine}
use Rattle.laws_stores.specs.Sight.{AllTables, MayLeave, AreClean, AreMatching, OrderTables, StockTables, AccountTables}
use Rattle.laws_stores.specs.Sight.{orders_service, stocks_service, accounts_service}
use Rattle.laws_stores.proofs.Genuine.{orders_genuine, stocks_genuine, accounts_genuine}
use Rattle.laws_services.specs.Good.{IsThere, AreGoodServices}
use Rattle.laws_services.specs.Steps.{StepOfOne, AtPurchasing, AtWarehouse, AtBilling}
use Rattle.laws_services.specs.Services.{Services, sight_of}
use Rattle.laws_services.proofs.Arriving.{there-prop, at_purchasing, at_warehouse, at_billing}
use Rattle.laws_services.proofs.Deeds.{step_comes, step_takes}
use Rattle.laws_services.proofs.Several.{Leads, orders_lead, stocks_lead, accounts_lead, there_later, genuine_later}
use Rattle.laws_services.proofs.Several.{good_later}

module _ {KO KS KA : Type 0} (orders : KO → Seen OrderTables) (stocks : KS → Seen StockTables)
    (accounts : KA → Seen AccountTables) (a b : Services KO KS KA) where
  abbrev Clean : Services KO KS KA → Type 0
  Clean w = AreClean (sight_of orders stocks accounts w)

  abbrev Matching : Services KO KS KA → Type 0
  Matching w = AreMatching (sight_of orders stocks accounts w)

  pub step_clean : StepOfOne orders stocks accounts a b → Clean b → Clean a
  step_clean (AtPurchasing s w c) clean = let d = s.does.doubt in let now = clean.0 in (
    omega (arith, d, now),
    subst (λ k. (stocks k).doubt ≡ 0) w clean.1,
    subst (λ k. (accounts k).doubt ≡ 0) c clean.2,
  )
  step_clean (AtWarehouse s p c) clean = let d = s.does.doubt in let now = clean.1 in (
    subst (λ k. (orders k).doubt ≡ 0) p clean.0,
    omega (arith, d, now),
    subst (λ k. (accounts k).doubt ≡ 0) c clean.2,
  )
  step_clean (AtBilling s p w) clean = let d = s.does.doubt in let now = clean.2 in (
    subst (λ k. (orders k).doubt ≡ 0) p clean.0,
    subst (λ k. (stocks k).doubt ≡ 0) w clean.1,
    omega (arith, d, now),
  )

  same_orders : b.purchasing ≡ a.purchasing → AllMatch orders_service (orders a.purchasing).may_leave
      → AllMatch orders_service (orders b.purchasing).may_leave
  same_orders same match = subst (λ k. AllMatch orders_service (orders k).may_leave) (sym same) match

  same_stocks : b.warehouse ≡ a.warehouse → AllMatch stocks_service (stocks a.warehouse).may_leave
      → AllMatch stocks_service (stocks b.warehouse).may_leave
  same_stocks same match = subst (λ k. AllMatch stocks_service (stocks k).may_leave) (sym same) match

  same_accounts : b.billing ≡ a.billing → AllMatch accounts_service (accounts a.billing).may_leave
      → AllMatch accounts_service (accounts b.billing).may_leave
  same_accounts same match = subst (λ k. AllMatch accounts_service (accounts k).may_leave) (sym same) match

  pub step_matching : StepOfOne orders stocks accounts a b → Clean b → Matching a → Matching b
  step_matching (AtPurchasing s w c) clean match =
      (s.does.matches clean.0 match.0, same_stocks w match.1, same_accounts c match.2)
  step_matching (AtWarehouse s p c) clean match =
      (same_orders p match.0, s.does.matches clean.1 match.1, same_accounts c match.2)
  step_matching (AtBilling s p w) clean match =
      (same_orders p match.0, same_stocks w match.1, s.does.matches clean.2 match.2)

  -- ---- each combination of contents then comes of one before, by deeds of one service

  module _ (known : Envelope → Type 0) (all : (e : Envelope) → Contains a.traffic.written e → known e) where
    comes : StepOfOne orders stocks accounts a b → Clean b → Matching a
        → ComesOf (Leads known) (sight_of orders stocks accounts a) (sight_of orders stocks accounts b)
    comes (AtPurchasing s w c) clean match y may = ∥∥₁_map
        (step_comes orders orders_service a.purchasing b.purchasing clean.0 match.0 y.purchasing may.purchasing known
        a.traffic b.traffic all s)
        (λ from. (
          record { purchasing = from.before; warehouse = y.warehouse; billing = y.billing },
          record {
            purchasing = from.was;
            warehouse = subst (λ k. (stocks k).may_leave y.warehouse) w may.warehouse;
            billing = subst (λ k. (accounts k).may_leave y.billing) c may.billing;
          },
          orders_lead known y.warehouse y.billing from.through from.before y.purchasing from.did,
        ))
    comes (AtWarehouse s p c) clean match y may = ∥∥₁_map
        (step_comes stocks stocks_service a.warehouse b.warehouse clean.1 match.1 y.warehouse may.warehouse known
        a.traffic b.traffic all s)
        (λ from. (
          record { purchasing = y.purchasing; warehouse = from.before; billing = y.billing },
          record {
            purchasing = subst (λ k. (orders k).may_leave y.purchasing) p may.purchasing;
            warehouse = from.was;
            billing = subst (λ k. (accounts k).may_leave y.billing) c may.billing;
          },
          stocks_lead known y.purchasing y.billing from.through from.before y.warehouse from.did,
        ))
    comes (AtBilling s p w) clean match y may = ∥∥₁_map
        (step_comes accounts accounts_service a.billing b.billing clean.2 match.2 y.billing may.billing known
        a.traffic b.traffic all s)
        (λ from. (
          record { purchasing = y.purchasing; warehouse = y.warehouse; billing = from.before },
          record {
            purchasing = subst (λ k. (orders k).may_leave y.purchasing) p may.purchasing;
            warehouse = subst (λ k. (stocks k).may_leave y.warehouse) w may.warehouse;
            billing = from.was;
          },
          accounts_lead known y.purchasing y.warehouse from.through from.before y.billing from.did,
        ))

  -- ---- traffic

  -- what was written then was written before, or is genuine
  written : StepOfOne orders stocks accounts a b → Clean b → Matching a → Matching b → (e : Envelope)
      → Contains b.traffic.written e
      → Contains a.traffic.written e ⊎ IsGenuine (sight_of orders stocks accounts b) e
  written (AtPurchasing s w c) clean was is e h = either (s.writes e h) inl
      (λ may. inr (orders_genuine (sight_of orders stocks accounts b) e is.0 (may clean.0 was.0)))
  written (AtWarehouse s p c) clean was is e h = either (s.writes e h) inl
      (λ may. inr (stocks_genuine (sight_of orders stocks accounts b) e is.1 (may clean.1 was.1)))
  written (AtBilling s p w) clean was is e h = either (s.writes e h) inl
      (λ may. inr (accounts_genuine (sight_of orders stocks accounts b) e is.2 (may clean.2 was.2)))

  -- a letter that was taken then was taken before, or is there
  taken : StepOfOne orders stocks accounts a b → Clean b → Matching a → (l : Letter) → Contains b.traffic.taken l
      → Contains a.traffic.taken l
      ⊎ ((t : AllTables) → MayLeave (sight_of orders stocks accounts b) t → IsThere t l)
  taken (AtPurchasing s w c) clean match l h = either (s.takes l h) inl (λ takes. inr (λ t may. ∥∥₁_elim
      (step_takes orders orders_service a.purchasing b.purchasing clean.0 match.0 t.purchasing may.purchasing l takes)
      (there-prop t l) (at_purchasing t l)))
  taken (AtWarehouse s p c) clean match l h = either (s.takes l h) inl (λ takes. inr (λ t may. ∥∥₁_elim
      (step_takes stocks stocks_service a.warehouse b.warehouse clean.1 match.1 t.warehouse may.warehouse l takes)
      (there-prop t l) (at_warehouse t l)))
  taken (AtBilling s p w) clean match l h = either (s.takes l h) inl (λ takes. inr (λ t may. ∥∥₁_elim
      (step_takes accounts accounts_service a.billing b.billing clean.2 match.2 t.billing may.billing l takes)
      (there-prop t l) (at_billing t l)))

  -- ---- all of it

  pub step_good : StepOfOne orders stocks accounts a b → Clean b → Matching a → AreGoodServices orders stocks accounts a
      → AreGoodServices orders stocks accounts b
  step_good step clean match good =
      let was = sight_of orders stocks accounts a in
      let is = sight_of orders stocks accounts b in
      let led = comes (IsGenuine was) good.written step clean match in
      record {
        services = good_later was is good.services led;
        written = λ e h. either (written step clean match (step_matching step clean match) e h)
            (λ old. genuine_later was is good.services led e (good.written e old))
            (λ new. new);
        taken = λ l h. either (taken step clean match l h)
            (λ old t may. ∥∥₁_elim (led t may) (there-prop t l) (λ from.
            there_later (IsGenuine was) from.2.0 from.0 t from.2.1 l.pair l.number l.pair.to.kind
            (good.taken l old from.0 from.1)))
            (λ new. new);
      }
