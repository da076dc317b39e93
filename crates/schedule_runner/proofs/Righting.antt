-- What one service does, and what only reads, keeps the world good.
use Rattle.std.proofs.Common.{◌≡◌, ◌⊎◌, Option, None, refl, inl, inr, subst, sym}
use Rattle.std.proofs.Math.Logic.{∥∥₁_map}
use Rattle.envelope.specs.declared.message.Envelope.{Envelope}
use Rattle.trade.specs.declared.commands.OrderCommand.{OrderCommand}
use Rattle.trade.specs.declared.commands.StockCommand.{StockCommand}
use Rattle.trade.specs.declared.commands.AccountCommand.{AccountCommand}
use Rattle.trade.specs.Accounts.{AccountState}
use Rattle.trade.specs.Orders.{OrderState}
use Rattle.trade.specs.Stocks.{StockState}
use Rattle.billing.specs.declared.accounts.Accounts.{Accounts}
use Rattle.purchasing.specs.declared.orders.Orders.{Orders}
use Rattle.warehouse.specs.declared.stocks.Stocks.{Stocks}
use Rattle.keep.specs.Seen.{Seen, IsSound}
use Rattle.endpoint.specs.Deeds.{kept, Nothing}
use Rattle.schedule_mail.specs.Mails.{Mail, new_mail}
use Rattle.schedule_text.specs.declared.outcome.Outcome.{Outcome}
use Rattle.schedule_service.specs.declared.site.Site.{Site}
use Rattle.schedule_service.specs.Deeds.{Matches, Goes, SiteMay, channels_of}
use Rattle.schedule_service.specs.SiteSteps.{SiteStep}
use Rattle.schedule_service.specs.SiteEvents.{SiteEvent}
use Rattle.laws_stores.specs.Deeds.{DeedOfOne, OfPurchasing, OfWarehouse, OfBilling, ComesOf}
use Rattle.laws_stores.specs.Good.{IsHeldIn, IsGenuine, IsGood}
use Rattle.laws_stores.specs.Sight.{AllTables, Sight, OrderTables, StockTables, AccountTables, AreClean, AreMatching}
use Rattle.laws_stores.specs.Sight.{MayLeave, all_empty}
use Rattle.laws_stores.specs.Sight.{orders_service, stocks_service, accounts_service}
use Rattle.laws_stores.proofs.Beginning.{empty_good}
use Rattle.laws_stores.proofs.Genuine.{orders_genuine, stocks_genuine, accounts_genuine}
use Rattle.laws_stores.proofs.Keeping.{good_later, genuine_later, good_agrees}
use Rattle.laws_events.specs.Three.{Genuine}
use Rattle.laws_events.proofs.Threes.{start_genuine, genuine_more, first_came, second_came, third_came, first_keeps}
use Rattle.laws_events.proofs.Threes.{second_keeps, third_keeps}
use Rattle.schedule_service.proofs.Cursors.{event_right, closed_right}
use Rattle.schedule_runner.specs.Good.{MailIs, AllRight, IsGoodWorld, StaysGood, Agrees}
use Rattle.schedule_runner.specs.Sight.{sight}
use Rattle.schedule_runner.specs.declared.world.World.{World}
use Rattle.schedule_runner.proofs.Founding.{site_founded}

module _ {KO KS KA : Type 0} (orders : KO → Seen OrderTables) (stocks : KS → Seen StockTables)
    (accounts : KA → Seen AccountTables)
    (w : World KO KS KA) (mail : Mail) where
  abbrev Old : Sight
  Old = sight orders stocks accounts w

  -- ---- purchasing

  module _ (whole : (k : KO) → IsSound (orders k)) (e : SiteEvent OrderCommand) (o : Outcome)
      (site : Site Orders KO (Option OrderState) OrderCommand)
      (matches : Matches orders w.purchasing site orders_service) (comes : Goes orders w.purchasing site orders_service
      (SiteMay orders_service (channels_of w.purchasing) e o))
      (did : SiteStep orders orders_service e o w.purchasing w.mail site mail) where
    abbrev AfterPurchasing : World KO KS KA
    AfterPurchasing = record w { purchasing = site; mail = mail }

    -- what it takes in came, and is genuine, or was held
    purchasing_steps : AreClean (sight orders stocks accounts AfterPurchasing) → AreMatching Old
        → MailIs (IsGenuine Old) w
        → ComesOf (DeedOfOne (IsGenuine Old)) Old (sight orders stocks accounts AfterPurchasing)
    purchasing_steps now match good y may = ∥∥₁_map (comes now.0 match.0 y.purchasing may.purchasing) (λ came. (
      record y { purchasing = came.before },
      record { purchasing = came.was; warehouse = may.warehouse; billing = may.billing },
      OfPurchasing (record {
        deed = came.deed;
        founded =
            site_founded orders_service (λ x. IsGenuine Old x ⊎ IsHeldIn came.before.held x) (channels_of w.purchasing)
            (λ n f c x r. inl (first_came (IsGenuine Old) w.purchasing w.warehouse w.billing w.mail good n f c x r)) e o
            (kept came.before)
            came.deed (λ x h. inr h) came.may;
        did = came.did;
      }) refl refl,
    ))

    pub purchasing_good : StaysGood orders stocks accounts w AfterPurchasing
    purchasing_good now match good =
        let steps = purchasing_steps now match good.mail in
        let new = sight orders stocks accounts AfterPurchasing in record {
          services = good_later Old new good.services steps;
          mail = first_keeps (IsGenuine new) w.purchasing site w.warehouse w.billing w.mail mail orders whole
              orders_service e o
              now.0 match.0 good.right.0 (λ x all. orders_genuine new x (matches now.0 match.0) all) did
              (genuine_more (IsGenuine Old) (IsGenuine new) (genuine_later Old new good.services steps) w.purchasing
              w.warehouse
              w.billing w.mail good.mail);
          right = (
            event_right orders orders_service e o w.purchasing w.mail site mail now.0 match.0 did comes good.right.0,
            good.right.1,
            good.right.2,
          );
        }

  -- ---- warehouse

  module _ (whole : (k : KS) → IsSound (stocks k)) (e : SiteEvent StockCommand) (o : Outcome)
      (site : Site Stocks KS StockState StockCommand)
      (matches : Matches stocks w.warehouse site stocks_service) (comes : Goes stocks w.warehouse site stocks_service
      (SiteMay stocks_service (channels_of w.warehouse) e o))
      (did : SiteStep stocks stocks_service e o w.warehouse w.mail site mail) where
    abbrev AfterWarehouse : World KO KS KA
    AfterWarehouse = record w { warehouse = site; mail = mail }

    -- what it takes in came, and is genuine, or was held
    warehouse_steps : AreClean (sight orders stocks accounts AfterWarehouse) → AreMatching Old
        → MailIs (IsGenuine Old) w
        → ComesOf (DeedOfOne (IsGenuine Old)) Old (sight orders stocks accounts AfterWarehouse)
    warehouse_steps now match good y may = ∥∥₁_map (comes now.1 match.1 y.warehouse may.warehouse) (λ came. (
      record y { warehouse = came.before },
      record { purchasing = may.purchasing; warehouse = came.was; billing = may.billing },
      OfWarehouse (record {
        deed = came.deed;
        founded =
            site_founded stocks_service (λ x. IsGenuine Old x ⊎ IsHeldIn came.before.held x) (channels_of w.warehouse)
            (λ n f c x r. inl (second_came (IsGenuine Old) w.purchasing w.warehouse w.billing w.mail good n f c x r)) e
            o (kept came.before)
            came.deed (λ x h. inr h) came.may;
        did = came.did;
      }) refl refl,
    ))

    pub warehouse_good : StaysGood orders stocks accounts w AfterWarehouse
    warehouse_good now match good =
        let steps = warehouse_steps now match good.mail in
        let new = sight orders stocks accounts AfterWarehouse in record {
          services = good_later Old new good.services steps;
          mail = second_keeps (IsGenuine new) w.purchasing w.warehouse w.billing site w.mail mail stocks whole
              stocks_service e o
              now.1 match.1 good.right.1 (λ x all. stocks_genuine new x (matches now.1 match.1) all) did
              (genuine_more (IsGenuine Old) (IsGenuine new) (genuine_later Old new good.services steps) w.purchasing
              w.warehouse
              w.billing w.mail good.mail);
          right = (
            good.right.0,
            event_right stocks stocks_service e o w.warehouse w.mail site mail now.1 match.1 did comes good.right.1,
            good.right.2,
          );
        }

  -- ---- billing

  module _ (whole : (k : KA) → IsSound (accounts k)) (e : SiteEvent AccountCommand) (o : Outcome)
      (site : Site Accounts KA AccountState AccountCommand)
      (matches : Matches accounts w.billing site accounts_service) (comes : Goes accounts w.billing site
      accounts_service
      (SiteMay accounts_service (channels_of w.billing) e o))
      (did : SiteStep accounts accounts_service e o w.billing w.mail site mail) where
    abbrev AfterBilling : World KO KS KA
    AfterBilling = record w { billing = site; mail = mail }

    -- what it takes in came, and is genuine, or was held
    billing_steps : AreClean (sight orders stocks accounts AfterBilling) → AreMatching Old → MailIs (IsGenuine Old) w
        → ComesOf (DeedOfOne (IsGenuine Old)) Old (sight orders stocks accounts AfterBilling)
    billing_steps now match good y may = ∥∥₁_map (comes now.2 match.2 y.billing may.billing) (λ came. (
      record y { billing = came.before },
      record { purchasing = may.purchasing; warehouse = may.warehouse; billing = came.was },
      OfBilling (record {
        deed = came.deed;
        founded =
            site_founded accounts_service (λ x. IsGenuine Old x ⊎ IsHeldIn came.before.held x) (channels_of w.billing)
            (λ n f c x r. inl (third_came (IsGenuine Old) w.purchasing w.warehouse w.billing w.mail good n f c x r)) e o
            (kept came.before)
            came.deed (λ x h. inr h) came.may;
        did = came.did;
      }) refl refl,
    ))

    pub billing_good : StaysGood orders stocks accounts w AfterBilling
    billing_good now match good =
        let steps = billing_steps now match good.mail in
        let new = sight orders stocks accounts AfterBilling in record {
          services = good_later Old new good.services steps;
          mail = third_keeps (IsGenuine new) w.purchasing w.warehouse w.billing site w.mail mail accounts whole
              accounts_service e o
              now.2 match.2 good.right.2 (λ x all. accounts_genuine new x (matches now.2 match.2) all) did
              (genuine_more (IsGenuine Old) (IsGenuine new) (genuine_later Old new good.services steps) w.purchasing
              w.warehouse
              w.billing w.mail good.mail);
          right = (
            good.right.0,
            good.right.1,
            event_right accounts accounts_service e o w.billing w.mail site mail now.2 match.2 did comes good.right.2,
          );
        }

-- ---- no table changes

module _ {KO KS KA : Type 0} (orders : KO → Seen OrderTables) (stocks : KS → Seen StockTables)
    (accounts : KA → Seen AccountTables)
    (old new : World KO KS KA) where
  -- what a stop may leave then it might leave before
  stays_step : ((t : AllTables) → MayLeave (sight orders stocks accounts new) t
      → MayLeave (sight orders stocks accounts old) t)
      → (known : Envelope → Type 0) → ComesOf (DeedOfOne known) (sight orders stocks accounts old)
      (sight orders stocks accounts new)
  stays_step stays known y may =
      ∣ (y, stays y may, OfPurchasing (record { deed = Nothing; founded = tt; did = refl }) refl refl) ∣₁

  pub still_good : ((t : AllTables) → MayLeave (sight orders stocks accounts new) t
      → MayLeave (sight orders stocks accounts old) t)
      → ((ok : Envelope → Type 0) → MailIs ok old → MailIs ok new)
      → (AllRight orders stocks accounts old → AllRight orders stocks accounts new)
      → IsGoodWorld orders stocks accounts old
      → IsGoodWorld orders stocks accounts new
  still_good stays mail right good =
      let was = sight orders stocks accounts old in
      let now = sight orders stocks accounts new in
      let steps = stays_step stays (IsGenuine was) in record {
        services = good_later was now good.services steps;
        mail = genuine_more (IsGenuine was) (IsGenuine now) (genuine_later was now good.services steps) new.purchasing
            new.warehouse
            new.billing new.mail (mail (IsGenuine was) good.mail);
        right = right good.right;
      }

  -- so its services agree
  pub good_agree : StaysGood orders stocks accounts old new → Agrees orders stocks accounts old new
  good_agree stays now match good = good_agrees (sight orders stocks accounts new) (stays now match good).services

-- ---- the beginning

module _ {KO KS KA : Type 0} (orders : KO → Seen OrderTables) (stocks : KS → Seen StockTables)
    (accounts : KA → Seen AccountTables)
    (w : World KO KS KA) (a : w.purchasing.zero ≡ None) (b : w.purchasing.one ≡ None) (c : w.warehouse.zero ≡ None)
    (d : w.warehouse.one ≡ None) (e : w.billing.zero ≡ None) (f : w.billing.one ≡ None) (mail : w.mail ≡ new_mail)
  where
    -- with no connection and a broker that accepted nothing the mail is good
    pub opened_good : IsGood (sight orders stocks accounts w) → IsGoodWorld orders stocks accounts w
    opened_good services = record {
      services = services;
      mail = subst (Genuine (IsGenuine (sight orders stocks accounts w)) w.purchasing w.warehouse w.billing) (sym mail)
          (start_genuine (IsGenuine (sight orders stocks accounts w)) w.purchasing w.warehouse w.billing a b c d e f);
      right = (
        closed_right orders orders_service w.purchasing a b,
        closed_right stocks stocks_service w.warehouse c d,
        closed_right accounts accounts_service w.billing e f,
      );
    }

    -- and so are services that did nothing
    pub new_good : ((t : AllTables) → MayLeave (sight orders stocks accounts w) t → t ≡ all_empty)
        → IsGoodWorld orders stocks accounts w
    new_good only = opened_good (empty_good (sight orders stocks accounts w) only)
