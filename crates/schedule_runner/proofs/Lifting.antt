-- What one service does is what the world does.
use Rattle.std.proofs.Common.{◌≡◌, ℕ, refl, ap, arith, Option, subst, sym}
use Rattle.std.proofs.Math.Logic.{∥∥₁_map}
use Rattle.trade.specs.declared.commands.OrderCommand.{OrderCommand}
use Rattle.trade.specs.declared.commands.StockCommand.{StockCommand}
use Rattle.trade.specs.declared.commands.AccountCommand.{AccountCommand}
use Rattle.trade.specs.Orders.{OrderState}
use Rattle.trade.specs.Stocks.{StockState}
use Rattle.trade.specs.Accounts.{AccountState}
use Rattle.envelope.specs.declared.message.Envelope.{Envelope}
use Rattle.endpoint.specs.Matches.{AllMatch}
use Rattle.keep.specs.Failing.{through}
use Rattle.keep.specs.Seen.{Seen, IsSound}
use Rattle.schedule_mail.specs.Mails.{Mail}
use Rattle.purchasing.specs.declared.orders.Orders.{Orders}
use Rattle.warehouse.specs.declared.stocks.Stocks.{Stocks}
use Rattle.billing.specs.declared.accounts.Accounts.{Accounts}
use Rattle.schedule_text.specs.declared.outcome.Outcome.{Outcome}
use Rattle.schedule_text.specs.declared.outcome.Outcome.TheVariants.{Stopped, Refused}
use Rattle.schedule_service.specs.declared.site.Site.{Site}
use Rattle.schedule_service.specs.Deeds.{DoubtStays, Matches, Goes, SiteMay, channels_of}
use Rattle.schedule_service.specs.SiteSteps.{SiteStep}
use Rattle.schedule_service.specs.Channels.{CutsBoth}
use Rattle.schedule_service.proofs.Cursors.{RelaysRest, cut_has, stored_right}
use Rattle.laws_events.specs.Three.{Genuine}
use Rattle.schedule_service.specs.SiteEvents.{SiteEvent}
use Rattle.schedule_runner.specs.declared.world.World.{World}
use Rattle.schedule_runner.specs.Deeds.{InPurchasing, InWarehouse, InBilling, Same}
use Rattle.schedule_runner.specs.Good.{MailIs}
use Rattle.schedule_runner.specs.Passing.{Both, Passes}
use Rattle.laws_stores.specs.Sight.{OrderTables, StockTables, AccountTables, orders_service, stocks_service}
use Rattle.laws_stores.specs.Sight.{accounts_service}
use Rattle.schedule_runner.specs.Steps.{AtPurchasing, AtWarehouse, AtBilling, AtMail, SendsAgain, IsNewBroker}
use Rattle.schedule_runner.specs.Steps.{BeginsAnew}
use Rattle.laws_events.proofs.Threes.{repeated_keeps, cut_all, restarted_keeps}
use Rattle.schedule_runner.proofs.Righting.{purchasing_good, warehouse_good, billing_good, still_good}

module _ {KO KS KA : Type 0} (orders : KO → Seen OrderTables) (stocks : KS → Seen StockTables)
    (accounts : KA → Seen AccountTables)
    (w : World KO KS KA) (mail : Mail) where
  pub lift_purchasing : ((k : KO) → IsSound (orders k)) → (e : SiteEvent OrderCommand) (o : Outcome)
      (site : Site Orders KO (Option OrderState) OrderCommand)
      → DoubtStays orders w.purchasing site → Matches orders w.purchasing site orders_service
      → Goes orders w.purchasing site orders_service (SiteMay orders_service (channels_of w.purchasing) e o)
      → SiteStep orders orders_service e o w.purchasing w.mail site mail
      → Passes orders stocks accounts (AtPurchasing orders stocks accounts e o)
      (Both (AtPurchasing orders stocks accounts e o) (InPurchasing e o)) w
      (record w { purchasing = site; mail = mail })
  lift_purchasing whole e o site doubt matches comes did = record {
    clean = λ now. let d = now.0 in (omega (arith, doubt, d), now.1, now.2);
    matching = λ now good. (matches now.0 good.0, good.1, good.2);
    good = λ now match good. purchasing_good orders stocks accounts w mail whole e o site matches comes did now match
        good;
    did = (did, refl, refl);
    goes = λ now good t m. ∥∥₁_map (comes now.0 good.0 t.purchasing m.purchasing) (λ came. record {
      before = record t { purchasing = came.before };
      was = record { purchasing = came.was; warehouse = m.warehouse; billing = m.billing };
      leads = ((did, refl, refl), ((came.deed, came.may, came.did), refl, refl));
    });
  }

  pub lift_warehouse : ((k : KS) → IsSound (stocks k)) → (e : SiteEvent StockCommand) (o : Outcome)
      (site : Site Stocks KS StockState StockCommand)
      → DoubtStays stocks w.warehouse site → Matches stocks w.warehouse site stocks_service
      → Goes stocks w.warehouse site stocks_service (SiteMay stocks_service (channels_of w.warehouse) e o)
      → SiteStep stocks stocks_service e o w.warehouse w.mail site mail
      → Passes orders stocks accounts (AtWarehouse orders stocks accounts e o)
      (Both (AtWarehouse orders stocks accounts e o) (InWarehouse e o)) w
      (record w { warehouse = site; mail = mail })
  lift_warehouse whole e o site doubt matches comes did = record {
    clean = λ now. let d = now.1 in (now.0, omega (arith, doubt, d), now.2);
    matching = λ now good. (good.0, matches now.1 good.1, good.2);
    good = λ now match good. warehouse_good orders stocks accounts w mail whole e o site matches comes did now match
        good;
    did = (did, refl, refl);
    goes = λ now good t m. ∥∥₁_map (comes now.1 good.1 t.warehouse m.warehouse) (λ came. record {
      before = record t { warehouse = came.before };
      was = record { purchasing = m.purchasing; warehouse = came.was; billing = m.billing };
      leads = ((did, refl, refl), ((came.deed, came.may, came.did), refl, refl));
    });
  }

  pub lift_billing : ((k : KA) → IsSound (accounts k)) → (e : SiteEvent AccountCommand) (o : Outcome)
      (site : Site Accounts KA AccountState AccountCommand)
      → DoubtStays accounts w.billing site → Matches accounts w.billing site accounts_service
      → Goes accounts w.billing site accounts_service (SiteMay accounts_service (channels_of w.billing) e o)
      → SiteStep accounts accounts_service e o w.billing w.mail site mail
      → Passes orders stocks accounts (AtBilling orders stocks accounts e o)
      (Both (AtBilling orders stocks accounts e o) (InBilling e o)) w
      (record w { billing = site; mail = mail })
  lift_billing whole e o site doubt matches comes did = record {
    clean = λ now. let d = now.2 in (now.0, now.1, omega (arith, doubt, d));
    matching = λ now good. (good.0, good.1, matches now.2 good.2);
    good = λ now match good. billing_good orders stocks accounts w mail whole e o site matches comes did now match good;
    did = (did, refl, refl);
    goes = λ now good t m. ∥∥₁_map (comes now.2 good.2 t.billing m.billing) (λ came. record {
      before = record t { billing = came.before };
      was = record { purchasing = m.purchasing; warehouse = m.warehouse; billing = came.was };
      leads = ((did, refl, refl), ((came.deed, came.may, came.did), refl, refl));
    });
  }

-- the world changes so, and no store does
pub lift_same : {KO KS KA : Type 0} (orders : KO → Seen OrderTables) (stocks : KS → Seen StockTables)
    (accounts : KA → Seen AccountTables)
    (R : (a b : World KO KS KA) → Type 0) (old new : World KO KS KA) → new.purchasing.endpoint ≡ old.purchasing.endpoint
    → new.warehouse.endpoint ≡ old.warehouse.endpoint → new.billing.endpoint ≡ old.billing.endpoint
    → ((ok : Envelope → Type 0) → MailIs ok old → MailIs ok new)
    → RelaysRest old.purchasing new.purchasing
    → RelaysRest old.warehouse new.warehouse
    → RelaysRest old.billing new.billing → R old new
    → Passes orders stocks accounts R (Both R Same) old new
lift_same orders stocks accounts R old new p q r mail x y z did = record {
  clean = λ now. (
    subst (λ e. (through orders e).doubt ≡ 0) p now.0,
    subst (λ e. (through stocks e).doubt ≡ 0) q now.1,
    subst (λ e. (through accounts e).doubt ≡ 0) r now.2,
  );
  matching = λ now good. (
    subst (λ e. AllMatch orders_service (through orders e).may_leave) (sym p) good.0,
    subst (λ e. AllMatch stocks_service (through stocks e).may_leave) (sym q) good.1,
    subst (λ e. AllMatch accounts_service (through accounts e).may_leave) (sym r) good.2,
  );
  good = λ now match good. still_good orders stocks accounts old new (λ t m. record {
    purchasing = subst (λ e. (through orders e).may_leave t.purchasing) p m.purchasing;
    warehouse = subst (λ e. (through stocks e).may_leave t.warehouse) q m.warehouse;
    billing = subst (λ e. (through accounts e).may_leave t.billing) r m.billing;
  }) mail (λ right. (
    stored_right orders orders_service old.purchasing new.purchasing p x right.0,
    stored_right stocks stocks_service old.warehouse new.warehouse q y right.1,
    stored_right accounts accounts_service old.billing new.billing r z right.2,
  )) good;
  did = did;
  goes = λ now good t m. ∣ record {
    before = t;
    was = record {
      purchasing = subst (λ e. (through orders e).may_leave t.purchasing) p m.purchasing;
      warehouse = subst (λ e. (through stocks e).may_leave t.warehouse) q m.warehouse;
      billing = subst (λ e. (through accounts e).may_leave t.billing) r m.billing;
    };
    leads = (did, refl);
  } ∣₁;
}

module _ {KO KS KA : Type 0} (orders : KO → Seen OrderTables) (stocks : KS → Seen StockTables)
    (accounts : KA → Seen AccountTables) where
  -- an accepted message is sent again
  pub lift_again : (place : ℕ) (o : Outcome) (w : World KO KS KA) (mail : Mail) → SendsAgain place o w.mail mail
      → Passes orders stocks accounts (AtMail (SendsAgain place o)) (Both (AtMail (SendsAgain place o)) Same) w
      (record w { mail = mail })
  lift_again place o w mail did =
      lift_same orders stocks accounts (AtMail (SendsAgain place o)) w (record w { mail = mail }) refl refl refl
      (λ ok good. repeated_keeps ok w.purchasing w.warehouse w.billing place w.mail mail did.0 did.1 good)
      (λ Is h. h) (λ Is h. h) (λ Is h. h) (did, refl, refl, refl)

  -- what was cut, and lost, leaves the others good
  module _ (ok : Envelope → Type 0) (old new : World KO KS KA) (one two three : Mail)
      (p : CutsBoth old.purchasing old.mail new.purchasing one) (q : CutsBoth old.warehouse one new.warehouse two)
      (r : CutsBoth old.billing two new.billing three) where
    anew_is : (o : Outcome) (later : Mail) → IsNewBroker o three later → MailIs ok old
        → Genuine ok new.purchasing new.warehouse new.billing later
    anew_is Stopped later is good = subst (Genuine ok new.purchasing new.warehouse new.billing) (sym is)
        (restarted_keeps ok old.purchasing new.purchasing old.warehouse new.warehouse old.billing new.billing old.mail
        one two three p q r
        good)
    anew_is (Refused n) later is good = subst (Genuine ok new.purchasing new.warehouse new.billing) (sym is.1)
        (cut_all ok old.purchasing new.purchasing old.warehouse new.warehouse old.billing new.billing old.mail one two
        three p q r good)
    anew_is _ later is good = absurd is

  -- a new broker begins
  pub lift_anew : (o : Outcome) (old new : World KO KS KA) → BeginsAnew o old new
      → Passes orders stocks accounts (BeginsAnew o) (Both (BeginsAnew o) Same) old new
  lift_anew o old new did = lift_same orders stocks accounts (BeginsAnew o) old new
      (ap (λ (s : Site Orders KO (Option OrderState) OrderCommand). s.endpoint) did.3.site)
      (ap (λ (s : Site Stocks KS StockState StockCommand). s.endpoint) did.4.site)
      (ap (λ (s : Site Accounts KA AccountState AccountCommand). s.endpoint) did.5.site)
      (λ ok good. anew_is ok old new did.0 did.1 did.2 did.3 did.4 did.5 o new.mail did.6 good)
      (λ Is h. cut_has Is old.purchasing old.mail new.purchasing did.0 did.3)
      (λ Is h. cut_has Is old.warehouse did.0 new.warehouse did.1 did.4) (λ Is h. cut_has Is old.billing did.1
      new.billing did.2 did.5) did
