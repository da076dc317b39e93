-- What asking all three stores does to the world.
use Rattle.std.proofs.Common.{◌≡◌, ◌≤◌, Bool, true, false, Option, inl, inr, refl, sym, ◌∙◌, ap, subst, arith}
use Rattle.std.proofs.Common.{true≢false}
use Rattle.std.proofs.Math.Logic.{∥∥₁_elim, ∥∥₁_map}
use Rattle.std.proofs.Props.{props}
use Rattle.std.specs.Prelude.{Result, Ok, Err, ⊤}
use Rattle.envelope.specs.declared.message.Envelope.{Envelope}
use Rattle.keep.specs.Failing.{through}
use Rattle.keep.specs.Inside.{sound_through}
use Rattle.keep.specs.Law.{Reads}
use Rattle.keep.specs.Seen.{Seen, IsSound, End, no_memory, failed, unusable, refused}
use Rattle.keep.specs.Tables.{Tables}
use Rattle.endpoint.specs.Faults.{end_cause}
use Rattle.endpoint.specs.declared.fault.EndFault.{EndFault}
use Rattle.schedule_audit.specs.Looks.{StandsFor, Rests, FailsToRead, Looks}
use Rattle.schedule_audit.specs.declared.fault.AuditFault.{AuditFault}
use Rattle.schedule_audit.specs.declared.fault.AuditFault.TheVariants.{Purchasing, Warehouse, Billing}
use Rattle.laws_stores.specs.Sight.{AllTables, OrderTables, StockTables, AccountTables, MayLeave}
use Rattle.laws_stores.proofs.Keeping.{good_agrees}
use Rattle.schedule_audit.proofs.Lawful.{all_agree}
use Rattle.schedule_text.specs.declared.outcome.Outcome.{Outcome}
use Rattle.schedule_service.specs.Channels.{After, ChannelsHave}
use Rattle.schedule_service.proofs.Cursors.{RelaysRest, after_has}
use Rattle.schedule_service.specs.declared.site.Site.{Site}
use Rattle.schedule_mail.specs.Mails.{Mail}
use Rattle.purchasing.specs.declared.orders.Orders.{Orders}
use Rattle.warehouse.specs.declared.stocks.Stocks.{Stocks}
use Rattle.billing.specs.declared.accounts.Accounts.{Accounts}
use Rattle.schedule_audit.specs.Agree.{partners_agree}
use Rattle.trade.specs.Orders.{OrderState}
use Rattle.trade.specs.Stocks.{StockState}
use Rattle.trade.specs.Accounts.{AccountState}
use Rattle.trade.specs.declared.commands.OrderCommand.{OrderCommand}
use Rattle.trade.specs.declared.commands.StockCommand.{StockCommand}
use Rattle.trade.specs.declared.commands.AccountCommand.{AccountCommand}
use Rattle.laws_events.specs.Three.{Genuine}
use Rattle.laws_events.proofs.Threes.{first_after, second_after, third_after}
use Rattle.schedule_runner.specs.declared.world.World.{World}
use Rattle.schedule_runner.specs.Agreeing.{with_stores, AfterFault, LooksAtAll, AsksAll, FindsAgreement, TellsAgreement}
use Rattle.schedule_runner.specs.Agreeing.{agreement_told}
use Rattle.schedule_runner.specs.Agreeing.{AgreesWhereGood}
use Rattle.schedule_runner.specs.Sight.{sight}
use Rattle.schedule_runner.specs.Deeds.{Same}
use Rattle.schedule_runner.specs.Good.{MailIs}
use Rattle.schedule_runner.specs.Looks.{StoreStays}
use Rattle.schedule_runner.specs.Passing.{Both, Passes}
use Rattle.schedule_runner.proofs.Composing.{passes_map}
use Rattle.schedule_runner.proofs.Reading.{lift_stays}

-- a read leaves what a stop might leave before
module _ {E T : Type 0} (seen : E → Seen T) (old new : E) (was : IsSound (seen old)) (is : IsSound (seen new)) where
  read_leaves : (end : End (Unit {0}) EndFault) → Reads seen old new {R = Unit {0}} {F = EndFault} (λ _ _. ⊤) end
      → (seen new).doubt ≡ 0 → (t : T) → (seen new).may_leave t → (seen old).may_leave t
  read_leaves (Ok r) h clean t l = let d = h.doubt in
      subst (seen old).may_leave (sym (is.only_now clean h.call.1 t l ∙ (h.clean clean).1))
      (was.stays (omega (arith, d, clean)) h.call.0)
  read_leaves (Err no_memory) h clean t l = let d = h.doubt in
      subst (seen old).may_leave (sym (is.only_now clean h.call.1 t l ∙ h.clean clean))
      (was.stays (omega (arith, d, clean)) h.call.0)
  read_leaves (Err failed) h clean t l = let d = h.doubt in
      subst (seen old).may_leave (sym (h.clean clean t l)) (was.stays (omega (arith, d, clean)) h.call.0)
  read_leaves (Err unusable) h clean t l = subst (λ k. (seen k).may_leave t) h.call.1 l
  read_leaves (Err (refused fault)) h clean t l = absurd h.call.1

-- tables that a stop may leave, and that stand for those of the store: its own while it is usable, and else any
module _ {E T : Type 0} (seen : E → Seen T) (store : E) (sound : IsSound (seen store)) (clean : (seen store).doubt ≡ 0)
  where
    by_use : (usable : Bool) → (seen store).usable ≡ usable
        → ∥ ((t : T) × StandsFor seen store t × (seen store).may_leave t) ∥₁
    by_use true is = ∣ ((seen store).tables, λ _. refl, sound.stays clean is) ∣₁
    by_use false is = ∥∥₁_map (sound.leaves clean) (λ one. (one.0, λ up. absurd (true≢false (sym up ∙ is)), one.1))

    pub stands_left : ∥ ((t : T) × StandsFor seen store t × (seen store).may_leave t) ∥₁
    stands_left = by_use (seen store).usable refl

module _ {H K S C : Type 0} (seen : K → Seen (Tables S C)) (whole : (k : K) → IsSound (seen k)) (s t : Site H K S C)
  where
    of_read : (end : End (Unit {0}) EndFault)
        → Reads (through seen) s.endpoint t.endpoint {R = Unit {0}} {F = EndFault} (λ _ _. ⊤) end → StoreStays seen s t
    of_read end h = record {
      doubt = h.doubt;
      stays = read_leaves (through seen) s.endpoint t.endpoint (sound_through seen s.endpoint (whole s.endpoint.keep))
          (sound_through seen t.endpoint (whole t.endpoint.keep)) end h;
    }

    rest_stays : Rests (through seen) s.endpoint t.endpoint → StoreStays seen s t
    rest_stays (inl same) = record {
      doubt = subst (λ e. (through seen s.endpoint).doubt ≤ (through seen e).doubt) (sym same) (omega arith);
      stays = λ clean x m. subst (λ e. (through seen e).may_leave x) same m;
    }
    rest_stays (inr h) = of_read (Ok tt) h

    fail_stays : (fault : EndFault) → FailsToRead (through seen) s.endpoint t.endpoint fault → StoreStays seen s t
    fail_stays fault h = of_read (Err (end_cause fault)) h

module _ {KO KS KA : Type 0} (orders : KO → Seen OrderTables) (stocks : KS → Seen StockTables)
    (accounts : KA → Seen AccountTables)
    (sound_o : (k : KO) → IsSound (orders k)) (sound_s : (k : KS) → IsSound (stocks k))
    (sound_a : (k : KA) → IsSound (accounts k)) where
  abbrev W : Type 0
  W = World KO KS KA

  all_stay : (result : Result Bool AuditFault) (a b : W) → LooksAtAll orders stocks accounts result a b
      → StoreStays orders a.purchasing b.purchasing × StoreStays stocks a.warehouse b.warehouse
      × StoreStays accounts a.billing b.billing
  all_stay (Ok agree) a b h = (
    rest_stays orders sound_o a.purchasing b.purchasing h.0,
    rest_stays stocks sound_s a.warehouse b.warehouse h.1,
    rest_stays accounts sound_a a.billing b.billing h.2,
  )
  all_stay (Err (Purchasing fault)) a b h = (
    fail_stays orders sound_o a.purchasing b.purchasing fault h.0,
    rest_stays stocks sound_s a.warehouse b.warehouse h.1,
    rest_stays accounts sound_a a.billing b.billing h.2,
  )
  all_stay (Err (Warehouse fault)) a b h = (
    rest_stays orders sound_o a.purchasing b.purchasing h.0,
    fail_stays stocks sound_s a.warehouse b.warehouse fault h.1,
    rest_stays accounts sound_a a.billing b.billing h.2,
  )
  all_stay (Err (Billing fault)) a b h = (
    rest_stays orders sound_o a.purchasing b.purchasing h.0,
    rest_stays stocks sound_s a.warehouse b.warehouse h.1,
    fail_stays accounts sound_a a.billing b.billing fault h.2,
  )

  -- other stores, and the connections as they are
  mail_with_stores : (ok : Envelope → Type 0) (a b : W) → MailIs ok a → MailIs ok (with_stores a b)
  mail_with_stores ok a b good =
      let x = (with_stores a b).purchasing in
      let y = (with_stores a b).warehouse in
      let z = (with_stores a b).billing in
      third_after ok x y a.billing z a.mail a.mail b.billing.endpoint (Ok (tt {0})) (refl, refl)
      (second_after ok x a.warehouse a.billing y a.mail a.mail b.warehouse.endpoint (Ok (tt {0})) (refl, refl)
      (first_after ok a.purchasing x a.warehouse a.billing a.mail a.mail b.purchasing.endpoint (Ok (tt {0}))
      (refl, refl)
      good))

  -- a fault of a read, told as that of the answer
  abbrev told_fault : EndFault → Result Bool EndFault
  told_fault fault = Err fault

  mail_after : (ok : Envelope → Type 0) (at : AuditFault) (a b : W) → AfterFault at a b → MailIs ok a → MailIs ok b
  mail_after ok (Purchasing fault) a b h good = subst (λ x. Genuine ok b.purchasing x b.billing b.mail) (sym h.1)
      (subst (λ x. Genuine ok b.purchasing a.warehouse x b.mail) (sym h.2)
      (first_after ok a.purchasing b.purchasing a.warehouse a.billing a.mail b.mail a.purchasing.endpoint
      (told_fault fault) h.0 good))
  mail_after ok (Warehouse fault) a b h good = subst (λ x. Genuine ok x b.warehouse b.billing b.mail) (sym h.1)
      (subst (λ x. Genuine ok a.purchasing b.warehouse x b.mail) (sym h.2)
      (second_after ok a.purchasing a.warehouse a.billing b.warehouse a.mail b.mail a.warehouse.endpoint
      (told_fault fault) h.0 good))
  mail_after ok (Billing fault) a b h good = subst (λ x. Genuine ok x b.warehouse b.billing b.mail) (sym h.1)
      (subst (λ x. Genuine ok a.purchasing x b.billing b.mail) (sym h.2)
      (third_after ok a.purchasing a.warehouse a.billing b.billing a.mail b.mail a.billing.endpoint (told_fault fault)
      h.0 good))

  purchasing_rest : (at : AuditFault) (a b : W) → AfterFault at a b → RelaysRest a.purchasing b.purchasing
  purchasing_rest (Purchasing fault) a b h Is s =
      after_has Is a.purchasing a.mail b.purchasing b.mail (told_fault fault) h.0 s
  purchasing_rest (Warehouse fault) a b h Is s = subst (ChannelsHave Is) (sym h.1) s
  purchasing_rest (Billing fault) a b h Is s = subst (ChannelsHave Is) (sym h.1) s

  warehouse_rest : (at : AuditFault) (a b : W) → AfterFault at a b → RelaysRest a.warehouse b.warehouse
  warehouse_rest (Purchasing fault) a b h Is s = subst (ChannelsHave Is) (sym h.1) s
  warehouse_rest (Warehouse fault) a b h Is s =
      after_has Is a.warehouse a.mail b.warehouse b.mail (told_fault fault) h.0 s
  warehouse_rest (Billing fault) a b h Is s = subst (ChannelsHave Is) (sym h.2) s

  billing_rest : (at : AuditFault) (a b : W) → AfterFault at a b → RelaysRest a.billing b.billing
  billing_rest (Purchasing fault) a b h Is s = subst (ChannelsHave Is) (sym h.2) s
  billing_rest (Warehouse fault) a b h Is s = subst (ChannelsHave Is) (sym h.2) s
  billing_rest (Billing fault) a b h Is s = after_has Is a.billing a.mail b.billing b.mail (told_fault fault) h.0 s

  pub passes_found : (result : Result Bool EndFault) (old new : W)
      → FindsAgreement orders stocks accounts result old new
      → Passes orders stocks accounts (FindsAgreement orders stocks accounts result)
      (Both (FindsAgreement orders stocks accounts result) Same) old new
  passes_found (Ok agree) old new did =
      let stay = all_stay (Ok agree) old new did.0 in
      lift_stays orders stocks accounts (FindsAgreement orders stocks accounts (Ok agree)) old new stay.0 stay.1 stay.2
      (λ ok good. subst (MailIs ok) (sym did.1) (mail_with_stores ok old new good))
      (λ Is h. subst (λ (w : W). ChannelsHave Is w.purchasing) (sym did.1) h)
      (λ Is h. subst (λ (w : W). ChannelsHave Is w.warehouse) (sym did.1) h)
      (λ Is h. subst (λ (w : W). ChannelsHave Is w.billing) (sym did.1) h) did
  passes_found (Err fault) old new did =
      let stay = all_stay (Err did.0) old new did.1 in
      lift_stays orders stocks accounts (FindsAgreement orders stocks accounts (Err fault)) old new stay.0 stay.1 stay.2
      (λ ok good. mail_after ok did.0 (with_stores old new) new did.3 (mail_with_stores ok old new good))
      (purchasing_rest did.0 (with_stores old new) new did.3) (warehouse_rest did.0 (with_stores old new) new did.3)
      (billing_rest did.0 (with_stores old new) new did.3) did

  -- of a good world's stores some tables that a stop may leave stand for theirs, and their journals are lawful
  pub agrees_where_good : (result : Result Bool EndFault) (old new : W)
      → FindsAgreement orders stocks accounts result old new
      → AgreesWhereGood orders stocks accounts result old new
  agrees_where_good (Err fault) old new did clean match good = tt
  agrees_where_good (Ok agree) old new did clean match good =
      let stay = all_stay (Ok agree) old new did.0 in
      let p = stay.0.doubt in
      let q = stay.1.doubt in
      let r = stay.2.doubt in
      let x = clean.0 in
      let y = clean.1 in
      let z = clean.2 in
      let by_orders = stands_left (through orders) old.purchasing.endpoint
      (sound_through orders old.purchasing.endpoint (sound_o old.purchasing.endpoint.keep)) (omega (arith, p, x)) in
      let by_stocks = stands_left (through stocks) old.warehouse.endpoint
      (sound_through stocks old.warehouse.endpoint (sound_s old.warehouse.endpoint.keep)) (omega (arith, q, y)) in
      let by_accounts = stands_left (through accounts) old.billing.endpoint
      (sound_through accounts old.billing.endpoint (sound_a old.billing.endpoint.keep)) (omega (arith, r, z)) in
      ∥∥₁_elim by_orders (hlevel props) (λ o. ∥∥₁_elim by_stocks (hlevel props)
      (λ s. ∥∥₁_elim by_accounts (hlevel props) (λ a.
      let t : AllTables = record { purchasing = o.0; warehouse = s.0; billing = a.0 } in
      let m : MayLeave (sight orders stocks accounts old) t =
      record { purchasing = o.2; warehouse = s.2; billing = a.2 } in
      did.0.3 clean.0 clean.1 clean.2 o.0 s.0 a.0 o.1 s.1 a.1
      ∙ all_agree t (match.0 t.purchasing m.purchasing) (match.1 t.warehouse m.warehouse) (match.2 t.billing m.billing)
      (good_agrees (sight orders stocks accounts old) good.services t m))))

  pub passes_agreement : (result : Result Bool EndFault) (o : Outcome) (old new : W) → o ≡ agreement_told result
      → Passes orders stocks accounts (FindsAgreement orders stocks accounts result)
      (Both (FindsAgreement orders stocks accounts result) Same) old new
      → Passes orders stocks accounts (TellsAgreement orders stocks accounts o)
      (Both (TellsAgreement orders stocks accounts o) Same) old new
  passes_agreement result o old new is =
      passes_map orders stocks accounts (FindsAgreement orders stocks accounts result)
      (TellsAgreement orders stocks accounts o) (Both (FindsAgreement orders stocks accounts result) Same)
      (Both (TellsAgreement orders stocks accounts o) Same) old new (told old new)
      (λ a b h. (told a.world b.world h.0, h.1))
    where
      told : (a b : W) → FindsAgreement orders stocks accounts result a b → TellsAgreement orders stocks accounts o a b
      told a b found = (result, found, agrees_where_good result a b found, is)

  -- behind a fault the service's connections may be cut
  pub found_purchasing : (fault : EndFault) (old mid : W) (site : Site Orders KO (Option OrderState) OrderCommand)
      (mail : Mail)
      → AsksAll orders stocks accounts (Err (Purchasing fault)) old mid
      → After {R = Bool} (Err fault) mid.purchasing mid.mail site mail
      → site.endpoint ≡ mid.purchasing.endpoint
      → FindsAgreement orders stocks accounts (Err fault) old (record mid { purchasing = site; mail = mail })
  found_purchasing fault old mid site mail asks after store =
      let new : W = record mid { purchasing = site; mail = mail } in
      let same : with_stores old new ≡ mid = ap (λ x. record old {
        purchasing = record old.purchasing { endpoint = x };
        warehouse = record old.warehouse { endpoint = mid.warehouse.endpoint };
        billing = record old.billing { endpoint = mid.billing.endpoint };
      }) store ∙ sym asks.1 in (
        Purchasing fault,
        subst (λ x. Looks (through orders) (through stocks) (through accounts)
            (λ p q r (agree : Bool). agree ≡ partners_agree p q r)
            (Err (Purchasing fault)) old.purchasing.endpoint x old.warehouse.endpoint mid.warehouse.endpoint
            old.billing.endpoint mid.billing.endpoint) (sym store) asks.0,
        refl,
        subst (λ w. AfterFault (Purchasing fault) w new) (sym same) (after, refl, refl),
      )

  pub found_warehouse : (fault : EndFault) (old mid : W) (site : Site Stocks KS StockState StockCommand) (mail : Mail)
      → AsksAll orders stocks accounts (Err (Warehouse fault)) old mid
      → After {R = Bool} (Err fault) mid.warehouse mid.mail site mail
      → site.endpoint ≡ mid.warehouse.endpoint
      → FindsAgreement orders stocks accounts (Err fault) old (record mid { warehouse = site; mail = mail })
  found_warehouse fault old mid site mail asks after store =
      let new : W = record mid { warehouse = site; mail = mail } in
      let same : with_stores old new ≡ mid = ap (λ x. record old {
        purchasing = record old.purchasing { endpoint = mid.purchasing.endpoint };
        warehouse = record old.warehouse { endpoint = x };
        billing = record old.billing { endpoint = mid.billing.endpoint };
      }) store ∙ sym asks.1 in (
        Warehouse fault,
        subst (λ x. Looks (through orders) (through stocks) (through accounts)
            (λ p q r (agree : Bool). agree ≡ partners_agree p q r)
            (Err (Warehouse fault)) old.purchasing.endpoint mid.purchasing.endpoint old.warehouse.endpoint x
            old.billing.endpoint mid.billing.endpoint) (sym store) asks.0,
        refl,
        subst (λ w. AfterFault (Warehouse fault) w new) (sym same) (after, refl, refl),
      )

  pub found_billing : (fault : EndFault) (old mid : W) (site : Site Accounts KA AccountState AccountCommand)
      (mail : Mail)
      → AsksAll orders stocks accounts (Err (Billing fault)) old mid
      → After {R = Bool} (Err fault) mid.billing mid.mail site mail
      → site.endpoint ≡ mid.billing.endpoint
      → FindsAgreement orders stocks accounts (Err fault) old (record mid { billing = site; mail = mail })
  found_billing fault old mid site mail asks after store =
      let new : W = record mid { billing = site; mail = mail } in
      let same : with_stores old new ≡ mid = ap (λ x. record old {
        purchasing = record old.purchasing { endpoint = mid.purchasing.endpoint };
        warehouse = record old.warehouse { endpoint = mid.warehouse.endpoint };
        billing = record old.billing { endpoint = x };
      }) store ∙ sym asks.1 in (
        Billing fault,
        subst (λ x. Looks (through orders) (through stocks) (through accounts)
            (λ p q r (agree : Bool). agree ≡ partners_agree p q r)
            (Err (Billing fault)) old.purchasing.endpoint mid.purchasing.endpoint old.warehouse.endpoint
            mid.warehouse.endpoint
            old.billing.endpoint x) (sym store) asks.0,
        refl,
        subst (λ w. AfterFault (Billing fault) w new) (sym same) (after, refl, refl),
      )
