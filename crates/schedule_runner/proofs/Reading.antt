-- What a read of one service does, and what is shown of it.
use Rattle.std.proofs.Common.{◌≡◌, ℕ, refl, sym, ◌∙◌, subst, arith}
use Rattle.std.specs.Prelude.{Result, Ok, Err}
use Rattle.std.specs.Global.{Vec}
use Rattle.base.specs.Entity.{Entity}
use Rattle.base.specs.declared.entity.Kind.{Kind}
use Rattle.base.specs.declared.pair.Pair.{Pair}
use Rattle.envelope.specs.declared.message.Envelope.{Envelope}
use Rattle.keep.specs.Seen.{Seen}
use Rattle.keep.specs.Tables.{Tables}
use Rattle.schedule_text.specs.declared.outcome.Outcome.{Outcome}
use Rattle.schedule_service.specs.SiteSteps.{with_store}
use Rattle.schedule_service.specs.Channels.{ChannelsHave}
use Rattle.schedule_service.specs.declared.site.Site.{Site}
use Rattle.schedule_service.proofs.Cursors.{RelaysRest, after_has, still_right}
use Rattle.laws_events.specs.Three.{Genuine}
use Rattle.schedule_runner.specs.declared.looking.Mark.{Mark}
use Rattle.schedule_runner.specs.declared.world.World.{World}
use Rattle.schedule_runner.specs.Deeds.{Moment, Same}
use Rattle.schedule_runner.specs.Looks.{shown_told, ReadsSite, StoreStays}
use Rattle.schedule_runner.specs.Good.{MailIs}
use Rattle.schedule_runner.specs.Passing.{Both, Passes}
use Rattle.schedule_runner.specs.Shows.{TellsReading, TellsPair, Behind, Marks, MarkOf, RowOf, Returns, ReadsPair}
use Rattle.schedule_runner.specs.Shows.{ShowsPair}
use Rattle.schedule_runner.specs.declared.looking.PairTables.{PairTables}
use Rattle.laws_stores.specs.Sight.{OrderTables, StockTables, AccountTables, orders_service, stocks_service}
use Rattle.laws_stores.specs.Sight.{accounts_service}
use Rattle.schedule_runner.proofs.Composing.{passes_map, passes_then}
use Rattle.laws_events.proofs.Threes.{first_after, second_after, third_after}
use Rattle.schedule_runner.proofs.Righting.{still_good}

module _ {H K S C : Type 0} (seen : K → Seen (Tables S C)) where
  same_store : (s : Site H K S C) → StoreStays seen s s
  same_store s = record { doubt = omega arith; stays = λ clean t m. m }

module _ {KO KS KA : Type 0} (orders : KO → Seen OrderTables) (stocks : KS → Seen StockTables)
    (accounts : KA → Seen AccountTables) where
  abbrev W : Type 0
  W = World KO KS KA

  abbrev M : Type 0
  M = Moment KO KS KA

  -- the world changes so, and no store has others than before
  pub lift_stays : (R : W → W → Type 0) (old new : W) → StoreStays orders old.purchasing new.purchasing
      → StoreStays stocks old.warehouse new.warehouse → StoreStays accounts old.billing new.billing
      → ((ok : Envelope → Type 0) → MailIs ok old → MailIs ok new)
      → RelaysRest old.purchasing new.purchasing
      → RelaysRest old.warehouse new.warehouse
      → RelaysRest old.billing new.billing → R old new
      → Passes orders stocks accounts R (Both R Same) old new
  lift_stays R old new p q r mail x y z did =
      let a = p.doubt in
      let b = q.doubt in
      let c = r.doubt in record {
        clean = λ now. let d =
            now.0 in let e = now.1 in let f = now.2 in (omega (arith, a, d), omega (arith, b, e), omega (arith, c, f));
        matching = λ now good. (
          λ t m. good.0 t (p.stays now.0 t m),
          λ t m. good.1 t (q.stays now.1 t m),
          λ t m. good.2 t (r.stays now.2 t m),
        );
        good = λ now match good. still_good orders stocks accounts old new (λ t m. record {
          purchasing = p.stays now.0 t.purchasing m.purchasing;
          warehouse = q.stays now.1 t.warehouse m.warehouse;
          billing = r.stays now.2 t.billing m.billing;
        }) mail (λ right. (
          still_right orders orders_service old.purchasing new.purchasing (p.stays now.0) x right.0,
          still_right stocks stocks_service old.warehouse new.warehouse (q.stays now.1) y right.1,
          still_right accounts accounts_service old.billing new.billing (r.stays now.2) z right.2,
        )) good;
        did = did;
        goes = λ now good t m. ∣ record {
          before = t;
          was = record {
            purchasing = p.stays now.0 t.purchasing m.purchasing;
            warehouse = q.stays now.1 t.warehouse m.warehouse;
            billing = r.stays now.2 t.billing m.billing;
          };
          leads = (did, refl);
        } ∣₁;
      }

  pub lift_order_read : {A : Type 0} {gives : OrderTables → A → Type 0} {result : Result A Outcome} (R : W → W → Type 0)
      (old new : W) → StoreStays orders old.purchasing new.purchasing
      → new.warehouse ≡ old.warehouse → new.billing ≡ old.billing → R old new
      → ReadsSite orders gives result old.purchasing old.mail new.purchasing new.mail
      → Passes orders stocks accounts R (Both R Same) old new
  lift_order_read R old new p q r did reads = lift_stays R old new p
      (subst (λ s. StoreStays stocks old.warehouse s) (sym q) (same_store stocks old.warehouse))
      (subst (λ s. StoreStays accounts old.billing s) (sym r) (same_store accounts old.billing))
      (λ ok good. subst (λ b. Genuine ok new.purchasing b new.billing new.mail) (sym q)
      (subst (λ c. Genuine ok new.purchasing old.warehouse c new.mail) (sym r)
      (first_after ok old.purchasing new.purchasing old.warehouse old.billing old.mail new.mail new.purchasing.endpoint
      reads.answer
      reads.after good)))
      (λ Is h. after_has Is (with_store new.purchasing.endpoint old.purchasing) old.mail new.purchasing new.mail
      reads.answer reads.after h)
      (λ Is h. subst (ChannelsHave Is) (sym q) h) (λ Is h. subst (ChannelsHave Is) (sym r) h) did

  pub lift_stock_read : {A : Type 0} {gives : StockTables → A → Type 0} {result : Result A Outcome} (R : W → W → Type 0)
      (old new : W) → new.purchasing ≡ old.purchasing
      → StoreStays stocks old.warehouse new.warehouse → new.billing ≡ old.billing → R old new
      → ReadsSite stocks gives result old.warehouse old.mail new.warehouse new.mail
      → Passes orders stocks accounts R (Both R Same) old new
  lift_stock_read R old new p q r did reads = lift_stays R old new
      (subst (λ s. StoreStays orders old.purchasing s) (sym p) (same_store orders old.purchasing)) q
      (subst (λ s. StoreStays accounts old.billing s) (sym r) (same_store accounts old.billing))
      (λ ok good. subst (λ a. Genuine ok a new.warehouse new.billing new.mail) (sym p)
      (subst (λ c. Genuine ok old.purchasing new.warehouse c new.mail) (sym r)
      (second_after ok old.purchasing old.warehouse old.billing new.warehouse old.mail new.mail new.warehouse.endpoint
      reads.answer
      reads.after good))) (λ Is h. subst (ChannelsHave Is) (sym p) h)
      (λ Is h. after_has Is (with_store new.warehouse.endpoint old.warehouse) old.mail new.warehouse new.mail
      reads.answer reads.after h)
      (λ Is h. subst (ChannelsHave Is) (sym r) h) did

  pub lift_account_read : {A : Type 0} {gives : AccountTables → A → Type 0} {result : Result A Outcome}
      (R : W → W → Type 0)
      (old new : W) → new.purchasing ≡ old.purchasing → new.warehouse ≡ old.warehouse
      → StoreStays accounts old.billing new.billing → R old new
      → ReadsSite accounts gives result old.billing old.mail new.billing new.mail
      → Passes orders stocks accounts R (Both R Same) old new
  lift_account_read R old new p q r did reads = lift_stays R old new
      (subst (λ s. StoreStays orders old.purchasing s) (sym p) (same_store orders old.purchasing))
      (subst (λ s. StoreStays stocks old.warehouse s) (sym q) (same_store stocks old.warehouse)) r
      (λ ok good. subst (λ a. Genuine ok a new.warehouse new.billing new.mail) (sym p)
      (subst (λ b. Genuine ok old.purchasing b new.billing new.mail) (sym q)
      (third_after ok old.purchasing old.warehouse old.billing new.billing old.mail new.mail new.billing.endpoint
      reads.answer
      reads.after good))) (λ Is h. subst (ChannelsHave Is) (sym p) h) (λ Is h. subst (ChannelsHave Is) (sym q) h)
      (λ Is h. after_has Is (with_store new.billing.endpoint old.billing) old.mail new.billing new.mail reads.answer
      reads.after h) did

  -- the row of an entity of that kind
  pub passes_row : (found kind : Kind) (e : Entity) (result : Result (Vec ℕ) Outcome) (old new : W) → found ≡ kind
      → Passes orders stocks accounts (RowOf orders stocks accounts found e result)
      (Both (RowOf orders stocks accounts found e result) Same)
      old new
      → Passes orders stocks accounts (RowOf orders stocks accounts kind e result)
      (Both (RowOf orders stocks accounts kind e result) Same)
      old new
  passes_row found kind e result old new same =
      subst (λ k. Passes orders stocks accounts (RowOf orders stocks accounts k e result)
      (Both (RowOf orders stocks accounts k e result) Same) old new) same

  -- what was read is shown
  pub passes_told : (D : Result (Vec ℕ) Outcome → W → W → Type 0) (result : Result (Vec ℕ) Outcome) (o : Outcome)
      (old new : W)
      → o ≡ shown_told result → Passes orders stocks accounts (D result) (Both (D result) Same) old new
      → Passes orders stocks accounts (TellsReading D o) (Both (TellsReading D o) Same) old new
  passes_told D result o old new is = passes_map orders stocks accounts (D result) (TellsReading D o)
      (Both (D result) Same)
      (Both (TellsReading D o) Same)
      old new (λ did. (result, did, is)) (λ a b h. ((result, h.0, is), h.1))

  -- what the tables have of a pair was read, and is shown
  pub passes_pair : (p : Pair) (result : Result PairTables Outcome) (o : Outcome) (old new : W) → TellsPair p result o
      → Passes orders stocks accounts (ReadsPair orders stocks accounts p result)
      (Both (ReadsPair orders stocks accounts p result) Same) old new
      → Passes orders stocks accounts (ShowsPair orders stocks accounts p o)
      (Both (ShowsPair orders stocks accounts p o) Same) old new
  passes_pair p result o old new tells = passes_map orders stocks accounts (ReadsPair orders stocks accounts p result)
      (ShowsPair orders stocks accounts p o)
      (Both (ReadsPair orders stocks accounts p result) Same)
      (Both (ShowsPair orders stocks accounts p o) Same)
      old new (λ did. (result, did, tells)) (λ a b h. ((result, h.0, tells), h.1))

  -- these are returned, and nothing changes
  pub passes_returned : (tables : PairTables) (w : W)
      → Passes orders stocks accounts (Returns tables (Ok tables)) (Both (Returns tables (Ok tables)) Same) w w
  passes_returned tables w =
      lift_stays (Returns tables (Ok tables)) w w (same_store orders w.purchasing) (same_store stocks w.warehouse)
      (same_store accounts w.billing) (λ ok good. good) (λ Is h. h) (λ Is h. h) (λ Is h. h) (refl, refl)

  module _ (found kind : Kind) (same : found ≡ kind) (mark : Mark) (p : Pair)
      (Next : ℕ → Result PairTables Outcome → W → W → Type 0)
      (result : Result ℕ Outcome)
      (r : Result PairTables Outcome) where
    abbrev Reading : Kind → W → W → Type 0
    Reading k = MarkOf orders stocks accounts k mark p result

    abbrev Whole : W → W → Type 0
    Whole = Marks orders stocks accounts kind mark p Next r

    of_kind : (old mid : W) → Passes orders stocks accounts (Reading found) (Both (Reading found) Same) old mid
        → Passes orders stocks accounts (Reading kind) (Both (Reading kind) Same) old mid
    of_kind old mid = subst (λ k. Passes orders stocks accounts (Reading k) (Both (Reading k) Same) old mid) same

    -- a mark was read, and what comes behind it was done
    pub passes_next : (n : ℕ) (old mid new : W) → result ≡ Ok n
        → Passes orders stocks accounts (Reading found) (Both (Reading found) Same) old mid
        → Passes orders stocks accounts (Next n r) (Both (Next n r) Same) mid new
        → Passes orders stocks accounts Whole (Both Whole Same) old new
    passes_next n old mid new is first next =
        passes_then orders stocks accounts (Reading kind) (Next n r) Whole (Both (Reading kind) Same)
        (Both (Next n r) Same) (Both Whole Same) old mid new
        (λ did more. (result, mid, did, subst (λ x. Behind x Next r mid new) (sym is) more))
        (λ a b c did more. (
          (result, b.world, did.0, subst (λ x. Behind x Next r b.world c.world) (sym is) more.0),
          more.1 ∙ did.1,
        ))
        (of_kind old mid first) next

    -- or it wasn't, and that is told
    pub passes_fault : (told : Outcome) (old new : W) → result ≡ Err told → r ≡ Err told
        → Passes orders stocks accounts (Reading found) (Both (Reading found) Same) old new
        → Passes orders stocks accounts Whole (Both Whole Same) old new
    passes_fault told old new is tells first =
        passes_map orders stocks accounts (Reading kind) Whole (Both (Reading kind) Same) (Both Whole Same)
        old new
        (λ did. (result, new, did, subst (λ x. Behind x Next r new new) (sym is) (tells, refl)))
        (λ a b h. ((result, b.world, h.0, subst (λ x. Behind x Next r b.world b.world) (sym is) (tells, refl)), h.1))
        (of_kind old new first)
