-- Examples: what events do to a world of three services.
use Rattle.std.proofs.Common.{◌≡◌, ℕ, [], ◌∷◌, length, Some, None, Result, Ok, Err, Bool, true, false, refl, sym, ap}
use Rattle.std.proofs.Common.{arith}
use Rattle.std.proofs.Common.{inl}
use Rattle.endpoint.specs.declared.fault.EndFault.{EndFault}
use Rattle.endpoint.specs.declared.fault.EndFault.TheVariants.{StoreFailed, Memory, Unusable}
use Rattle.endpoint.specs.Deeds.{Nothing, TakesIn}
use Rattle.keep.specs.Failing.{Failing, through}
use Rattle.schedule_audit.specs.Agree.{partners_agree}
use Rattle.schedule_audit.specs.Looks.{StandsFor}
use Rattle.keep.specs.Seen.{Seen}
use Rattle.keep.specs.Tables.{empty}
use Rattle.laws_stores.specs.Sight.{OrderTables, StockTables, AccountTables, AllTables, all_empty, orders_service}
use Rattle.schedule_audit.specs.declared.fault.AuditFault.TheVariants as at
use Rattle.schedule_mail.specs.Mails.{Mail, new_mail}
use Rattle.schedule_mail.specs.declared.repeat_fault.RepeatFault.TheVariants as repeat
use Rattle.schedule_text.specs.declared.event.Event.TheVariants as event
use Rattle.schedule_text.specs.declared.event.ConnectionNumber.TheVariants.{Zero}
use Rattle.schedule_text.specs.declared.event.ServiceName.TheVariants.{Warehouse, Billing}
use Rattle.schedule_text.specs.declared.outcome.Outcome.TheVariants as told
use Rattle.schedule_service.specs.SiteEvents.{Cuts}
use Rattle.schedule_runner.specs.declared.acting.ServiceEvent.TheVariants.{Cut}
use Rattle.schedule_runner.specs.declared.world.World.{World}
use Rattle.schedule_runner.specs.Agreeing.{agreement_told, with_stores, fault_of, AfterFault, LooksAtAll, AsksAll}
use Rattle.schedule_runner.specs.Agreeing.{FindsAgreement}
use Rattle.schedule_runner.specs.Agreeing.{TellsAgreement}
use Rattle.schedule_runner.specs.Deeds.{moment, AllowedDeed, InPurchasing, In, Same, TablesStep}
use Rattle.schedule_runner.specs.Sight.{StaysClean, StaysMatching}
use Rattle.schedule_runner.specs.Steps.{again, SendsAgain, IsNewBroker, AtMail, BeginsAnew, AtPurchasing, At, WorldStep}
use Rattle.laws_stores.proofs.Placed.{placing}

-- ---- what is told

agreements_are_told : (agreement_told (Ok true) ≡ told.Agreement true)
    × (agreement_told (Err StoreFailed) ≡ told.Refused 63)
    × (agreement_told (Ok true) ≡ told.Agreement false → ⊥)
    × (agreement_told (Err StoreFailed) ≡ told.Agreement false → ⊥)
agreements_are_told = (refl, refl, λ h. absurd (cc), λ h. absurd (cc))

faults_are_of_services : (fault_of (at.Purchasing Memory) ≡ Memory)
    × (fault_of (at.Warehouse StoreFailed) ≡ StoreFailed)
    × (fault_of (at.Billing Unusable) ≡ Unusable) × (fault_of (at.Billing Unusable) ≡ Memory → ⊥)
faults_are_of_services = (refl, refl, refl, λ h. absurd (cc))

repeats_are_told : (again (Ok (Some 5)) ≡ told.Again 5) × (again (Ok None) ≡ told.Absent)
    × (again (Err repeat.Memory) ≡ told.Refused 34)
    × (again (Ok None) ≡ told.Again 0 → ⊥) × (again (Err repeat.Memory) ≡ told.Absent → ⊥)
repeats_are_told = (refl, refl, refl, λ h. absurd (cc), λ h. absurd (cc))

-- ---- the mail

-- a mail that accepted a SEND
module _ (later : Mail) (other : later.earlier ≡ [] → ⊥) where
  more_mail : later ≡ new_mail → ⊥
  more_mail h = other (ap (λ (o : Mail). o.earlier) h)

  -- where none was accepted none is sent again, and no number is told
  none_is_sent_again : SendsAgain 1 told.Absent new_mail new_mail
      × (SendsAgain 1 told.Pumped new_mail new_mail → ⊥)
  none_is_sent_again = ((Ok None, (refl, refl), refl), pumped)
    where
      pumped : SendsAgain 1 told.Pumped new_mail new_mail → ⊥
      pumped (Ok None, repeats, tells) = absurd (cc)
      pumped (Ok (Some n), repeats, tells) = absurd (cc)
      pumped (Err f, repeats, tells) = absurd (cc)

  -- a new broker begins; memory that was refused leaves the old one; no other outcome is one
  brokers_begin : IsNewBroker told.Stopped new_mail new_mail × IsNewBroker (told.Refused 34) later later
      × (IsNewBroker told.Stopped new_mail later → ⊥) × (IsNewBroker (told.Refused 34) new_mail later → ⊥)
      × (IsNewBroker (told.Refused 44) later later → ⊥) × (IsNewBroker told.Reopened later later → ⊥)
  brokers_begin = (
    refl,
    (refl, refl),
    λ h. other (ap (λ (o : Mail). o.earlier) h),
    λ h. more_mail h.1,
    λ h. let number = h.0 in omega (arith, number),
    λ h. h,
  )

  -- ---- a world

  abbrev Stores : Type 0 → Type 0
  Stores T = Bool × ℕ × T

  abbrev seen : {T : Type 0} → Stores T → Seen T
  seen k = record { tables = k.2; may_leave = λ t. t ≡ k.2; failures = 0; usable = k.0; doubt = k.1; armed = None }

  abbrev store : {T : Type 0} → Stores T → Failing (Stores T)
  store k = record { keep = k; armed = None; is_down = false; failures = 0 }

  abbrev TheWorld : Type 0
  TheWorld = World (Stores OrderTables) (Stores StockTables) (Stores AccountTables)

  module _ (any : TheWorld) where
    -- with no connection, these tables at purchasing, files of billing in doubt, and this mail
    abbrev world : Bool → OrderTables → ℕ → Mail → TheWorld
    world usable tables doubt mail = record any {
      purchasing = record { endpoint = store (usable, 0, tables); zero = None; one = None };
      warehouse = record { endpoint = store (true, 0, empty); zero = None; one = None };
      billing = record { endpoint = store (true, doubt, empty); zero = None; one = None };
      mail = mail;
    }

    abbrev w : TheWorld
    w = world true empty 0 new_mail

    abbrev placed : OrderTables
    placed = record empty { journal = placing ∷ [] }

    abbrev rows : TheWorld → ℕ
    rows v = length v.purchasing.endpoint.keep.2.journal

    -- the stores are put in, and the mail stays
    stores_are_put_in : (with_stores w (world true placed 0 later) ≡ world true placed 0 new_mail)
        × (with_stores w (world true placed 0 later) ≡ w → ⊥)
        × (with_stores w (world true placed 0 later) ≡ world true placed 0 later → ⊥)
    stores_are_put_in = (
      refl,
      λ h. let more : 1 ≡ 0 = ap rows h in omega (arith, more),
      λ h. more_mail (sym (ap (λ (v : TheWorld). v.mail) h)),
    )

    -- behind a fault all services and the mail stay where no connection is open, also the two that aren't at fault
    faults_leave_the_others : AfterFault (at.Purchasing Memory) w w × AfterFault (at.Warehouse StoreFailed) w w
        × (AfterFault (at.Purchasing Memory) w (world true empty 0 later) → ⊥)
        × (AfterFault (at.Warehouse StoreFailed) w (world true placed 0 new_mail) → ⊥)
    faults_leave_the_others = (
      ((refl, refl), refl, refl),
      (record { between = new_mail; zero = refl; one = refl; site = refl }, refl, refl),
      λ h. more_mail h.0.1,
      λ h. let more : 1 ≡ 0 = ap (λ (s : _). length s.endpoint.keep.2.journal) h.1 in omega (arith, more),
    )

    -- all three tell that nothing disagrees, and nothing changes
    stores_are_asked : LooksAtAll seen seen seen (Ok true) w w × AsksAll seen seen seen (Ok true) w w
        × FindsAgreement seen seen seen (Ok true) w w × TellsAgreement seen seen seen (told.Agreement true) w w
        × (LooksAtAll seen seen seen (Ok false) w w → ⊥)
        × (AsksAll seen seen seen (Ok true) w (world true empty 0 later) → ⊥)
        × (FindsAgreement seen seen seen (Ok true) w (world true empty 0 later) → ⊥)
        × (TellsAgreement seen seen seen told.Pumped w w → ⊥)
    stores_are_asked = (
      (inl refl, inl refl, inl refl, λ _ _ _ x y z xo ys za. told_true x y z xo),
      ((inl refl, inl refl, inl refl, λ _ _ _ x y z xo ys za. told_true x y z xo), refl),
      ((inl refl, inl refl, inl refl, λ _ _ _ x y z xo ys za. told_true x y z xo), refl),
      (
        Ok true,
        ((inl refl, inl refl, inl refl, λ _ _ _ x y z xo ys za. told_true x y z xo), refl),
        λ _ _ _. refl,
        refl,
      ),
      λ h. let agree = h.3 refl refl refl empty empty empty (λ _. refl) (λ _. refl) (λ _. refl) in absurd (cc),
      λ h. more_mail (ap (λ (v : TheWorld). v.mail) h.1),
      λ h. more_mail (ap (λ (v : TheWorld). v.mail) h.1),
      λ h. no_pump h.0 h.3,
    )
      where
        -- no order is placed, whatever the partners have
        told_true : (x : OrderTables) (y : StockTables) (z : AccountTables)
            → StandsFor (through seen) (store (true, 0, empty)) x
            → true ≡ partners_agree x y z
        told_true x y z xo = ap (λ (t : OrderTables). partners_agree t y z) (sym (xo refl))

        no_pump : (r : Result Bool EndFault) → told.Pumped ≡ agreement_told r → ⊥
        no_pump (Ok agree) tells = absurd (cc)
        no_pump (Err f) tells = absurd (cc)

    -- no file is in doubt that was, and tables match that did
    worlds_stay_clean : StaysClean seen seen seen w w
        × (StaysClean seen seen seen (world true empty 1 new_mail) w → ⊥)
        × StaysMatching seen seen seen w w
    worlds_stay_clean =
        (λ clean. clean, λ h. let doubt = (h (refl, refl, refl)).2 in omega (arith, doubt), λ clean matching. matching)

    -- ---- the mail alone, and one service

    mail_changes_alone : AtMail (IsNewBroker told.Stopped) w w
        × (AtMail (IsNewBroker told.Stopped) w (world true empty 0 later) → ⊥)
        × (AtMail (IsNewBroker told.Stopped) w (world true placed 0 new_mail) → ⊥)
    mail_changes_alone = (
      (refl, refl, refl, refl),
      λ h. other (ap (λ (o : Mail). o.earlier) h.0),
      λ h. let more : 1 ≡ 0 = ap (λ (s : _). length s.endpoint.keep.2.journal) h.1 in omega (arith, more),
    )

    -- with no connection open a new broker begins, and no other outcome tells it
    brokers_begin_anew : BeginsAnew told.Stopped w w
        × (BeginsAnew told.Reopened w w → ⊥)
    brokers_begin_anew = (
      (
        new_mail,
        new_mail,
        new_mail,
        record { between = new_mail; zero = refl; one = refl; site = refl },
        record { between = new_mail; zero = refl; one = refl; site = refl },
        record { between = new_mail; zero = refl; one = refl; site = refl },
        refl,
      ),
      λ h. h.6,
    )

    -- a connection that isn't open isn't cut, and the other services and the mail stay
    services_act_alone : AtPurchasing seen seen seen (Cuts Zero) told.Closed w w
        × At seen seen seen Warehouse (Cut Zero) told.Closed w w
        × WorldStep seen seen seen (event.Cut (record { service = Billing; number = Zero })) told.Closed w w
        × (AtPurchasing seen seen seen (Cuts Zero) told.Cut w w → ⊥)
        × (At seen seen seen Warehouse (Cut Zero) told.Closed w (world true placed 0 new_mail) → ⊥)
        × (WorldStep seen seen seen (event.Cut (record { service = Billing; number = Zero })) told.Closed
        w (world true placed 0 new_mail) → ⊥)
        × (WorldStep seen seen seen (event.Pump 3) told.Pumped w w → ⊥)
    services_act_alone = (
      ((refl, (refl, refl)), refl, refl),
      ((refl, (refl, refl)), refl, refl),
      ((refl, (refl, refl)), refl, refl),
      λ h. let told = h.0.0 in absurd (cc),
      λ h. let more : 1 ≡ 0 = ap (λ (s : _). length s.endpoint.keep.2.journal) h.1 in omega (arith, more),
      λ h. let more : 1 ≡ 0 = ap (λ (s : _). length s.endpoint.keep.2.journal) h.1 in omega (arith, more),
      λ h. h,
    )

    -- ---- tables

    -- an event that changes no tables moves nothing
    tables_change : AllowedDeed orders_service (λ _. None) (Cuts Zero) told.Closed empty empty
        × (AllowedDeed orders_service (λ _. None) (Cuts Zero) told.Closed empty placed → ⊥)
        × InPurchasing (Cuts Zero) told.Closed (moment w all_empty) (moment w all_empty)
        × In Billing (Cut Zero) told.Closed (moment w all_empty) (moment w all_empty)
        × TablesStep (event.Show placing.entity) told.Absent (moment w all_empty) (moment w all_empty)
        × (Same (moment w all_empty) (moment w (record all_empty { purchasing = placed })) → ⊥)
        × (TablesStep (event.Pump 3) told.Pumped (moment w all_empty) (moment w all_empty) → ⊥)
    tables_change = (
      (Nothing, refl, refl),
      moved,
      ((Nothing, refl, refl), refl, refl),
      ((Nothing, refl, refl), refl, refl),
      refl,
      λ h. let more : 1 ≡ 0 = ap (λ (t : AllTables). length t.purchasing.journal) h in omega (arith, more),
      λ h. h,
    )
      where
        moved : AllowedDeed orders_service (λ _. None) (Cuts Zero) told.Closed empty placed → ⊥
        moved (Nothing, may, did) = let more : 1 ≡ 0 = ap (λ (k : _). length k.journal) did in omega (arith, more)
        moved (TakesIn row, may, did) = absurd (cc)
        moved (_, may, did) = absurd (cc)
