-- How a transaction ends that writes the rows of version 1 as those of today.
use Rattle.std.proofs.Common.{◌≡◌, ◌≤◌, ◌⊎◌, inl, inr, false, true, IsTrue, sym, ap, subst, ◌∙◌, true≢false, arith}
use Rattle.std.proofs.Common.{refl, map, ℕ, Bool, Result, Ok, Err, IfOk}
use Rattle.std.specs.List.{AllByRecursion}
use Rattle.sqlite_catalog.specs.Listing.{IsSound}
use Rattle.sqlite_schema.specs.declared.schema.Schema.{Schema}
use Rattle.sqlite_schema.specs.declared.schema.Table.{Table}
use Rattle.sqlite_trees.specs.Tree.{Trees}
use Rattle.sqlite.specs.declared.error.Error.{Error}
use Rattle.sqlite.specs.Effect.{Database}
use Rattle.sqlite.specs.State.{State, HasCleanDisk, Shows, KeepsCommit, IsRolledBack, Survives}
use Rattle.sqlite.specs.Steps.{FailsToCommit}
use Rattle.sql_rows.specs.FirstVersion.{IsTold, first_about_tree, first_schema_of}
use Rattle.sql_rows.specs.Schema.{about_tree, no_tables, schema_of}
use Rattle.sql_rows.specs.Tables.{Edits, IsRising, Stays}
use Rattle.sql_rows.specs.declared.service.Service.{Service}
use Rattle.sql_rows.specs.declared.service.Service.TheVariants.{Purchasing, Warehouse, Billing}
use Rattle.keep_sqlite.specs.Filing.{Filing}
use Rattle.keep_sqlite.specs.Found.{TellsOf, TellsOfService, TellsVersion}
use Rattle.keep_sqlite.specs.Migration.{FirstFiling, AreRenewed, IsFirst, IsFirstFile, IsOfToday, Renews, as_today}
use Rattle.keep_sqlite.specs.Migration.{first_tables_of}
use Rattle.keep_sqlite.specs.Ready.{IsReady}
use Rattle.keep_sqlite.specs.Tables.{marks_in, messages_in, row_in}
use Rattle.keep_sqlite.proofs.Frames.{IsLeft, common_first, common_tables}

module _ {S C : Type 0} (first : FirstFiling S C) (f : Filing S C) (old begun staged new : State)
    (settled : HasCleanDisk old → old.now ≡ old.committed) (begins : begun ≡ record old { in_transaction = true })
    (start : Survives begun staged (λ _. ⊥)) where
  begun_clean : HasCleanDisk staged → HasCleanDisk old
  begun_clean clean = subst HasCleanDisk begins (let e = start.clean in omega (arith, e, clean))

  begun_may : HasCleanDisk staged → (db : Trees) → staged.may_leave db → old.may_leave db
  begun_may clean db may = elim (start.crash clean db may) [
    | inl was ↦ subst (λ (s : State). s.may_leave db) begins was
    | inr none ↦ absurd none
  ]

  committed : HasCleanDisk staged → KeepsCommit begun staged → IsTrue staged.is_open → staged.committed ≡ old.committed
  committed clean kept live = kept.committed live ∙ ap (λ (s : State). s.committed) begins

  module _ (second : Survives staged new (λ _. ⊥)) where
    staged_clean : HasCleanDisk new → HasCleanDisk staged
    staged_clean clean = let e = second.clean in omega (arith, e, clean)

    pub undone_same : (HasCleanDisk staged → KeepsCommit begun staged) → (HasCleanDisk new → IsRolledBack staged new)
        → HasCleanDisk new → IsTrue new.is_open → new.committed ≡ old.committed
    undone_same kept back clean live =
        let b = back clean in
        (b.undone live).1 ∙ committed (staged_clean clean) (kept (staged_clean clean)) (b.was_open live)

    pub undone_left : (db : Trees) → HasCleanDisk new → new.may_leave db → old.may_leave db
    undone_left db clean may = elim (second.crash clean db may) [
      | inl was ↦ begun_may (staged_clean clean) db was
      | inr none ↦ absurd none
    ]

  module _ (made : HasCleanDisk staged → Renews first f begun staged)
      (second : Survives staged new (λ db. db ≡ staged.now.trees)) where
    sent_clean : HasCleanDisk new → HasCleanDisk staged
    sent_clean clean = let e = second.clean in omega (arith, e, clean)

    renewed : HasCleanDisk staged → AreRenewed first f old.committed.trees staged.now.trees
    renewed clean =
        let m = made clean in record {
          tables = m.tables ∙ ap (λ (s : State). first_tables_of first s.now.trees) begins
              ∙ ap (λ (d : Database). first_tables_of first d.trees) (settled (begun_clean clean));
          about = m.about;
          sound = subst (λ (s : Schema). IsSound s staged.now.trees) m.schema m.sound;
        }

    pub done_renewed : (HasCleanDisk new → Shows staged new staged.now staged.now false) → HasCleanDisk new
        → AreRenewed first f old.committed.trees new.committed.trees × (new.now ≡ new.committed)
    done_renewed shown clean =
        let s = shown clean in (
          subst (λ (d : Database). AreRenewed first f old.committed.trees d.trees) (sym s.committed_is)
              (renewed (sent_clean clean)),
          s.now_is ∙ sym s.committed_is,
        )

    pub done_left : (db : Trees) → HasCleanDisk new → new.may_leave db
        → old.may_leave db ⊎ AreRenewed first f old.committed.trees db
    done_left db clean may = elim (second.crash clean db may) [
      | inl was ↦ inl (begun_may (sent_clean clean) db was)
      | inr is ↦ inr (subst (AreRenewed first f old.committed.trees) (sym is) (renewed (sent_clean clean)))
    ]

    pub refused_same : (e : Error) → (HasCleanDisk new → FailsToCommit staged new e) → HasCleanDisk new
        → IsTrue new.is_open → new.committed ≡ old.committed
    refused_same e fails clean live = elim (fails clean) [
      | inl failed ↦ (
          let made_here = made (sent_clean clean) in
          let b = failed.3 in
          (b.undone live).1 ∙ made_here.shown.committed_is ∙ ap (λ (s : State). s.committed) begins)
      | inr outside ↦ absurd (true≢false (sym (made (sent_clean clean)).shown.mode ∙ outside.1))
    ]

-- ---- a file that is found

-- a file with the first schema whose `about` names version 1 of the service is one of version 1
pub first_file : {E : Type 0} (service : Service) (old new : State) → Stays old new → IsTrue new.is_open
    → old.now ≡ old.committed → old.now.schema ≡ first_schema_of service
    → AllByRecursion (λ (t : Table). IsRising (old.now.trees t.tree)) old.now.schema.tables
    → (result : Result Bool E)
    → IfOk result (λ t. IsTrue t → TellsVersion 1 service (old.now.trees (first_about_tree service)))
    → IfOk result (λ t. IsTrue t → IsFirstFile service new)
first_file service old new stays live settled has rising (Err e) h = tt
first_file service old new stays live settled has rising (Ok t) h = λ so.
    let same = stays.now_is live in
    record {
      is_open = live;
      settled = same ∙ settled ∙ sym (stays.committed_is live);
      first = subst (IsFirst service) (sym same) (record {
        is = has;
        rising = subst (λ (s : Schema). AllByRecursion (λ (t : Table). IsRising (old.now.trees t.tree)) s.tables) has rising;
      });
      tells = subst (λ (d : Database). TellsVersion 1 service (d.trees (first_about_tree service))) (sym same) (h so);
    }

-- ---- a file that stays

-- tables with today's schema, and an `about` of the service, are a file of today
pub is_of_today : {S C : Type 0} (f : Filing S C) (count : ℕ) (s : State) → IsReady f.schema count s
    → TellsOfService f s.now.trees → IsOfToday f s.committed
is_of_today f count s ready tells = subst (IsOfToday f) ready.settled (inl (ready.filed.is, tells))

-- a file without tables is as good as one of today: it gets them when it's opened
pub is_without_tables : {S C : Type 0} (f : Filing S C) (s : State) → s.now ≡ s.committed → s.now.schema ≡ no_tables
    → IsOfToday f s.committed
is_without_tables f s settled none = subst (IsOfToday f) settled (inr none)

-- ---- a file that differs in what the table `about` tells alone

high : (service : Service) → 9 ≤ about_tree service
high Purchasing = omega arith
high Warehouse = omega arith
high Billing = omega arith

module _ {S C : Type 0} (f : Filing S C) (old new : State) (was : IsFirst f.is_service.service old.now)
    (as_now : first_schema_of f.is_service.service ≡ schema_of f.is_service.service)
    (told : Edits (about_tree f.is_service.service) (IsTold f.is_service.service) old new)
    (entity_stays : f.entity new.now.trees ≡ f.entity old.now.trees) where
  abbrev service : Service
  service = f.is_service.service

  has : old.now.schema ≡ schema_of service
  has = was.is ∙ as_now

  each : AllByRecursion (IsLeft (about_tree service) old.now.trees new.now.trees) (common_tables (schema_of service))
  each = subst (AllByRecursion (IsLeft (about_tree service) old.now.trees new.now.trees))
      (common_first (schema_of service) (record { service = service; is = refl }))
      (subst (λ (s : Schema). AllByRecursion (IsLeft (about_tree service) old.now.trees new.now.trees) s.tables) has
      told.others)

  pub version_renews : Renews (as_today f) f old new
  version_renews =
      let up = high service in
      let journal = each.0 (λ e. omega (arith, e, up)) in
      let outbox = each.1.0 (λ e. omega (arith, e, up)) in
      let out_marks = each.1.1.0 (λ e. omega (arith, e, up)) in
      let in_marks = each.1.1.1.0 (λ e. omega (arith, e, up)) in
      let held = each.1.1.1.1.0 (λ e. omega (arith, e, up)) in
      record {
        schema = told.same_schema ∙ has ∙ sym f.is_service.is;
        tables = λ i. record {
          journal = map (row_in f) (journal i);
          entity = entity_stays i;
          unsettled = messages_in (outbox i);
          sent = marks_in 3 (out_marks i);
          settled = marks_in 4 (out_marks i);
          handled = marks_in 3 (in_marks i);
          held = messages_in (held i);
        };
        about = subst (TellsOf service) (sym told.rows) (record { version_is = refl; name = refl });
        sound = told.sound;
        shown = told.shown;
      }
