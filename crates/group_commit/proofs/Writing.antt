-- What was gathered is written: the group is taken in whole or not at all.
use Rattle.std.proofs.Common.{◌≡◌, List, [], ◌∷◌, Option, Result, Ok, Err, sym, ap, ◌∙◌, subst, true}
use Rattle.std.proofs.Common.{arith, true≢false}
use Rattle.std.specs.Global.{Vec}
use Rattle.base.specs.Entity.{Entity}
use Rattle.envelope.specs.declared.message.Envelope.{Envelope}
use Rattle.activities.specs.Service.{Service}
use Rattle.activities.proofs.Sameness.{either}
use Rattle.keep.specs.Law.{Reads, Writes}
use Rattle.keep.specs.Seen.{Seen, IsSound, keep_end}
use Rattle.keep.specs.Tables.{Tables, changed, ArePlaced}
use Rattle.keep.specs.declared.fault.KeepFault.{KeepFault}
use Rattle.keep.specs.declared.fault.KeepFault.TheVariants as keep
use Rattle.keep.proofs.Arms.{then_served, then_failed}
use Rattle.endpoint.specs.Calls.{StillMatches}
use Rattle.endpoint.specs.Faults.{end_fault_of}
use Rattle.endpoint.specs.Matches.{TablesMatchJournal, AllMatch}
use Rattle.endpoint.specs.declared.fault.EndFault.{EndFault}
use Rattle.endpoint.specs.declared.fault.EndFault.TheVariants.{NotMine, Business, TooEarly, StoreFailed, Memory}
use Rattle.endpoint.specs.declared.fault.EndFault.TheVariants.{Unusable, NumberLimit, NotSent}
use Rattle.group_commit.specs.Group.{TakesEach, Groups}
use Rattle.group_commit.specs.Parts.Planning.{IsGathered, WritesGroup}
use Rattle.group_commit.specs.declared.group.Group.{Group}
use Rattle.group_commit.specs.declared.grouped.Grouped.{Grouped}

-- a store's fault is told as it is
module _ {E S C : Type 0} (seen : E → Seen (Tables S C)) (old new : E) (group : Group S C) where
  pub write_told : (fault : KeepFault) (r : Result (Vec Grouped) EndFault) (told : EndFault) → r ≡ Err told
      → told ≡ end_fault_of fault
      → Writes seen old new {R = Unit} (ArePlaced group.changes.items) (changed group.changes.items)
      (keep_end (Err fault))
      → WritesGroup seen old new group r
  write_told keep.Memory r told is e h =
      rw (is, e) (record { call = h.call; doubt = h.doubt; clean = h.clean }, tt)
  write_told keep.Failed r told is e h =
      rw (is, e) (record { call = h.call; doubt = h.doubt; clean = h.clean }, tt)
  write_told keep.WrongFile r told is e h = absurd h.call.1

module _ {E S C : Type 0} (seen : E → Seen (Tables S C)) (sound : (k : E) → IsSound (seen k)) (service : Service S C)
    (Follows : Option Entity → S → S → Type 0) (es : List Envelope) where
  abbrev Good : Tables S C → Type 0
  Good = TablesMatchJournal service

  takes-match : (xs : List Envelope) (gs : List Grouped) (t u : Tables S C) → TakesEach service xs gs t u → Good t → Good u
  takes-match xs [] t u each good = subst Good (sym each) good
  takes-match [] (g ∷ gs) t u each good = absurd each
  takes-match (x ∷ xs) (g ∷ gs) t u each good = takes-match xs gs each.0 u each.2 each.1.matches

  abbrev Both : E → E → Result (Vec Grouped) EndFault → Type 0
  Both old new result = Groups seen old new service es result × StillMatches seen old new service

  module _ (old mid : E) where
    good_now : (seen old).doubt ≡ 0 → (seen old).usable ≡ true → AllMatch service (seen old).may_leave
        → Good (seen old).tables
    good_now clean up good = good (seen old).tables ((sound old).stays clean up)

    -- the reading failed
    pub not_gathered : (fault : KeepFault) → Reads seen old mid (IsGathered service Follows es) (keep_end (Err fault))
        → Both old mid (Err (end_fault_of fault))
    not_gathered keep.Memory r = let d = r.doubt in (
      record { call = r.call; doubt = r.doubt; clean = λ clean good. r.clean clean },
      λ clean good t l. subst Good (sym ((sound mid).only_now clean r.call.1 t l ∙ r.clean clean))
          (good_now (omega (arith, clean, d)) r.call.0 good),
    )
    not_gathered keep.Failed r = let d = r.doubt in (
      record { call = r.call; doubt = r.doubt; clean = λ clean good t l. ([], r.clean clean t l) },
      λ clean good t l. subst Good (sym (r.clean clean t l)) (good_now (omega (arith, clean, d)) r.call.0 good),
    )
    not_gathered keep.WrongFile r = absurd r.call.1

    module _ (new : E) (group : Group S C)
        (r : Reads seen old mid {R = Group S C} {F = KeepFault} (IsGathered service Follows es) (Ok group)) where
      abbrev made : Tables S C
      made = changed group.changes.items (seen old).tables

      pub written : (result : Result (Vec Grouped) EndFault) → WritesGroup seen mid new group result → Both old new result
      written (Ok told) w = let d = r.doubt in let e = w.0.doubt in
          let to : (seen new).doubt ≡ 0 → Good (seen old).tables
          → TakesEach service es told.items (seen old).tables (seen new).tables =
          λ clean good.
          let read = r.clean (omega (arith, clean, e)) in
          let it = read.0.0 good in
          let now : (seen new).tables ≡ made =
          w.0.clean clean (subst (ArePlaced group.changes.items) (sym read.1) it.1)
          ∙ ap (changed group.changes.items) read.1 in
          subst (λ (v : Vec Grouped). TakesEach service es v.items (seen old).tables (seen new).tables) (sym w.1)
          (subst (TakesEach service es group.told.items (seen old).tables) (sym now) it.0) in (
            record {
              call = then_served seen old mid new r.call w.0.call;
              doubt = omega (arith, d, e);
              clean = λ clean good. to clean (good_now (omega (arith, clean, d, e)) r.call.0 good);
            },
            λ clean good t l.
                let g = good_now (omega (arith, clean, d, e)) r.call.0 good in
                subst Good (sym ((sound new).only_now clean w.0.call.1 t l))
                (takes-match es told.items (seen old).tables (seen new).tables (to clean g) g),
          )
      written (Err StoreFailed) w = let d = r.doubt in let e = w.0.doubt in
          let each : (seen new).doubt ≡ 0 → Good (seen old).tables → (t : Tables S C) → (seen new).may_leave t
          → (gs : List Grouped) × TakesEach service es gs (seen old).tables t =
          λ clean good t l.
          let read = r.clean (omega (arith, clean, e)) in
          let it = read.0.0 good in
          either (w.0.clean clean (subst (ArePlaced group.changes.items) (sym read.1) it.1) t l)
          (λ same. ([], same ∙ read.1))
          (λ now. (
            group.told.items,
            subst (TakesEach service es group.told.items (seen old).tables)
                (sym (now ∙ ap (changed group.changes.items) read.1)) it.0,
          )) in (
            record {
              call = then_failed seen old mid new r.call w.0.call;
              doubt = omega (arith, d, e);
              clean = λ clean good. each clean (good_now (omega (arith, clean, d, e)) r.call.0 good);
            },
            λ clean good t l.
                let g = good_now (omega (arith, clean, d, e)) r.call.0 good in
                let one = each clean g t l in
                takes-match es one.0 (seen old).tables t one.1 g,
          )
      written (Err Memory) w = let d = r.doubt in let e = w.0.doubt in
          let same : (seen new).doubt ≡ 0 → Good (seen old).tables → (seen new).tables ≡ (seen old).tables =
          λ clean good.
          let read = r.clean (omega (arith, clean, e)) in
          w.0.clean clean (subst (ArePlaced group.changes.items) (sym read.1) (read.0.0 good).1) ∙ read.1 in (
            record {
              call = then_served seen old mid new r.call w.0.call;
              doubt = omega (arith, d, e);
              clean = λ clean good. same clean (good_now (omega (arith, clean, d, e)) r.call.0 good);
            },
            λ clean good t l.
                let g = good_now (omega (arith, clean, d, e)) r.call.0 good in
                subst Good (sym ((sound new).only_now clean w.0.call.1 t l ∙ same clean g)) g,
          )
      written (Err Unusable) w = absurd (true≢false (sym r.call.1 ∙ w.0.call.0))
      written (Err NotMine) w = absurd w.0.call.1
      written (Err (Business b)) w = absurd w.0.call.1
      written (Err TooEarly) w = absurd w.0.call.1
      written (Err NumberLimit) w = absurd w.0.call.1
      written (Err NotSent) w = absurd w.0.call.1
