-- What a store in files tells of its calls, from what the open one in it tells, and of a reopening, from what its
-- files do.
use Rattle.std.proofs.Common.{◌≡◌, ℕ, ◌≤◌, Bool, true, false, Result, Ok, Err, OnOk, OnErr, is_ok, IsTrue, refl}
use Rattle.std.proofs.Common.{sym, ◌∙◌, ap, subst, subst₂, le_refl, inl, inr, arith}
use Rattle.std.proofs.Math.Logic.{∥∥₁_map}
use Rattle.std.proofs.Math.Path.{subst₃}
use Rattle.sqlite_disk.specs.declared.Disk.{Ghosts}
use Rattle.sqlite_disk.specs.declared.Files.{Files}
use Rattle.sqlite_wal.specs.Reads.{are_clean}
use Rattle.sqlite_wal.proofs.LogLemmas.{SeenMayStay}
use Rattle.sqlite_wal.specs.Files.{seen_image}
use Rattle.sqlite_pool.proofs.StateLemmas.{may_leave_is}
use Rattle.sqlite_trees.specs.Tree.{Trees}
use Rattle.sqlite_trees.specs.View.{doubt}
use Rattle.sqlite_trees.proofs.Doubt.{clean_of}
use Rattle.sqlite_store.specs.declared.store.FileStore.{FileStore}
use Rattle.sqlite_store.specs.FileStore.{state, view, recovers, files}
use Rattle.sqlite.specs.Effect.{Database}
use Rattle.sqlite.specs.State.{State, Opens, IsLive}
use Rattle.sqlite_catalog.specs.Listing.{IsSound}
use Rattle.sqlite.specs.Held.{AreDatabases}
use Rattle.sqlite.specs.Files.{HoldsDatabase, image_of}
use Rattle.sqlite.proofs.OpenLemmas.{pool_files}
use Rattle.sqlite.proofs.Theorems.{opens_again}
use Rattle.keep.specs.Law.{Never, IsCall, IsRead, IsTransaction, IsReopenCall, IsReopening, Reads, Writes, Reopens}
use Rattle.keep.specs.Seen.{Seen, keep_end}
use Rattle.keep.specs.Tables.{Tables}
use Rattle.keep.specs.declared.fault.KeepFault.{KeepFault}
use Rattle.keep.specs.declared.fault.KeepFault.TheVariants.{Failed, Memory, WrongFile}
use Rattle.keep_sqlite.specs.Filing.{Filing}
use Rattle.keep_sqlite.specs.Tables.{tables_of}
use Rattle.keep_sqlite.specs.Law.{LeavesTables}
use Rattle.keep_sqlite.specs.Found.{IsTakenOver, AreIn, TellsOfService}
use Rattle.keep_files.specs.declared.files.Access.{Access}
use Rattle.keep_files.specs.declared.files.Access.TheVariants.{Open}
use Rattle.keep_files.specs.Reopening.{seen_open, seen_by, AreCounted}

-- ---- what a store leaves in its files

module _ {D : Type 0} {g : Ghosts D} (it : FileStore D g) (left : Files D)
    (closed : (left.log, left.db) ≡ files it) where
  pub clean_left : (view it).is_clean ≡ are_clean g left.log left.db
  clean_left = (pool_files it.pool).1 ∙ sym (ap (λ p. are_clean g p.0 p.1) closed)

  -- one of the databases that a crash may leave
  pub held_left : SeenMayStay g → doubt (are_clean g left.log left.db) ≡ 0 → IsTrue (view it).is_numbered
      → AreDatabases (recovers it) → ∥ ((db : Trees) × recovers it db × HoldsDatabase (image_of g left) db) ∥₁
  held_left stays none numbered sound =
      let clean = clean_of _ none in
      let both : IsTrue (are_clean g (files it).0 (files it).1) =
      subst (λ p. IsTrue (are_clean g p.0 p.1)) closed clean in
      let may = subst (λ p. (state it).may_leave (seen_image g p.0 p.1)) (sym closed)
      (may_leave_is it.pool _ both (stays _, stays _)) in
      opens_again it numbered sound (image_of g left) may

-- ---- what is seen of an open store

module _ {T : Type 0} where
  pub open_counts : (told : Bool) (s : Seen T) (n : ℕ) → s.failures ≡ n → (seen_open told s).failures ≡ n
  open_counts true s n is = is
  open_counts false s n is = is

  -- where there is no doubt it's what the store shows
  pub open_shows : (told : Bool) (s : Seen T) (t : T) → (s.doubt ≡ 0 → s.tables ≡ t) → (seen_open told s).doubt ≡ 0
      → (seen_open told s).tables ≡ t
  open_shows true s t shows none = shows none
  open_shows false s t shows none = absurd (let z : 1 ≡ 0 = none in cc)

-- ---- calls of an open store

-- what a call tells is told of what is seen before it and after it
abbrev pick : {T : Type 0} → Seen T → Seen T → Bool → Seen T
pick before after false = before
pick before after true = after

module _ {T E : Type 0} (seen : E → Seen T) (old new : E) where
  module _ {R : Type 0} where
    call_of : (result : Result R KeepFault) → IsCall (pick (seen old) (seen new)) false true Never (keep_end result)
        → IsCall seen old new Never (keep_end result)
    call_of (Ok r) h = h
    call_of (Err Memory) h = h
    call_of (Err Failed) h = h
    call_of (Err WrongFile) h = h

    call_to : (result : Result R KeepFault) → IsCall seen old new Never (keep_end result)
        → IsCall (pick (seen old) (seen new)) false true Never (keep_end result)
    call_to (Ok r) h = h
    call_to (Err Memory) h = h
    call_to (Err Failed) h = h
    call_to (Err WrongFile) h = h

    read_of : (gives : T → R → Type 0) (result : Result R KeepFault)
        → IsRead (pick (seen old) (seen new)) false true gives (λ _. Never) (keep_end result)
        → IsRead seen old new gives (λ _. Never) (keep_end result)
    read_of gives (Ok r) h = h
    read_of gives (Err Memory) h = h
    read_of gives (Err Failed) h = h
    read_of gives (Err WrongFile) h = h

    read_to : (gives : T → R → Type 0) (result : Result R KeepFault)
        → IsRead seen old new gives (λ _. Never) (keep_end result)
        → IsRead (pick (seen old) (seen new)) false true gives (λ _. Never) (keep_end result)
    read_to gives (Ok r) h = h
    read_to gives (Err Memory) h = h
    read_to gives (Err Failed) h = h
    read_to gives (Err WrongFile) h = h

  made_of : (to : T → T) (result : Result Unit KeepFault)
      → IsTransaction (pick (seen old) (seen new)) false true to (keep_end result)
      → IsTransaction seen old new to (keep_end result)
  made_of to (Ok r) h = h
  made_of to (Err Memory) h = h
  made_of to (Err Failed) h = h
  made_of to (Err WrongFile) h = h

  made_to : (to : T → T) (result : Result Unit KeepFault)
      → IsTransaction seen old new to (keep_end result)
      → IsTransaction (pick (seen old) (seen new)) false true to (keep_end result)
  made_to to (Ok r) h = h
  made_to to (Err Memory) h = h
  made_to to (Err Failed) h = h
  made_to to (Err WrongFile) h = h

  reopened_of : (result : Result Unit KeepFault)
      → IsReopenCall (pick (seen old) (seen new)) false true (keep_end result)
      → IsReopenCall seen old new (keep_end result)
  reopened_of (Ok r) h = h
  reopened_of (Err Memory) h = h
  reopened_of (Err Failed) h = h
  reopened_of (Err WrongFile) h = h

  found_of : (result : Result Unit KeepFault) → IsReopening (pick (seen old) (seen new)) false true (keep_end result)
      → IsReopening seen old new (keep_end result)
  found_of (Ok r) h = h
  found_of (Err fault) h = h

-- what is told of these two
pub record IsToldRead {T R : Type 0} (s s' : Seen T) (gives : T → R → Type 0) (result : Result R KeepFault)
    : Type 0 where
  pub call : IsCall (pick s s') false true Never (keep_end result)
  pub doubt : s.doubt ≤ s'.doubt
  pub clean : s'.doubt ≡ 0 → IsRead (pick s s') false true gives (λ _. Never) (keep_end result)

pub record IsToldWrite {T : Type 0} (s s' : Seen T) (Fit : T → Type 0) (to : T → T) (result : Result Unit KeepFault)
    : Type 0 where
  pub call : IsCall (pick s s') false true Never (keep_end result)
  pub doubt : s.doubt ≤ s'.doubt
  pub clean : s'.doubt ≡ 0 → Fit s.tables → IsTransaction (pick s s') false true to (keep_end result)

pub record IsToldReopening {T : Type 0} (s s' : Seen T) (result : Result Unit KeepFault) : Type 0 where
  pub call : IsReopenCall (pick s s') false true (keep_end result)
  pub doubt : s.doubt ≤ s'.doubt
  pub clean : s'.doubt ≡ 0 → IsReopening (pick s s') false true (keep_end result)

module _ {T K : Type 0} (seen : K → Seen T) (k k' : K) where
  call_by : {R : Type 0} (told : Bool) (result : Result R KeepFault) → IsCall seen k k' Never (keep_end result)
      → IsCall (pick (seen_open told (seen k)) (seen_open told (seen k'))) false true Never (keep_end result)
  call_by true result h = call_to seen k k' result h
  call_by false (Ok r) h = h
  call_by false (Err Memory) h = h
  call_by false (Err Failed) h = h
  call_by false (Err WrongFile) h = h

  open_reads : {R : Type 0} (told : Bool) (gives : T → R → Type 0) (result : Result R KeepFault)
      → Reads seen k k' gives (keep_end result)
      → IsToldRead (seen_open told (seen k)) (seen_open told (seen k')) gives result
  open_reads true gives result r = record {
    call = call_to seen k k' result r.call;
    doubt = r.doubt;
    clean = λ none. read_to seen k k' gives result (r.clean none);
  }
  open_reads false gives result r = record {
    call = call_by false result r.call;
    doubt = le_refl 1;
    clean = λ none. absurd (omega (arith, none));
  }

  open_writes : (told : Bool) (Fit : T → Type 0) (to : T → T) (result : Result Unit KeepFault)
      → Writes seen k k' Fit to (keep_end result)
      → IsToldWrite (seen_open told (seen k)) (seen_open told (seen k')) Fit to result
  open_writes true Fit to result w = record {
    call = call_to seen k k' result w.call;
    doubt = w.doubt;
    clean = λ none fit. made_to seen k k' to result (w.clean none fit);
  }
  open_writes false Fit to result w = record {
    call = call_by false result w.call;
    doubt = le_refl 1;
    clean = λ none. absurd (omega (arith, none));
  }

-- ---- reopenings

-- doubt over two files is 0 or 1
pub small_doubt : (b : Bool) → doubt b ≤ 1
unfolding doubt
small_doubt true = omega arith
small_doubt false = omega arith

-- two facts of a good result give a third
pub on_ok : {R F A B C : Type 0} (result : Result R F) → OnOk result A → OnOk result B → (A → B → C) → OnOk result C
on_ok (Ok r) a b so = so a b
on_ok (Err e) a b so = tt

-- one of the trees that a stop left is found
pub found_again : {S C : Type 0} (filing : Filing S C) (may_leave left holds : Trees → Type 0) (t : Tables S C)
    → ((db : Trees) → left db → may_leave db) → ((db : Trees) → holds db → t ≡ tables_of filing db)
    → ∥ ((db : Trees) × left db × holds db) ∥₁ → ∥ LeavesTables filing may_leave t ∥₁
found_again filing may_leave left holds t may reads some =
    ∥∥₁_map some (λ it. record { db = it.0; may = may it.0 it.1; reads = reads it.0 it.2 })

-- and one of them is held
pub held_again : {S C : Type 0} (filing : Filing S C) (may_leave left holds : Trees → Type 0)
    → ((db : Trees) → left db → may_leave db) → ∥ ((db : Trees) × left db × holds db) ∥₁
    → ∥ ((db : Trees) × holds db × LeavesTables filing may_leave (tables_of filing db)) ∥₁
held_again filing may_leave left holds may some =
    ∥∥₁_map some (λ it. (it.0, it.2, record { db = it.0; may = may it.0 it.1; reads = refl }))

open_reopens : {T : Type 0} (told : Bool) (s s' : Seen T) (result : Result Unit KeepFault) → s'.usable ≡ is_ok result
    → AreCounted result s.failures s'.failures → s'.armed ≡ s.armed → s.doubt ≤ 1
    → OnOk result (told ≡ true → s.doubt ≤ s'.doubt) → (told ≡ false → s'.doubt ≡ 1) → OnErr result (s'.doubt ≡ 1)
    → OnOk result (told ≡ true → s'.doubt ≡ 0 → ∥ s.may_leave s'.tables ∥₁)
    → IsToldReopening (seen_open told s) s' result
open_reopens true s s' (Ok r) usable counted armed small doubted untold shut finds =
    record { call = (usable, counted, armed); doubt = doubted refl; clean = λ none. finds refl none }
open_reopens true s s' (Err Memory) usable counted armed small doubted untold shut finds = record {
  call = (usable, counted, armed);
  doubt = omega (arith, small, shut);
  clean = λ none. absurd (omega (arith, none, shut));
}
open_reopens true s s' (Err Failed) usable counted armed small doubted untold shut finds = record {
  call = (usable, counted, armed);
  doubt = omega (arith, small, shut);
  clean = λ none. absurd (omega (arith, none, shut));
}
open_reopens true s s' (Err WrongFile) usable counted armed small doubted untold shut finds = absurd counted
open_reopens false s s' (Ok r) usable counted armed small doubted untold shut finds = record {
  call = (usable, counted, armed);
  doubt = omega (arith, untold refl);
  clean = λ none. absurd (omega (arith, none, untold refl));
}
open_reopens false s s' (Err Memory) usable counted armed small doubted untold shut finds = record {
  call = (usable, counted, armed);
  doubt = omega (arith, shut);
  clean = λ none. absurd (omega (arith, none, shut));
}
open_reopens false s s' (Err Failed) usable counted armed small doubted untold shut finds = record {
  call = (usable, counted, armed);
  doubt = omega (arith, shut);
  clean = λ none. absurd (omega (arith, none, shut));
}
open_reopens false s s' (Err WrongFile) usable counted armed small doubted untold shut finds = absurd counted

told_left : {T : Type 0} (told : Bool) (s : Seen T) (P : (T → Type 0) → Type 0) → (s.doubt ≡ 0 → P s.may_leave)
    → (seen_open told s).doubt ≡ 0 → P (seen_open told s).may_leave
told_left true s P held = held
told_left false s P held = λ none. absurd (omega (arith, none))

-- what is taken over of a connection that was just opened is in the database that it found
pub taken_over : {S C : Type 0} (filing : Filing S C) (s : State) (db : Trees) (t : Tables S C) → Opens s → IsLive s
    → s.committed.trees ≡ db → IsTakenOver filing s t → AreIn filing db t
taken_over filing s db t opens live is (inl own) =
    inl (
      subst (IsSound filing.schema) is own.0,
      own.1 ∙ ap (tables_of filing) is,
      subst (TellsOfService filing) is own.2,
    )
taken_over filing s db t opens live is (inr none) =
    inr (subst₂ IsSound none.0 (ap (λ (d : Database). d.trees) opens.clean ∙ is) (live opens.is_open).0, none.1)

-- of a store `E` that has this access
module _ {T K F E : Type 0} (seen : K → Seen T) (none : T) (told : E → Bool) (failures : E → ℕ)
    (access : E → Access K F) (old new : E) where
  abbrev shown : E → Seen T
  shown f = seen_by seen none (told f) (failures f) (access f)

  pub read_by : {R : Type 0} (k k' : K) → access old ≡ Open k → access new ≡ Open k' → told new ≡ told old
      → (gives : T → R → Type 0) (result : Result R KeepFault) → Reads seen k k' gives (keep_end result)
      → Reads shown old new gives (keep_end result)
  read_by k k' was is same gives result r =
      let at = λ (a a' : Access K F) (t' : Bool).
      IsToldRead (seen_by seen none (told old) (failures old) a) (seen_by seen none t' (failures new) a') gives
      result in
      let s = subst₃ at (sym was) (sym is) (sym same) (open_reads seen k k' (told old) gives result r) in
      record {
        call = call_of shown old new result s.call;
        doubt = s.doubt;
        clean = λ none. read_of shown old new gives result (s.clean none);
      }

  pub write_by : (k k' : K) → access old ≡ Open k → access new ≡ Open k' → told new ≡ told old
      → (Fit : T → Type 0) (to : T → T) (result : Result Unit KeepFault) → Writes seen k k' Fit to (keep_end result)
      → Writes shown old new Fit to (keep_end result)
  write_by k k' was is same Fit to result w =
      let at = λ (a a' : Access K F) (t' : Bool).
      IsToldWrite (seen_by seen none (told old) (failures old) a) (seen_by seen none t' (failures new) a') Fit to
      result in
      let s = subst₃ at (sym was) (sym is) (sym same) (open_writes seen k k' (told old) Fit to result w) in
      record {
        call = call_of shown old new result s.call;
        doubt = s.doubt;
        clean = λ none fit. made_of shown old new to result (s.clean none fit);
      }

  pub reopens_by : (k : K) → access old ≡ Open k → (result : Result Unit KeepFault)
      → (shown new).usable ≡ is_ok result → AreCounted result (seen k).failures (shown new).failures
      → (shown new).armed ≡ (seen k).armed → (seen k).doubt ≤ 1
      → OnOk result (told old ≡ true → (seen k).doubt ≤ (shown new).doubt)
      → (told old ≡ false → (shown new).doubt ≡ 1) → OnErr result ((shown new).doubt ≡ 1)
      → OnOk result (told old ≡ true → (shown new).doubt ≡ 0 → ∥ (seen k).may_leave (shown new).tables ∥₁)
      → Reopens shown old new (keep_end result)
  reopens_by k was result usable counted armed small doubted untold shut finds =
      let at = λ (a : Access K F).
      IsToldReopening (seen_by seen none (told old) (failures old) a) (shown new) result in
      let s = subst at (sym was)
      (open_reopens (told old) (seen k) (shown new) result usable counted armed small doubted untold shut finds) in
      record {
        call = reopened_of shown old new result s.call;
        doubt = s.doubt;
        clean = λ none. found_of shown old new result (s.clean none);
      }

  pub files_by : (k : K) → access old ≡ Open k → (P : (T → Type 0) → Type 0)
      → ((seen k).doubt ≡ 0 → P (seen k).may_leave) → (shown old).doubt ≡ 0 → P (shown old).may_leave
  files_by k was P held =
      let at = λ (a : Access K F). (seen_by seen none (told old) (failures old) a).doubt ≡ 0
      → P (seen_by seen none (told old) (failures old) a).may_leave in
      subst at (sym was) (told_left (told old) (seen k) P held)
