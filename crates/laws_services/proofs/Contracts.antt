-- From what a call's contract tells to the step that it is.
use Rattle.std.proofs.Common.{◌≡◌, ℕ, ◌≤◌, ◌⊎◌, inl, inr, List, [], ◌∷◌, Option, Some, Result, Ok, Err, refl, sym, ap}
use Rattle.std.proofs.Common.{◌∙◌, subst, arith}
use Rattle.std.specs.Prelude.{Contains, slice_get}
use Rattle.std.specs.Global.{Vec}
use Rattle.std.proofs.Math.Logic.{∥∥₁_map}
use Rattle.base.specs.Entity.{Entity}
use Rattle.base.specs.declared.limits.TheConstants.{HELD_WINDOW}
use Rattle.base.specs.declared.pair.Pair.{Pair}
use Rattle.envelope.specs.declared.message.Envelope.{Envelope}
use Rattle.envelope.specs.declared.message.Envelope.TheVariants as envelope
use Rattle.envelope.specs.declared.message.Letter.{Letter}
use Rattle.activities.specs.Service.{Service}
use Rattle.activities.specs.declared.input.JournalRow.{JournalRow}
use Rattle.activities.proofs.Journals.{command_row}
use Rattle.activities.proofs.Sameness.{either}
use Rattle.keep.specs.declared.change.LetterPlace.{LetterPlace}
use Rattle.keep.specs.Law.{IsServed, IsCall, Reads}
use Rattle.keep.specs.Listing.{AreFirst}
use Rattle.keep.specs.Seen.{Seen, IsSound, End, no_memory, failed, unusable, refused}
use Rattle.keep.specs.Tables.{Tables}
use Rattle.endpoint.specs.Arrivals.{IsDone, DidAllowed, IngestMay, DrainMay, SettleMay}
use Rattle.endpoint.specs.Calls.{Appends, IsCommit, Commits, DoesDeed, MayRefuse, MayTurnAway, ComesBy, StillMatches}
use Rattle.endpoint.specs.Calls.{Stays, Finds}
use Rattle.endpoint.specs.Deeds.{Kept, kept, Deed, Nothing, TakesIn, Did, Came}
use Rattle.endpoint.specs.Faults.{end_of}
use Rattle.endpoint.specs.Matches.{AllMatch}
use Rattle.endpoint.specs.declared.answer.Committed.{Committed}
use Rattle.endpoint.specs.declared.answer.Ingested.{Ingested}
use Rattle.endpoint.specs.declared.answer.Ingested.TheVariants as ingested
use Rattle.endpoint.specs.declared.fault.EndFault.{EndFault}
use Rattle.endpoint.specs.declared.fault.EndFault.TheVariants.{NotMine, Business, TooEarly, StoreFailed, Memory}
use Rattle.endpoint.specs.declared.fault.EndFault.TheVariants.{Unusable, NumberLimit, NotSent}
use Rattle.laws_stores.specs.Good.{IsHeldIn}
use Rattle.laws_stores.proofs.Founded.{nothing_is, command_is, ingest_is, settle_is, drain_is}
use Rattle.laws_stores.proofs.Writing.{handled_true, repeated_true, drained_true, listed_stands, outbox_true}
use Rattle.laws_services.specs.Steps.{IsFounded, Does, TakesLetter, MayWrite}

module _ {E S C : Type 0} (seen : E → Seen (Tables S C)) (service : Service S C) (old new : E) where
  -- what is allowed so is allowed thus
  pub does_more : (allowed more : Kept C → Deed C → Type 0) → ((x : Kept C) (d : Deed C) → allowed x d → more x d)
      → (seen old).doubt ≤ (seen new).doubt → ComesBy seen old new service allowed → StillMatches seen old new service
      → Does seen service more old new
  does_more allowed more weaker doubt comes matches = record {
    doubt = doubt;
    comes = λ clean match t l. let c = comes clean match t l in
        ∣ record {
          before = c.before;
          through = t ∷ [];
          was = c.was;
          did = ((c.deed, weaker (kept c.before) c.deed c.may, c.did), refl);
        } ∣₁;
    matches = matches;
  }

  -- and a letter is taken where an `Ok` of it is
  pub takes_more : (allowed : Kept C → Deed C → Type 0) (l : Letter)
      → ((x : Kept C) (d : Deed C) → allowed x d → (answer : Ingested) × IngestMay service l (Ok answer) x d)
      → ComesBy seen old new service allowed → TakesLetter seen service l old new
  takes_more allowed l weaker comes clean match t may = let c = comes clean match t may in
      ∣ (
        record {
          before = c.before;
          through = t ∷ [];
          was = c.was;
          did = ((c.deed, tt, c.did), refl);
        },
        inl (c.deed, weaker (kept c.before) c.deed c.may, c.did),
      ) ∣₁

  -- what is there then was there before
  pub found_does : (written : List Envelope) → (seen old).doubt ≤ (seen new).doubt → Finds seen old new
      → StillMatches seen old new service
      → Does seen service (IsFounded written) old new
  found_does written doubt finds matches = record {
    doubt = doubt;
    comes = λ clean match t l. ∥∥₁_map (finds clean t l) (λ was. record {
      before = t;
      through = [];
      was = was;
      did = refl;
    });
    matches = matches;
  }

  pub stays_does : (written : List Envelope) → (seen old).doubt ≤ (seen new).doubt → Stays seen old new
      → Does seen service (IsFounded written) old new
  stays_does written doubt stays =
      found_does written doubt (λ clean t l. ∣ stays clean t l ∣₁) (λ clean match t l. match t (stays clean t l))

module _ {E S C : Type 0} (seen : E → Seen (Tables S C)) (sound : (k : E) → IsSound (seen k)) (service : Service S C)
    (old new : E) where
  -- ---- calls that do a deed

  -- a call that is told by one deed tells so of each content
  module _ {R : Type 0} (May : EndFault → Type 0) (may : Result R EndFault → Kept C → Deed C → Type 0)
      (unused : (x : Kept C) → may (Err Unusable) x Nothing) (doubt : (seen old).doubt ≤ (seen new).doubt) where
    abbrev Done : Result R EndFault → Type 0
    Done result = AllMatch service (seen old).may_leave
        → IsDone HELD_WINDOW service may (seen old).tables (seen new).tables (seen new).may_leave result

    clean_before : (seen new).doubt ≡ 0 → (seen old).doubt ≡ 0
    clean_before clean = omega (arith, doubt, clean)

    -- a usable store whose tables stay
    none : (result : Result R EndFault) → (seen new).doubt ≡ 0 → IsServed seen old new
        → may result (kept (seen old).tables) Nothing
        → (seen new).tables ≡ (seen old).tables
        → (t : Tables S C) → (seen new).may_leave t → Came service (may result) (seen old).may_leave t
    none result clean served allowed same t l = record {
      before = (seen old).tables;
      deed = Nothing;
      was = (sound old).stays (clean_before clean) served.0;
      may = allowed;
      did = ap kept ((sound new).only_now clean served.1 t l ∙ same);
    }

    pub done_comes : (result : Result R EndFault) → IsCall seen old new May (end_of result)
        → ((seen new).doubt ≡ 0 → Done result)
        → ComesBy seen old new service (may result)
    done_comes (Ok r) call h clean match t l = let done = h clean match in
        record {
          before = (seen old).tables;
          deed = done.0;
          was = (sound old).stays (clean_before clean) call.0;
          may = done.1;
          did = subst (λ (u : Tables S C). Did service (kept (seen old).tables) done.0 (kept u))
              (sym ((sound new).only_now clean call.1 t l)) done.2;
        }
    done_comes (Err StoreFailed) call h clean match t l = let done = h clean match t l in
        record {
          before = (seen old).tables;
          deed = done.0;
          was = (sound old).stays (clean_before clean) call.0;
          may = done.1;
          did = done.2;
        }
    done_comes (Err Unusable) call h clean match t l = record {
      before = t;
      deed = Nothing;
      was = subst (λ k. (seen k).may_leave t) call.1 l;
      may = unused (kept t);
      did = refl;
    }
    done_comes (Err Memory) call h clean match t l =
        let done = h clean match in none (Err Memory) clean call done.0 done.1 t l
    done_comes (Err NotMine) call h clean match t l =
        let done = h clean match in none (Err NotMine) clean call.0 done.0 done.1 t l
    done_comes (Err (Business why)) call h clean match t l =
        let done = h clean match in none (Err (Business why)) clean call.0 done.0 done.1 t l
    done_comes (Err TooEarly) call h clean match t l =
        let done = h clean match in none (Err TooEarly) clean call.0 done.0 done.1 t l
    done_comes (Err NumberLimit) call h clean match t l =
        let done = h clean match in none (Err NumberLimit) clean call.0 done.0 done.1 t l
    done_comes (Err NotSent) call h clean match t l =
        let done = h clean match in none (Err NotSent) clean call.0 done.0 done.1 t l

  module _ {R : Type 0} (Reason : EndFault → Type 0) (e : Entity) (may : Result R EndFault → Kept C → Deed C → Type 0)
      (unused : (x : Kept C) → may (Err Unusable) x Nothing) (result : Result R EndFault)
      (h : DoesDeed seen old new HELD_WINDOW service Reason e may result) where
    pub deed_comes : ComesBy seen old new service (may result)
    deed_comes = done_comes (MayTurnAway Reason old new service.kind e) may unused h.doubt result h.call.0 h.clean

    pub deed_does : (more : Kept C → Deed C → Type 0) → ((x : Kept C) (d : Deed C) → may result x d → more x d)
        → StillMatches seen old new service
        → Does seen service more old new
    deed_does more weaker matches =
        does_more seen service old new (may result) more weaker h.doubt deed_comes matches

  -- ---- commands

  -- the row is taken in, or nothing is
  abbrev TakesCommand : JournalRow C → Kept C → Deed C → Type 0
  TakesCommand row x d = (d ≡ Nothing) ⊎ (d ≡ TakesIn row)

  appended : (e : Entity) (seat : ℕ) (c : C) (t : Tables S C)
      → Appends HELD_WINDOW service (seen old).tables (command_row e seat c) (seen old).tables.held t
      → DidAllowed HELD_WINDOW service (TakesCommand (command_row e seat c) (kept (seen old).tables))
      (kept (seen old).tables)
      (kept t)
  appended e seat c t a = (TakesIn (command_row e seat c), inr refl, (a.takes, a.settled, a.held))

  commit_done : (e : Entity) (seat : ℕ) (c : C) (result : Result Committed EndFault)
      → IsCommit HELD_WINDOW service (seen old).tables (command_row e seat c) (seen old).tables.held (seen new).tables
      (seen new).may_leave
      result
      → IsDone HELD_WINDOW service (λ _. TakesCommand (command_row e seat c)) (seen old).tables (seen new).tables
      (seen new).may_leave
      result
  commit_done e seat c (Ok done) did = appended e seat c (seen new).tables did.1
  commit_done e seat c (Err StoreFailed) did = λ t l. either (did t l).1
      (λ same. (Nothing, inl refl, ap kept same)) (appended e seat c t)
  commit_done e seat c (Err Memory) did = (inl refl, did.1)
  commit_done e seat c (Err NotMine) did = (inl refl, did.1)
  commit_done e seat c (Err (Business why)) did = (inl refl, did.1)
  commit_done e seat c (Err TooEarly) did = (inl refl, did.1)
  commit_done e seat c (Err Unusable) did = (inl refl, did.1)
  commit_done e seat c (Err NumberLimit) did = (inl refl, did.1)
  commit_done e seat c (Err NotSent) did = (inl refl, did.1)

  pub commit_does : (written : List Envelope) (e : Entity) (seat : ℕ) (c : C) (result : Result Committed EndFault)
      → Commits seen old new service (command_row e seat c) result → StillMatches seen old new service
      → Does seen service (IsFounded written) old new
  commit_does written e seat c result h matches =
      let row = command_row e seat c in
      does_more seen service old new (TakesCommand row) (IsFounded written)
      (λ x d may. either may (nothing_is service (λ f. Contains written f ⊎ IsHeldIn x.held f) d)
      (command_is service (λ f. Contains written f ⊎ IsHeldIn x.held f) e seat c d)) h.doubt
      (done_comes (MayRefuse old new service.kind row) (λ (_ : Result Committed EndFault). TakesCommand row) (λ x. inl refl)
      h.doubt result h.call.0
      (λ clean match. commit_done e seat c result (h.clean clean match)))
      matches

  -- ---- letters and settles

  module _ (Reason : EndFault → Type 0) (l : Letter) (e : Entity) where
    abbrev Ingests : Result Ingested EndFault → Type 0
    Ingests result = DoesDeed seen old new HELD_WINDOW service Reason e (IngestMay service l) result

    pub ingest_does : (written : List Envelope) (result : Result Ingested EndFault) → Ingests result
        → StillMatches seen old new service
        → Contains written (envelope.Letter l) → Does seen service (IsFounded written) old new
    ingest_does written result h matches was = deed_does Reason e (IngestMay service l) (λ x. refl) result h
        (IsFounded written)
        (λ x d may. ingest_is service (λ f. Contains written f ⊎ IsHeldIn x.held f) l (inl was) result x d may) matches

    pub ingest_takes : (answer : Ingested) → Ingests (Ok answer) → TakesLetter seen service l old new
    ingest_takes answer h = takes_more seen service old new (IngestMay service l (Ok answer)) l
        (λ x d may. (answer, may)) (deed_comes Reason e (IngestMay service l) (λ x. refl) (Ok answer) h)

    pub ingest_handled : (position : ℕ) → Ingests (Ok (ingested.Handled position))
        → MayWrite seen service old new (envelope.Settle l.pair l.number)
    ingest_handled position h clean match t may =
        let c = deed_comes Reason e (IngestMay service l) (λ x. refl) (Ok (ingested.Handled position)) h clean match t
        may in
        handled_true service (kept c.before) (kept t) c.deed c.did l position c.may

    pub ingest_repeated : (handled count : ℕ) → Ingests (Ok (ingested.Repeated handled)) → count ≤ handled
        → MayWrite seen service old new (envelope.Settle l.pair count)
    ingest_repeated handled count h low clean match t may =
        let c = deed_comes Reason e (IngestMay service l) (λ x. refl) (Ok (ingested.Repeated handled)) h clean match t
        may in
        let is = c.may.2 in
        repeated_true service (kept c.before) (kept t) c.deed c.did l.pair count (omega (arith, low, is))

  module _ (Reason : EndFault → Type 0) (p : Pair) (e : Entity) where
    abbrev Drains : Result (Option ℕ) EndFault → Type 0
    Drains result = DoesDeed seen old new HELD_WINDOW service Reason e (DrainMay service p) result

    pub drain_does : (written : List Envelope) (result : Result (Option ℕ) EndFault) → Drains result
        → StillMatches seen old new service
        → Does seen service (IsFounded written) old new
    drain_does written result h matches = deed_does Reason e (DrainMay service p) (λ x. refl) result h
        (IsFounded written)
        (λ x d may. drain_is service (λ f. Contains written f ⊎ IsHeldIn x.held f) p result x d (λ f held. inr held) may)
        matches

    pub drain_handled : (number : ℕ) → Drains (Ok (Some number))
        → MayWrite seen service old new (envelope.Settle p number)
    drain_handled number h clean match t may =
        let c = deed_comes Reason e (DrainMay service p) (λ x. refl) (Ok (Some number)) h clean match t may in
        drained_true service (kept c.before) (kept t) c.deed c.did p number c.may

    pub settle_does : (written : List Envelope) (number : ℕ) (result : Result ℕ EndFault)
        → DoesDeed seen old new HELD_WINDOW service Reason e (SettleMay service p number) result
        → StillMatches seen old new service → Contains written (envelope.Settle p number)
        → Does seen service (IsFounded written) old new
    settle_does written number result h matches was = deed_does Reason e (SettleMay service p number) (λ x. refl) result
        h (IsFounded written)
        (λ x d may. settle_is service (λ f. Contains written f ⊎ IsHeldIn x.held f) p number (inl was) result x d may)
        matches

  -- ---- reads

  module _ {R : Type 0} (gives : Tables S C → R → Type 0) where
    stays_at : (end : End R EndFault) → Reads seen old new gives end → Stays seen old new
    stays_at end h clean = let least = h.doubt in
        by_end end h (omega (arith, least, clean)) clean
      where
        same : (seen old).doubt ≡ 0 → (seen new).doubt ≡ 0 → IsServed seen old new
            → (seen new).tables ≡ (seen old).tables
            → (t : Tables S C) → (seen new).may_leave t → (seen old).may_leave t
        same before clean served is t l = subst (seen old).may_leave
            (sym ((sound new).only_now clean served.1 t l ∙ is)) ((sound old).stays before served.0)

        by_end : (end : End R EndFault) → Reads seen old new gives end → (seen old).doubt ≡ 0 → (seen new).doubt ≡ 0
            → (t : Tables S C)
            → (seen new).may_leave t → (seen old).may_leave t
        by_end (Ok r) h before clean = same before clean h.call (h.clean clean).1
        by_end (Err no_memory) h before clean = same before clean h.call (h.clean clean)
        by_end (Err failed) h before clean =
            λ t l. subst (seen old).may_leave (sym (h.clean clean t l)) ((sound old).stays before h.call.0)
        by_end (Err unusable) h before clean = λ t l. subst (λ k. (seen k).may_leave t) h.call.1 l
        by_end (Err (refused fault)) h before clean = absurd h.call.1

  module _ {R : Type 0} (gives : Tables S C → R → Type 0) (result : Result R EndFault)
      (h : Reads seen old new gives (end_of result)) where
    stays : Stays seen old new
    stays = stays_at gives (end_of result) h

    pub read_does : (written : List Envelope) → Does seen service (IsFounded written) old new
    read_does written = stays_does seen service old new written h.doubt stays

    -- what was read is of each content, which was there before
    pub read_of_each : (r : R) → result ≡ Ok r → (seen new).doubt ≡ 0 → (t : Tables S C) → (seen new).may_leave t
        → gives t r × (seen old).may_leave t
    read_of_each r is clean t may =
        let told = subst (λ (k : Result R EndFault). Reads seen old new gives (end_of k)) is h in
        let now = told.clean clean in
        let same : t ≡ (seen old).tables = (sound new).only_now clean told.call.1 t may ∙ now.1 in
        (subst (λ u. gives u r) (sym same) now.0, stays clean t may)

  pub listed_write : (after : Option LetterPlace) (limit : ℕ) (result : Result (Vec Letter) EndFault) (letters : Vec Letter)
      (i : ℕ) (l : Letter)
      → Reads seen old new (λ t letters. AreFirst t.unsettled after limit letters.items) (end_of result)
      → result ≡ Ok letters → slice_get letters.items i ≡ Some l → MayWrite seen service old new (envelope.Letter l)
  listed_write after limit result letters i l h is at clean match t may =
      let here = read_of_each (λ u k. AreFirst u.unsettled after limit k.items) result h letters is clean t may in
      outbox_true service t (match t here.1) l (listed_stands t.unsettled after limit letters.items here.0 i l at)

  pub counted_write : (p : Pair) (result : Result ℕ EndFault) (count : ℕ)
      → Reads seen old new (λ t n. n ≡ t.handled p) (end_of result) → result ≡ Ok count
      → MayWrite seen service old new (envelope.Settle p count)
  counted_write p result count h is clean match t may =
      let here = read_of_each (λ u n. n ≡ u.handled p) result h count is clean t may in
      let told = here.0 in
      let all = (match t here.1).handled p in
      omega (arith, told, all)
