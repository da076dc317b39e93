-- What the calls of tokens tell.
use Rattle.std.proofs.Common.{◌≡◌, ◌⊎◌, ℕ, suc, ◌+◌, Bool, true, false, true≢false, List, [], ◌∷◌, ◌++◌}
use Rattle.std.proofs.Common.{length}
use Rattle.std.proofs.Common.{Option, Some, None, Result, Ok, Err, ⊎_elim, refl, sym, ap, ◌∙◌, subst, arith}
use Rattle.std.proofs.Common.{length-append}
use Rattle.std.specs.Prelude.{if◌then◌else◌, ◌-◌, take, drop}
use Rattle.std.specs.Global.{Vec}
use Rattle.base.specs.Entity.{Entity}
use Rattle.base.specs.Order.{same_entity}
use Rattle.base.specs.declared.limits.TheConstants.{HELD_WINDOW}
use Rattle.base.specs.declared.pair.Pair.{Pair}
use Rattle.envelope.specs.declared.message.Letter.{Letter}
use Rattle.activities.specs.Journal.{part, handled_of}
use Rattle.activities.specs.Reaction.{letters_from}
use Rattle.activities.specs.Service.{Service}
use Rattle.activities.specs.declared.input.Input.{Input}
use Rattle.activities.specs.declared.input.Input.TheVariants.{FromSeat, FromEntity}
use Rattle.activities.specs.declared.input.JournalRow.{JournalRow}
use Rattle.keep.specs.Law.{MoreFailures, IsServed, HasFailed, IsRefusedUnusable, Reads}
use Rattle.keep.specs.Listing.{AreFirst}
use Rattle.keep.specs.Seen.{Seen, IsSound}
use Rattle.keep.specs.Tables.{Tables, Messages}
use Rattle.keep.specs.declared.change.LetterPlace.{LetterPlace}
use Rattle.endpoint.specs.declared.answer.Committed.{Committed}
use Rattle.endpoint.specs.declared.fault.EndFault.{EndFault}
use Rattle.endpoint.specs.declared.fault.EndFault.TheVariants.{NotMine, Business, TooEarly, StoreFailed, Memory}
use Rattle.endpoint.specs.declared.fault.EndFault.TheVariants.{Unusable, NumberLimit, NotSent}
use Rattle.endpoint.specs.Answers.{CommitAt}
use Rattle.endpoint.specs.Arrivals.{IngestMay, DrainMay, SettleMay}
use Rattle.endpoint.specs.Calls.{Commits, DoesDeed, OfLetter, OfHeldLetter, OfSettle, Views, Counts}
use Rattle.endpoint.specs.Deeds.{Kept, kept, Deed, Nothing, TakesIn, Holds, Settles, Did}
use Rattle.endpoint.specs.Faults.{end_of}
use Rattle.endpoint.specs.Matches.{TablesMatchJournal, AllMatch}
use Rattle.told_lock.specs.declared.view.ToldToken.{ToldToken}
use Rattle.shared_endpoint.specs.Token.{hand_number, is_of, rows_of}
use Rattle.shared_endpoint.specs.History.{IsDeedOf, IsUsed, fault_in, tells, Passes}
use Rattle.shared_endpoint.specs.Lore.{zero_below, then_more}
use Rattle.shared_endpoint.specs.Promises.{list_after, listed, CommitsAt, DoesAt, ViewsAt, HandledAt}
use Rattle.shared_endpoint.specs.Promises.{UnsettledAt, JournalAt, LengthAt, JournalsAreOneThreads, IsGood, Continues, IsOneThreads}
use Rattle.shared_endpoint.specs.Promises.{CommitsAreOneThreads, ViewsAreOneThreads, IngestsAreOneThreads}
use Rattle.shared_endpoint.specs.Promises.{DrainsAreOneThreads, SettlesAreOneThreads, HandledIsTheLists}
use Rattle.shared_endpoint.specs.Promises.{UnsettledAreAboveMarks, LengthsAreOneThreads, FailuresAreCounted}
use Rattle.shared_endpoint.specs.Promises.{FailuresAreForGood, TokensStayGood}
use Rattle.shared_endpoint.proofs.Deeds.{rows_of_own}
use Rattle.shared_endpoint.proofs.Steps.{used_served}
use Rattle.shared_endpoint.proofs.Stepping.{ingest_says, drain_says, settle_says}

-- ---- lists

-- the list of a token with one row more
pub own_row : {C : Type 0} (n : ℕ) (rows after : List (JournalRow C)) (row : JournalRow C) (pos : ℕ)
    → is_of n row.input ≡ true → after ≡ rows ++ row ∷ [] → 1 + length rows ≡ pos
    → rows_of n 1 after ≡ rows_of n 1 rows ++ (pos, row) ∷ []
own_row {C} n rows after row pos of is place =
    ap (λ (xs : List (JournalRow C)). rows_of n 1 xs) is ∙ rows_of_own n 1 rows row of
    ∙ ap (λ p. rows_of n 1 rows ++ (p, row) ∷ []) place

list_of_deed : {S C : Type 0} (service : Service S C) (n : ℕ) (t u : Tables S C) (d : Deed C) → IsDeedOf n d
    → Did service (kept t) d (kept u)
    → rows_of n 1 u.journal ≡ list_after (rows_of n 1 t.journal) (length t.journal) d
list_of_deed {C = C} service n t u Nothing of did = ap (λ (k : Kept C). rows_of n 1 k.journal) did
list_of_deed service n t u (TakesIn row) of did =
    own_row n t.journal u.journal row (suc (length t.journal)) of did.0.appended (omega arith)
list_of_deed {C = C} service n t u (Holds l) of did = ap (λ (k : Kept C). rows_of n 1 k.journal) did.2
list_of_deed {C = C} service n t u (Settles p k) of did = ap (λ (k : Kept C). rows_of n 1 k.journal) did.2

-- the letters of a pair stand in the Hand's list
module _ {C : Type 0} (s e : Entity) where
  with_input : (same : Bool) (input : Input C) (xs ys : List (Input C)) → letters_from s xs ≡ letters_from s ys
      → letters_from s (if same then input ∷ xs else xs) ≡ letters_from s (if same then input ∷ ys else ys)
  with_input false input xs ys h = h
  with_input true (FromSeat seat command) xs ys h = h
  with_input true (FromEntity sender number message) xs ys h =
      ap (λ l. if same_entity s sender then (number, message) ∷ l else l) h

  no_letter : (same : Bool) (seat : ℕ) (command : C) (xs : List (Input C))
      → letters_from s xs ≡ letters_from s (if same then FromSeat seat command ∷ xs else xs)
  no_letter false seat command xs = refl
  no_letter true seat command xs = refl

  step : (pos : ℕ) (who : Entity) (input : Input C) (rows : List (JournalRow C)) (list : List (ℕ × JournalRow C))
      → letters_from s (part e (listed list)) ≡ letters_from s (part e rows)
      → letters_from s (part e (listed (if is_of hand_number input
      then (pos, record { entity = who; input = input }) ∷ list else list)))
      ≡ letters_from s (part e (record { entity = who; input = input } ∷ rows))
  step pos who (FromEntity sender number message) rows list h =
      with_input (same_entity e who) (FromEntity sender number message) (part e (listed list)) (part e rows) h
  step pos who (FromSeat seat command) rows list h = by_test (is_of hand_number (FromSeat seat command))
    where
      by_test : (b : Bool) → letters_from s (part e (listed (if b
          then (pos, record { entity = who; input = FromSeat seat command }) ∷ list else list)))
          ≡ letters_from s (part e (record { entity = who; input = FromSeat seat command } ∷ rows))
      by_test true =
          with_input (same_entity e who) (FromSeat seat command) (part e (listed list)) (part e rows) h
      by_test false = h ∙ no_letter (same_entity e who) seat command (part e rows)

  letters_listed : (pos : ℕ) (rows : List (JournalRow C))
      → letters_from s (part e (listed (rows_of hand_number pos rows))) ≡ letters_from s (part e rows)
  letters_listed pos [] = refl
  letters_listed pos (row ∷ rows) = step pos row.entity row.input rows (rows_of hand_number (suc pos) rows)
      (letters_listed (suc pos) rows)

-- ---- one call

module _ {E S C : Type 0} (seen : E → Seen (Tables S C)) (service : Service S C) (sound : (e : E) → IsSound (seen e))
  where
    -- what a call of a good token stands on, where its answer tells of the journal
    record Stood (n : ℕ) (v w : ToldToken E) (taken : E) : Type 0 where
      matches : AllMatch service (seen taken).may_leave
      clean : (seen taken).doubt ≡ 0
      continues : Continues seen service n v (seen taken).tables
      served : IsServed seen taken w.last
      saw : w.seen ≡ w.last

    stood : (n : ℕ) (v w : ToldToken E) (taken : E) (fault : Option EndFault) → Passes seen service n v w taken fault
        → tells fault ≡ true → IsGood seen service v → (seen w.last).doubt ≡ 0 → Stood n v w taken
    stood n v w taken fault p told good clean =
        let served = used_served seen taken w.last fault told p.used in
        let since = p.since served.0 in
        let clean0 = zero_below (seen taken).doubt (seen w.last).doubt p.next.doubt clean in
        let known = since.clean clean0 good.matches in
        record {
          matches = known.0;
          clean = clean0;
          continues = record {
            matches = known.0 (seen taken).tables ((sound taken).stays clean0 served.0);
            stands = known.1;
          };
          served = served;
          saw = p.seen_is ∙ ap (λ (b : Bool). if b then w.last else v.seen) told;
        }

    -- so a law follows from what the call says of one thread
    pub one_threads : {R : Type 0} (n : ℕ) (Call : E → E → Type 0) (result : Result R EndFault)
        (Answer : Tables S C → Tables S C → Type 0)
        → ((d e : E) → Call d e → tells (fault_in result) ≡ true → (seen d).doubt ≡ 0 → (seen e).doubt ≡ 0
        → AllMatch service (seen d).may_leave → TablesMatchJournal service (seen d).tables
        → Answer (seen d).tables (seen e).tables)
        → IsOneThreads seen service n Call result Answer
    one_threads n Call result Answer at v w turn told good clean =
        let s = stood n v w turn.taken (fault_in result) turn.passes told good clean in (
          (seen turn.taken).tables,
          s.continues,
          subst (λ (k : E). Answer (seen turn.taken).tables (seen k).tables) (sym s.saw)
              (at turn.taken w.last turn.call told s.clean clean s.matches s.continues.matches),
        )

    untold : {P : Type 0} → false ≡ true → P
    untold told = absurd (true≢false (sym told))

    commit_same : (n : ℕ) (row : JournalRow C) (fault : EndFault) (t u : Tables S C)
        → CommitAt service.reactions service.kind t.journal row (Err fault) u.journal → u ≡ t
        → CommitsAt service n row (Err fault) t u
    commit_same n row fault t u answer same = record {
      answer = answer;
      list = ap (λ (k : Tables S C). rows_of n 1 k.journal) same;
      settled = ap (λ (k : Tables S C). k.settled) same;
      held = ap (λ (k : Tables S C). k.held) same;
    }

    commit_at : (n : ℕ) (row : JournalRow C) (result : Result Committed EndFault) → is_of n row.input ≡ true
        → (d e : E) → Commits seen d e service row result → tells (fault_in result) ≡ true → (seen d).doubt ≡ 0
        → (seen e).doubt ≡ 0 → AllMatch service (seen d).may_leave → TablesMatchJournal service (seen d).tables
        → CommitsAt service n row result (seen d).tables (seen e).tables
    commit_at n row (Ok c) of d e call told z0 z all m =
        let h = call.clean z all in
        record {
          answer = h.0;
          list = own_row n (seen d).tables.journal (seen e).tables.journal row c.pos of h.0.0.appended
              (place (seen d).tables.journal (seen e).tables.journal c.pos h.0.1 h.0.0.appended);
          settled = h.1.settled;
          held = h.1.held;
        }
      where
        place : (xs ys : List (JournalRow C)) (pos : ℕ) → pos ≡ length ys → ys ≡ xs ++ row ∷ [] → 1 + length xs ≡ pos
        place xs ys pos a b = omega (arith, length-append xs (row ∷ []), ap length b)
    commit_at n row (Err StoreFailed) of d e call told z0 z all m = untold told
    commit_at n row (Err Memory) of d e call told z0 z all m = untold told
    commit_at n row (Err Unusable) of d e call told z0 z all m = untold told
    commit_at n row (Err NotMine) of d e call told z0 z all m =
        let h = call.clean z all in commit_same n row NotMine (seen d).tables (seen e).tables h.0 h.1
    commit_at n row (Err (Business r)) of d e call told z0 z all m =
        let h = call.clean z all in commit_same n row (Business r) (seen d).tables (seen e).tables h.0 h.1
    commit_at n row (Err TooEarly) of d e call told z0 z all m = absurd call.call.0.1
    commit_at n row (Err NumberLimit) of d e call told z0 z all m =
        let h = call.clean z all in commit_same n row NumberLimit (seen d).tables (seen e).tables h.0 h.1
    commit_at n row (Err NotSent) of d e call told z0 z all m = absurd call.call.0.1

    pub commits : CommitsAreOneThreads seen service
    commits n row result of = one_threads n _ result (CommitsAt service n row result) (commit_at n row result of)

    -- a deed
    done_same : (n : ℕ) (may : Kept C → Deed C → Type 0) (t u : Tables S C) → may (kept t) Nothing → u ≡ t
        → DoesAt service n may t u
    done_same n may t u allowed same = record {
      deed = Nothing;
      allowed = allowed;
      did = ap (λ (k : Tables S C). kept k) same;
      list = ap (λ (k : Tables S C). rows_of n 1 k.journal) same;
    }

    done_at : {R : Type 0} (n : ℕ) (Reason : EndFault → Type 0) (name : Entity)
        (may : Result R EndFault → Kept C → Deed C → Type 0) (result : Result R EndFault)
        → ((d e : E) (x : Kept C) (deed : Deed C) → may result x deed → IsDeedOf n deed)
        → (d e : E) → DoesDeed seen d e HELD_WINDOW service Reason name may result → tells (fault_in result) ≡ true
        → (seen d).doubt ≡ 0 → (seen e).doubt ≡ 0 → AllMatch service (seen d).may_leave
        → TablesMatchJournal service (seen d).tables
        → DoesAt service n (may result) (seen d).tables (seen e).tables
    done_at n Reason name may (Ok r) says d e call told z0 z all m =
        let h = call.clean z all in
        record {
          deed = h.0;
          allowed = h.1;
          did = h.2;
          list = list_of_deed service n (seen d).tables (seen e).tables h.0
              (says d e (kept (seen d).tables) h.0 h.1) h.2;
        }
    done_at n Reason name may (Err StoreFailed) says d e call told z0 z all m = untold told
    done_at n Reason name may (Err Memory) says d e call told z0 z all m = untold told
    done_at n Reason name may (Err Unusable) says d e call told z0 z all m = untold told
    done_at n Reason name may (Err NotMine) says d e call told z0 z all m =
        let h = call.clean z all in done_same n (may (Err NotMine)) (seen d).tables (seen e).tables h.0 h.1
    done_at n Reason name may (Err (Business r)) says d e call told z0 z all m =
        let h = call.clean z all in done_same n (may (Err (Business r))) (seen d).tables (seen e).tables h.0 h.1
    done_at n Reason name may (Err TooEarly) says d e call told z0 z all m =
        let h = call.clean z all in done_same n (may (Err TooEarly)) (seen d).tables (seen e).tables h.0 h.1
    done_at n Reason name may (Err NumberLimit) says d e call told z0 z all m =
        let h = call.clean z all in done_same n (may (Err NumberLimit)) (seen d).tables (seen e).tables h.0 h.1
    done_at n Reason name may (Err NotSent) says d e call told z0 z all m =
        let h = call.clean z all in done_same n (may (Err NotSent)) (seen d).tables (seen e).tables h.0 h.1

    pub ingests : IngestsAreOneThreads seen service
    ingests l result = one_threads hand_number _ result (DoesAt service hand_number (IngestMay service l result))
        (done_at hand_number OfLetter l.pair.to (IngestMay service l) result
        (λ d e x deed may. (ingest_says seen service d e l result x deed may).0))

    pub drains : DrainsAreOneThreads seen service
    drains p result = one_threads hand_number _ result (DoesAt service hand_number (DrainMay service p result))
        (done_at hand_number OfHeldLetter p.to (DrainMay service p) result
        (λ d e x deed may. (drain_says seen service d e p result x deed may).0))

    pub settles : SettlesAreOneThreads seen service
    settles p number result = one_threads hand_number _ result
        (DoesAt service hand_number (SettleMay service p number result))
        (done_at hand_number OfSettle p.from (SettleMay service p number) result
        (λ d e x deed may. (settle_says seen service d e p number result x deed may).0))

    -- reads
    view_at : (name : Entity) (result : Result (Option S) EndFault) (d e : E)
        → Views seen d e service.kind name result → tells (fault_in result) ≡ true → (seen d).doubt ≡ 0
        → (seen e).doubt ≡ 0 → AllMatch service (seen d).may_leave → TablesMatchJournal service (seen d).tables
        → ViewsAt service name result (seen d).tables (seen e).tables
    view_at name (Ok row) d e call told z0 z all m =
        let h = call.clean z in (call.call.1, h.0 ∙ m.entities name, h.1)
    view_at name (Err StoreFailed) d e call told z0 z all m = untold told
    view_at name (Err Memory) d e call told z0 z all m = untold told
    view_at name (Err Unusable) d e call told z0 z all m = untold told
    view_at name (Err NotMine) d e call told z0 z all m = (call.call.0.1.0, (call.clean z).1)
    view_at name (Err (Business r)) d e call told z0 z all m = call.call.0.1
    view_at name (Err TooEarly) d e call told z0 z all m = call.call.0.1
    view_at name (Err NumberLimit) d e call told z0 z all m = call.call.0.1
    view_at name (Err NotSent) d e call told z0 z all m = call.call.0.1

    pub views : ViewsAreOneThreads seen service
    views n name result = one_threads n _ result (ViewsAt service name result) (view_at name result)

    handled_at : (p : Pair) (result : Result ℕ EndFault) (d e : E)
        → Reads seen d e (λ t n. n ≡ t.handled p) (end_of result) → tells (fault_in result) ≡ true
        → (seen d).doubt ≡ 0 → (seen e).doubt ≡ 0 → AllMatch service (seen d).may_leave
        → TablesMatchJournal service (seen d).tables → HandledAt service p result (seen d).tables (seen e).tables
    handled_at p (Ok n) d e call told z0 z all m =
        let h = call.clean z in
        let is : n ≡ handled_of (seen d).tables.journal p = h.0 ∙ m.handled p in
        (is, is ∙ sym (ap length (letters_listed p.from p.to 1 (seen d).tables.journal)), h.1)
    handled_at p (Err StoreFailed) d e call told z0 z all m = untold told
    handled_at p (Err Memory) d e call told z0 z all m = untold told
    handled_at p (Err Unusable) d e call told z0 z all m = untold told
    handled_at p (Err NotMine) d e call told z0 z all m = call.call.1
    handled_at p (Err (Business r)) d e call told z0 z all m = call.call.1
    handled_at p (Err TooEarly) d e call told z0 z all m = call.call.1
    handled_at p (Err NumberLimit) d e call told z0 z all m = call.call.1
    handled_at p (Err NotSent) d e call told z0 z all m = call.call.1

    pub handled : HandledIsTheLists seen service
    handled p result = one_threads hand_number _ result (HandledAt service p result) (handled_at p result)

    unsettled_at : (after : Option LetterPlace) (limit : ℕ) (result : Result (Vec Letter) EndFault) (d e : E)
        → Reads seen d e (λ t letters. AreFirst t.unsettled after limit letters.items) (end_of result)
        → tells (fault_in result) ≡ true → (seen d).doubt ≡ 0 → (seen e).doubt ≡ 0
        → AllMatch service (seen d).may_leave → TablesMatchJournal service (seen d).tables
        → UnsettledAt service after limit result (seen d).tables (seen e).tables
    unsettled_at after limit (Ok letters) d e call told z0 z all m =
        let h = call.clean z in (
          subst (λ (messages : Messages). AreFirst messages after limit letters.items)
              (λ i p n. m.unsettled p n i) h.0,
          h.1,
        )
    unsettled_at after limit (Err StoreFailed) d e call told z0 z all m = untold told
    unsettled_at after limit (Err Memory) d e call told z0 z all m = untold told
    unsettled_at after limit (Err Unusable) d e call told z0 z all m = untold told
    unsettled_at after limit (Err NotMine) d e call told z0 z all m = call.call.1
    unsettled_at after limit (Err (Business r)) d e call told z0 z all m = call.call.1
    unsettled_at after limit (Err TooEarly) d e call told z0 z all m = call.call.1
    unsettled_at after limit (Err NumberLimit) d e call told z0 z all m = call.call.1
    unsettled_at after limit (Err NotSent) d e call told z0 z all m = call.call.1

    pub unsettled : UnsettledAreAboveMarks seen service
    unsettled n after limit result = one_threads n _ result (UnsettledAt service after limit result)
        (unsettled_at after limit result)

    journal_at : (from limit : ℕ) (result : Result (Vec (JournalRow C)) EndFault) (d e : E)
        → Reads seen d e (λ t rows. rows.items ≡ take limit (drop (from - 1) t.journal)) (end_of result)
        → tells (fault_in result) ≡ true → (seen d).doubt ≡ 0 → (seen e).doubt ≡ 0
        → AllMatch service (seen d).may_leave → TablesMatchJournal service (seen d).tables
        → JournalAt service from limit result (seen d).tables (seen e).tables
    journal_at from limit (Ok rows) d e call told z0 z all m = call.clean z
    journal_at from limit (Err StoreFailed) d e call told z0 z all m = untold told
    journal_at from limit (Err Memory) d e call told z0 z all m = untold told
    journal_at from limit (Err Unusable) d e call told z0 z all m = untold told
    journal_at from limit (Err NotMine) d e call told z0 z all m = call.call.1
    journal_at from limit (Err (Business r)) d e call told z0 z all m = call.call.1
    journal_at from limit (Err TooEarly) d e call told z0 z all m = call.call.1
    journal_at from limit (Err NumberLimit) d e call told z0 z all m = call.call.1
    journal_at from limit (Err NotSent) d e call told z0 z all m = call.call.1

    pub journals : JournalsAreOneThreads seen service
    journals n from limit result = one_threads n _ result (JournalAt service from limit result)
        (journal_at from limit result)

    length_at : (result : Result ℕ EndFault) (d e : E) → (e ≡ d) × Counts seen d (λ t. length t.journal) result
        → tells (fault_in result) ≡ true → (seen d).doubt ≡ 0 → (seen e).doubt ≡ 0
        → AllMatch service (seen d).may_leave → TablesMatchJournal service (seen d).tables
        → LengthAt service result (seen d).tables (seen e).tables
    length_at (Ok n) d e call told z0 z all m = (call.1.1 z0, ap (λ (k : E). (seen k).tables) call.0)
    length_at (Err fault) d e call told z0 z all m =
        untold (subst (λ (f : EndFault). tells (Some f) ≡ true) call.1.1 told)

    pub lengths : LengthsAreOneThreads seen service
    lengths n result = one_threads n _ result (LengthAt service result) (length_at result)

    -- ---- failures

    pub failures : FailuresAreCounted seen service
    failures n v w taken fault p which up = ⊎_elim
        (λ is.
        let used : HasFailed seen taken w.last =
        subst (λ (f : EndFault). IsUsed seen taken w.last (Some f)) is p.used in
        then_more (seen v.found).failures (seen taken).failures (seen w.last).failures p.found.failures used.2)
        (λ is.
        let used : IsRefusedUnusable seen taken w.last =
        subst (λ (f : EndFault). IsUsed seen taken w.last (Some f)) is p.used in
        subst (λ (k : E). MoreFailures (seen v.found).failures (seen k).failures) (sym used.1)
        (p.found.fell up used.0))
        which

    pub for_good : FailuresAreForGood seen service
    for_good n v w taken fault p = (down, told_so)
      where
        down : (fault ≡ Some StoreFailed) ⊎ (fault ≡ Some Unusable) → (seen w.last).usable ≡ false
        down = ⊎_elim
            (λ is.
            let used : HasFailed seen taken w.last =
            subst (λ (f : Option EndFault). IsUsed seen taken w.last f) is p.used in
            used.1)
            (λ is.
            let used : IsRefusedUnusable seen taken w.last =
            subst (λ (f : Option EndFault). IsUsed seen taken w.last f) is p.used in
            ap (λ (k : E). (seen k).usable) used.1 ∙ used.0)

        cases : (f : Option EndFault) → IsUsed seen taken w.last f → (seen taken).usable ≡ false → f ≡ Some Unusable
        cases None h d = absurd (true≢false (sym h.0 ∙ d))
        cases (Some StoreFailed) h d = absurd (true≢false (sym h.0 ∙ d))
        cases (Some Unusable) h d = refl
        cases (Some Memory) h d = absurd (true≢false (sym h.0 ∙ d))
        cases (Some NotMine) h d = absurd (true≢false (sym h.0 ∙ d))
        cases (Some (Business r)) h d = absurd (true≢false (sym h.0 ∙ d))
        cases (Some TooEarly) h d = absurd (true≢false (sym h.0 ∙ d))
        cases (Some NumberLimit) h d = absurd (true≢false (sym h.0 ∙ d))
        cases (Some NotSent) h d = absurd (true≢false (sym h.0 ∙ d))

        told_so : (seen v.last).usable ≡ false → fault ≡ Some Unusable
        told_so dead = cases fault p.used (ap (λ (k : E). (seen k).usable) (p.later.dead dead) ∙ dead)

    pub stay_good : TokensStayGood seen service
    stay_good n v w taken fault p clean good = by_told (tells fault) refl
      where
        by_told : (b : Bool) → tells fault ≡ b → IsGood seen service w
        by_told true told =
            let s = stood n v w taken fault p told good clean in
            record {
              usable = ap (λ (k : E). (seen k).usable) s.saw ∙ s.served.1;
              matches = subst (λ (k : E). AllMatch service (seen k).may_leave) (sym s.saw) (p.matches clean s.matches);
            }
        by_told false told =
            let same : w.seen ≡ v.seen = p.seen_is ∙ ap (λ (b : Bool). if b then w.last else v.seen) told in
            record {
              usable = ap (λ (k : E). (seen k).usable) same ∙ good.usable;
              matches = subst (λ (k : E). AllMatch service (seen k).may_leave) (sym same) good.matches;
            }
