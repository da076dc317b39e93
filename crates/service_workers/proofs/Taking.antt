-- What calls of the Hand process.
use Rattle.std.proofs.Common.{◌≡◌, ◌⊎◌, inl, inr, ℕ, zero, suc, ◌≤◌, ◌<◌, ◌==◌, max, Bool, true, false, List, [], ◌∷◌}
use Rattle.std.proofs.Common.{◌++◌, length, refl, sym, ap, ◌∙◌, subst, arith, append-nil, append_assoc, Option, Some}
use Rattle.std.proofs.Common.{Result, Ok, Err}
use Rattle.std.proofs.Math.Arith.{le-zero}
use Rattle.std.proofs.lemmas.Bool.Decides.{nat_tests}
use Rattle.std.proofs.lemmas.List.Elements.{Contains-append_right}
use Rattle.std.specs.Global.{Vec}
use Rattle.std.specs.Prelude.{if◌then◌else◌, Contains, nat_lt, option_to_list, slice_index_or}
use Rattle.base.specs.Entity.{Entity}
use Rattle.base.specs.declared.limits.TheConstants.{HELD_WINDOW}
use Rattle.base.specs.declared.pair.Pair.{Pair}
use Rattle.stomp_frame.specs.Frames.{Content}
use Rattle.envelope.specs.Reading.{read_frame}
use Rattle.envelope.specs.declared.message.Letter.{Letter}
use Rattle.envelope.specs.declared.message.Envelope.{Envelope}
use Rattle.envelope.specs.declared.message.Envelope.TheVariants as envelope
use Rattle.activities.specs.Service.{Service}
use Rattle.activities.specs.declared.input.Input.{Input}
use Rattle.activities.specs.declared.input.Input.TheVariants.{FromSeat, FromEntity}
use Rattle.activities.specs.declared.input.JournalRow.{JournalRow}
use Rattle.activities.proofs.Sameness.{either}
use Rattle.keep.specs.Seen.{Seen}
use Rattle.keep.specs.Tables.{Tables, Messages}
use Rattle.endpoint.specs.Arrivals.{IngestMay, DrainMay, SettleMay}
use Rattle.endpoint.specs.Calls.{DoesDeed, OfLetter, OfHeldLetter, OfSettle}
use Rattle.endpoint.specs.Deeds.{Kept, kept, Deed, Nothing, TakesIn, Holds, Settles, Did}
use Rattle.endpoint.specs.declared.answer.Ingested.{Ingested}
use Rattle.endpoint.specs.declared.answer.Ingested.TheVariants as ingested
use Rattle.endpoint.specs.declared.fault.EndFault.{EndFault}
use Rattle.endpoint.specs.declared.fault.EndFault.TheVariants.{StoreFailed}
use Rattle.endpoint.specs.Matches.{AllMatch}
use Rattle.group_commit.specs.Group.{Groups, GroupedMay, TakesEach}
use Rattle.group_commit.specs.declared.grouped.Grouped.{Grouped}
use Rattle.group_commit.specs.declared.grouped.Grouped.TheVariants as grouped
use Rattle.laws_journals.specs.Growth.{IsFrom}
use Rattle.laws_stores.specs.Deeds.{DeedIs}
use Rattle.laws_stores.specs.Good.{IsHeldIn}
use Rattle.laws_stores.proofs.Doing.{did_held, did_settled}
use Rattle.laws_stores.proofs.Founded.{ingest_is, settle_is, drain_is}
use Rattle.told_lock.specs.declared.view.ToldToken.{ToldToken}
use Rattle.told_lock.specs.Rule.{IsTold}
use Rattle.shared_endpoint.specs.History.{fault_in, tells, DidAll, EndsAs, IsLater, Since, Stands, Turn, Turns}
use Rattle.shared_endpoint.specs.Promises.{Continues, IsGood, IsOneThreads, DoesAt, GroupsAt, LengthAt}
use Rattle.shared_endpoint.specs.Token.{hand_number, is_of, rows_of}
use Rattle.service_workers.specs.Batches.{behind, Carry}
use Rattle.service_workers.specs.Taking.{Only, OnlyLetter, OnlySettle, NoEnvelope, CarriedOrIn, CarriedAmong, TakeIn}
use Rattle.service_workers.specs.Taking.{WasThere, IsSettledBy, TakesFrom, TokenTakes, Takes, TokenLeaves, Leaves}
use Rattle.service_workers.specs.Taking.{envelopes_in, TakingStands}
use Rattle.service_workers.specs.Tokens.{GoesOn}
use Rattle.service_workers.proofs.Lasting.{no_doubt, one_of_these}

-- ---- what rows handle

from_more : {C : Type 0} (known more : Envelope → Type 0) (e : Entity) (input : Input C)
    → ((f : Envelope) → known f → more f) → IsFrom known e input → IsFrom more e input
from_more known more e (FromSeat seat c) all h = tt
from_more known more e (FromEntity s n m) all h = all _ h

take_more : {C : Type 0} (known more : Envelope → Type 0) (rows : List (JournalRow C))
    → ((f : Envelope) → known f → more f) → TakeIn known rows → TakeIn more rows
take_more known more [] all h = tt
take_more known more (row ∷ rows) all h =
    (from_more known more row.entity row.input all h.0, take_more known more rows all h.1)

take_both : {C : Type 0} (known : Envelope → Type 0) (xs ys : List (JournalRow C)) → TakeIn known xs → TakeIn known ys
    → TakeIn known (xs ++ ys)
take_both known [] ys h k = k
take_both known (x ∷ xs) ys h k = (h.0, take_both known xs ys h.1 k)

-- a list that a test puts an item before
is_left : {A : Type 0} (b : Bool) (x : A) (xs : List A) → (if b then x ∷ xs else xs) ≡ [] → (b ≡ false) × (xs ≡ [])
is_left true x xs h = absurd cc
is_left false x xs h = (refl, h)

are_same : {A : Type 0} (b : Bool) (x : A) (xs ys : List A)
    → (if b then x ∷ xs else xs) ≡ (if b then x ∷ ys else ys) → xs ≡ ys
are_same true x xs ys h = cc
are_same false x xs ys h = h

-- rows that aren't the Hand's handle no letter
from_other : {C : Type 0} (known : Envelope → Type 0) (e : Entity) (input : Input C) → is_of hand_number input ≡ false
    → IsFrom known e input
from_other known e (FromSeat seat c) other = tt
from_other known e (FromEntity s n m) other = absurd (itself hand_number other)
  where
    itself : (k : ℕ) → (k == k) ≡ false → ⊥
    itself k h = grind (arith, nat_tests, h)

no_letters : {C : Type 0} (known : Envelope → Type 0) (pos : ℕ) (rows : List (JournalRow C))
    → rows_of hand_number pos rows ≡ [] → TakeIn known rows
no_letters known pos [] none = tt
no_letters known pos (row ∷ rows) none =
    let h = is_left (is_of hand_number row.input) (pos, row) (rows_of hand_number (suc pos) rows) none in
    (from_other known row.entity row.input h.0, no_letters known (suc pos) rows h.1)

none_more : {C : Type 0} (known : Envelope → Type 0) (pos : ℕ) (xs rows : List (JournalRow C))
    → rows_of hand_number pos (xs ++ rows) ≡ rows_of hand_number pos xs → TakeIn known rows
none_more known pos [] rows same = no_letters known pos rows same
none_more known pos (x ∷ xs) rows same = none_more known (suc pos) xs rows
    (are_same (is_of hand_number x.input) (pos, x) (rows_of hand_number (suc pos) (xs ++ rows))
    (rows_of hand_number (suc pos) xs) same)

-- ---- what is kept

module _ {C : Type 0} (known : Envelope → Type 0) where
  pub takes_same : (x : Kept C) → TakesFrom known x x
  takes_same x = record {
    rows = [];
    goes_on = sym (append-nil x.journal);
    took = tt;
    holds = λ e h. inr h;
    marks = λ p. inl refl;
  }

  pub takes_join : (x y z : Kept C) → TakesFrom known x y → TakesFrom known y z → TakesFrom known x z
  takes_join x y z a b = record {
    rows = a.rows ++ b.rows;
    goes_on = b.goes_on ∙ (ap (λ w. w ++ b.rows) a.goes_on ∙ append_assoc x.journal a.rows b.rows);
    took = take_both (WasThere known x) a.rows b.rows a.took
        (take_more (WasThere known y) (WasThere known x) b.rows was b.took);
    holds = λ e h. was e (b.holds e h);
    marks = λ p. either (b.marks p)
        (λ same. either (a.marks p)
        (λ old. inl (same ∙ old))
        (λ by. let upto = by.2 in inr (by.0, by.1, omega (arith, same, upto))))
        inr;
  }
    where
      was : (e : Envelope) → WasThere known y e → WasThere known x e
      was e h = either h inl (a.holds e)

  pub takes_more : (more : Envelope → Type 0) (x y : Kept C) → ((e : Envelope) → known e → more e) → TakesFrom known x y
      → TakesFrom more x y
  takes_more more x y all a = record {
    rows = a.rows;
    goes_on = a.goes_on;
    took = take_more (WasThere known x) (WasThere more x) a.rows so a.took;
    holds = λ e h. so e (a.holds e h);
    marks = λ p. either (a.marks p) inl (λ by. inr (by.0, all (envelope.Settle p by.0) by.1, by.2));
  }
    where
      so : (e : Envelope) → WasThere known x e → WasThere more x e
      so e h = either h (λ k. inl (all e k)) inr

  -- what others do between two calls of the Hand
  pub by_standing : (x y : Kept C) → Stands hand_number x y → TakesFrom known x y
  by_standing x y s = record {
    rows = s.begins.0;
    goes_on = sym s.begins.1;
    took = none_more (WasThere known x) 1 x.journal s.begins.0
        (ap (λ (rows : List (JournalRow C)). rows_of hand_number 1 rows) s.begins.1 ∙ s.rows);
    holds = λ e h. inr (subst (λ (held : Messages). IsHeldIn held e) (s.held refl).1 h);
    marks = λ p. inl (ap (λ (marks : Pair → ℕ). marks p) (s.held refl).0);
  }

-- the rows that a deed adds to the journal
abbrev rows_by : {C : Type 0} → Deed C → List (JournalRow C)
rows_by Nothing = []
rows_by (TakesIn row) = row ∷ []
rows_by (Holds l) = []
rows_by (Settles p n) = []

taken_by : {C : Type 0} (P : Envelope → Type 0) (d : Deed C) → DeedIs P d → TakeIn P (rows_by d)
taken_by P Nothing is = tt
taken_by P (TakesIn row) is = (is, tt)
taken_by P (Holds l) is = tt
taken_by P (Settles p n) is = tt

-- the greater of two marks is one of them
either_mark : (mark old n : ℕ) (b : Bool) → nat_lt old n ≡ b → mark ≡ max old n → (mark ≡ old) ⊎ (mark ≤ n)
either_mark mark old n true lt is = inr (let less : old < n = grind (arith, nat_tests, lt) in omega (arith, is, less))
either_mark mark old n false ge is = inl (let most : n ≤ old = grind (arith, nat_tests, ge) in omega (arith, is, most))

module _ {S C : Type 0} (service : Service S C) where
  goes_on_by : (x y : Kept C) (d : Deed C) → Did service x d y → y.journal ≡ x.journal ++ rows_by d
  goes_on_by x y Nothing did = ap (λ (k : Kept C). k.journal) did ∙ sym (append-nil x.journal)
  goes_on_by x y (TakesIn row) did = did.0.appended
  goes_on_by x y (Holds l) did = ap (λ (k : Kept C). k.journal) did.2 ∙ sym (append-nil x.journal)
  goes_on_by x y (Settles p n) did = ap (λ (k : Kept C). k.journal) did.2 ∙ sym (append-nil x.journal)

  one_is : (P : Envelope → Type 0) (e : Envelope) (g : Grouped) (x : Kept C) (d : Deed C) → P e
      → GroupedMay service e g x d → DeedIs P d
  one_is P (envelope.Letter l) (grouped.Handled pos) x d is may =
      ingest_is service P l is (Ok (ingested.Handled pos)) x d may
  one_is P (envelope.Letter l) (grouped.Settled mark) x d is may = absurd may
  one_is P (envelope.Settle p n) (grouped.Handled pos) x d is may = absurd may
  one_is P (envelope.Settle p n) (grouped.Settled mark) x d is may = settle_is service P p n is (Ok mark) x d may

  module _ (known : Envelope → Type 0) where
    held_by : (x y : Kept C) (d : Deed C) → Did service x d y → DeedIs (WasThere known x) d → (e : Envelope)
        → IsHeldIn y.held e → WasThere known x e
    held_by x y d did is (envelope.Letter l) h =
        either (did_held service (WasThere known x) x y d did is l.pair l.number l.message h) inr (λ was. was)
    held_by x y d did is (envelope.Settle p n) h = absurd h

    marked_by : (x y : Kept C) (d : Deed C) → Did service x d y → DeedIs (WasThere known x) d → (p : Pair)
        → (y.settled p ≡ x.settled p) ⊎ IsSettledBy known p (y.settled p)
    marked_by x y d did is p = either (did_settled service (WasThere known x) x y d did is p) inl
        (λ up. either (either_mark (y.settled p) (x.settled p) up.0 (nat_lt (x.settled p) up.0) refl up.1)
        inl
        (λ upto. either up.2 (λ so. inr (up.0, so, upto)) (λ no. absurd no)))

    -- a deed of what is known or was held
    pub by_deed : (x y : Kept C) (d : Deed C) → Did service x d y → DeedIs (WasThere known x) d → TakesFrom known x y
    by_deed x y d did is = record {
      rows = rows_by d;
      goes_on = goes_on_by x y d did;
      took = taken_by (WasThere known x) d is;
      holds = held_by x y d did is;
      marks = marked_by x y d did is;
    }

    -- a group
    by_each : (es : List Envelope) (gs : List Grouped) (t u : Tables S C) → ((e : Envelope) → Contains es e → known e)
        → TakesEach service es gs t u → TakesFrom known (kept t) (kept u)
    by_each es [] t u all h = subst (λ (k : Tables S C). TakesFrom known (kept t) (kept k)) (sym h) (takes_same known (kept t))
    by_each [] (g ∷ gs) t u all h = absurd h
    by_each (e ∷ es) (g ∷ gs) t u all h = takes_join known (kept t) (kept h.0) (kept u)
        (by_deed (kept t) (kept h.0) h.1.deed h.1.did
        (one_is (WasThere known (kept t)) e g (kept t) h.1.deed (inl (all e (0, omega arith, refl))) h.1.may))
        (by_each es gs h.0 u (λ f at. let less = at.1 in all f (suc at.0, omega (arith, less), at.2)) h.2)

-- what MESSAGEs carry is among their envelopes
pub among_contained : (messages : List Content) (e : Envelope) → CarriedAmong messages e → Contains (envelopes_in messages) e
among_contained [] e h = absurd h
among_contained (a ∷ messages) e (inl is) =
    subst (λ o. Contains (option_to_list o ++ envelopes_in messages) e) (sym is) (0, omega arith, refl)
among_contained (a ∷ messages) e (inr h) = Contains-append_right (option_to_list (read_frame a))
    (envelopes_in messages) e (among_contained messages e h)

-- ---- one call

module _ {E S C : Type 0} (seen : E → Seen (Tables S C)) (service : Service S C) where
  -- Where the answer says something of the journal (`tells`) it's as one thread's, at tables that others left; else what the
  -- token has seen stays.
  by_answer : {R : Type 0} (known : Envelope → Type 0) (Call : E → E → Type 0) (result : Result R EndFault)
      (At : Tables S C → Tables S C → Type 0) → ((t u : Tables S C) → At t u → TakesFrom known (kept t) (kept u))
      → IsOneThreads seen service hand_number Call result At → (v w : ToldToken E)
      → Turn seen service hand_number v w Call (fault_in result)
      → TokenTakes seen service known v w
  by_answer known Call result At leads law v w turn z good = by_told (tells (fault_in result)) refl
    where
      by_told : (b : Bool) → tells (fault_in result) ≡ b
          → TakesFrom known (kept (seen v.seen).tables) (kept (seen w.seen).tables)
      by_told true is =
          let same : w.seen ≡ w.last = turn.passes.seen_is ∙ ap (λ b. if b then w.last else v.seen) is in
          let a = law v w turn is good (ap (λ (e : E). (seen e).doubt) (sym same) ∙ z) in
          takes_join known (kept (seen v.seen).tables) (kept a.0) (kept (seen w.seen).tables)
          (by_standing known (kept (seen v.seen).tables) (kept a.0) a.1.stands)
          (leads a.0 (seen w.seen).tables a.2)
      by_told false is =
          let same : w.seen ≡ v.seen = turn.passes.seen_is ∙ ap (λ b. if b then w.last else v.seen) is in
          subst (λ (e : E). TakesFrom known (kept (seen v.seen).tables) (kept (seen e).tables)) (sym same)
          (takes_same known (kept (seen v.seen).tables))

  by_tokens : (known : Envelope → Type 0) (Call : E → E → Type 0) (fault : Option EndFault) (vs ws : List (ToldToken E))
      → ((v w : ToldToken E) → Turn seen service hand_number v w Call fault → TokenTakes seen service known v w)
      → Turns seen service hand_number vs ws Call fault
      → Takes seen service known vs ws
  by_tokens known Call fault (v ∷ []) (w ∷ []) takes turn = takes v w turn
  by_tokens known Call fault [] ws takes turn = absurd turn
  by_tokens known Call fault (v ∷ []) [] takes turn = absurd turn
  by_tokens known Call fault (v ∷ []) (w ∷ x ∷ ws) takes turn = absurd turn
  by_tokens known Call fault (v ∷ x ∷ vs) ws takes turn = absurd turn

  -- a call that does one deed
  deed_takes : {R : Type 0} (known : Envelope → Type 0) (Call : E → E → Type 0) (result : Result R EndFault)
      (may : Kept C → Deed C → Type 0) → ((x : Kept C) (d : Deed C) → may x d → DeedIs (WasThere known x) d)
      → (vs ws : List (ToldToken E))
      → IsOneThreads seen service hand_number Call result (DoesAt service hand_number may)
      → Turns seen service hand_number vs ws Call (fault_in result)
      → Takes seen service known vs ws
  deed_takes known Call result may is vs ws law turns = by_tokens known Call (fault_in result) vs ws
      (by_answer known Call result (DoesAt service hand_number may)
      (λ t u does. by_deed service known (kept t) (kept u) does.deed does.did (is (kept t) does.deed does.allowed)) law) turns

  pub ingest_takes : (Call : E → E → Type 0) (l : Letter) (r : Result Ingested EndFault) (vs ws : List (ToldToken E))
      → IsOneThreads seen service hand_number Call r (DoesAt service hand_number (IngestMay service l r))
      → Turns seen service hand_number vs ws Call (fault_in r)
      → Takes seen service (OnlyLetter l) vs ws
  ingest_takes Call l r = deed_takes (OnlyLetter l) Call r (IngestMay service l r)
      (λ x d may. ingest_is service (WasThere (OnlyLetter l) x) l (inl refl) r x d may)

  pub drain_takes : (Call : E → E → Type 0) (p : Pair) (r : Result (Option ℕ) EndFault) (vs ws : List (ToldToken E))
      → IsOneThreads seen service hand_number Call r (DoesAt service hand_number (DrainMay service p r))
      → Turns seen service hand_number vs ws Call (fault_in r)
      → Takes seen service NoEnvelope vs ws
  drain_takes Call p r = deed_takes NoEnvelope Call r (DrainMay service p r)
      (λ x d may. drain_is service (WasThere NoEnvelope x) p r x d (λ e h. inr h) may)

  pub settle_takes : (Call : E → E → Type 0) (p : Pair) (n : ℕ) (r : Result ℕ EndFault) (vs ws : List (ToldToken E))
      → IsOneThreads seen service hand_number Call r (DoesAt service hand_number (SettleMay service p n r))
      → Turns seen service hand_number vs ws Call (fault_in r)
      → Takes seen service (OnlySettle p n) vs ws
  settle_takes Call p n r = deed_takes (OnlySettle p n) Call r (SettleMay service p n r)
      (λ x d may. settle_is service (WasThere (OnlySettle p n) x) p n (inl refl) r x d may)

  group_leads : (es : List Envelope) (r : Result (Vec Grouped) EndFault) (t u : Tables S C) → GroupsAt service es r t u
      → TakesFrom (Contains es) (kept t) (kept u)
  group_leads es (Ok told) t u at = by_each service (Contains es) es told.items t u (λ e h. h) at.0
  group_leads es (Err fault) t u at = absurd at

  pub group_takes : (Call : E → E → Type 0) (es : List Envelope) (r : Result (Vec Grouped) EndFault) (vs ws : List (ToldToken E))
      → IsOneThreads seen service hand_number Call r (GroupsAt service es r)
      → Turns seen service hand_number vs ws Call (fault_in r)
      → Takes seen service (Contains es) vs ws
  group_takes Call es r vs ws law turns = by_tokens (Contains es) Call (fault_in r) vs ws
      (by_answer (Contains es) Call r (GroupsAt service es r) (group_leads es r) law) turns

  length_leads : (r : Result ℕ EndFault) (t u : Tables S C) → LengthAt service r t u → TakesFrom NoEnvelope (kept t) (kept u)
  length_leads (Ok n) t u at =
      subst (λ (x : Tables S C). TakesFrom NoEnvelope (kept t) (kept x)) (sym at.1) (takes_same NoEnvelope (kept t))
  length_leads (Err fault) t u at = absurd at

  -- a look processes nothing
  pub look_takes : (Call : E → E → Type 0) (r : Result ℕ EndFault) (vs ws : List (ToldToken E))
      → IsOneThreads seen service hand_number Call r (LengthAt service r)
      → Turns seen service hand_number vs ws Call (fault_in r)
      → Takes seen service NoEnvelope vs ws
  look_takes Call r vs ws law turns = by_tokens NoEnvelope Call (fault_in r) vs ws
      (by_answer NoEnvelope Call r (LengthAt service r) (length_leads r) law) turns

  -- ---- one call where the store failed

  by_failure : (known : Envelope → Type 0) (Call : E → E → Type 0) (v w : ToldToken E)
      → Turn seen service hand_number v w Call (Some StoreFailed)
      → ((d e : E) → Call d e → (seen e).doubt ≡ 0 → AllMatch service (seen d).may_leave → (t : Tables S C)
      → (seen e).may_leave t → TakesFrom known (kept (seen d).tables) (kept t))
      → TokenLeaves seen service known v w
  by_failure known Call v w turn leaves z good t may =
      let taken = turn.taken in
      let since = turn.passes.since turn.passes.used.0 in
      let clean = since.clean (le-zero (subst (λ n. (seen taken).doubt ≤ n) z turn.passes.next.doubt)) good.matches in
      takes_join known (kept (seen v.seen).tables) (kept (seen taken).tables) (kept t)
      (by_standing known (kept (seen v.seen).tables) (kept (seen taken).tables) clean.1)
      (leaves taken w.last turn.call z clean.0 t may)

  all_leave : (known : Envelope → Type 0) (Call : E → E → Type 0) (vs ws : List (ToldToken E))
      → ((d e : E) → Call d e → (seen e).doubt ≡ 0 → AllMatch service (seen d).may_leave → (t : Tables S C)
      → (seen e).may_leave t → TakesFrom known (kept (seen d).tables) (kept t))
      → Turns seen service hand_number vs ws Call (Some StoreFailed)
      → Leaves seen service known vs ws
  all_leave known Call (v ∷ []) (w ∷ []) leaves turn = by_failure known Call v w turn leaves
  all_leave known Call [] ws leaves turn = absurd turn
  all_leave known Call (v ∷ []) [] leaves turn = absurd turn
  all_leave known Call (v ∷ []) (w ∷ x ∷ ws) leaves turn = absurd turn
  all_leave known Call (v ∷ x ∷ vs) ws leaves turn = absurd turn

  -- a call that does one deed, or none
  deed_leaves : {R : Type 0} (known : Envelope → Type 0) (Reason : EndFault → Type 0) (name : Entity)
      (may : Result R EndFault → Kept C → Deed C → Type 0) (r : Result R EndFault)
      → ((x : Kept C) (d : Deed C) → may (Err StoreFailed) x d → DeedIs (WasThere known x) d) → (vs ws : List (ToldToken E))
      → Turns seen service hand_number vs ws (λ d e. DoesDeed seen d e HELD_WINDOW service Reason name may r) (fault_in r)
      → r ≡ Err StoreFailed → Leaves seen service known vs ws
  deed_leaves known Reason name may r is vs ws turns failed =
      all_leave known (λ d e. DoesDeed seen d e HELD_WINDOW service Reason name may (Err StoreFailed)) vs ws
      (λ d e call z all t left. let done = call.clean z all t left in
      by_deed service known (kept (seen d).tables) (kept t) done.0 done.2 (is (kept (seen d).tables) done.0 done.1))
      (subst (λ q. Turns seen service hand_number vs ws (λ d e. DoesDeed seen d e HELD_WINDOW service Reason name may q)
      (fault_in q)) failed turns)

  pub ingest_leaves : (l : Letter) (r : Result Ingested EndFault) (vs ws : List (ToldToken E))
      → Turns seen service hand_number vs ws
      (λ d e. DoesDeed seen d e HELD_WINDOW service OfLetter l.pair.to (IngestMay service l) r) (fault_in r)
      → r ≡ Err StoreFailed → Leaves seen service (OnlyLetter l) vs ws
  ingest_leaves l r = deed_leaves (OnlyLetter l) OfLetter l.pair.to (IngestMay service l) r
      (λ x d may. ingest_is service (WasThere (OnlyLetter l) x) l (inl refl) (Err StoreFailed) x d may)

  pub drain_leaves : (p : Pair) (r : Result (Option ℕ) EndFault) (vs ws : List (ToldToken E))
      → Turns seen service hand_number vs ws
      (λ d e. DoesDeed seen d e HELD_WINDOW service OfHeldLetter p.to (DrainMay service p) r) (fault_in r)
      → r ≡ Err StoreFailed → Leaves seen service NoEnvelope vs ws
  drain_leaves p r = deed_leaves NoEnvelope OfHeldLetter p.to (DrainMay service p) r
      (λ x d may. drain_is service (WasThere NoEnvelope x) p (Err StoreFailed) x d (λ e h. inr h) may)

  pub settle_leaves : (p : Pair) (n : ℕ) (r : Result ℕ EndFault) (vs ws : List (ToldToken E))
      → Turns seen service hand_number vs ws
      (λ d e. DoesDeed seen d e HELD_WINDOW service OfSettle p.from (SettleMay service p n) r) (fault_in r)
      → r ≡ Err StoreFailed → Leaves seen service (OnlySettle p n) vs ws
  settle_leaves p n r = deed_leaves (OnlySettle p n) OfSettle p.from (SettleMay service p n) r
      (λ x d may. settle_is service (WasThere (OnlySettle p n) x) p n (inl refl) (Err StoreFailed) x d may)

  -- a first part of a group
  pub group_leaves : (es : List Envelope) (r : Result (Vec Grouped) EndFault) (vs ws : List (ToldToken E))
      → Turns seen service hand_number vs ws (λ d e. Groups seen d e service es r) (fault_in r)
      → r ≡ Err StoreFailed → Leaves seen service (Contains es) vs ws
  group_leaves es r vs ws turns failed =
      all_leave (Contains es) (λ d e. Groups seen d e service es (Err StoreFailed)) vs ws
      (λ d e call z all t left. let some = call.clean z all t left in
      by_each service (Contains es) es some.0 (seen d).tables t (λ f h. h) some.1)
      (subst (λ q. Turns seen service hand_number vs ws (λ d e. Groups seen d e service es q) (fault_in q)) failed turns)

  -- ---- several calls

  -- two calls, one after the other
  pub both_take : (n : ℕ) (known : Envelope → Type 0) (us vs ws : List (ToldToken E))
      → GoesOn seen service n us vs → GoesOn seen service n vs ws → Takes seen service known us vs
      → Takes seen service known vs ws
      → Takes seen service known us ws
  both_take n known (u ∷ []) (v ∷ []) (w ∷ []) a b h k = λ z good.
      let y = le-zero (subst (λ m. (seen v.seen).doubt ≤ m) z b.doubt_seen) in
      takes_join known (kept (seen u.seen).tables) (kept (seen v.seen).tables) (kept (seen w.seen).tables)
      (h y good) (k z (a.good y good))
  both_take n known [] vs ws a b h k = absurd a
  both_take n known (u ∷ x ∷ us) vs ws a b h k = absurd a
  both_take n known (u ∷ []) [] ws a b h k = absurd a
  both_take n known (u ∷ []) (v ∷ x ∷ vs) ws a b h k = absurd a
  both_take n known (u ∷ []) (v ∷ []) [] a b h k = absurd b
  both_take n known (u ∷ []) (v ∷ []) (w ∷ x ∷ ws) a b h k = absurd b

  -- by more that is known
  pub so_takes : (known more : Envelope → Type 0) → ((e : Envelope) → known e → more e) → (vs ws : List (ToldToken E))
      → Takes seen service known vs ws → Takes seen service more vs ws
  so_takes known more all (v ∷ []) (w ∷ []) h = λ z good.
      takes_more known more (kept (seen v.seen).tables) (kept (seen w.seen).tables) all (h z good)
  so_takes known more all [] ws h = absurd h
  so_takes known more all (v ∷ []) [] h = absurd h
  so_takes known more all (v ∷ []) (w ∷ x ∷ ws) h = absurd h
  so_takes known more all (v ∷ x ∷ vs) ws h = absurd h

  -- by no call
  pub nothing_takes : (known : Envelope → Type 0) (vs ws : List (ToldToken E)) (v : ToldToken E) → vs ≡ v ∷ [] → ws ≡ vs
      → Takes seen service known vs ws
  nothing_takes known vs ws v is same = subst (λ xs. Takes seen service known vs xs) (sym same)
      (subst (λ xs. Takes seen service known xs xs) (sym is) (λ z good. takes_same known (kept (seen v.seen).tables)))

  -- calls, and after them calls to which nothing was given
  pub then_nothing : (n : ℕ) (known : Envelope → Type 0) (us vs ws : List (ToldToken E))
      → GoesOn seen service n us vs → GoesOn seen service n vs ws → Takes seen service known us vs
      → Takes seen service NoEnvelope vs ws
      → Takes seen service known us ws
  then_nothing n known us vs ws a b h k =
      both_take n known us vs ws a b h (so_takes NoEnvelope known (λ e no. absurd no) vs ws k)

  -- ---- the end

  -- others may have done more since the Hand has seen so much
  takes_till : (known : Envelope → Type 0) (n : ℕ) (v w : ToldToken E) (t : Tables S C) → TokenTakes seen service known v w
      → (seen w.seen).doubt ≡ 0 → IsGood seen service v → n ≡ hand_number → Continues seen service n w t
      → TakesFrom known (kept (seen v.seen).tables) (kept t)
  takes_till known n v w t h z good is c =
      takes_join known (kept (seen v.seen).tables) (kept (seen w.seen).tables) (kept t) (h z good)
      (by_standing known (kept (seen w.seen).tables) (kept t)
      (subst (λ m. Stands m (kept (seen w.seen).tables) (kept t)) is c.stands))

  pub taking_stands : TakingStands seen service
  taking_stands messages v w tokens witnessed e h good is among closes z history = (
    all,
    λ up t may. let left = history.left t may in
        subst (TakesFrom (Contains (envelopes_in messages)) (kept (seen v.seen).tables))
        (sym (subst (λ ds. DidAll service (kept history.tables) ds (kept t)) (left.none up) left.did)) all,
  )
    where
      clean : (seen w.seen).doubt ≡ 0
      clean =
          let one = one_of_these (λ k. k ≡ w) (IsTold (Since seen service) (IsLater seen) (EndsAs seen service) e closes.good)
          tokens among closes.told in
          let least : (seen w.seen).doubt ≤ (seen closes.good).doubt
          = subst (λ (k : ToldToken E). (seen k.seen).doubt ≤ (seen closes.good).doubt) one.1 one.2.since.doubt in
          le-zero (subst (λ n. (seen w.seen).doubt ≤ n) (no_doubt seen service closes.good e closes.ends z) least)

      all : TakesFrom (Contains (envelopes_in messages)) (kept (seen v.seen).tables) (kept history.tables)
      all =
          let one = one_of_these (λ k. k ≡ w) (λ k. Continues seen service k.number k history.tables) tokens among
          history.continues in
          takes_more (CarriedAmong messages) (Contains (envelopes_in messages)) (kept (seen v.seen).tables)
          (kept history.tables) (among_contained messages)
          (takes_till (CarriedAmong messages) w.number v w history.tables h clean good is
          (subst (λ (k : ToldToken E). Continues seen service k.number k history.tables) one.1 one.2))

-- ---- what MESSAGEs carry

-- the first of some envelopes is among them
pub first_contained : (es : List Envelope) (e : Envelope) → es ≡ e ∷ behind es → (f : Envelope) → Only e f → Contains es f
first_contained es e is f same = subst (λ xs. Contains xs f) (sym is) (0, omega arith, sym same)

contained_at : (messages : List Content) (es : List Envelope) → Carry messages es → (e : Envelope) (k : ℕ) → k < length es
    → slice_index_or es k e ≡ e → CarriedAmong messages e
contained_at messages [] h e k less at = absurd (omega (arith, less))
contained_at [] (f ∷ es) h e k less at = absurd h
contained_at (a ∷ messages) (f ∷ es) h e zero less at = inl (h.0 ∙ ap Some at)
contained_at (a ∷ messages) (f ∷ es) h e (suc k) less at = inr (contained_at messages es h.1 e k (omega (arith, less)) at)

-- of the first of these MESSAGEs, or of others
pub carried_here : (a : Content) (messages : List Content) (es : List Envelope) → Carry (a ∷ messages) es → (e : Envelope)
    → CarriedOrIn a es e → CarriedAmong (a ∷ messages) e
carried_here a messages es h e (inl is) = inl is
carried_here a messages es h e (inr at) = contained_at (a ∷ messages) es h e at.0 at.1 at.2

-- what some MESSAGEs carry, these and more carry
pub among_left : (xs ys : List Content) (e : Envelope) → CarriedAmong xs e → CarriedAmong (xs ++ ys) e
among_left [] ys e h = absurd h
among_left (x ∷ xs) ys e (inl h) = inl h
among_left (x ∷ xs) ys e (inr h) = inr (among_left xs ys e h)

-- what some MESSAGEs carry, these after others carry
pub among_right : (xs ys : List Content) (e : Envelope) → CarriedAmong ys e → CarriedAmong (xs ++ ys) e
among_right [] ys e h = h
among_right (x ∷ xs) ys e h = inr (among_right xs ys e h)
