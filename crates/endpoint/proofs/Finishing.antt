-- What the parts of a call on letters come to: a letter that is handled or held, a mark that rises, and the call that a
-- caller sees.
use Rattle.std.proofs.Common.{ℕ, suc, ◌≤◌, ◌<◌, ◌≡◌, inl, inr, List, [], ◌∷◌, Some, None, length}
use Rattle.std.proofs.Common.{Result, Ok, Err, refl}
use Rattle.std.proofs.Common.{sym, ap}
use Rattle.std.proofs.Common.{subst, ◌∙◌, arith, length-append, true}
use Rattle.std.specs.Prelude.{⊤}
use Rattle.base.specs.Entity.{Entity}
use Rattle.base.specs.declared.limits.TheConstants.{MAX_NUMBER}
use Rattle.base.specs.declared.pair.Pair.{Pair}
use Rattle.envelope.specs.declared.message.Message.{Message}
use Rattle.envelope.specs.declared.message.Letter.{Letter}
use Rattle.activities.specs.Service.{Service}
use Rattle.activities.specs.Journal.{sent_of, handled_of}
use Rattle.activities.specs.declared.input.Input.TheVariants.{FromEntity}
use Rattle.activities.specs.declared.input.JournalRow.{JournalRow}
use Rattle.activities.proofs.Sameness.{either}
use Rattle.keep.specs.declared.change.Change.{Change}
use Rattle.keep.specs.declared.change.Change.TheVariants.{Held, Settled}
use Rattle.keep.specs.Law.{IsCall}
use Rattle.keep.specs.Seen.{Seen, IsSound}
use Rattle.keep.specs.Tables.{Tables, Messages, changed, ArePlaced, set_message}
use Rattle.endpoint.specs.declared.answer.Committed.{Committed}
use Rattle.endpoint.specs.declared.answer.Ingested.{Ingested}
use Rattle.endpoint.specs.declared.answer.Ingested.TheVariants as ingested
use Rattle.endpoint.specs.declared.fault.EndFault.{EndFault}
use Rattle.endpoint.specs.declared.fault.EndFault.TheVariants.{NotMine, Business, TooEarly, StoreFailed, Memory}
use Rattle.endpoint.specs.declared.fault.EndFault.TheVariants.{Unusable, NumberLimit}
use Rattle.endpoint.specs.declared.fault.EndFault.TheVariants.{NotSent}
use Rattle.endpoint.specs.Arrivals.{row_of_letter, IngestMayWithin, SettleMay, IsDone}
use Rattle.endpoint.specs.Calls.{IsCommitCall, IsCommit, Appends, IsMine, MayTurnAway, OfLetter, OfHeldLetter, DoesDeed}
use Rattle.endpoint.specs.Calls.{IfRefused}
use Rattle.endpoint.specs.Deeds.{Kept, kept, Deed, Nothing, TakesIn, Holds, Settles, DidWithin}
use Rattle.endpoint.specs.Faults.{end_of}
use Rattle.endpoint.specs.Matches.{TablesMatchWithin}
use Rattle.endpoint.specs.Parts.Handling.{Handles}
use Rattle.endpoint.specs.Parts.Receiving.{Works, IsNext, IsEarly, IsMissing}
use Rattle.endpoint.proofs.Arriving.{letter_changes, letter_prepares, held_same, held_new, may_be_held, held_matches}
use Rattle.endpoint.proofs.Arriving.{settled_matches}
use Rattle.endpoint.proofs.Arriving.{mark_same, mark_raised}
use Rattle.endpoint.proofs.Doing.{good_now}
use Rattle.endpoint.proofs.Kept.{commit-matches}

-- the reasons of a held letter are some of a letter's
pub held_wider : (f : EndFault) → OfHeldLetter f → OfLetter f
held_wider NumberLimit h = tt
held_wider NotMine h = absurd h
held_wider (Business _) h = absurd h
held_wider TooEarly h = absurd h
held_wider StoreFailed h = absurd h
held_wider Memory h = absurd h
held_wider Unusable h = absurd h
held_wider NotSent h = absurd h

-- ---- a letter that is handled

-- what taking its row in answers
abbrev pub as_ingested : Result Committed EndFault → Result Ingested EndFault
as_ingested (Ok c) = Ok (ingested.Handled c.pos)
as_ingested (Err fault) = Err fault

-- it refuses where that does
as_refused : (A : Type 0) (result : Result Committed EndFault) → IfRefused result A → IfRefused (as_ingested result) A
as_refused A (Ok c) same = tt
as_refused A (Err fault) same = same

module _ {E S C : Type 0} (seen : E → Seen (Tables S C)) (sound : (k : E) → IsSound (seen k)) (ahead : ℕ)
    (service : Service S C)
    (old new : E)
    (l : Letter) (mine : l.pair.to.kind ≡ service.kind) where
  abbrev row : JournalRow C
  row = row_of_letter l

  abbrev waiting : Messages
  waiting = set_message l.pair l.number None (seen old).tables.held

  told : (result : Result Committed EndFault) → IsCommitCall seen old new service.kind row result
      → IsCall seen old new OfHeldLetter (end_of (as_ingested result))
  told (Ok c) call = call.0
  told (Err Memory) call = call.0
  told (Err StoreFailed) call = call.0
  told (Err Unusable) call = call.0
  told (Err NumberLimit) call = (call.0.0, tt)
  told (Err NotMine) call = absurd (call.0.1.0 mine)
  told (Err (Business r)) call = absurd call.0.1.1
  told (Err TooEarly) call = absurd call.0.1
  told (Err NotSent) call = absurd call.0.1

  took : (t : Tables S C) → Appends ahead service (seen old).tables row waiting t
      → DidWithin ahead service (kept (seen old).tables) (TakesIn row) (kept t)
  took t a = (a.takes, a.settled, a.held)

  done : l.number ≡ suc (handled_of (seen old).tables.journal l.pair) → (result : Result Committed EndFault)
      → IsCommitCall seen old new service.kind row result
      → IsCommit ahead service (seen old).tables row waiting (seen new).tables (seen new).may_leave result
      → IsDone ahead service (IngestMayWithin ahead service l) (seen old).tables (seen new).tables (seen new).may_leave
      (as_ingested result)
  done next (Ok c) call did =
      let long : length (seen new).tables.journal ≡ suc (length (seen old).tables.journal) =
      ap length did.1.takes.appended
      ∙ length-append (seen old).tables.journal _ ∙ omega arith in
      (TakesIn row, (refl, did.0.1 ∙ long), took (seen new).tables did.1)
  done next (Err StoreFailed) call did = λ t left. either (did t left).1
      (λ is. (Nothing, inl refl, ap kept is))
      (λ a. (TakesIn row, inr (inl refl), took t a))
  done next (Err Memory) call did = (refl, did.1)
  done next (Err Unusable) call did = (refl, did.1)
  done next (Err NotMine) call did = absurd (call.0.1.0 mine)
  done next (Err NumberLimit) call did = ((refl, next, did.0.1), did.1)
  done next (Err (Business refusal)) call did = absurd call.0.1.1
  done next (Err TooEarly) call did = absurd did.0
  done next (Err NotSent) call did = absurd did.0

  -- the sender's name was copied, and the changes are a list of their own
  pub handled_works : (from : Entity) (first : List (Change S C)) → from ≡ l.pair.from → first ≡ letter_changes l
      → (seen old).usable ≡ true → (result : Result Committed EndFault)
      → Handles seen old new ahead service (record { entity = l.pair.to; input = FromEntity from l.number l.message })
      first result
      → Works seen old new ahead service OfHeldLetter (IsNext l) (IngestMayWithin ahead service l) (as_ingested result)
  handled_works from first is are up result handles =
      let h = subst (λ n. Handles seen old new ahead service (record {
        entity = l.pair.to;
        input = FromEntity n l.number l.message;
      })
      (letter_changes l) result) is
      (subst (λ (cs : List (Change S C)). Handles seen old new ahead service
      (record { entity = l.pair.to; input = FromEntity from l.number l.message }) cs result) are handles) in
      let d = h.doubt in record {
        call = told result h.call;
        doubt = h.doubt;
        clean = λ clean. (
          as_refused ((seen new).tables ≡ (seen old).tables) result (h.clean clean).0,
          λ good next.
              let clean0 : (seen old).doubt ≡ 0 = omega (arith, clean, d) in
              let matches = good_now seen sound ahead service old clean0 up good in
              let k = matches.handled l.pair in
              let did = (h.clean clean).1 good (letter_prepares ahead service (seen old).tables l matches next
              (letter_changes l) refl) in (
                done (omega (arith, next, k)) result h.call did,
                commit-matches seen ahead service old new row waiting (sound old) (sound new) clean0 clean good result
                    h.call did,
              ),
        );
      }

-- ---- a letter that is held, and a mark

module _ {S C : Type 0} (ahead : ℕ) (service : Service S C) where
  -- with one column of what is kept another
  with_messages : (x : Kept C) (held : Messages) → x.held ≡ held → x ≡ record x { held = held }
  with_messages x held is = ap (λ (h : Messages). record x { held = h }) is

  pub hold_did : (l : Letter) → l.pair.to.kind ≡ service.kind → l.number ≤ MAX_NUMBER → (t : Tables S C)
      → TablesMatchWithin ahead service t
      → IsEarly ahead l t → (m : Message) → t.held l.pair l.number ≡ Some m
      → DidWithin ahead service (kept t) (Holds l) (kept t)
  hold_did l mine small t h early m is =
      let k = h.handled l.pair in let far = early.0 in (
        may_be_held ahead service t h l mine small early,
        omega (arith, far, k),
        ap (λ (x : Messages). record { journal = t.journal; settled = t.settled; held = x }) (held_same l t.held m is),
      )

  abbrev Hold : Letter → List (Change S C) → Tables S C → Type 0
  Hold l cs t = IngestMayWithin ahead service l (Ok ingested.Held) (kept t) (Holds l)
      × IngestMayWithin ahead service l (Err StoreFailed) (kept t) (Holds l)
      × DidWithin ahead service (kept t) (Holds l) (kept (changed cs t))
      × TablesMatchWithin ahead service (changed cs t)

  pub hold_placed : (l : Letter) (cs : List (Change S C)) → cs ≡ Held l ∷ [] → (t : Tables S C) → ArePlaced cs t
  hold_placed l cs is t = subst (λ (c : List (Change S C)). ArePlaced c t) (sym is) (tt, tt)

  pub hold_does : (l : Letter) → l.pair.to.kind ≡ service.kind → l.number ≤ MAX_NUMBER → (cs : List (Change S C))
      → cs ≡ Held l ∷ []
      → (t : Tables S C) → TablesMatchWithin ahead service t → IsEarly ahead l t × IsMissing l t → Hold l cs t
  hold_does l mine small cs is t h q =
      let may = may_be_held ahead service t h l mine small q.0 in
      let k = h.handled l.pair in let far = q.0.0 in
      subst (λ (c : List (Change S C)). Hold l c t) (sym is) (
        refl,
        inr (inr refl),
        (
          may,
          omega (arith, far, k),
          ap (λ (x : Messages). record { journal = t.journal; settled = t.settled; held = x }) (held_new l t.held q.1),
        ),
        held_matches ahead service t h l may,
      )

  abbrev Mark : Pair → ℕ → List (Change S C) → Tables S C → Type 0
  Mark p n cs t = SettleMay service p n (Ok n) (kept t) (Settles p n)
      × SettleMay service p n (Err StoreFailed) (kept t) (Settles p n)
      × DidWithin ahead service (kept t) (Settles p n) (kept (changed cs t))
      × TablesMatchWithin ahead service (changed cs t)

  pub mark_placed : (p : Pair) (n : ℕ) (cs : List (Change S C)) → cs ≡ Settled p n ∷ [] → (t : Tables S C)
      → ArePlaced cs t
  mark_placed p n cs is t = subst (λ (c : List (Change S C)). ArePlaced c t) (sym is) (tt, tt)

  pub mark_does : (p : Pair) (n : ℕ) → p.from.kind ≡ service.kind → (cs : List (Change S C)) → cs ≡ Settled p n ∷ []
      → (t : Tables S C) → TablesMatchWithin ahead service t → (t.settled p < n) × (n ≤ t.sent p) → Mark p n cs t
  mark_does p n mine cs is t h q =
      let more = q.0 in let there = q.1 in let s = h.sent p in
      let few : n ≤ length (sent_of service.reactions t.journal p) = omega (arith, there, s) in
      subst (λ (c : List (Change S C)). Mark p n c t) (sym is) (
        (refl, omega (arith, more)),
        inr refl,
        (
          mine,
          few,
          ap (λ (x : Pair → ℕ). record { journal = t.journal; settled = x; held = t.held })
              (mark_raised t.settled p n more),
        ),
        settled_matches ahead service t h p n more few,
      )

  -- a mark that doesn't rise
  pub mark_stays : (p : Pair) (n mark : ℕ) → p.from.kind ≡ service.kind → (t : Tables S C)
      → TablesMatchWithin ahead service t
      → n ≤ t.sent p → mark ≡ t.settled p → n ≤ mark
      → SettleMay service p n (Ok mark) (kept t) (Settles p n) × DidWithin ahead service (kept t) (Settles p n) (kept t)
  mark_stays p n mark mine t h there is small =
      let s = h.sent p in (
        (refl, omega (arith, is, small)),
        (
          mine,
          omega (arith, there, s),
          ap (λ (x : Pair → ℕ). record { journal = t.journal; settled = x; held = t.held }) (mark_same t.settled p n
              (omega (arith, is, small))),
        ),
      )

-- ---- the call that a caller sees

module _ {E S C R : Type 0} (seen : E
    → Seen (Tables S C)) (ahead : ℕ) (service : Service S C) (old new : E) (e : Entity)
    (mine : e.kind ≡ service.kind) (Reason : EndFault → Type 0) (never : Reason NotMine → ⊥) where
  seen_call : (result : Result R EndFault) → IsCall seen old new Reason (end_of result)
      → IsCall seen old new (MayTurnAway Reason old new service.kind e) (end_of result)
      × IsMine service.kind e (end_of result)
  seen_call (Ok r) h = (h, mine)
  seen_call (Err Memory) h = (h, mine)
  seen_call (Err StoreFailed) h = (h, mine)
  seen_call (Err Unusable) h = (h, tt)
  seen_call (Err NotMine) h = absurd (never h.1)
  seen_call (Err (Business r)) h = ((h.0, (mine, h.1)), tt)
  seen_call (Err TooEarly) h = ((h.0, (mine, h.1)), tt)
  seen_call (Err NumberLimit) h = ((h.0, (mine, h.1)), tt)
  seen_call (Err NotSent) h = ((h.0, (mine, h.1)), tt)

  pub works_does : (may : Result R EndFault → Kept C → Deed C → Type 0) (result : Result R EndFault)
      → Works seen old new ahead service Reason (λ _. ⊤) may result
      → DoesDeed seen old new ahead service Reason e may result
  works_does may result w = record {
    call = seen_call result w.call;
    doubt = w.doubt;
    clean = λ clean good. ((w.clean clean).1 good tt).0;
  }
