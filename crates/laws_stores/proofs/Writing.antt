-- What a service writes of what it did is true.
use Rattle.std.proofs.Common.{◌≡◌, ℕ, zero, suc, ◌+◌, ◌≤◌, List, [], ◌∷◌, ◌++◌, ◌⊎◌, Bool, true, false, refl, ap, arith}
use Rattle.std.proofs.Common.{sym, ◌∙◌}
use Rattle.std.proofs.Common.{Option, Some, None, Ok, inl, inr, length, subst}
use Rattle.std.specs.Prelude.{nat_lt, slice_get}
use Rattle.base.specs.Entity.{Entity}
use Rattle.base.specs.Order.{same_pair}
use Rattle.base.specs.declared.entity.Kind.{Kind}
use Rattle.base.specs.declared.pair.Pair.{Pair}
use Rattle.base.proofs.Entities.{same_pair-Decides}
use Rattle.envelope.specs.declared.message.Message.{Message}
use Rattle.envelope.specs.declared.message.Envelope.TheVariants as envelope
use Rattle.envelope.specs.declared.message.Letter.{Letter}
use Rattle.activities.specs.declared.input.Input.TheVariants.{FromEntity}
use Rattle.activities.specs.declared.input.JournalRow.{JournalRow}
use Rattle.activities.specs.Journal.{part, sent_of, handled_of, AreOf}
use Rattle.activities.specs.Numbered.{nth}
use Rattle.activities.specs.Reaction.{Reactions, sent, letters_from}
use Rattle.activities.specs.Service.{Service}
use Rattle.activities.proofs.Journals.{handled_of-letter}
use Rattle.activities.proofs.Sameness.{either, same_entity-tells}
use Rattle.keep.specs.declared.change.LetterPlace.{LetterPlace}
use Rattle.keep.specs.Listing.{AreFirst, place_of}
use Rattle.keep.specs.Tables.{Tables, Messages}
use Rattle.outbox.specs.Numbering.{pair_between}
use Rattle.outbox.specs.Rows.{above, unsettled_of}
use Rattle.endpoint.specs.Arrivals.{IngestMay, DrainMay, row_of_letter, next_letter}
use Rattle.endpoint.specs.declared.answer.Ingested.TheVariants as ingested
use Rattle.endpoint.specs.Deeds.{Kept, Deed, TakesIn, Did}
use Rattle.endpoint.specs.Matches.{TablesMatchJournal}
use Rattle.laws_stores.specs.Writing.{IsTrueIn}
use Rattle.laws_stores.proofs.Doing.{did_handled}

-- ---- settles

-- after a letter was handled its number is that of the last
pub handled-now : {C : Type 0} (rows : List (JournalRow C)) (s e : Entity) (n : ℕ) (m : Message)
    → n ≡ suc (handled_of rows (pair_between s e))
    → handled_of (rows ++ record { entity = e; input = FromEntity s n m } ∷ []) (pair_between s e) ≡ n
handled-now rows s e n m next =
    let same : same_pair (pair_between s e) (pair_between s e) ≡ true =
    (same_pair-Decides (pair_between s e) (pair_between s e)).1 refl in
    let more : handled_of (rows ++ record { entity = e; input = FromEntity s n m } ∷ []) (pair_between s e)
    ≡ handled_of rows (pair_between s e) + 1
    = rw same at (handled_of-letter rows (pair_between s e) n m (pair_between s e)) in
    omega (arith, more, next)

module _ {S C : Type 0} (s : Service S C) (x y : Kept C) (d : Deed C) (did : Did s x d y) where
  taken_true : (l : Letter) → d ≡ TakesIn (row_of_letter l)
      → IsTrueIn s.reactions y.journal (envelope.Settle l.pair l.number)
  taken_true l is =
      let h = subst (λ e. Did s x e y) is did in
      let now = handled-now x.journal l.pair.from l.pair.to l.number l.message h.0.follows.next in
      let here = subst (λ rows. handled_of rows l.pair ≡ l.number) (sym h.0.appended) now in
      omega (arith, here)

  -- a letter that was handled may be settled
  pub handled_true : (l : Letter) (position : ℕ) → IngestMay s l (Ok (ingested.Handled position)) x d
      → IsTrueIn s.reactions y.journal (envelope.Settle l.pair l.number)
  handled_true l position may = taken_true l may.0

  -- so may what was handled before
  pub repeated_true : (p : Pair) (count : ℕ) → count ≤ handled_of x.journal p
      → IsTrueIn s.reactions y.journal (envelope.Settle p count)
  repeated_true p count behind = let more = did_handled s x y d did p in omega (arith, more, behind)

  -- and a letter that was held and is handled
  pub drained_true : (p : Pair) (n : ℕ) → DrainMay s p (Ok (Some n)) x d
      → IsTrueIn s.reactions y.journal (envelope.Settle p n)
  drained_true p n may = subst (λ k. IsTrueIn s.reactions y.journal (envelope.Settle p k)) (sym may.0)
      (taken_true (next_letter x p may.1.0) may.1.2)

-- ---- letters

-- a listing gives what stands there
pub listed_stands : (messages : Messages) (after : Option LetterPlace) (limit : ℕ) (ls : List Letter)
    → AreFirst messages after limit ls
    → (i : ℕ) (l : Letter) → slice_get ls i ≡ Some l → messages l.pair l.number ≡ Some l.message
listed_stands messages after limit [] h i l at = absurd (cc)
listed_stands messages after zero (k ∷ ls) h i l at = absurd h
listed_stands messages after (suc n) (k ∷ ls) h zero l at =
    let same : k ≡ l = cc in subst (λ (v : Letter). messages v.pair v.number ≡ Some v.message) same h.0.stands
listed_stands messages after (suc n) (k ∷ ls) h (suc i) l at =
    listed_stands messages (Some (place_of k)) n ls h.1 i l at

above-some : (mark : ℕ) (ms : List Message) (n : ℕ) (m : Message) (b : Bool) → nat_lt mark n ≡ b
    → above mark ms n ≡ Some m → nth ms n ≡ Some m
above-some mark ms n m true e h = rw e at h
above-some mark ms n m false e h = let z : None ≡ Some m = rw e at h in cc

-- what isn't settled is what the journal sends
pub unsettled_true : {S C : Type 0} (reactions : Reactions S C) (journal : List (JournalRow C)) (settled : Pair → ℕ)
    (l : Letter)
    → unsettled_of reactions journal settled l.pair l.number ≡ Some l.message
    → IsTrueIn reactions journal (envelope.Letter l)
unsettled_true reactions journal settled l h =
    above-some (settled l.pair) (sent_of reactions journal l.pair) l.number l.message _ refl h

-- so a row of the outbox is, where the tables match their journal
pub outbox_true : {S C : Type 0} (s : Service S C) (t : Tables S C) → TablesMatchJournal s t → (l : Letter)
    → t.unsettled l.pair l.number ≡ Some l.message → IsTrueIn s.reactions t.journal (envelope.Letter l)
outbox_true s t match l h = unsettled_true s.reactions t.journal t.settled l (sym (match.unsettled l.pair l.number) ∙ h)

-- ---- whose letters they are

-- who has a part in a journal is of its kind
part-kind : {C : Type 0} (kind : Kind) (e : Entity) (rows : List (JournalRow C)) → AreOf kind rows → (part e rows ≡ [])
    ⊎ (e.kind ≡ kind)
part-kind kind e [] all = inl refl
part-kind kind e (row ∷ rows) all = either (same_entity-tells e row.entity)
    (λ h. inr (ap (λ (x : Entity). x.kind) h.1 ∙ all.0))
    (λ h. rw h.0 (part-kind kind e rows all.1))

nth-none : (n : ℕ) (m : Message) → nth [] n ≡ Some m → ⊥
nth-none zero m h = cc
nth-none (suc n) m h = cc

-- a sender of letters is of the journal's kind
pub sender-kind : {S C : Type 0} (reactions : Reactions S C) (kind : Kind) (rows : List (JournalRow C)) (p : Pair)
    (n : ℕ) (m : Message)
    → AreOf kind rows → nth (sent_of reactions rows p) n ≡ Some m → p.from.kind ≡ kind
sender-kind reactions kind rows p n m all h = either (part-kind kind p.from rows all)
    (λ none. absurd (nth-none n m (subst (λ inputs. nth (sent reactions inputs p.to) n ≡ Some m) none h)))
    (λ same. same)

-- a receiver of letters is of the journal's kind, or none was handled
pub receiver-kind : {C : Type 0} (kind : Kind) (rows : List (JournalRow C)) (p : Pair) → AreOf kind rows
    → (handled_of rows p ≡ 0) ⊎ (p.to.kind ≡ kind)
receiver-kind kind rows p all = either (part-kind kind p.to rows all)
    (λ none. inl (ap (λ inputs. length (letters_from p.from inputs)) none))
    inr
