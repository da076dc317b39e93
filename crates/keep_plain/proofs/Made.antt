-- What the tables become as slots are set.
use Rattle.std.proofs.Common.{◌≡◌, inl, inr, ℕ, ◌++◌, Bool, true, false, List, [], ◌∷◌, Option, Some, None, refl, sym}
use Rattle.std.proofs.Common.{ap, ◌∙◌}
use Rattle.std.proofs.Common.{if◌then◌else◌}
use Rattle.std.specs.Option.{unwrap_or}
use Rattle.std.specs.List.{AllByRecursion}
use Rattle.std.specs.BTreeMap.{BTreeMap}
use Rattle.std.specs.Global.{Vec}
use Rattle.std.proofs.Math.Path.{fun_ext}
use Rattle.std.proofs.lemmas.Bool.{cases_Bool}
use Rattle.base.specs.Entity.{Entity}
use Rattle.base.specs.declared.pair.Pair.{Pair}
use Rattle.base.specs.Order.{entity_cmp, pair_cmp, same_entity-ties, same_pair, same_pair-ties}
use Rattle.base.proofs.Entities.{same_pair-Decides}
use Rattle.activities.specs.declared.input.JournalRow.{JournalRow}
use Rattle.envelope.specs.declared.message.Message.{Message}
use Rattle.envelope.specs.declared.message.Letter.{Letter}
use Rattle.keep.specs.declared.change.Change.{Change}
use Rattle.keep.specs.declared.change.Change.TheVariants.{Journal, State, Sent, Settled, Handled, Held, NotHeld}
use Rattle.keep.specs.declared.change.LetterPlace.{LetterPlace}
use Rattle.keep.specs.Listing.{place_of}
use Rattle.keep.specs.Places.{place_cmp}
use Rattle.keep.specs.Tables.{Tables, set_entity, set_mark, set_message, without_upto, changed_by}
use Rattle.keep_plain.specs.Slots.{at, SetsAt}
use Rattle.keep_plain.specs.Index.{messages_in, handled_at}
use Rattle.keep_plain.specs.Maps.{tables_in, marks_at, with_mark}
use Rattle.keep_plain.specs.Ready.{IsReady, KeepsAll, SameTables}
use Rattle.keep_plain.specs.Upto.{EmptiesFrom}
use Rattle.keep_plain.specs.declared.arrivals.Arrivals.{Arrivals}
use Rattle.keep_plain.specs.declared.maps.Maps.{Maps}
use Rattle.keep_plain.specs.declared.marks.Marks.{Marks}
use Rattle.keep_plain.specs.declared.marks.Mark.TheVariants as mark
use Rattle.keep_plain.proofs.Upto.{set_at, emptied_is}

-- ---- one table

sets_entity : {S : Type 0} (e : Entity) (row : Option S) (old new : BTreeMap Entity (Option S))
    → SetsAt entity_cmp e row old new
    → at entity_cmp new ≡ set_entity e row (at entity_cmp old)
sets_entity e row old new h =
    fun_ext (λ x. h x ∙ ap (λ b. if b then row else at entity_cmp old x) (sym (same_entity-ties e x)))

sets_message : (x : LetterPlace) (m : Option Message) (old new : BTreeMap LetterPlace (Option Message))
    → SetsAt place_cmp x m old new
    → messages_in new ≡ set_message x.pair x.number m (messages_in old)
sets_message x m old new h = fun_ext (λ q. fun_ext (λ k. set_at x m old new h q k))

without : (p : Pair) (n : ℕ) (old new : BTreeMap LetterPlace (Option Message))
    → EmptiesFrom p 0 n (messages_in old) (messages_in new)
    → messages_in new ≡ without_upto p n (messages_in old)
without p n old new h = fun_ext (λ q. fun_ext (λ k. emptied_is p n (messages_in old) (messages_in new) h q k))

abbrev none : Marks
none = record { sent = 0; settled = 0 }

-- the marks of a pair are set, and those of others stay
module _ (p : Pair) (w : Marks) (old new : BTreeMap Pair (Option Marks)) (h : SetsAt pair_cmp p (Some w) old new) where
  marks_set : (q : Pair) → marks_at new q ≡ (if same_pair p q then w else marks_at old q)
  marks_set q = ap (λ o. unwrap_or o (record { sent = 0; settled = 0 }))
      (h q ∙ ap (λ b. if b then Some w else at pair_cmp old q) (sym (same_pair-ties p q))) ∙ chosen (same_pair p q)
    where
      chosen : (b : Bool) → unwrap_or (if b then Some w else at pair_cmp old q) (record { sent = 0; settled = 0 })
          ≡ (if b then w else marks_at old q)
      chosen true = refl
      chosen false = refl

-- one of the marks, by pair
abbrev each : (Marks → ℕ) → BTreeMap Pair (Option Marks) → Pair → ℕ
each f marks q = f (marks_at marks q)

-- one of the marks of a pair is set
mark_is : (f : Marks → ℕ) (p : Pair) (n : ℕ) (w : Marks) (old new : BTreeMap Pair (Option Marks))
    → SetsAt pair_cmp p (Some w) old new
    → f w ≡ n → each f new ≡ set_mark p n (each f old)
mark_is f p n w old new h e =
    fun_ext (λ q. ap f (marks_set p w old new h q) ∙ chosen (same_pair p q) (f (marks_at old q)) q)
  where
    chosen : (b : Bool) (m : ℕ) (q : Pair) → f (if b then w else marks_at old q) ≡ (if b then n else f (marks_at old q))
    chosen true m q = e
    chosen false m q = refl

-- and another stays
mark_stays : (f : Marks → ℕ) (p : Pair) (w : Marks) (old new : BTreeMap Pair (Option Marks))
    → SetsAt pair_cmp p (Some w) old new
    → f w ≡ f (marks_at old p) → each f new ≡ each f old
mark_stays f p w old new h e = fun_ext (λ q. ap f (marks_set p w old new h q) ∙ elim (cases_Bool (same_pair p q)) [
  | inl same ↦ rw same (e ∙ ap (λ x. f (marks_at old x)) ((same_pair-Decides p q).0 same))
  | inr other ↦ rw other refl
])

-- the handled mark of a pair is set
handled_is : (p : Pair) (n : ℕ) (old new : BTreeMap Pair (Option ℕ)) → SetsAt pair_cmp p (Some n) old new
    → handled_at new ≡ set_mark p n (handled_at old)
handled_is p n old new h = fun_ext (λ q.
    ap (λ o. unwrap_or o 0) (h q ∙ ap (λ b. if b then Some n else at pair_cmp old q) (sym (same_pair-ties p q)))
    ∙ chosen (same_pair p q) (at pair_cmp old q))
  where
    chosen : (b : Bool) (o : Option ℕ) → unwrap_or (if b then Some n else o) 0 ≡ (if b then n else unwrap_or o 0)
    chosen true o = refl
    chosen false o = refl

-- ---- the tables

-- tables are the same where their parts are
same_parts : {S C : Type 0} (a b : Tables S C) → a.journal ≡ b.journal → a.entity ≡ b.entity → a.unsettled ≡ b.unsettled
    → a.sent ≡ b.sent
    → a.settled ≡ b.settled → a.handled ≡ b.handled → a.held ≡ b.held → a ≡ b
same_parts {S} {C} a b j e u s t h d =
    ap (λ x. record a { journal = x }) j ∙ ap (λ x. record a { journal = b.journal; entity = x }) e
    ∙ ap (λ x. record a { journal = b.journal; entity = b.entity; unsettled = x }) u
    ∙ ap (λ x. record b { sent = x; settled = a.settled; handled = a.handled; held = a.held }) s
    ∙ ap (λ x. record b { settled = x; handled = a.handled; held = a.held }) t
    ∙ ap (λ x. record b { handled = x; held = a.held }) h ∙ ap (λ x. record b { held = x }) d

-- maps with other slots and the same tables
pub same_tables : {S C : Type 0} (old new : Maps S C) → SameTables old new → tables_in new ≡ tables_in old
same_tables old new h = same_parts (tables_in new) (tables_in old)
    h.journal
    (fun_ext h.rows)
    (fun_ext (λ q. fun_ext (λ k. h.outbox (record { pair = q; number = k }))))
    (fun_ext (λ q. ap (λ m. (unwrap_or m none).sent) (h.marks q)))
    (fun_ext (λ q. ap (λ m. (unwrap_or m none).settled) (h.marks q)))
    (fun_ext (λ q. ap (λ n. unwrap_or n 0) (h.arrivals.handled q)))
    (fun_ext (λ q. fun_ext (λ k. h.arrivals.held (record { pair = q; number = k }))))

module _ {S C : Type 0} (old : Maps S C) where
  pub state_made : (e : Entity) (row : Option S) (rows : BTreeMap Entity (Option S))
      → SetsAt entity_cmp e row old.rows rows
      → tables_in (record old { rows = rows }) ≡ changed_by (State e row) (tables_in old)
  state_made e row rows h = ap (λ x. record (tables_in old) { entity = x }) (sets_entity e row old.rows rows h)

  pub sent_made : (l : Letter) (marks : BTreeMap Pair (Option Marks)) (outbox : BTreeMap LetterPlace (Option Message))
      → SetsAt pair_cmp l.pair (Some (with_mark mark.Sent l.number (marks_at old.marks l.pair))) old.marks marks
      → SetsAt place_cmp (place_of l) (Some l.message) old.outbox outbox
      → tables_in (record old { marks = marks; outbox = outbox }) ≡ changed_by (Sent l) (tables_in old)
  sent_made l marks outbox h k = same_parts _ _ refl refl
      (sets_message (place_of l) (Some l.message) old.outbox outbox k)
      (mark_is (λ m. m.sent) l.pair l.number _ old.marks marks h refl)
      (mark_stays (λ m. m.settled) l.pair _ old.marks marks h refl)
      refl
      refl

  pub settled_made : (p : Pair) (n : ℕ) (marks : BTreeMap Pair (Option Marks))
      (outbox : BTreeMap LetterPlace (Option Message))
      → SetsAt pair_cmp p (Some (with_mark mark.Settled n (marks_at old.marks p))) old.marks marks
      → EmptiesFrom p 0 n (messages_in old.outbox) (messages_in outbox)
      → tables_in (record old { marks = marks; outbox = outbox }) ≡ changed_by (Settled p n) (tables_in old)
  settled_made p n marks outbox h k = same_parts _ _ refl refl
      (without p n old.outbox outbox k)
      (mark_stays (λ m. m.sent) p _ old.marks marks h refl)
      (mark_is (λ m. m.settled) p n _ old.marks marks h refl)
      refl
      refl

  pub handled_made : (p : Pair) (n : ℕ) (arrivals : Arrivals)
      → SetsAt pair_cmp p (Some n) old.arrivals.handled arrivals.handled
      → arrivals.held ≡ old.arrivals.held
      → tables_in (record old { arrivals = arrivals }) ≡ changed_by (Handled p n) (tables_in old)
  handled_made p n arrivals h e = same_parts _ _ refl refl refl refl refl
      (handled_is p n old.arrivals.handled arrivals.handled h)
      (ap messages_in e)

  -- a message is put at a place, or taken away there
  message_made : (x : LetterPlace) (m : Option Message) (arrivals : Arrivals)
      → SetsAt place_cmp x m old.arrivals.held arrivals.held
      → arrivals.handled ≡ old.arrivals.handled
      → tables_in (record old { arrivals = arrivals })
      ≡ record (tables_in old) { held = set_message x.pair x.number m (tables_in old).held }
  message_made x m arrivals h e = same_parts _ _ refl refl refl refl refl
      (ap handled_at e)
      (sets_message x m old.arrivals.held arrivals.held h)

  pub held_made : (l : Letter) (arrivals : Arrivals)
      → SetsAt place_cmp (place_of l) (Some l.message) old.arrivals.held arrivals.held
      → arrivals.handled ≡ old.arrivals.handled
      → tables_in (record old { arrivals = arrivals }) ≡ changed_by (Held l) (tables_in old)
  held_made l = message_made (place_of l) (Some l.message)

  pub released_made : (p : Pair) (n : ℕ) (arrivals : Arrivals)
      → SetsAt place_cmp (record { pair = p; number = n }) None old.arrivals.held arrivals.held
      → arrivals.handled ≡ old.arrivals.handled
      → tables_in (record old { arrivals = arrivals }) ≡ changed_by (NotHeld p n) (tables_in old)
  released_made p n = message_made (record { pair = p; number = n }) None

-- ---- slots that are there stay

pub ready_kept : {S C : Type 0} (old new : Maps S C) → KeepsAll old new → (c : Change S C) → IsReady old c
    → IsReady new c
ready_kept old new k (Journal position row) h = tt
ready_kept old new k (State e row) h = k.rows e h
ready_kept old new k (Sent l) h = (k.marks l.pair h.0, k.outbox (place_of l) h.1)
ready_kept old new k (Settled p n) h = k.marks p h
ready_kept old new k (Handled p n) h = (k.arrivals.handled p h.0, k.arrivals.drainable p h.1)
ready_kept old new k (Held l) h = (k.arrivals.held (place_of l) h.0, k.arrivals.drainable l.pair h.1)
ready_kept old new k (NotHeld p n) h = tt

-- slots that are made for changes stay while others are made
pub all_kept : {S C : Type 0} (old new : Maps S C) → KeepsAll old new → (cs : List (Change S C))
    → AllByRecursion (IsReady old) cs
    → AllByRecursion (IsReady new) cs
all_kept old new k [] h = tt
all_kept old new k (c ∷ cs) h = (ready_kept old new k c h.0, all_kept old new k cs h.1)

-- with the slots for one change more, all have theirs
pub all_more : {S C : Type 0} (m : Maps S C) (cs : List (Change S C)) (c : Change S C) → AllByRecursion (IsReady m) cs
    → IsReady m c
    → AllByRecursion (IsReady m) (cs ++ c ∷ [])
all_more m [] c h r = (r, tt)
all_more m (d ∷ cs) c h r = (h.0, all_more m cs c h.1 r)

-- ---- one step after another

-- tables that are the same twice are the same
pub same_after : {S C : Type 0} (a b c : Maps S C) → SameTables a b → SameTables b c → SameTables a c
same_after a b c h k = record {
  journal = k.journal ∙ h.journal;
  rows = λ q. k.rows q ∙ h.rows q;
  marks = λ q. k.marks q ∙ h.marks q;
  outbox = λ q. k.outbox q ∙ h.outbox q;
  arrivals = record {
    handled = λ q. k.arrivals.handled q ∙ h.arrivals.handled q;
    held = λ q. k.arrivals.held q
        ∙ h.arrivals.held q;
  };
}

-- room in the journal changes no table
pub with_room : {S C : Type 0} (m : Maps S C) (journal : Vec (JournalRow C)) → journal.items ≡ m.journal.items
    → tables_in (record m { journal = journal }) ≡ tables_in m
with_room m journal h = ap (λ x. record (tables_in m) { journal = x }) h
