-- Each step on a mark keeps the rule.
use Rattle.std.proofs.Common.{◌≡◌, ◌≢◌, ℕ, zero, suc, ◌+◌, ◌<◌, ◌≤◌}
use Rattle.std.proofs.Common.{List, [], ◌∷◌, length, set, max, refl, sym, ap, ◌∙◌, subst, inl, inr, ⊎_elim, arith}
use Rattle.std.specs.Prelude.{slice_index}
use Rattle.std.specs.List.{All, Contains}
use mathlib.Core.Option.{some, none, some-ne-none, some-injective}
use mathlib.Core.Logic.{dite}
use native.Mathlib.Decide.{dec_le, ℕ_discrete}
use lib.ListN.{get_elem?}
use Rattle.std.proofs.lemmas.List.{get_or-set_same, get_or-set_other}
use Rattle.std.proofs.lemmas.List.Elements.{All-push, All-weaker, Contains-append_left, Contains-push}
use Rattle.std.proofs.Math.ListN.{length-set}
use Rattle.atomic_table.specs.Table.{State, Me, step, Allows, keeps}
use Rattle.atomic_table.proofs.Lists.{set_here}
use Rattle.marks.specs.declared.rule.Entry.{Entry}
use Rattle.marks.specs.declared.rule.View.{View}
use Rattle.marks.specs.Entries.{entry, greatest, WasRaised}
use Rattle.marks.specs.Rule.{with_raised, with_read, IsTold, WasRaisedBySome, IsKept}
use Rattle.marks.specs.Rule.{Raises, Reads, IsSettled, Settles}
use Rattle.marks.proofs.Greatest.{greatest_more, contains_greatest}
use Rattle.marks.proofs.Raisers.{Keep, ReadRaised, total_set, two_of, there}
use Rattle.marks.proofs.Raisers.{one_view, knows_more, each_set, still_raised}

set_same : (xs : List ℕ) (i : ℕ) → set xs i (slice_index xs i) ≡ xs
set_same [] i = refl
set_same (x ∷ xs) zero = refl
set_same (x ∷ xs) (suc i) = ap (λ l. x ∷ l) (set_same xs i)

-- the rule holds of these words and views
abbrev Keeps : (seats places : ℕ) → State Unit View → List ℕ → List View → Type 0
Keeps seats places s words views = IsKept seats places (record { words = words; homes = s.homes; views = views })

-- a word that rises, and no other changes
module _ (words : List ℕ) (place n : ℕ) (more : slice_index words place ≤ n) where
  rises : (q : ℕ) → slice_index words q ≤ slice_index (set words place n) q
  rises q = dite (ℕ_discrete q place)
      (λ e. subst (λ k. slice_index words k ≤ slice_index (set words place n) k) (sym e) (here words place more))
      (λ ne. let s = get_or-set_other words place q n 0 ne in omega arith)
    where
      here : (xs : List ℕ) (i : ℕ) → slice_index xs i ≤ n → slice_index xs i ≤ slice_index (set xs i n) i
      here [] i few = omega arith
      here (x ∷ xs) zero few = few
      here (x ∷ xs) (suc i) few = here xs i few

  told_still : (v : View) → IsTold words v → IsTold (set words place n) v
  told_still v told = record {
    raised = λ q. let r = rises q in let was = told.raised q in omega arith;
    read = λ q. let r = rises q in let was = told.read q in omega arith;
    idle = told.idle;
  }

-- a seat with a part reads a mark
module _ (seats places id place : ℕ) (v : View) (s : State Unit View) (kept : IsKept seats places s)
    (at : get_elem? s.views id ≡ some v) (part : 0 < v.parts) where
  abbrev read_view : View
  read_view = with_read v (entry place (slice_index s.words place))

  abbrev read_views : List View
  read_views = set s.views id read_view

  read_keep : Keep s.views read_views
  read_keep = knows_more s.views id v read_view at (λ e has. has)

  read_told : IsTold s.words read_view
  read_told =
      let told = kept.told id v at in
      let near : (q : ℕ) → place ≡ q → slice_index s.words place ≤ slice_index s.words q =
      λ q is. subst (λ k. slice_index s.words place ≤ slice_index s.words k) is (omega arith) in record {
        raised = told.raised;
        read = λ q. greatest_more q _ v.read (entry place (slice_index s.words place)) (told.read q) (near q);
        idle = λ none. absurd (omega arith);
      }

  read_kept : Keeps seats places s s.words read_views
  read_kept =
      let read = still_raised s.views read_views read_keep kept.read in
      let now = read_keep _ (kept.marks place) in
      let mine = All-push (WasRaisedBySome read_views) v.read _ (read id v at) now in record {
        parts =
            let all = kept.parts in
            let t = total_set (λ u. u.parts) s.views id v read_view at in
            omega arith;
        count = kept.count;
        told = each_set (IsTold s.words) s.views id read_view read_told kept.told;
        marks = λ q. read_keep _ (kept.marks q);
        read = each_set (ReadRaised read_views) s.views id read_view mine read;
      }

-- a read keeps the rule
pub reads_keep : (seats places slots id place : ℕ) (me : Me Unit View) → 0 < me.0.parts
    → Allows (IsKept seats places) slots id me place (λ n. n) (Reads (step slots place 0 0 none) me)
reads_keep seats places slots id place me part s kept len at fits =
    let views = read_views seats places id place me.0 s kept at part in
    let told = kept.told id me.0 at in (
      read_view seats places id place me.0 s kept at part,
      keeps,
      tt,
      subst (λ words. Keeps seats places s words views) (sym (set_same s.words place))
          (read_kept seats places id place me.0 s kept at part),
      (told.raised place, told.read place, refl),
    )

-- a seat with a part raises a mark
module _ (seats places id place k : ℕ) (v : View) (s : State Unit View) (kept : IsKept seats places s)
    (at : get_elem? s.views id ≡ some v) (part : 0 < v.parts) (within : place < places) where
  abbrev higher : ℕ
  higher = max (slice_index s.words place) k

  abbrev raised_words : List ℕ
  raised_words = set s.words place higher

  abbrev raised_view : View
  raised_view = with_raised v (entry place k)

  abbrev raised_views : List View
  raised_views = set s.views id raised_view

  raised_keep : Keep s.views raised_views
  raised_keep = knows_more s.views id v raised_view at (Contains-append_left v.raised (entry place k ∷ []))

  raised_here : slice_index raised_words place ≡ higher
  raised_here = get_or-set_same s.words place higher 0 (let count = kept.count in omega arith)

  -- the mark is what it was, or what was raised
  raised_mark : WasRaisedBySome raised_views (entry place higher)
  raised_mark = dite (dec_le k (slice_index s.words place)) stays goes
    where
      by_number : {m n : ℕ} → m ≡ n → WasRaisedBySome raised_views (entry place m)
          → WasRaisedBySome raised_views (entry place n)
      by_number same was = subst (λ y. WasRaisedBySome raised_views (entry place y)) same was

      stays : k ≤ slice_index s.words place → WasRaisedBySome raised_views (entry place higher)
      stays low = by_number (omega arith) (raised_keep _ (kept.marks place))

      goes : ¬ (k ≤ slice_index s.words place) → WasRaisedBySome raised_views (entry place higher)
      goes high =
          let stands = set_here s.views id raised_view (there s.views id v at) in
          by_number (omega arith) (inr (id, raised_view, stands, Contains-push v.raised (entry place k)))

  raised_marks : (q : ℕ) → WasRaisedBySome raised_views (entry q (slice_index raised_words q))
  raised_marks q = dite (ℕ_discrete q place) here other
    where
      here : q ≡ place → WasRaisedBySome raised_views (entry q (slice_index raised_words q))
      here is = subst (λ y. WasRaisedBySome raised_views (entry y (slice_index raised_words y))) (sym is)
          (subst (λ y. WasRaisedBySome raised_views (entry place y)) (sym raised_here) raised_mark)

      other : q ≢ place → WasRaisedBySome raised_views (entry q (slice_index raised_words q))
      other apart = subst (λ y. WasRaisedBySome raised_views (entry q y))
          (sym (get_or-set_other s.words place q higher 0 apart)) (raised_keep _ (kept.marks q))

  raised_told : IsTold raised_words raised_view
  raised_told =
      let told = told_still s.words place higher (omega arith) v (kept.told id v at) in
      let near : (q : ℕ) → place ≡ q → k ≤ slice_index raised_words q =
      λ q is. subst (λ y. k ≤ slice_index raised_words y) is (let here = raised_here in omega arith) in record {
        raised = λ q. greatest_more q _ v.raised (entry place k) (told.raised q) (near q);
        read = told.read;
        idle = λ none. absurd (omega arith);
      }

  raised_kept : Keeps seats places s raised_words raised_views
  raised_kept =
      let read = still_raised s.views raised_views raised_keep kept.read in
      let others : (j : ℕ) (u : View) → get_elem? s.views j ≡ some u → IsTold raised_words u =
      λ j u there. told_still s.words place higher (omega arith) u (kept.told j u there) in record {
        parts =
            let all = kept.parts in
            let t = total_set (λ u. u.parts) s.views id v raised_view at in
            omega arith;
        count = length-set s.words place higher ∙ kept.count;
        told = each_set (IsTold raised_words) s.views id raised_view raised_told others;
        marks = raised_marks;
        read = each_set (ReadRaised raised_views) s.views id raised_view (read id v at) read;
      }

-- a raise keeps the rule: a mark becomes the greater of itself and the number
pub raises_keep : (seats places slots id place k : ℕ) (me : Me Unit View) → 0 < me.0.parts → place < places
    → Allows (IsKept seats places) slots id me place (λ n. max n k) (Raises (step slots place k 0 none) me)
raises_keep seats places slots id place k me part within s kept len at fits = (
  raised_view seats places id place k me.0 s kept at part within,
  keeps,
  tt,
  raised_kept seats places id place k me.0 s kept at part within,
  refl,
)

-- a seat that has every part
module _ (seats places id : ℕ) (v : View) (s : State Unit View) (kept : IsKept seats places s)
    (at : get_elem? s.views id ≡ some v) (all : v.parts ≡ seats) where
  -- it raised all that anybody raised
  raised_all : (e : Entry) → WasRaisedBySome s.views e → WasRaised v.raised e
  raised_all e = ⊎_elim (λ none. inl none) (λ r. inr (dite (ℕ_discrete r.0 id) (mine r) (other r)))
    where
      Raised : Type 0
      Raised = (j : ℕ) × (u : View) × (get_elem? s.views j ≡ some u) × Contains u.raised e

      mine : (r : Raised) → r.0 ≡ id → Contains v.raised e
      mine r is = subst (λ (u : View). Contains u.raised e) (one_view s.views r.0 id r.1 v is r.2 at) r.3

      other : (r : Raised) → r.0 ≢ id → Contains v.raised e
      other r apart =
          let two = two_of (λ u. u.parts) s.views r.0 id r.1 v apart r.2 at in
          let idle : r.1.parts ≡ 0 = let parts = kept.parts in omega arith in
          let none = subst (λ (u : View). Contains u.raised e) ((kept.told r.0 r.1 r.2).idle idle) r.3 in
          let few = none.1 in absurd (omega arith)

  settled : (place : ℕ) → IsSettled place (slice_index s.words place) v
  settled place = (omega (arith, least, most), told.read place, was_raised)
    where
      was_raised : All (WasRaised v.raised) v.read
      was_raised = All-weaker (WasRaisedBySome s.views) (WasRaised v.raised) raised_all v.read (kept.read id v at)

      told : IsTold s.words v
      told = kept.told id v at

      least : greatest place v.raised ≤ slice_index s.words place
      least = told.raised place

      most : slice_index s.words place ≤ greatest place v.raised
      most = ⊎_elim {A = slice_index s.words place ≡ 0} (λ none. omega arith)
          (contains_greatest v.raised (entry place (slice_index s.words place))) (raised_all _ (kept.marks place))

set_at : (xs : List View) (i : ℕ) (v : View) → get_elem? xs i ≡ some v → set xs i v ≡ xs
set_at [] i v e = absurd (some-ne-none v (sym e))
set_at (x ∷ xs) zero v e = ap (λ y. y ∷ xs) (sym (some-injective x v e))
set_at (x ∷ xs) (suc i) v e = ap (λ l. x ∷ l) (set_at xs i v e)

-- a seat that has every part reads a mark
pub settles_keep : (seats places slots id place : ℕ) (me : Me Unit View) → me.0.parts ≡ seats
    → Allows (IsKept seats places) slots id me place (λ n. n) (Settles (step slots place 0 0 none) me)
settles_keep seats places slots id place me all s kept len at fits =
    let same = set_same s.words place in
    let same_view = set_at s.views id me.0 at in
    let after : List ℕ × List View → Type 0 = λ y. Keeps seats places s y.0 y.1 in (
      me.0,
      keeps,
      tt,
      subst after (λ i. (sym same i, sym same_view i)) kept,
      (settled seats places id me.0 s kept at all place, refl),
    )

-- marks that are settled, and one more
pub settled_more : (marks : List ℕ) (place mark : ℕ) (v : View) → place < length marks → IsSettled place mark v
    → ((k : ℕ) → k < place → IsSettled k (slice_index marks k) v)
    → (k : ℕ) → k < place + 1 → IsSettled k (slice_index (set marks place mark) k) v
settled_more marks place mark v within now before k near = dite (ℕ_discrete k place) here other
  where
    here : k ≡ place → IsSettled k (slice_index (set marks place mark) k) v
    here is = subst (λ (q : ℕ). IsSettled q (slice_index (set marks place mark) q) v) (sym is)
        (subst (λ (m : ℕ). IsSettled place m v) (sym (get_or-set_same marks place mark 0 within)) now)

    other : k ≢ place → IsSettled k (slice_index (set marks place mark) k) v
    other apart = subst (λ (m : ℕ). IsSettled k m v) (sym (get_or-set_other marks place k mark 0 apart))
        (before k (omega arith))
