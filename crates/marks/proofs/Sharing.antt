-- Seats that are made and taken in keep the rule.
use Rattle.std.proofs.Common.{◌≡◌, ◌≢◌, ℕ, zero, suc, ◌<◌, List, [], ◌∷◌, ◌++◌, length, set, replicate}
use Rattle.std.proofs.Common.{refl, sym, ap, ◌∙◌, subst, inl, inr, ⊎_elim, arith}
use Rattle.std.specs.Prelude.{slice_index}
use Rattle.std.specs.List.{Contains}
use Rattle.std.proofs.lemmas.List.Elements.{All-nil, All-append, Contains-append_left, Contains-append_right}
use mathlib.Core.Option.{some, some-ne-none, some-injective}
use mathlib.Core.Logic.{dite}
use native.Mathlib.Decide.{ℕ_discrete}
use lib.ListN.{get_elem?}
use Rattle.atomic_table.specs.Table.{State, Splits, Joins, opening}
use Rattle.atomic_table.proofs.Lists.{at_set, set_here, set_else, at_longer}
use Rattle.marks.specs.declared.rule.View.{View}
use Rattle.marks.specs.Rule.{unused, with_part_less, joint, IsTold, WasRaisedBySome, IsKept}
use Rattle.marks.proofs.Greatest.{greatest-append}
use Rattle.marks.proofs.Raisers.{Keep, ReadRaised, total_set, total-append, there}
use Rattle.marks.proofs.Raisers.{one_view, knows_more, each_set, each_more, still_raised}

-- a seat that has raised and read nothing knows nothing that could be wrong
unused_told : (words : List ℕ) (parts : ℕ) → IsTold words (unused parts)
unused_told words parts =
    record { raised = λ q. omega arith; read = λ q. omega arith; idle = λ none. ap unused none }

-- what seats raised, they raised still when there is one seat more
one_more : (views : List View) (v : View) → Keep views (views ++ v ∷ [])
one_more views v e =
    ⊎_elim (λ none. inl none) (λ r. inr (r.0, r.1, at_longer views (v ∷ []) r.0 r.1 r.2, r.3))

-- a seat with several parts gives one to a new seat
pub deals_keep : (seats places id : ℕ) (v : View) → 1 < v.parts
    → Splits (IsKept seats places) id v (with_part_less v) (unused 1)
deals_keep seats places id v two s kept at =
    let w : View = with_part_less v in
    let views : List View = set s.views id w in
    let new : List View = views ++ unused 1 ∷ [] in
    let told = kept.told id v at in
    let less : Keep s.views views = knows_more s.views id v w at (λ _ has. has) in
    let keep : Keep s.views new = λ e was. one_more views (unused 1) e (less e was) in
    let known : IsTold s.words w =
    record { raised = told.raised; read = told.read; idle = λ none. absurd (omega arith) } in
    let read = still_raised s.views new keep kept.read in record {
      parts =
          let all = kept.parts in
          let t = total_set (λ u. u.parts) s.views id v w at in
          let a = total-append (λ u. u.parts) views (unused 1 ∷ []) in
          omega arith;
      count = kept.count;
      told = each_more (IsTold s.words) views (unused 1) (unused_told s.words 1)
          (each_set (IsTold s.words) s.views id w known kept.told);
      marks = λ q. keep _ (kept.marks q);
      read = each_more (ReadRaised new) views (unused 1) (All-nil _)
          (each_set (ReadRaised new) s.views id w (read id v at) read);
    }

-- a seat takes in another
module _ (seats places id : ℕ) (v : View) (other : ℕ) (w : View) (s : State Unit View) (kept : IsKept seats places s)
    (at : get_elem? s.views id ≡ some v) (apart : ¬ (other ≡ id)) (was : get_elem? s.views other ≡ some w) where
  abbrev joined : List View
  joined = set (set s.views id (joint v w)) other (unused 0)

  here : get_elem? joined id ≡ some (joint v w)
  here = set_else (set s.views id (joint v w)) other id (unused 0) (λ e. apart (sym e))
      ∙ set_here s.views id (joint v w) (there s.views id v at)

  -- what either raised, both raised
  joined_keep : Keep s.views joined
  joined_keep e = ⊎_elim (λ none. inl none)
      (λ r. inr (dite (ℕ_discrete r.0 other) (theirs r) (λ ne. dite (ℕ_discrete r.0 id) (mine r) (of_others r ne))))
    where
      Raised : List View → Type 0
      Raised views = (j : ℕ) × (u : View) × (get_elem? views j ≡ some u) × Contains u.raised e

      theirs : (r : Raised s.views) → r.0 ≡ other → Raised joined
      theirs r is =
          let has = subst (λ (u : View). Contains u.raised e) (one_view s.views r.0 other r.1 w is r.2 was) r.3 in
          (id, joint v w, here, Contains-append_left w.raised v.raised e has)

      mine : (r : Raised s.views) → r.0 ≡ id → Raised joined
      mine r is =
          let has = subst (λ (u : View). Contains u.raised e) (one_view s.views r.0 id r.1 v is r.2 at) r.3 in
          (id, joint v w, here, Contains-append_right w.raised v.raised e has)

      of_others : (r : Raised s.views) → r.0 ≢ other → r.0 ≢ id → Raised joined
      of_others r not_other not_id =
          let first = set_else s.views id r.0 (joint v w) not_id in
          let second = set_else (set s.views id (joint v w)) other r.0 (unused 0) not_other in
          (r.0, r.1, second ∙ (first ∙ r.2), r.3)

  joint_told : 0 < v.parts → IsTold s.words (joint v w)
  joint_told part =
      let mine = kept.told id v at in
      let theirs = kept.told other w was in record {
        raised = λ q.
            let a = mine.raised q in
            let b = theirs.raised q in
            omega (arith, greatest-append q w.raised v.raised);
        read = λ q.
            let a = mine.read q in
            let b = theirs.read q in
            omega (arith, greatest-append q w.read v.read);
        idle = λ none. absurd (omega arith);
      }

  joined_kept : 0 < v.parts → get_elem? (set s.views id (joint v w)) other ≡ some w
      → IsKept seats places (record { words = s.words; homes = s.homes; views = joined })
  joined_kept part stands =
      let views : List View = set s.views id (joint v w) in
      let read = still_raised s.views joined joined_keep kept.read in
      let both = All-append (WasRaisedBySome joined) w.read v.read (read other w was) (read id v at) in record {
        parts =
            let all = kept.parts in
            let t = total_set (λ u. u.parts) s.views id v (joint v w) at in
            let t' = total_set (λ u. u.parts) views other w (unused 0) stands in
            omega arith;
        count = kept.count;
        told = each_set (IsTold s.words) views other (unused 0) (unused_told s.words 0)
            (each_set (IsTold s.words) s.views id (joint v w) (joint_told part) kept.told);
        marks = λ q. joined_keep _ (kept.marks q);
        read = each_set (ReadRaised joined) views other (unused 0) (All-nil _)
            (each_set (ReadRaised joined) s.views id (joint v w) both read);
      }

-- to join two seats keeps the rule: the one has the parts and the memory of both
pub gathers_keep : (seats places id : ℕ) (v : View) (other : ℕ) (w : View) → 0 < v.parts
    → Joins (IsKept seats places) id v other w (joint v w) (unused 0)
gathers_keep seats places id v other w part s kept at apart stands =
    joined_kept seats places id v other w s kept at apart was part stands
  where
    was : get_elem? s.views other ≡ some w
    was = ⊎_elim
        (λ (x : (other ≡ id) × (joint v w ≡ w)). absurd (apart x.0))
        (λ (x : (other ≢ id) × (get_elem? s.views other ≡ some w)). x.1)
        (at_set s.views id other (joint v w) w stands)

-- marks of 0
pub opens : (seats places : ℕ) (words : List ℕ) → words ≡ replicate places 0
    → IsKept seats places (opening words [] (unused seats))
opens seats places words is = record {
  parts = omega arith;
  count = ap length is ∙ long places;
  told = first (IsTold words) (unused_told words seats);
  marks = λ q. inl (ap (λ ws. slice_index ws q) is ∙ zero_at places q);
  read = first (ReadRaised (unused seats ∷ [])) (All-nil _);
}
  where
    long : (n : ℕ) → length {A = ℕ} (replicate n 0) ≡ n
    long zero = refl
    long (suc n) = ap suc (long n)

    zero_at : (n q : ℕ) → slice_index (replicate n 0) q ≡ 0
    zero_at zero q = refl
    zero_at (suc n) zero = refl
    zero_at (suc n) (suc q) = zero_at n q

    first : (P : View → Type 0) → P (unused seats) → (i : ℕ) (v : View) → get_elem? (unused seats ∷ []) i ≡ some v → P v
    first P holds zero v at = subst P (some-injective (unused seats) v at) holds
    first P holds (suc i) v at = absurd (some-ne-none v (sym at))
