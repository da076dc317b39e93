-- The changes of steps: each state that is set follows the one before it.
use Rattle.std.proofs.Common.{◌≡◌, ℕ, List, [], ◌∷◌, ◌++◌, Option, Some, None, Ok, sym, ap, ◌∙◌, subst}
use Rattle.base.specs.Entity.{Entity}
use Rattle.base.specs.declared.pair.Pair.{Pair}
use Rattle.envelope.specs.declared.message.Letter.{Letter}
use Rattle.activities.specs.Reaction.{react}
use Rattle.activities.specs.Rows.{row_for, state_for, sender_of}
use Rattle.activities.specs.Service.{Service}
use Rattle.activities.specs.declared.input.Input.{Input}
use Rattle.activities.specs.declared.outs.Out.{Out}
use Rattle.keep.specs.Steps.{AreSteps, IsStep}
use Rattle.keep.specs.Tables.{Tables, changed, changed_by}
use Rattle.keep.specs.declared.change.Change.{Change}
use Rattle.keep.specs.declared.change.Change.TheVariants.{Journal, State, Sent, Settled, Handled, Held, NotHeld}
use Rattle.outbox.specs.Numbering.{numbering}
use Rattle.endpoint.specs.Arrivals.{row_of_letter}
use Rattle.endpoint.proofs.Arriving.{letter_changes}
use Rattle.endpoint.proofs.Steps.{numbering-sets-none, reaction-follows, steps-taken}
use Rattle.group_commit.specs.Parts.Planning.{BeginsWithNoRow}

module _ {S C : Type 0} (Follows : Option Entity → S → S → Type 0) where
  -- a step stays one where no row of the journal comes behind
  still : (c : Change S C) (cs ys : List (Change S C)) (t : Tables S C) → IsStep Follows c cs t → BeginsWithNoRow ys
      → IsStep Follows c (cs ++ ys) t
  still (State e (Some new)) [] [] t is other = tt
  still (State e (Some new)) [] (Journal position row ∷ ys) t is other = absurd other
  still (State e (Some new)) [] (State x row ∷ ys) t is other = tt
  still (State e (Some new)) [] (Sent l ∷ ys) t is other = tt
  still (State e (Some new)) [] (Settled p n ∷ ys) t is other = tt
  still (State e (Some new)) [] (Handled p n ∷ ys) t is other = tt
  still (State e (Some new)) [] (Held l ∷ ys) t is other = tt
  still (State e (Some new)) [] (NotHeld p n ∷ ys) t is other = tt
  still (State e (Some new)) (Journal position row ∷ cs) ys t is other = is
  still (State e (Some new)) (State x row ∷ cs) ys t is other = tt
  still (State e (Some new)) (Sent l ∷ cs) ys t is other = tt
  still (State e (Some new)) (Settled p n ∷ cs) ys t is other = tt
  still (State e (Some new)) (Handled p n ∷ cs) ys t is other = tt
  still (State e (Some new)) (Held l ∷ cs) ys t is other = tt
  still (State e (Some new)) (NotHeld p n ∷ cs) ys t is other = tt
  still (State e None) cs ys t is other = tt
  still (Journal position row) cs ys t is other = tt
  still (Sent l) cs ys t is other = tt
  still (Settled p n) cs ys t is other = tt
  still (Handled p n) cs ys t is other = tt
  still (Held l) cs ys t is other = tt
  still (NotHeld p n) cs ys t is other = tt

  pub steps-append : (xs ys : List (Change S C)) (t : Tables S C) → AreSteps Follows xs t
      → AreSteps Follows ys (changed xs t) → BeginsWithNoRow ys
      → AreSteps Follows (xs ++ ys) t
  steps-append [] ys t first behind other = behind
  steps-append (x ∷ xs) ys t first behind other =
      (still x xs ys t first.0 other, steps-append xs ys (changed_by x t) first.1 behind other)

  abbrev Step : List (Change S C) → Tables S C → Type 0
  Step changes u = BeginsWithNoRow changes × AreSteps Follows changes u

  pub mark_follows : (changes : List (Change S C)) (p : Pair) (n : ℕ) (u : Tables S C) → changes ≡ Settled p n ∷ []
      → Step changes u
  mark_follows changes p n u is = subst (λ cs. Step cs u) (sym is) (tt, (tt, tt))

  -- `t` are the tables in which a letter's receiver is found, and `u` those on top of which it takes the letter in
  pub letter_follows : (service : Service S C)
      (law : (s : S) (input : Input C) (done : S × List Out) → react service.reactions s input ≡ Ok done
      → Follows (sender_of input) s done.0)
      (t u : Tables S C) (l : Letter) (s0 : S) (done : S × List Out) (position : ℕ) (outs : List Out)
      (numbered changes : List (Change S C)) → u.entity l.pair.to ≡ t.entity l.pair.to
      → react service.reactions s0 (row_of_letter {C = C} l).input ≡ Ok done
      → numbered ≡ letter_changes l ++ numbering t.sent l.pair.to outs
      → changes ≡ numbered ++ State l.pair.to (row_for service.is_none done.0) ∷ Journal position (row_of_letter l) ∷ []
      → s0 ≡ state_for service.reactions.opening (t.entity l.pair.to)
      → Step changes u
  letter_follows service law t u l s0 done position outs numbered changes same reacted numbered_is changes_are found =
      let input : Input C = (row_of_letter {C = C} l).input in
      let rest : List (Change S C) =
      State l.pair.to (row_for service.is_none done.0) ∷ Journal position (row_of_letter l) ∷ [] in
      let whole : changes ≡ (letter_changes l ++ numbering t.sent l.pair.to outs) ++ rest =
      changes_are ∙ ap (λ (cs : List (Change S C)). cs ++ rest) numbered_is in (
        subst BeginsWithNoRow (sym whole) tt,
        subst (λ (cs : List (Change S C)). AreSteps Follows cs u) (sym changes_are)
            (steps-taken Follows numbered u l.pair.to position input service.is_none done.0
            (numbering-sets-none (letter_changes l) numbered t.sent l.pair.to outs numbered_is tt)
            (λ was is. reaction-follows Follows service law (t.entity l.pair.to) input s0 done reacted found was
            (sym same ∙ is))),
      )
