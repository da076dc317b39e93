-- Where each state that is set follows the one before it.
use Rattle.std.proofs.Common.{◌≡◌, ℕ, Bool, true, false, List, [], ◌∷◌, ◌++◌, map, Option, None, Some, Ok}
use Rattle.std.proofs.Common.{refl, sym, ap, ◌∙◌, subst}
use Rattle.std.specs.Prelude.{if◌then◌else◌}
use Rattle.std.specs.List.{enumerate_from}
use Rattle.base.specs.Entity.{Entity}
use Rattle.base.specs.declared.pair.Pair.{Pair}
use Rattle.envelope.specs.declared.message.Letter.{Letter}
use Rattle.activities.specs.Reaction.{react}
use Rattle.activities.specs.Rows.{row_for, state_for, sender_of}
use Rattle.activities.specs.Service.{Service}
use Rattle.activities.specs.declared.input.Input.{Input}
use Rattle.activities.specs.declared.outs.Out.{Out}
use Rattle.keep.specs.Steps.{AreSteps}
use Rattle.keep.specs.Tables.{Tables, changed, changed_by}
use Rattle.keep.specs.declared.change.Change.{Change}
use Rattle.keep.specs.declared.change.Change.TheVariants.{Journal, State, Sent, Settled, Handled, Held, NotHeld}
use Rattle.outbox.specs.Numbering.{numbering}
use Rattle.endpoint.specs.Parts.Handling.{SetNoRow}

letters-set-none : (S C : Type 0) {A : Type 0} (letter : A → Letter) (xs : List A)
    → SetNoRow {S = S} {C = C} (map (λ x. Sent (letter x)) xs)
letters-set-none S C letter [] = tt
letters-set-none S C letter (x ∷ xs) = letters-set-none S C letter xs

module _ {S C : Type 0} where
  -- what sets no row leaves them all
  rows-kept : (cs : List (Change S C)) (t : Tables S C) → SetNoRow cs → (changed cs t).entity ≡ t.entity
  rows-kept [] t none = refl
  rows-kept (Journal position row ∷ cs) t none = absurd none
  rows-kept (State e row ∷ cs) t none = absurd none
  rows-kept (Sent l ∷ cs) t none = rows-kept cs (changed_by (Sent l) t) none
  rows-kept (Settled p n ∷ cs) t none = rows-kept cs (changed_by (Settled p n) t) none
  rows-kept (Handled p n ∷ cs) t none = rows-kept cs (changed_by (Handled p n) t) none
  rows-kept (Held l ∷ cs) t none = rows-kept cs (changed_by (Held l) t) none
  rows-kept (NotHeld p n ∷ cs) t none = rows-kept cs (changed_by (NotHeld p n) t) none

  none-append : (xs ys : List (Change S C)) → SetNoRow xs → SetNoRow ys → SetNoRow (xs ++ ys)
  none-append [] ys first more = more
  none-append (Journal position row ∷ xs) ys first more = absurd first
  none-append (State e row ∷ xs) ys first more = absurd first
  none-append (Sent l ∷ xs) ys first more = none-append xs ys first more
  none-append (Settled p n ∷ xs) ys first more = none-append xs ys first more
  none-append (Handled p n ∷ xs) ys first more = none-append xs ys first more
  none-append (Held l ∷ xs) ys first more = none-append xs ys first more
  none-append (NotHeld p n ∷ xs) ys first more = none-append xs ys first more

  -- letters behind changes that set no row
  pub numbering-sets-none : (first cs : List (Change S C)) (sent : Pair → ℕ) (e : Entity) (outs : List Out)
      → cs ≡ first ++ numbering sent e outs → SetNoRow first → SetNoRow cs
  numbering-sets-none first cs sent e outs is none = subst SetNoRow (sym is)
      (none-append first (numbering sent e outs) none (letters-set-none S C _ (enumerate_from 0 outs)))

-- `Follows` tells which states may follow one by an input of this sender
module _ {S C : Type 0} (Follows : Option Entity → S → S → Type 0) where
  steps-behind : (xs ys : List (Change S C)) (t : Tables S C) → SetNoRow xs → AreSteps Follows ys (changed xs t)
      → AreSteps Follows (xs ++ ys) t
  steps-behind [] ys t none behind = behind
  steps-behind (Journal position row ∷ xs) ys t none behind = absurd none
  steps-behind (State e row ∷ xs) ys t none behind = absurd none
  steps-behind (Sent l ∷ xs) ys t none behind = (tt, steps-behind xs ys _ none behind)
  steps-behind (Settled p n ∷ xs) ys t none behind = (tt, steps-behind xs ys _ none behind)
  steps-behind (Handled p n ∷ xs) ys t none behind = (tt, steps-behind xs ys _ none behind)
  steps-behind (Held l ∷ xs) ys t none behind = (tt, steps-behind xs ys _ none behind)
  steps-behind (NotHeld p n ∷ xs) ys t none behind = (tt, steps-behind xs ys _ none behind)

  -- a state that stands before its row is a step where it follows the row that the entity has, if it has one
  pub steps-taken : (cs : List (Change S C)) (t : Tables S C) (e : Entity) (position : ℕ) (input : Input C)
      (is_none : S → Bool) (new : S) → SetNoRow cs
      → ((was : S) → t.entity e ≡ Some was → Follows (sender_of input) was new)
      → AreSteps Follows (cs ++ State e (row_for is_none new) ∷ Journal position (record { entity = e; input = input }) ∷ [])
      t
  steps-taken cs t e position input is_none new none follows = steps-behind cs (own (is_none new)) t none (set (is_none new))
    where
      own : Bool → List (Change S C)
      own gone =
          State e (if gone then None else Some new) ∷ Journal position (record { entity = e; input = input }) ∷ []

      set : (gone : Bool) → AreSteps Follows (own gone) (changed cs t)
      set true = (tt, (tt, tt))
      set false = (
        λ was found. follows was (ap (λ (rows : Entity → Option S). rows e) (sym (rows-kept cs t none)) ∙ found),
        (tt, tt),
      )

  -- what an input makes of the state that a row stands for follows it
  pub reaction-follows : (service : Service S C)
      (law : (old : S) (input : Input C) (done : S × List Out) → react service.reactions old input ≡ Ok done
      → Follows (sender_of input) old done.0)
      (row : Option S) (input : Input C) (s0 : S) (done : S × List Out) → react service.reactions s0 input ≡ Ok done
      → s0 ≡ state_for service.reactions.opening row
      → (was : S) → row ≡ Some was → Follows (sender_of input) was done.0
  reaction-follows service law row input s0 done reacted found was is =
      subst (λ s. Follows (sender_of input) s done.0) (found ∙ ap (state_for service.reactions.opening) is)
      (law s0 input done reacted)
