-- The first entity of some rows.
use Rattle.std.proofs.Common.{◌≡◌, ◌≢◌, ℕ, zero, suc, ◌+◌, ◌<◌, Bool, true, false, List, [], ◌∷◌, length, take, Option}
use Rattle.std.proofs.Common.{Some, None, Less}
use Rattle.std.proofs.Common.{Equal}
use Rattle.std.proofs.Common.{sym, ap, subst, ◌∙◌, arith, get_or, add-one}
use Rattle.std.specs.Prelude.{MatchOption, IfSome, if◌then◌else◌}
use Rattle.std.specs.Cmp.{tied_itself}
use Rattle.base.specs.Entity.{Entity}
use Rattle.base.specs.Order.{entity_cmp, entity_cmp-total, same_entity}
use Rattle.activities.specs.declared.input.Input.{Input}
use Rattle.activities.specs.declared.input.JournalRow.{JournalRow}
use Rattle.activities.specs.Journal.{part}
use Rattle.activities.proofs.Sameness.{same_entity-tells, either}
use Rattle.keep.specs.declared.change.LetterPlace.{LetterPlace}
use Rattle.relay.specs.Parts.News.{IsFrom, IsFirstFrom}

-- the first entity of these rows, where it is known as something else
abbrev pub Best : {C A : Type 0} → (now : A → Entity) → List (JournalRow C) → Option LetterPlace → Option A → Type 0
Best now news behind best =
    MatchOption best (IsFirstFrom news behind None) (λ e. IsFirstFrom news behind (Some (now e)))

none_less : (f : Entity) → entity_cmp f f ≡ Less → ⊥
none_less f h = let e = tied_itself entity_cmp-total f in let z : Less ≡ Equal = sym h ∙ e in cc

differs : (e f : Entity) → e ≢ f → same_entity e f ≡ false
differs e f ne = either (same_entity-tells e f) (λ h. absurd (ne h.1)) (λ h. h.0)

one_part : {C : Type 0} (b : Bool) (input : Input C) (xs ys : List (Input C)) → (if b then input ∷ xs else xs) ≡ []
    → (xs ≡ [] → ys ≡ [])
    → (if b then input ∷ ys else ys) ≡ []
one_part true input xs ys e h = absurd (omega (arith, ap length e))
one_part false input xs ys e h = h e

-- a row of another entity is none of this one
one_more_row : {C : Type 0} (news : List (JournalRow C)) (i : ℕ) (row : JournalRow C) (f : Entity) → i < length news
    → row ≡ get_or news i row
    → f ≢ row.entity → part f (take i news) ≡ [] → part f (take (suc i) news) ≡ []
one_more_row [] i row f lt at ne none = absurd (omega (arith, lt))
one_more_row (x ∷ xs) zero row f lt at ne none =
    ap (λ b. if b then x.input ∷ [] else []) (differs f x.entity (λ same. ne (same ∙ ap (λ r. r.entity) (sym at))))
one_more_row (x ∷ xs) (suc i) row f lt at ne none =
    one_part (same_entity f x.entity) x.input (part f (take i xs)) (part f (take (suc i) xs)) none
    (λ none'. one_more_row xs i row f (omega (arith, lt)) at ne none')

module _ {C A : Type 0} (now : A → Entity) (news : List (JournalRow C)) (i : ℕ) (row : JournalRow C)
    (behind : Option LetterPlace)
    (lt : i < length news) (at : row ≡ get_or news i row) where
  more : (f : Entity) → f ≢ row.entity → part f (take i news) ≡ [] → part f (take (i + 1) news) ≡ []
  more f ne none = rw add-one (one_more_row news i row f lt at ne none)

  -- a row that comes too early
  pub too_early : (best : Option A) → ¬ (IsFrom behind row.entity) → Best now (take i news) behind best
      → Best now (take (i + 1) news) behind best
  too_early None never none = λ f from. more f (λ same. never (subst (λ e. IsFrom behind e) same from)) (none f from)
  too_early (Some o) never first =
      λ f from less. more f (λ same. never (subst (λ e. IsFrom behind e) same from)) (first f from less)

  -- one that isn't before the first so far
  pub not_first : (best : Option A) → MatchOption best ⊥ (λ o. entity_cmp row.entity (now o) ≢ Less)
      → Best now (take i news) behind best
      → Best now (take (i + 1) news) behind best
  not_first None never none = absurd never
  not_first (Some o) never first =
      λ f from less. more f (λ same. never (subst (λ e. entity_cmp e (now o) ≡ Less) same less))
      (first f from less)

  -- and one that is
  pub is_first : (best : Option A) → IfSome best (λ o. entity_cmp row.entity (now o) ≡ Less)
      → Best now (take i news) behind best
      → IsFirstFrom (take (i + 1) news) behind (Some row.entity)
  is_first None before none =
      λ f from less. more f (λ same. none_less row.entity (subst (λ e. entity_cmp e row.entity ≡ Less) same less))
      (none f from)
  is_first (Some o) before first = λ f from less. more f
      (λ same. none_less row.entity (subst (λ e. entity_cmp e row.entity ≡ Less) same less))
      (first f from (entity_cmp-total.trans f row.entity (now o) less before))
