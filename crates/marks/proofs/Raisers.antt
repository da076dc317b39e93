-- Who raised a number, when views change.
use Rattle.std.proofs.Common.{◌≡◌, ◌≢◌, ◌⊎◌, ℕ, zero, suc, ◌+◌, ◌<◌, ◌≤◌}
use Rattle.std.proofs.Common.{List, [], ◌∷◌, ◌++◌, length, set, refl, sym, ap, ◌∙◌, subst, inl, inr, ⊎_elim, arith}
use Rattle.std.specs.List.{All, Contains}
use Rattle.std.proofs.lemmas.List.Elements.{All-weaker}
use mathlib.Core.Option.{some, some-ne-none, some-injective}
use mathlib.Core.Logic.{dite}
use native.Mathlib.Decide.{ℕ_discrete}
use lib.ListN.{get_elem?}
use Rattle.atomic_table.proofs.Lists.{at_set, set_here, set_else}
use Rattle.marks.specs.declared.rule.Entry.{Entry}
use Rattle.marks.specs.declared.rule.View.{View}
use Rattle.marks.specs.Rule.{total, WasRaisedBySome}

pub total_set : (f : View → ℕ) (views : List View) (id : ℕ) (v w : View) → get_elem? views id ≡ some v
    → total f (set views id w) + f v ≡ total f views + f w
total_set f [] id v w at = absurd (some-ne-none v (sym at))
total_set f (x ∷ xs) zero v w at = let same : f x ≡ f v = ap f (some-injective x v at) in omega arith
total_set f (x ∷ xs) (suc id) v w at = let ih = total_set f xs id v w at in omega arith

pub total-append : (f : View → ℕ) (xs ys : List View) → total f (xs ++ ys) ≡ total f xs + total f ys
total-append f [] ys = omega arith
total-append f (x ∷ xs) ys = let ih = total-append f xs ys in omega arith

one_of : (f : View → ℕ) (views : List View) (id : ℕ) (v : View) → get_elem? views id ≡ some v → f v ≤ total f views
one_of f [] id v at = absurd (some-ne-none v (sym at))
one_of f (x ∷ xs) zero v at = let same : f x ≡ f v = ap f (some-injective x v at) in omega arith
one_of f (x ∷ xs) (suc id) v at = let ih = one_of f xs id v at in omega arith

-- two seats have no more than all
pub two_of : (f : View → ℕ) (views : List View) (i j : ℕ) (v u : View) → i ≢ j → get_elem? views i ≡ some v
    → get_elem? views j ≡ some u → f v + f u ≤ total f views
two_of f [] i j v u apart a b = absurd (some-ne-none v (sym a))
two_of f (x ∷ xs) zero zero v u apart a b = absurd (apart refl)
two_of f (x ∷ xs) zero (suc j) v u apart a b =
    let same : f x ≡ f v = ap f (some-injective x v a) in let one = one_of f xs j u b in omega arith
two_of f (x ∷ xs) (suc i) zero v u apart a b =
    let same : f x ≡ f u = ap f (some-injective x u b) in let one = one_of f xs i v a in omega arith
two_of f (x ∷ xs) (suc i) (suc j) v u apart a b =
    let ih = two_of f xs i j v u (λ e. apart (ap suc e)) a b in omega arith

pub there : (views : List View) (id : ℕ) (v : View) → get_elem? views id ≡ some v → id < length views
there [] id v at = absurd (some-ne-none v (sym at))
there (x ∷ xs) zero v at = omega arith
there (x ∷ xs) (suc id) v at = let ih = there xs id v at in omega arith

pub at_end : (l : List View) (a b : View) (j : ℕ) → get_elem? (l ++ a ∷ []) j ≡ some b
    → (get_elem? l j ≡ some b) ⊎ (a ≡ b)
at_end [] a b zero e = inr (some-injective a b e)
at_end [] a b (suc j) e = absurd (some-ne-none b (sym e))
at_end (x ∷ xs) a b zero e = inl e
at_end (x ∷ xs) a b (suc j) e = at_end xs a b j e

-- two views at one place are one
pub one_view : (views : List View) (i j : ℕ) (v u : View) → i ≡ j → get_elem? views i ≡ some v
    → get_elem? views j ≡ some u → v ≡ u
one_view views i j v u is a b = some-injective _ _ (sym a ∙ ap (get_elem? views) is ∙ b)

-- what seats raised, they raised still
abbrev pub Keep : (old new : List View) → Type 0
Keep old new = (e : Entry) → WasRaisedBySome old e → WasRaisedBySome new e

-- a seat that knows more still raised what it raised
pub knows_more : (views : List View) (id : ℕ) (v w : View) → get_elem? views id ≡ some v
    → ((e : Entry) → Contains v.raised e → Contains w.raised e) → Keep views (set views id w)
knows_more views id v w at more e = ⊎_elim (λ none. inl none) (λ r. inr (dite (ℕ_discrete r.0 id) (same r) (other r)))
  where
    Raised : List View → Type 0
    Raised views = (j : ℕ) × (u : View) × (get_elem? views j ≡ some u) × Contains u.raised e

    same : (r : Raised views) → r.0 ≡ id → Raised (set views id w)
    same r is =
        let mine = subst (λ (u : View). Contains u.raised e) (one_view views r.0 id r.1 v is r.2 at) r.3 in
        (id, w, set_here views id w (there views id v at), more e mine)

    other : (r : Raised views) → r.0 ≢ id → Raised (set views id w)
    other r apart = (r.0, r.1, set_else views id r.0 w apart ∙ r.2, r.3)

-- what holds of each view holds once one is another of which it holds
pub each_set : (P : View → Type 0) (views : List View) (id : ℕ) (w : View) → P w
    → ((j : ℕ) (u : View) → get_elem? views j ≡ some u → P u)
    → (j : ℕ) (u : View) → get_elem? (set views id w) j ≡ some u → P u
each_set P views id w mine others j u at = ⊎_elim
    (λ (x : (j ≡ id) × (w ≡ u)). subst P x.1 mine)
    (λ (x : (j ≢ id) × (get_elem? views j ≡ some u)). others j u x.1)
    (at_set views id j w u at)

-- the same where there is one view more
pub each_more : (P : View → Type 0) (views : List View) (w : View) → P w
    → ((j : ℕ) (u : View) → get_elem? views j ≡ some u → P u)
    → (j : ℕ) (u : View) → get_elem? (views ++ w ∷ []) j ≡ some u → P u
each_more P views w mine others j u at = ⊎_elim (others j u) (λ is. subst P is mine) (at_end views w u j at)

-- what the seat read was raised
abbrev pub ReadRaised : List View → View → Type 0
ReadRaised views u = All (WasRaisedBySome views) u.read

-- it still was
pub still_raised : (old new : List View) → Keep old new
    → ((j : ℕ) (u : View) → get_elem? old j ≡ some u → ReadRaised old u)
    → (j : ℕ) (u : View) → get_elem? old j ≡ some u → ReadRaised new u
still_raised old new keep all j u at = All-weaker (WasRaisedBySome old) (WasRaisedBySome new) keep u.read (all j u at)
