-- What holds of each key, where some change.
use Rattle.std.proofs.Common.{◌≡◌, ◌≢◌, ◌⊎◌, ℕ, zero, suc, List, [], ◌∷◌, ◌++◌, length, map, set, refl, sym, ap, subst}
use Rattle.std.proofs.Common.{inl, inr, ⊎_elim}
use mathlib.Core.Option.{some, some-ne-none, some-injective}
use lib.ListN.{get_elem?}
use Rattle.atomic_table.proofs.Lists.{at_set}
use Rattle.told_lock.specs.declared.view.Known.{Known}
use Rattle.told_lock.specs.Rule.{Every}

pub every_map : {X : Type 0} (P Q : X → Type 0) (xs : List X) → ((x : X) → P x → Q x) → Every P xs → Every Q xs
every_map P Q [] f p = tt
every_map P Q (x ∷ xs) f p = (f x p.0, every_map P Q xs f p.1)

pub every_over : {X : Type 0} (P Q : X → Type 0) (g : X → X) (xs : List X) → ((x : X) → P x → Q (g x)) → Every P xs
    → Every Q (map g xs)
every_over P Q g [] f p = tt
every_over P Q g (x ∷ xs) f p = (f x p.0, every_over P Q g xs f p.1)

pub every_both : {X : Type 0} (P : X → Type 0) (xs ys : List X) → Every P xs → Every P ys → Every P (xs ++ ys)
every_both P [] ys p q = q
every_both P (x ∷ xs) ys p q = (p.0, every_both P xs ys p.1 q)

pub at_end : {A : Type 0} (l : List A) (a b : A) (j : ℕ) → get_elem? (l ++ a ∷ []) j ≡ some b → (get_elem? l j ≡ some b)
    ⊎ ((j ≡ length l) × (a ≡ b))
at_end [] a b zero e = inr (refl, some-injective a b e)
at_end [] a b (suc j) e = absurd (some-ne-none b (sym e))
at_end (x ∷ xs) a b zero e = inl e
at_end (x ∷ xs) a b (suc j) e = ⊎_elim (λ p. inl p) (λ p. inr (ap suc p.0, p.1)) (at_end xs a b j e)

module _ {T : Type 0} where
  -- one view is changed
  pub each_set : (F : ℕ → Known T → Type 0) (views : List (Known T)) (i : ℕ) (w : Known T) → F i w
      → ((j : ℕ) (u : Known T) → j ≢ i → get_elem? views j ≡ some u → F j u)
      → (j : ℕ) (u : Known T) → get_elem? (set views i w) j ≡ some u → F j u
  each_set F views i w mine others j u e =
      ⊎_elim
      (λ (x : (j ≡ i) × (w ≡ u)). subst (λ (y : ℕ × Known T). F y.0 y.1) (λ k. (sym x.0 k, x.1 k)) mine)
      (λ (x : (j ≢ i) × (get_elem? views j ≡ some u)). others j u x.0 x.1)
      (at_set views i j w u e)

  -- of each key, where one more is made of one that stays as it is
  pub each_more : (F : ℕ → Known T → Type 0) (views : List (Known T)) (i : ℕ) (v right : Known T)
      → get_elem? views i ≡ some v
      → ((j : ℕ) (u : Known T) → get_elem? views j ≡ some u → F j u) → F (length (set views i v)) right
      → (j : ℕ) (u : Known T) → get_elem? (set views i v ++ right ∷ []) j ≡ some u → F j u
  each_more F views i v right at all new j u there =
      ⊎_elim
      (λ old. each_set F views i v (all i v at) (λ k x apart e. all k x e) j u old)
      (λ here. subst (λ (y : ℕ × Known T). F y.0 y.1) (λ k. (sym here.0 k, here.1 k)) new)
      (at_end (set views i v) right u j there)

  -- of each key, where two have changed
  pub each_other : (F : ℕ → Known T → Type 0) (views : List (Known T)) (i other : ℕ) (both spent : Known T)
      → F i both → F other spent
      → ((j : ℕ) (u : Known T) → get_elem? views j ≡ some u → F j u)
      → (j : ℕ) (u : Known T) → get_elem? (set (set views i both) other spent) j ≡ some u → F j u
  each_other F views i other both spent here there all = each_set F (set views i both) other spent there
      (λ j u off e. each_set F views i both here (λ k x away e'. all k x e') j u e)
