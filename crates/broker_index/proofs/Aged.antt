-- The ages of subscribers, as they come and go.
use Rattle.std.proofs.Common.{◌≡◌, ℕ, ◌+◌, Bool, true, ltb, List, [], ◌∷◌, ◌++◌, filter, map, refl, ap, ◌∙◌, arith}
use Rattle.std.proofs.lemmas.Bool.{and_parts, and_from, lt-ltb, ltb-true}
use Rattle.std.proofs.lemmas.List.Folds.{list_all-append}
use Rattle.broker_index.specs.Index.{Subscriber}
use Rattle.broker_index.specs.Aged.{are_before}
use Rattle.broker_index.proofs.Sorting.{list_all-weaker, list_all-filter}
use Rattle.broker_index.proofs.Touching.{touch, touch-keeps}

-- one more, of the next age
pub are_before-push : (next : ℕ) (ss : List Subscriber) (x : Subscriber) → are_before next ss ≡ true → x.age ≡ next
    → are_before (next + 1) (ss ++ x ∷ []) ≡ true
are_before-push next ss x before is =
    list_all-append (λ (s : Subscriber). ltb s.age (next + 1)) ss (x ∷ [])
    ∙ and_from _ _
    (list_all-weaker (λ (s : Subscriber). ltb s.age next) (λ (s : Subscriber). ltb s.age (next + 1))
    (λ s h. lt-ltb s.age (next + 1) (omega (arith, ltb-true s.age next h))) ss before)
    (and_from _ _ (lt-ltb x.age (next + 1) (omega arith)) refl)

-- those that are left
pub are_before-filter : (next : ℕ) (p : Subscriber → Bool) (ss : List Subscriber) → are_before next ss ≡ true
    → are_before next (filter p ss) ≡ true
are_before-filter next p ss before = list_all-filter p (λ (s : Subscriber). ltb s.age next) ss before

-- one is changed, and keeps its age
pub are_before-touch : (next age : ℕ) (g : Subscriber → Subscriber) → ((s : Subscriber) → (g s).age ≡ s.age)
    → (ss : List Subscriber)
    → are_before next ss ≡ true
    → are_before next (map (touch (λ (s : Subscriber). s.age) age g) ss) ≡ true
are_before-touch next age g keeps [] before = refl
are_before-touch next age g keeps (s ∷ ss) before =
    let parts = and_parts (ltb s.age next) (are_before next ss) before in
    and_from _ _ (ap (λ n. ltb n next) (touch-keeps (λ (s : Subscriber). s.age) age g keeps s) ∙ parts.0)
    (are_before-touch next age g keeps ss parts.1)
