-- What holds of each item of a list.
use Rattle.std.proofs.Common.{◌≡◌, Bool, true, false, cond, List, [], ◌∷◌, ◌++◌, Some, refl}
use Rattle.std.specs.Prelude.{map, filter}
use Rattle.std.specs.List.{AllByRecursion, find}
use Rattle.broker_tx.specs.First.{first_changed}

pub all_weaker : {X : Type 0} (P Q : X → Type 0) (xs : List X) → ((x : X) → P x → Q x) → AllByRecursion P xs
    → AllByRecursion Q xs
all_weaker P Q [] k h = tt
all_weaker P Q (x ∷ xs) k h = (k x h.0, all_weaker P Q xs k h.1)

pub all_map : {X : Type 0} (P : X → Type 0) (g : X → X) (xs : List X) → ((x : X) → P x → P (g x)) → AllByRecursion P xs
    → AllByRecursion P (map g xs)
all_map P g [] k h = tt
all_map P g (x ∷ xs) k h = (k x h.0, all_map P g xs k h.1)

-- with what the test says of those that are kept
filtered : {X : Type 0} (P Q : X → Type 0) (x : X) (ys : List X) (b : Bool) → P x → (b ≡ true → Q x)
    → AllByRecursion (λ y. P y × Q y) ys
    → AllByRecursion (λ y. P y × Q y) (cond b (x ∷ ys) ys)
filtered P Q x ys true p q h = ((p, q refl), h)
filtered P Q x ys false p q h = h

pub all_kept : {X : Type 0} (P Q : X → Type 0) (test : X → Bool) (xs : List X) → ((x : X) → test x ≡ true → Q x)
    → AllByRecursion P xs
    → AllByRecursion (λ y. P y × Q y) (filter test xs)
all_kept P Q test [] k h = tt
all_kept P Q test (x ∷ xs) k h = filtered P Q x (filter test xs) (test x) h.0 (k x) (all_kept P Q test xs k h.1)

found_step : {X : Type 0} (P : X → Type 0) (test : X → Bool) (x y : X) (ys : List X) (b : Bool) → P y
    → (find test ys ≡ Some x → P x)
    → cond b (Some y) (find test ys) ≡ Some x → P x
found_step P test x y ys true p ih e = let k : y ≡ x = cc in rw (← k) p
found_step P test x y ys false p ih e = ih e

pub all_found : {X : Type 0} (P : X → Type 0) (test : X → Bool) (x : X) (xs : List X) → AllByRecursion P xs
    → find test xs ≡ Some x → P x
all_found P test x [] h e = absurd cc
all_found P test x (y ∷ ys) h e = found_step P test x y ys (test y) h.0 (all_found P test x ys h.1) e

passes_step : {X : Type 0} (test : X → Bool) (y : X) (ys : List X) (x : X) (b : Bool) → test y ≡ b
    → (find test ys ≡ Some x → test x ≡ true) → cond b (Some y) (find test ys) ≡ Some x → test x ≡ true
passes_step test y ys x true t ih e = let k : y ≡ x = cc in rw (← k) t
passes_step test y ys x false t ih e = ih e

pub found_passes : {X : Type 0} (test : X → Bool) (xs : List X) (x : X) → find test xs ≡ Some x → test x ≡ true
found_passes test [] x e = absurd cc
found_passes test (y ∷ ys) x e = passes_step test y ys x (test y) refl (found_passes test ys x) e

changed_step : {X : Type 0} (P : X → Type 0) (x y : X) (xs ys : List X) (b : Bool) → P x → P y → AllByRecursion P xs
    → AllByRecursion P ys
    → AllByRecursion P (cond b (y ∷ xs) (x ∷ ys))
changed_step P x y xs ys true p q h k = (q, h)
changed_step P x y xs ys false p q h k = (p, k)

pub all_changed : {X : Type 0} (P : X → Type 0) (test : X → Bool) (g : X → X) (xs : List X) → ((x : X) → P x → P (g x))
    → AllByRecursion P xs → AllByRecursion P (first_changed test g xs)
all_changed P test g [] k h = tt
all_changed P test g (x ∷ xs) k h =
    changed_step P x (g x) xs (first_changed test g xs) (test x) h.0 (k x h.0) h.1 (all_changed P test g xs k h.1)

pub all_split : {X : Type 0} (P : X → Type 0) (xs ys : List X) → AllByRecursion P (xs ++ ys) → AllByRecursion P xs
    × AllByRecursion P ys
all_split P [] ys h = (tt, h)
all_split P (x ∷ xs) ys h = let k = all_split P xs ys h.1 in ((h.0, k.0), k.1)
