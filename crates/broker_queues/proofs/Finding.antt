-- Looking for values in lists that were changed.
use Rattle.std.proofs.Common.{◌≡◌, Bool, true, false, cond, List, [], ◌∷◌, map, Option, Some, None, refl, sym, ap, inl}
use Rattle.std.proofs.Common.{inr}
use Rattle.std.specs.Prelude.{find, is_some, ◌⊎◌}
use Rattle.std.specs.List.{list_any}
use Rattle.std.proofs.lemmas.Bool.{cases_Bool}
use Rattle.std.specs.Option.{option_map, option_or}

-- what a value was, that is another now
pub record IsMapped {A B : Type 0} (g : A → B) (o : Option A) (y : B) : Type 0 where
  pub from : A
  pub found : o ≡ Some from
  pub to : g from ≡ y

pub is_mapped : {A B : Type 0} (g : A → B) (o : Option A) (y : B) → option_map g o ≡ Some y → IsMapped g o y
is_mapped g None y found = let no : None ≡ Some y = found in cc
is_mapped g (Some x) y found = record { from = x; found = refl; to = let same : Some (g x) ≡ Some y = found in cc }

-- a test that a change keeps finds the same
pub find_map : {A : Type 0} (test : A → Bool) (g : A → A) → ((x : A) → test (g x) ≡ test x) → (xs : List A)
    → find test (map g xs) ≡ option_map g (find test xs)
find_map test g keeps [] = refl
find_map test g keeps (x ∷ xs) = rw (keeps x) (both (test x) (find_map test g keeps xs))
  where
    both : (b : Bool) → find test (map g xs) ≡ option_map g (find test xs)
        → cond b (Some (g x)) (find test (map g xs)) ≡ option_map g (cond b (Some x) (find test xs))
    both true rest = refl
    both false rest = rest

pub any_map : {A B : Type 0} (test : B → Bool) (g : A → B) (same : A → Bool) → ((x : A) → test (g x) ≡ same x)
    → (xs : List A)
    → list_any test (map g xs) ≡ list_any same xs
any_map test g same keeps [] = refl
any_map test g same keeps (x ∷ xs) = rw (keeps x, any_map test g same keeps xs) refl

pub some_map : {A B : Type 0} (g : A → B) (o : Option A) → is_some (option_map g o) ≡ is_some o
some_map g None = refl
some_map g (Some x) = refl

pub or_some : {A : Type 0} (o p : Option A) (y : A) → option_or o p ≡ Some y → (o ≡ Some y) ⊎ (p ≡ Some y)
or_some None p y found = inr found
or_some (Some x) p y found = inl found

pub none_unless : {A : Type 0} (o : Option A) → ((y : A) → o ≡ Some y → ⊥) → o ≡ None
none_unless None never = refl
none_unless (Some x) never = absurd (never x refl)

pub some_is : {A : Type 0} (o : Option A) (y : A) → o ≡ Some y → is_some o ≡ true
some_is o y found = rw found refl

-- what an optional value is
pub record IsThere {A : Type 0} (o : Option A) : Type 0 where
  pub value : A
  pub found : o ≡ Some value

pub is_there : {A : Type 0} (o : Option A) → is_some o ≡ true → IsThere o
is_there None some = let no : false ≡ true = some in cc
is_there (Some x) some = record { value = x; found = refl }

pub option_map_map : {A B C : Type 0} (f : B → C) (g : A → B) (k : A → C) → ((x : A) → f (g x) ≡ k x) → (o : Option A)
    → option_map f (option_map g o) ≡ option_map k o
option_map_map f g k same None = refl
option_map_map f g k same (Some x) = ap (λ y. Some y) (same x)

pub map_map : {A B C : Type 0} (f : B → C) (g : A → B) (xs : List A) → map f (map g xs) ≡ map (λ x. f (g x)) xs
map_map f g [] = refl
map_map f g (x ∷ xs) = ap (λ l. f (g x) ∷ l) (map_map f g xs)

-- what passes one test passes another
pub any_implies : {A : Type 0} (test other : A → Bool) → ((x : A) → test x ≡ true → other x ≡ true) → (xs : List A)
    → list_any test xs ≡ true → list_any other xs ≡ true
any_implies test other implies [] any = any
any_implies test other implies (x ∷ xs) any =
    elim (cases_Bool (test x)) [
      | inl on ↦ rw (implies x on) refl
      | inr off ↦ elim (cases_Bool (other x)) [
        | inl first ↦ rw first refl
        | inr later ↦ rw later (any_implies test other implies xs (rw off at any))
      ]
    ]

-- some value passes
pub record SomePasses {A : Type 0} (test : A → Bool) : Type 0 where
  pub value : A
  pub passes : test value ≡ true

pub any_some : {A : Type 0} (test : A → Bool) (xs : List A) → list_any test xs ≡ true → SomePasses test
any_some test [] any = let none : false ≡ true = any in cc
any_some test (x ∷ xs) any =
    elim (cases_Bool (test x)) [
      | inl on ↦ record { value = x; passes = on }
      | inr off ↦ any_some test xs (rw off at any)
    ]

pub same_tests : (a b : Bool) → (a ≡ true → b ≡ true) → (b ≡ true → a ≡ true) → a ≡ b
same_tests true b to back = sym (to refl)
same_tests false true to back = back refl
same_tests false false to back = refl

pub find_passes : {A : Type 0} (test : A → Bool) (xs : List A) (y : A) → find test xs ≡ Some y → test y ≡ true
find_passes test [] y found = let none : None ≡ Some y = found in cc
find_passes test (x ∷ xs) y found =
    elim (cases_Bool (test x)) [
      | inl on ↦ let same : Some x ≡ Some y = rw on at found in let e : x ≡ y = cc in rw (← e) on
      | inr off ↦ find_passes test xs y (rw off at found)
    ]

pub find_none : {A : Type 0} (test : A → Bool) (xs : List A) → find test xs ≡ None → list_any test xs ≡ false
find_none test [] none = refl
find_none test (x ∷ xs) none =
    elim (cases_Bool (test x)) [
      | inl on ↦ let never : Some x ≡ None = rw on at none in cc
      | inr off ↦ rw off (find_none test xs (rw off at none))
    ]

pub none_found : {A : Type 0} (test : A → Bool) (xs : List A) → list_any test xs ≡ false → find test xs ≡ None
none_found test [] none = refl
none_found test (x ∷ xs) none =
    elim (cases_Bool (test x)) [
      | inl on ↦ let never : true ≡ false = rw on at none in cc
      | inr off ↦ rw off (none_found test xs (rw off at none))
    ]

pub find_mapped : {A B : Type 0} (test : B → Bool) (g : A → B) (xs : List A)
    → find test (map g xs) ≡ option_map g (find (λ x. test (g x)) xs)
find_mapped test g [] = refl
find_mapped test g (x ∷ xs) = both (test (g x)) (find_mapped test g xs)
  where
    both : (b : Bool) → find test (map g xs) ≡ option_map g (find (λ x. test (g x)) xs)
        → cond b (Some (g x)) (find test (map g xs)) ≡ option_map g (cond b (Some x) (find (λ x. test (g x)) xs))
    both true rest = refl
    both false rest = rest
