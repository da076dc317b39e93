-- The greatest number at a place.
use Rattle.std.proofs.Common.{◌≡◌, ℕ, zero, suc, ◌≤◌, Bool, true, false, ◌==◌, if◌then◌else◌, max}
use Rattle.std.proofs.Common.{List, [], ◌∷◌, ◌++◌, refl, sym, subst, arith}
use Rattle.std.specs.List.{Contains}
use Rattle.std.proofs.lemmas.Bool.Decides.{Decides-eqb}
use Rattle.marks.specs.declared.rule.Entry.{Entry}
use Rattle.marks.specs.Entries.{greatest}

pub greatest-append : (place : ℕ) (xs ys : List Entry)
    → greatest place (xs ++ ys) ≡ max (greatest place xs) (greatest place ys)
greatest-append place [] ys = omega arith
greatest-append place (x ∷ xs) ys = step (x.place == place) (greatest-append place xs ys)
  where
    step : (here : Bool) → greatest place (xs ++ ys) ≡ max (greatest place xs) (greatest place ys)
        → (if here then max x.number (greatest place (xs ++ ys)) else greatest place (xs ++ ys))
        ≡ max (if here then max x.number (greatest place xs) else greatest place xs) (greatest place ys)
    step true ih = omega arith
    step false ih = ih

-- one entry alone
greatest_one : (place bound : ℕ) (e : Entry) → (e.place ≡ place → e.number ≤ bound) → greatest place (e ∷ []) ≤ bound
greatest_one place bound e small = step (e.place == place) (λ is. small ((Decides-eqb e.place place).0 is))
  where
    step : (here : Bool) → (here ≡ true → e.number ≤ bound) → (if here then max e.number 0 else 0) ≤ bound
    step true few = let s = few refl in omega arith
    step false few = omega arith

-- a list with one entry more is within a bound that both keep to
pub greatest_more : (place bound : ℕ) (xs : List Entry) (e : Entry) → greatest place xs ≤ bound
    → (e.place ≡ place → e.number ≤ bound) → greatest place (xs ++ e ∷ []) ≤ bound
greatest_more place bound xs e old new =
    let one = greatest_one place bound e new in omega (arith, greatest-append place xs (e ∷ []))

-- what a list contains is no more than the greatest
pub contains_greatest : (xs : List Entry) (e : Entry) → Contains xs e → e.number ≤ greatest e.place xs
contains_greatest [] e (k, within, is) = absurd (omega arith)
contains_greatest (x ∷ xs) e (zero, within, is) =
    subst (λ (y : Entry). y.number ≤ greatest y.place (x ∷ xs)) is here
  where
    here : x.number ≤ greatest x.place (x ∷ xs)
    here = subst (λ b. x.number ≤ (if b then max x.number (greatest x.place xs) else greatest x.place xs))
        (sym ((Decides-eqb x.place x.place).1 refl)) (omega arith)
contains_greatest (x ∷ xs) e (suc k, within, is) =
    step (x.place == e.place) (contains_greatest xs e (k, omega arith, is))
  where
    step : (b : Bool) → e.number ≤ greatest e.place xs
        → e.number ≤ (if b then max x.number (greatest e.place xs) else greatest e.place xs)
    step true ih = omega arith
    step false ih = ih
