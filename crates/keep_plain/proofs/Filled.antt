-- Slots in the order of their keys: what stands at a key, and the first slot that is filled.
use Rattle.std.proofs.Common.{◌≡◌, inl, inr, true, false, List, [], ◌∷◌, Option, Some, None, Ordering, Less, Equal}
use Rattle.std.proofs.Common.{Greater}
use Rattle.std.proofs.Common.{refl, sym, ap, subst, ◌∙◌, true≢false}
use Rattle.std.specs.Prelude.{is_some}
use Rattle.std.specs.Ordering.{is_eq}
use Rattle.std.specs.Cmp.{IsTotalOrder, tied_itself}
use Rattle.std.specs.List.{AllByRecursion}
use Rattle.std.specs.List.Sorted.{IsStrictlySortedBy}
use Rattle.std.specs.Map.{keys_of, lookup}
use Rattle.std.specs.BTreeMap.{BTreeMap, IsOrdered}
use Rattle.std.proofs.lemmas.Bool.{cases_Bool}
use Rattle.std.proofs.Math.Path.{fun_ext}
use Rattle.keep_plain.specs.Slots.{at, filled, IsFirstFilled}
use Rattle.keep_plain.specs.Listed.{first_key}

pub equal_is : (o : Ordering) → is_eq o ≡ true → o ≡ Equal
equal_is Less h = absurd (true≢false (sym h))
equal_is Equal h = refl
equal_is Greater h = absurd (true≢false (sym h))

-- what stands at a key among these slots
abbrev pub found : {K V : Type 0} → (K → K → Ordering) → List (K × Option V) → K → Option V
found cmp es x = filled (lookup (λ y. is_eq (cmp x y)) es)

pub skipped : {K V : Type 0} (cmp : K → K → Ordering) (e : K × Option V) (es : List (K × Option V)) (x : K)
    → is_eq (cmp x e.0) ≡ false → found cmp (e ∷ es) x ≡ found cmp es x
skipped cmp e es x h = rw h refl

pub stopped : {K V : Type 0} (cmp : K → K → Ordering) (e : K × Option V) (es : List (K × Option V)) (x : K)
    → is_eq (cmp x e.0) ≡ true → found cmp (e ∷ es) x ≡ e.1
stopped cmp e es x h = rw h refl

module _ {K V : Type 0} (cmp : K → K → Ordering) (total : IsTotalOrder cmp) where
  -- each of these keys comes after that one
  abbrev AllAfter : K → List (K × Option V) → Type 0
  AllAfter x es = AllByRecursion (λ y. cmp x y ≡ Less) (keys_of es)

  not_found : (x : K) (es : List (K × Option V)) → AllAfter x es → found cmp es x ≡ None
  not_found x [] a = refl
  not_found x (e ∷ es) a = skipped cmp e es x (ap is_eq a.0) ∙ not_found x es a.1

  all_later : (x y : K) (es : List (K × Option V)) → cmp x y ≡ Less → AllAfter y es → AllAfter x es
  all_later x y [] h a = tt
  all_later x y (e ∷ es) h a = (total.trans x y e.0 h a.0, all_later x y es h a.1)

  passed : (k : K) (es : List (K × Option V)) → AllAfter k es → (q : K) → found cmp es q ≡ found cmp ((k, None) ∷ es) q
  passed k es a q = elim (cases_Bool (is_eq (cmp q k))) [
    | inl same ↦
        let alike : cmp q ≡ cmp k = fun_ext (λ x. total.congr q k x (equal_is (cmp q k) same)) in
        ap (λ c. filled (lookup (λ y. is_eq (c y)) es)) alike ∙ not_found k es a ∙ sym (stopped cmp (k, None) es q same)
    | inr apart ↦ sym (skipped cmp (k, None) es q apart)
  ]

  first_among : (es : List (K × Option V)) → IsStrictlySortedBy cmp (keys_of es)
      → IsFirstFilled cmp (found cmp es) (first_key es)
  unfolding IsStrictlySortedBy
  first_among [] o = λ q. refl
  first_among ((k, None) ∷ es) o =
      subst (λ stands. IsFirstFilled cmp stands (first_key es)) (fun_ext (passed k es o.0)) (first_among es o.1)
  first_among ((k, Some v) ∷ es) o = (
    ap is_some (stopped cmp (k, Some v) es k (ap is_eq (tied_itself total k))),
    λ q less. not_found q ((k, Some v) ∷ es) (less, all_later q k es less o.0),
  )

  -- the first slot that is filled, in a map
  pub first_is : (m : BTreeMap K (Option V)) → IsOrdered cmp m → IsFirstFilled cmp (at cmp m) (first_key m.entries)
  first_is m o = first_among m.entries o
