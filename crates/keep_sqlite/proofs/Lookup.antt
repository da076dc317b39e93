-- What a change of the rows does to what is looked up.
use Rattle.std.proofs.Common.{◌≡◌, inl, inr, List, [], ◌∷◌, Bool, true, false, Option, Some, None, refl, sym, ap}
use Rattle.std.proofs.Common.{subst, ◌∙◌, true≢false}
use Rattle.std.specs.Prelude.{find}
use Rattle.std.proofs.lemmas.Bool.{cases_Bool}
use Rattle.sqlite.specs.Order.{Row}
use Rattle.sqlite_rules.specs.Lists.{Has}
use Rattle.sqlite_rules.proofs.ListLemmas.{has_found}
use Rattle.sql_rows.specs.Tables.{IsCut, IsSet}

pub not_true : (b : Bool) → (b ≡ true → ⊥) → b ≡ false
not_true true f = absurd (f refl)
not_true false f = refl

-- one row at most passes
abbrev pub IsOne : (Row → Bool) → List Row → Type 0
IsOne p rows = (x y : Row) → Has rows x → Has rows y → p x ≡ true → p y ≡ true → x ≡ y

pub found_some : (p : Row → Bool) (rows : List Row) (x : Row) → Has rows x → p x ≡ true → (y : Row) × (find p rows ≡ Some y)
found_some p [] x h is = absurd h
found_some p (r ∷ rows) x h is = elim (cases_Bool (p r)) [
  | inl here ↦ (r, rw here refl)
  | inr other ↦ elim h [
    | inl same ↦ absurd (let e : p r ≡ true = rw (← same) is in cc)
    | inr later ↦ let y = found_some p rows x later is in (y.0, rw other y.1)
  ]
]

module _ (p : Row → Bool) where
  pub found_is : (rows : List Row) (x : Row) → IsOne p rows → Has rows x → p x ≡ true → find p rows ≡ Some x
  found_is rows x one h is =
      let y = found_some p rows x h is in
      let f = has_found p rows y.0 y.1 in
      y.1 ∙ ap (λ r. Some r) (one y.0 x f.0 h f.1 is)

  pub none_is : (rows : List Row) → ((x : Row) → Has rows x → p x ≡ false) → find p rows ≡ None
  none_is rows none = go (find p rows) refl
    where
      go : (o : Option Row) → find p rows ≡ o → find p rows ≡ None
      go None e = e
      go (Some x) e = let f = has_found p rows x e in absurd (true≢false (sym f.1 ∙ none x f.0))

  -- nothing that passes was touched
  untouched : (rows after : List Row) → IsOne p rows → ((x : Row) → Has after x → p x ≡ true → Has rows x)
      → ((x : Row) → Has rows x → p x ≡ true → Has after x) → (o : Option Row) → find p rows ≡ o
      → find p after ≡ find p rows
  untouched rows after one back there (Some x) e =
      let f = has_found p rows x e in
      found_is after x (λ a b h k is at. one a b (back a h is) (back b k at) is at) (there x f.0 f.1) f.1 ∙ sym e
  untouched rows after one back there None e = none_is after (λ x a. not_true _ (λ is.
      let s = found_some p rows x (back x a is) is in absurd (let z = sym s.1 ∙ e in cc))) ∙ sym e

  module _ (c : Row → Bool) (rows after : List Row) where
    pub cut_gone : IsCut c rows after → ((x : Row) → p x ≡ true → c x ≡ true) → find p after ≡ None
    cut_gone h hits = none_is after (λ x a. not_true _ (λ is. true≢false (sym (hits x is) ∙ (h.each x a).1)))

    pub cut_apart : IsOne p rows → IsCut c rows after → ((x : Row) → c x ≡ true → p x ≡ true → ⊥)
        → find p after ≡ find p rows
    cut_apart one h apart = untouched rows after one (λ x a is. (h.each x a).0) (λ x a is. h.kept x a (not_true _ (λ
        e. apart x e is))) (find p rows) refl

    pub set_here : (new : Row) → IsOne p after → IsSet c new rows after → p new ≡ true → find p after ≡ Some new
    set_here new one h is = found_is after new one h.here is

    pub set_apart : (new : Row) → IsOne p rows → IsSet c new rows after → ((x : Row) → c x ≡ true → p x ≡ true
        → ⊥) → find p after ≡ find p rows
    set_apart new one h apart = untouched rows after one
        (λ x a is. elim (h.each x a) [
          | inl same ↦ absurd (apart x (subst (λ r. c r
              ≡ true) (sym same) h.passes) is)
          | inr was ↦ was.0
        ])
        (λ x a is. h.kept x a (not_true _ (λ e. apart x e is))) (find p rows) refl
