-- What a write of a table leaves of the rows that pass a test, where each row has a rowid of its own.
use Rattle.std.proofs.Common.{◌≡◌, inl, inr, List, [], ◌∷◌, Bool, true, false, filter, refl, sym, ap, ap₂, subst, ◌∙◌}
use Rattle.std.proofs.Common.{true≢false, Less}
use Rattle.std.specs.Ordering.{ordering_reverse}
use Rattle.std.specs.List.{AllByRecursion}
use Rattle.sqlite_value.specs.Order.{Row, value_cmp}
use Rattle.sqlite_value.proofs.OrderLemmas.{value_cmp_total}
use Rattle.sqlite_trees.specs.Tree.{rowid, IsTable}
use Rattle.sqlite_keyed.proofs.ListLemmas.{ascending-filter}
use Rattle.sqlite_rules.specs.Lists.{Has}
use Rattle.sqlite_rules.proofs.ListLemmas.{all_has, has_filtered, has_kept}
use Rattle.sql_rows.specs.Tables.{IsCut, IsSet}
use Rattle.keep_sqlite.proofs.Lookup.{not_true}

not_twice : (a b : Row) → value_cmp (rowid a) (rowid b) ≡ Less → value_cmp (rowid b) (rowid a) ≡ Less → ⊥
not_twice a b p q = let e = value_cmp_total.antisymm (rowid a) (rowid b) ∙ ap ordering_reverse q in cc

-- two tables with the same rows are one
pub same_rows : (xs ys : List Row) → IsTable xs → IsTable ys → ((r : Row) → Has xs r → Has ys r)
    → ((r : Row) → Has ys r → Has xs r) → xs ≡ ys
same_rows [] [] p q a b = refl
same_rows [] (y ∷ ys) p q a b = absurd (b y (inl refl))
same_rows (x ∷ xs) [] p q a b = absurd (a x (inl refl))
same_rows (x ∷ xs) (y ∷ ys) p q a b =
    let first : x ≡ y = elim (a x (inl refl)) [
      | inl e ↦ e
      | inr later ↦ elim (b y (inl refl)) [
        | inl e ↦ sym e
        | inr also ↦ absurd (not_twice x y (all_has _ xs y p.0 also) (all_has _ ys x q.0 later))
      ]
    ] in
    let past = λ (z : Row) (zs : List Row) (up : AllByRecursion (λ r. value_cmp (rowid z) (rowid r) ≡ Less) zs)
    (r : Row) (h : Has zs r) (e : r ≡ z).
    let lower = rw e at (all_has _ zs r up h) in not_twice z z lower lower in
    ap₂ ◌∷◌ first (same_rows xs ys p.1 q.1
    (λ r h. elim (a r (inr h)) [ inl e ↦ absurd (past x xs p.0 r h (e ∙ sym first)) | inr k ↦ k ])
    (λ r h. elim (b r (inr h)) [ inl e ↦ absurd (past y ys q.0 r h (e ∙ first)) | inr k ↦ k ]))

pub none_pass : (p : Row → Bool) (rows : List Row) → ((x : Row) → Has rows x → p x ≡ false) → filter p rows ≡ []
none_pass p [] none = refl
none_pass p (r ∷ rows) none = rw (none r (inl refl)) (none_pass p rows (λ x h. none x (inr h)))

pub all_pass : (p : Row → Bool) (rows : List Row) → ((x : Row) → Has rows x → p x ≡ true) → filter p rows ≡ rows
all_pass p [] all = refl
all_pass p (r ∷ rows) all = rw (all r (inl refl)) (ap (λ l. r ∷ l) (all_pass p rows (λ x h. all x (inr h))))

module _ (p : Row → Bool) (rows after : List Row) where
  -- nothing that passes was touched
  pub untouched : IsTable rows → IsTable after → ((x : Row) → Has after x → p x ≡ true → Has rows x)
      → ((x : Row) → Has rows x → p x ≡ true → Has after x) → filter p after ≡ filter p rows
  untouched before now back there = same_rows (filter p after) (filter p rows) (ascending-filter _ p after now)
      (ascending-filter _ p rows before)
      (λ x h. let was = has_filtered p after x h in has_kept p rows x (back x was.0 was.1) was.1)
      (λ x h. let was = has_filtered p rows x h in has_kept p after x (there x was.0 was.1) was.1)

  module _ (c : Row → Bool) where
    pub passing_cut : IsCut c rows after → ((x : Row) → p x ≡ true → c x ≡ true) → filter p after ≡ []
    passing_cut h hits = none_pass p after
        (λ x a. not_true _ (λ is. true≢false (sym (hits x is) ∙ (h.each x a).1)))

    pub passing_apart : IsTable rows → IsTable after → IsCut c rows after
        → ((x : Row) → c x ≡ true → p x ≡ true → ⊥) → filter p after ≡ filter p rows
    passing_apart before now h apart = untouched before now (λ x a is. (h.each x a).0)
        (λ x a is. h.kept x a (not_true _ (λ e. apart x e is)))

    pub passing_set_apart : (new : Row) → IsTable rows → IsTable after → IsSet c new rows after
        → ((x : Row) → c x ≡ true → p x ≡ true → ⊥) → filter p after ≡ filter p rows
    passing_set_apart new before now h apart = untouched before now
        (λ x a is. elim (h.each x a) [
          | inl same ↦ absurd (apart x (subst (λ r. c r ≡ true) (sym same) h.passes) is)
          | inr was ↦ was.0
        ])
        (λ x a is. h.kept x a (not_true _ (λ e. apart x e is)))
