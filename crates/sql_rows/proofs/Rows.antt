-- Rows cut out of a table, and a row set.
use Rattle.std.proofs.Common.{◌≡◌, inl, inr, ℤ, List, [], ◌∷◌, Bool, true, false, not, ◌||◌, refl, sym, ap, ◌∙◌}
use Rattle.std.proofs.Common.{true≢false, Ordering, Less, Equal, Greater}
use Rattle.std.specs.Prelude.{IsTrue}
use Rattle.std.specs.List.{list_any}
use Rattle.std.specs.Ordering.{is_eq}
use Rattle.std.specs.Cmp.{tied_itself}
use Rattle.sqlite.specs.declared.types.Value.TheVariants.{Int}
use Rattle.sqlite_value.specs.Order.{Row, value_cmp}
use Rattle.sqlite_value.proofs.OrderLemmas.{value_cmp_total}
use Rattle.sqlite_trees.specs.Tree.{rowid, has_rowid, without_rowid, put_row, IsTable}
use Rattle.sqlite_trees.specs.View.{is_int}
use Rattle.sqlite_trees.proofs.TreeLemmas.{IsTable-put_row}
use Rattle.sqlite_rules.specs.Lists.{Has}
use Rattle.sqlite_rules.specs.Edit.{id_in, without_all, are_fresh}
use Rattle.sqlite_rules.specs.Calls.{ids_of}
use Rattle.sqlite_rules.proofs.ListLemmas.{all_has, all_from, has_filtered, has_kept}
use Rattle.sqlite_rules.proofs.PlaceLemmas.{tied_same}
use Rattle.sqlite_rules.proofs.ProbeLemmas.{has_mapped, mapped_has}
use Rattle.sqlite_rules.proofs.TableLemmas.{int_is, has_put, put_has, put_all_keeps}
use Rattle.sqlite_keyed.proofs.ListLemmas.{ascending-filter}
use Rattle.sql_rows.specs.Tables.{IsRising, IsCut, IsSet}

not_true : (b : Bool) → (b ≡ true → ⊥) → b ≡ false
not_true true f = absurd (f refl)
not_true false f = refl

negated : (b : Bool) → not b ≡ true → b ≡ false
negated true e = absurd (true≢false (sym e))
negated false e = refl

equal_is : (o : Ordering) → is_eq o ≡ true → o ≡ Equal
equal_is Less h = absurd (true≢false (sym h))
equal_is Equal h = refl
equal_is Greater h = absurd (true≢false (sym h))

abbrev Lacks : List ℤ → Row → Type 0
Lacks ids x = (id : ℤ) → Has ids id → has_rowid id x ≡ false

left_from : (ids : List ℤ) (rows : List Row) (x : Row) → Has (without_all rows ids) x → Has rows x × Lacks ids x
left_from [] rows x h = (h, λ id none. absurd none)
left_from (id ∷ ids) rows x h =
    let r = left_from ids (without_rowid id rows) x h in
    let was = has_filtered (λ y. not (has_rowid id y)) rows x r.0 in
    (was.0, λ other k. elim k [ inl e ↦ rw e (negated _ was.1) | inr more ↦ r.1 other more ])

left_has : (ids : List ℤ) (rows : List Row) (x : Row) → Has rows x → Lacks ids x → Has (without_all rows ids) x
left_has [] rows x h lacks = h
left_has (id ∷ ids) rows x h lacks = left_has ids (without_rowid id rows) x
    (has_kept (λ y. not (has_rowid id y)) rows x h (ap not (lacks id (inl refl)))) (λ other k. lacks other (inr k))

without_all_table : (ids : List ℤ) (rows : List Row) → IsTable rows → IsTable (without_all rows ids)
without_all_table [] rows up = up
without_all_table (id ∷ ids) rows up = without_all_table ids (without_rowid id rows) (ascending-filter _ _ rows up)

pub none_of : (p : Row → Bool) (rows : List Row) (x : Row) → list_any p rows ≡ false → Has rows x → p x ≡ false
none_of p [] x h a = absurd a
none_of p (r ∷ rows) x h a = go (p r) refl h a (none_of p rows x)
  where
    go : (b : Bool) → p r ≡ b → (b || list_any p rows) ≡ false → Has (r ∷ rows) x
        → (list_any p rows ≡ false → Has rows x → p x ≡ false) → p x ≡ false
    go true e q a later = absurd (true≢false q)
    go false e q (inl same) later = ap p same ∙ e
    go false e q (inr more) later = later q more

module _ (p : Row → Bool) (rows found : List Row) (rising : IsRising rows)
    (sound : (x : Row) → Has found x → (r : Row) × Has rows r × (p r ≡ true) × (x ≡ rowid r ∷ []))
    (complete : (r : Row) → Has rows r → p r ≡ true → Has found (rowid r ∷ [])) where
  abbrev id_of : Row → ℤ
  id_of r = id_in (rowid r)

  int : (x : Row) → Has rows x → rowid x ≡ Int (id_of x)
  int x h = int_is (rowid x) (all_has (λ r. IsTrue (is_int (rowid r))) rows x rising.numbered h)

  own : (x : Row) → Has rows x → has_rowid (id_of x) x ≡ true
  own x h = ap (λ v. is_eq (value_cmp (rowid x) v)) (sym (int x h)) ∙ ap is_eq (tied_itself value_cmp_total (rowid x))

  pub cut : IsCut p rows (without_all rows (ids_of found))
  cut = record {
    each = λ x h.
        let r = left_from (ids_of found) rows x h in (
          r.0,
          not_true _ (λ is. true≢false (sym (own x r.0)
              ∙ r.1 (id_of x) (mapped_has id_of found (rowid x ∷ []) (complete x r.0 is)))),
        );
    kept = λ x h no. left_has (ids_of found) rows x h (λ id a. not_true _ (λ is.
        let m = has_mapped id_of found id a in
        let s = sound m.0 m.1 in
        let same : id ≡ id_of s.0 = m.2 ∙ ap id_of s.3 in
        let tie : value_cmp (rowid x) (rowid s.0) ≡ Equal = ap (value_cmp (rowid x))
        (int s.0 s.1 ∙ ap (λ n. Int n) (sym same)) ∙ equal_is _ is in
        let one : x ≡ s.0 = tied_same rows x s.0 rising.ordered h s.1 tie in
        true≢false (sym s.2 ∙ ap p (sym one) ∙ no)));
  }

  pub cut_rising : IsRising (without_all rows (ids_of found))
  cut_rising = record {
    numbered = all_from (λ r. IsTrue (is_int (rowid r))) (without_all rows (ids_of found))
        (λ x h. all_has (λ r. IsTrue (is_int (rowid r))) rows x rising.numbered (cut.each x h).0);
    ordered = without_all_table (ids_of found) rows rising.ordered;
  }

  module _ (new : Row) (int_new : is_int (rowid new) ≡ true) (passes : p new ≡ true)
      (fresh : are_fresh (without_all rows (ids_of found)) (new ∷ []) ≡ true) where
    pub set : IsSet p new rows (put_row new (without_all rows (ids_of found)))
    set = record {
      passes = passes;
      each = λ x h. elim (put_has new (without_all rows (ids_of found)) x h)
          [ inl same ↦ inl same | inr old ↦ inr (cut.each x old) ];
      here = has_put new (without_all rows (ids_of found));
      kept = λ x h no. put_all_keeps (new ∷ []) (without_all rows (ids_of found)) x fresh (cut.kept x h no);
    }

    pub set_rising : IsRising (put_row new (without_all rows (ids_of found)))
    set_rising = record {
      numbered = all_from (λ r. IsTrue (is_int (rowid r))) (put_row new (without_all rows (ids_of found)))
          (λ x h. elim (put_has new (without_all rows (ids_of found)) x h) [
            | inl same ↦ ap (λ r. is_int (rowid r)) same ∙ int_new
            | inr old ↦ all_has (λ r. IsTrue (is_int (rowid r))) (without_all rows (ids_of found)) x
                cut_rising.numbered
                old
          ]);
      ordered = IsTable-put_row new (without_all rows (ids_of found)) cut_rising.ordered;
    }
