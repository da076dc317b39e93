-- A new entry's number is above all others, so it stands at the end.
use Rattle.std.proofs.Common.{◌≡◌, ℕ, ◌+◌, ◌≤◌, Bool, true, false, cond, List, [], ◌∷◌, ◌++◌, refl, sym, ap, ◌∙◌, arith}
use Rattle.std.specs.declared.cmp.Ordering.TheVariants.{Greater}
use Rattle.std.specs.Ordering.{nat_cmp, match_ordering}
use Rattle.std.specs.Cmp.{nat_cmp_is}
use Rattle.std.specs.Map.{remove_entry}
use Rattle.std.specs.BTreeMap.{insert_entry}
use Rattle.receipts.specs.Books.{ReceiptBook, Rise, IsBook, opened}

module _ {T : Type 0} where
  -- none is above the last
  pub at_most : (above last : ℕ) (es : List (ℕ × T)) → Rise above last es → above ≤ last
  at_most above last [] h = h
  at_most above last (e ∷ es) h = omega (arith, h.0, at_most e.0 last es h.1)

  pub at_end : (above last : ℕ) (tag : T) (es : List (ℕ × T)) → Rise above last es
      → insert_entry nat_cmp es (last + 1) tag ≡ es ++ (last + 1, tag) ∷ []
  at_end above last tag [] h = refl
  at_end above last tag (e ∷ es) h =
      ap (λ o. match_ordering o ((last + 1, tag) ∷ e ∷ es) ((e.0, tag) ∷ es)
      (e ∷ insert_entry nat_cmp es (last + 1) tag))
      (sym (nat_cmp_is (last + 1) e.0 Greater (omega (arith, at_most e.0 last es h.1))))
      ∙ ap (λ l. e ∷ l) (at_end e.0 last tag es h.1)

  pub added : (above last : ℕ) (tag : T) (es : List (ℕ × T)) → Rise above last es
      → Rise above (last + 1) (es ++ (last + 1, tag) ∷ [])
  added above last tag [] h = (omega (arith, h), omega arith)
  added above last tag (e ∷ es) h = (h.0, added e.0 last tag es h.1)

  -- a lower start
  pub lowered : (low above last : ℕ) (es : List (ℕ × T)) → low ≤ above → Rise above last es → Rise low last es
  lowered low above last [] le h = omega (arith, h)
  lowered low above last (e ∷ es) le h = (omega (arith, h.0), h.1)

  either : (above last : ℕ) (b : Bool) (xs ys : List (ℕ × T)) → Rise above last xs → Rise above last ys
      → Rise above last (cond b xs ys)
  either above last true xs ys h k = h
  either above last false xs ys h k = k

  pub removed : (test : ℕ → Bool) (above last : ℕ) (es : List (ℕ × T)) → Rise above last es
      → Rise above last (remove_entry test es)
  removed test above last [] h = h
  removed test above last (e ∷ es) h =
      either above last (test e.0) es (e ∷ remove_entry test es) (lowered above e.0 last es (omega (arith, h.0)) h.1)
      (h.0, removed test e.0 last es h.1)

  -- the book with one more entry
  pub is_book : (n : ℕ) (tag : T) (es : List (ℕ × T)) {new : List (ℕ × T)} → IsBook (record { last = n; tags = es })
      → new ≡ insert_entry nat_cmp es (n + 1) tag
      → IsBook (record { last = n + 1; tags = new })
  is_book n tag es b e = record { numbered = rw (e ∙ at_end 0 n tag es b.numbered) (added 0 n tag es b.numbered) }

  pub is_opened : (n : ℕ) (tag : T) (es : List (ℕ × T)) {new : List (ℕ × T)} {b : ReceiptBook T}
      → b ≡ record { last = n; tags = es }
      → IsBook (record { last = n; tags = es })
      → new ≡ insert_entry nat_cmp es (n + 1) tag → record { last = n + 1; tags = new } ≡ opened tag b
  is_opened n tag es s b e =
      rw s (ap (λ (l : List (ℕ × T)). record { last = n + 1; tags = l }) (e ∙ at_end 0 n tag es b.numbered))
