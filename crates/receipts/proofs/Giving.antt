-- What is given is gone, and was opened.
use Rattle.std.proofs.Common.{◌≡◌, ℕ, zero, suc, ◌+◌, ◌-◌, ◌≤◌, ◌<◌, Bool, true, false, List, [], ◌∷◌, ◌++◌, length}
use Rattle.std.proofs.Common.{Some, None, refl, sym}
use Rattle.std.proofs.Common.{ap, subst, ◌∙◌, arith, inl, inr, append_assoc}
use Rattle.std.specs.Prelude.{nat_lt, slice_get}
use Rattle.std.specs.declared.cmp.Ordering.TheVariants.{Less, Greater}
use Rattle.std.specs.Ordering.{nat_cmp, is_eq}
use Rattle.std.specs.Cmp.{nat_cmp_is}
use Rattle.std.specs.Map.{lookup, remove_entry}
use Rattle.std.specs.BTreeMap.{is_at}
use Rattle.std.proofs.lemmas.Bool.{cases_Bool, ltb-true}
use Rattle.std.proofs.lemmas.Bool.Decides.{nat_tests}
use Rattle.std.proofs.lemmas.List.{length-append}
use Rattle.receipts.specs.Books.{ReceiptBook, Rise, IsBook, open_under, opened, closed}
use Rattle.receipts.specs.Calls.{Call, Opened, Closed, Leads, opened_tags, given, AreOpened}
use Rattle.receipts.proofs.Adding.{at_most, added, removed}

-- ---- numbers as keys

-- whether a key is this number
abbrev is : ℕ → ℕ → Bool
is n k = is_at (nat_cmp n) k

below : (n k : ℕ) → n < k → is n k ≡ false
below n k h = ap is_eq (sym (nat_cmp_is n k Less h))

above : (n k : ℕ) → k < n → is n k ≡ false
above n k h = ap is_eq (sym (nat_cmp_is n k Greater h))

not_below : (n k : ℕ) → nat_lt n k ≡ false → k ≤ n
not_below n k e = grind (arith, nat_tests)

same : (n k : ℕ) → is n k ≡ true → n ≡ k
same n k e = elim (cases_Bool (nat_lt n k)) [
  | inl less ↦ let no : true ≡ false = sym e ∙ below n k (ltb-true n k less) in absurd cc
  | inr not_less ↦ elim (cases_Bool (nat_lt k n)) [
    | inl more ↦ let no : true ≡ false = sym e ∙ above n k (ltb-true k n more) in absurd cc
    | inr not_more ↦ omega (arith, not_below n k not_less, not_below k n not_more)
  ]
]

module _ {T : Type 0} where
  -- ---- entries

  -- a number that is no higher than all stands nowhere
  none_above : (n above last : ℕ) (es : List (ℕ × T)) → n ≤ above → Rise above last es → lookup (is n) es ≡ None
  none_above n above last [] le h = refl
  none_above n above last (e ∷ es) le h =
      rw (below n e.0 (omega (arith, h.0, le))) (none_above n e.0 last es (omega (arith, h.0, le)) h.1)

  -- what stands under a number was given by now
  found : (n above last : ℕ) (tag : T) (es : List (ℕ × T)) → Rise above last es → lookup (is n) es ≡ Some tag
      → (above < n) × (n ≤ last)
  found n above last tag [] h e = absurd cc
  found n above last tag (entry ∷ es) h e = elim (cases_Bool (is n entry.0)) [
    | inl here ↦ let it : n ≡ entry.0 =
        same n entry.0 here in (omega (arith, h.0, it), omega (arith, at_most entry.0 last es h.1, it))
    | inr there ↦ let behind =
        found n entry.0 last tag es h.1 (rw there at e) in (omega (arith, h.0, behind.0), behind.1)
  ]

  -- what is taken away is gone
  gone : (n above last : ℕ) (es : List (ℕ × T)) → Rise above last es → lookup (is n) (remove_entry (is n) es) ≡ None
  gone n above last [] h = refl
  gone n above last (e ∷ es) h = elim (cases_Bool (is n e.0)) [
    | inl here ↦ rw here (none_above n e.0 last es (omega (arith, same n e.0 here)) h.1)
    | inr there ↦ rw (there, there) (gone n e.0 last es h.1)
  ]

  -- taking another one away brings none back
  stays_gone : (n : ℕ) (test : ℕ → Bool) (es : List (ℕ × T)) → lookup (is n) es ≡ None
      → lookup (is n) (remove_entry test es) ≡ None
  stays_gone n test [] e = refl
  stays_gone n test (entry ∷ es) e = elim (cases_Bool (is n entry.0)) [
    | inl here ↦ let no : Some entry.1 ≡ None = rw here at e in absurd cc
    | inr there ↦ elim (cases_Bool (test entry.0)) [
      | inl taken ↦ rw taken (rw there at e)
      | inr kept ↦ rw (kept, there) (stays_gone n test es (rw there at e))
    ]
  ]

  -- nor does a higher number
  not_under_more : (n k : ℕ) (tag : T) (es : List (ℕ × T)) → n < k → lookup (is n) es ≡ None
      → lookup (is n) (es ++ (k, tag) ∷ []) ≡ None
  not_under_more n k tag [] less e = rw (below n k less) refl
  not_under_more n k tag (entry ∷ es) less e = elim (cases_Bool (is n entry.0)) [
    | inl here ↦ let no : Some entry.1 ≡ None = rw here at e in absurd cc
    | inr there ↦ rw there (not_under_more n k tag es less (rw there at e))
  ]

  -- ---- calls

  still_book : (calls : List (Call T)) (old new : ReceiptBook T) → IsBook old → Leads old calls new → IsBook new
  still_book [] old new b leads = subst IsBook (sym leads) b
  still_book (Opened tag ∷ calls) old new b leads =
      still_book calls (opened tag old) new (record { numbered = added 0 old.last tag old.tags b.numbered }) leads
  still_book (Closed n answer ∷ calls) old new b leads =
      still_book calls (closed n old) new (record { numbered = removed (is n) 0 old.last old.tags b.numbered }) leads.1

  parted : (xs ys : List (Call T)) (old new : ReceiptBook T) → Leads old (xs ++ ys) new → (between : ReceiptBook T)
      × Leads old xs between
      × Leads between ys new
  parted [] ys old new leads = (old, refl, leads)
  parted (Opened tag ∷ xs) ys old new leads = parted xs ys (opened tag old) new leads
  parted (Closed n answer ∷ xs) ys old new leads =
      let rest = parted xs ys (closed n old) new leads.1 in (rest.0, (leads.0, rest.1), rest.2)

  -- a number that was given and isn't open is open never again
  stays_closed : (calls : List (Call T)) (n : ℕ) (old new : ReceiptBook T) → n ≤ old.last → open_under n old ≡ None
      → Leads old calls new
      → open_under n new ≡ None
  stays_closed [] n old new le e leads = rw leads e
  stays_closed (Opened tag ∷ calls) n old new le e leads =
      stays_closed calls n (opened tag old) new (omega (arith, le)) (not_under_more n (old.last + 1) tag old.tags
      (omega (arith, le)) e)
      leads
  stays_closed (Closed k answer ∷ calls) n old new le e leads =
      stays_closed calls n (closed k old) new le (stays_gone n (is k) old.tags e) leads.1

  pub closed_once : (before between : List (Call T)) (n : ℕ) (tag other : T) (old new : ReceiptBook T) → IsBook old
      → Leads old (before ++ Closed n (Some tag) ∷ between ++ Closed n (Some other) ∷ []) new → ⊥
  closed_once before between n tag other old new b leads =
      let second = parted (before ++ Closed n (Some tag) ∷ between) (Closed n (Some other) ∷ []) old new leads in
      let first = parted before (Closed n (Some tag) ∷ between) old second.0 second.1 in
      let book = still_book before old first.0 b first.1 in
      let range = found n 0 first.0.last tag first.0.tags book.numbered (sym first.2.0) in
      let none = stays_closed between n (closed n first.0) second.0 range.1
      (gone n 0 first.0.last first.0.tags book.numbered) first.2.1 in
      let no : Some other ≡ None = second.2.0 ∙ none in
      absurd cc

  -- ---- tags

  kept_at : (xs ys : List T) (i : ℕ) (x : T) → slice_get xs i ≡ Some x → slice_get (xs ++ ys) i ≡ Some x
  kept_at [] ys i x e = absurd cc
  kept_at (y ∷ xs) ys zero x e = e
  kept_at (y ∷ xs) ys (suc i) x e = kept_at xs ys i x e

  last_at : (xs : List T) (x : T) → slice_get (xs ++ x ∷ []) (length xs) ≡ Some x
  last_at [] x = refl
  last_at (y ∷ xs) x = last_at xs x

  -- they were opened, whatever is opened after them
  more_opened : (tags more : List T) (es : List (ℕ × T)) → AreOpened tags es → AreOpened (tags ++ more) es
  more_opened tags more [] are = tt
  more_opened tags more (e ∷ es) are = (are.0, kept_at tags more (e.0 - 1) e.1 are.1, more_opened tags more es are.2)

  one_opened : (tags : List T) (n : ℕ) (tag : T) (es : List (ℕ × T)) → AreOpened tags es → length tags ≡ n
      → AreOpened (tags ++ tag ∷ []) (es ++ (n + 1, tag) ∷ [])
  one_opened tags n tag [] are len =
      let at : n + 1 - 1 ≡ length tags = omega (arith, len) in
      (omega arith, ap (λ (k : ℕ). slice_get (tags ++ tag ∷ []) k) at ∙ last_at tags tag, tt)
  one_opened tags n tag (e ∷ es) are len =
      (are.0, kept_at tags (tag ∷ []) (e.0 - 1) e.1 are.1, one_opened tags n tag es are.2 len)

  fewer_opened : (tags : List T) (test : ℕ → Bool) (es : List (ℕ × T)) → AreOpened tags es
      → AreOpened tags (remove_entry test es)
  fewer_opened tags test [] are = tt
  fewer_opened tags test (e ∷ es) are = elim (cases_Bool (test e.0)) [
    | inl taken ↦ rw taken are.2
    | inr kept ↦ rw kept (are.0, are.1, fewer_opened tags test es are.2)
  ]

  opened_at : (tags : List T) (n : ℕ) (tag : T) (es : List (ℕ × T)) → AreOpened tags es → lookup (is n) es ≡ Some tag
      → (0 < n) × (slice_get tags (n - 1) ≡ Some tag)
  opened_at tags n tag [] are e = absurd cc
  opened_at tags n tag (entry ∷ es) are e = elim (cases_Bool (is n entry.0)) [
    | inl here ↦
        let it : n ≡ entry.0 = same n entry.0 here in
        let its : Some entry.1 ≡ Some tag = rw here at e in
        (omega (arith, are.0, it), ap (λ (k : ℕ). slice_get tags (k - 1)) it ∙ are.1 ∙ its)
    | inr there ↦ opened_at tags n tag es are.2 (rw there at e)
  ]

  pub given_opened : (calls : List (Call T)) (tags : List T) (old new : ReceiptBook T) → AreOpened tags old.tags
      → length tags ≡ old.last
      → Leads old calls new
      → AreOpened (tags ++ opened_tags calls) (given calls)
  given_opened [] tags old new are len leads = tt
  given_opened (Opened tag ∷ calls) tags old new are len leads =
      let more : length (tags ++ tag ∷ []) ≡ old.last + 1 = length-append tags (tag ∷ []) ∙ ap (λ (n : ℕ). n + 1) len in
      rw (← append_assoc tags (tag ∷ []) (opened_tags calls))
      (given_opened calls (tags ++ tag ∷ []) (opened tag old) new (one_opened tags old.last tag old.tags are len) more
      leads)
  given_opened (Closed n None ∷ calls) tags old new are len leads =
      given_opened calls tags (closed n old) new (fewer_opened tags (is n) old.tags are) len leads.1
  given_opened (Closed n (Some tag) ∷ calls) tags old new are len leads =
      let it = opened_at tags n tag old.tags are (sym leads.0) in (
        it.0,
        kept_at tags (opened_tags calls) (n - 1) tag it.1,
        given_opened calls tags (closed n old) new (fewer_opened tags (is n) old.tags are) len leads.1,
      )
