-- Examples: calls of receipts whose tags are numbers, and what they lead to.
use Rattle.std.proofs.Common.{◌≡◌, ℕ, List, [], ◌∷◌, refl, arith}
use Rattle.std.specs.Prelude.{◌^◌, ◌-◌, Option, Some, None, Ok, Err}
use Rattle.receipts.specs.declared.fault.ReceiptFault.TheVariants.{Memory, NumbersUsed}
use Rattle.receipts.specs.Fault.{receipt_fault_number}
use Rattle.receipts.specs.Books.{ReceiptBook, IsBook, new_book, open_under, opened, closed, Opens}
use Rattle.receipts.specs.Calls.{Call, Opened, Closed, Leads, opened_tags, given, AreOpened}

-- these tags are open, and this was the last number
abbrev book : ℕ → List (ℕ × ℕ) → ReceiptBook ℕ
book last tags = record { last = last; tags = tags }

-- 20 and 30 are opened, 2 is closed twice, and 40 is opened
calls : List (Call ℕ)
calls = Opened 20 ∷ Opened 30 ∷ Closed 2 (Some 30) ∷ Closed 2 None ∷ Opened 40 ∷ []

-- then the first and the last are open
a_number_is_closed_once : Leads new_book calls (book 3 ((1, 20) ∷ (3, 40) ∷ []))
unfolding calls
a_number_is_closed_once = (refl, (refl, refl))

-- no other tag is given
no_other_is_given : Leads new_book (Opened 20 ∷ Closed 1 (Some 30) ∷ []) (book 1 []) → ⊥
no_other_is_given leads = let other : ◌≡◌ {A = Option ℕ} (Some 30) (Some 20) = leads.0 in absurd cc

-- one tag was given, the second that was opened
the_second_was_given : (opened_tags calls ≡ 20 ∷ 30 ∷ 40 ∷ []) × (given calls ≡ (2, 30) ∷ [])
    × (AreOpened (opened_tags calls) (given calls))
unfolding calls
the_second_was_given = (refl, refl, (omega arith, refl, tt))

-- a number under which nothing was opened yet is not open, nor is 0
nothing_is_open_there : (open_under 3 (book 2 ((1, 20) ∷ (2, 30) ∷ [])) ≡ None)
    × (open_under 0 (book 2 ((1, 20) ∷ [])) ≡ None)
    × (open_under 1 (book 2 ((1, 20) ∷ [])) ≡ Some 20)
nothing_is_open_there = (refl, refl, refl)

-- closing leaves the others, and what isn't open changes nothing
others_stay_open : (closed 1 (book 2 ((1, 20) ∷ (2, 30) ∷ [])) ≡ book 2 ((2, 30) ∷ []))
    × (closed 9 (book 2 ((2, 30) ∷ [])) ≡ book 2 ((2, 30) ∷ []))
others_stay_open = (refl, refl)

-- the number behind the last is given, also where nothing is open
numbers_go_on : (opened 50 (book 7 []) ≡ book 8 ((8, 50) ∷ [])) × (Opens 50 (book 7 []) (book 8 ((8, 50) ∷ [])) (Ok 8))
numbers_go_on = (refl, (refl, refl))

-- where the last was given none is left, and only there; want of memory changes nothing
numbers_end : (Opens 50 (book (2 ^ 64 - 1) []) (book (2 ^ 64 - 1) []) (Err NumbersUsed))
    × (Opens 50 (book 7 []) (book 7 []) (Err Memory))
    × (Opens 50 (book 7 []) (book 7 []) (Err NumbersUsed) → ⊥)
    × (Opens 50 (book (2 ^ 64 - 1) []) (book (2 ^ 64 - 1) []) (Err Memory) → ⊥)
numbers_end = ((refl, refl), (omega arith, refl), λ h. omega (arith, h.0), λ h. omega (arith, h.0))

-- numbers rise, from 1 up to the last
books_rise : (IsBook (book 3 ((1, 20) ∷ (3, 40) ∷ []))) × (IsBook (book 3 ((3, 40) ∷ (1, 20) ∷ [])) → ⊥)
    × (IsBook (book 3 ((0, 40) ∷ [])) → ⊥) × (IsBook (book 3 ((4, 40) ∷ [])) → ⊥)
books_rise = (
  record { numbered = (omega arith, (omega arith, omega arith)) },
  λ b. omega (arith, b.numbered.1.0),
  λ b. omega (arith, b.numbered.0),
  λ b. omega (arith, b.numbered.1),
)

-- the numbers of the faults
faults_are_numbered : (receipt_fault_number Memory ≡ 1) × (receipt_fault_number NumbersUsed ≡ 2)
faults_are_numbered = (refl, refl)
