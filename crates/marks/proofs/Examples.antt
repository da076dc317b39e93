-- Examples: the greatest number of a place, and what was raised.
use Rattle.std.proofs.Common.{◌≡◌, zero, suc, List, [], ◌∷◌, refl, ap, inl, inr, arith}
use Rattle.marks.specs.declared.rule.Entry.{Entry}
use Rattle.marks.specs.Entries.{entry, greatest, WasRaised}

-- 5 and then 3 at place 0, and 9 at place 1
abbrev pub raised : List Entry
raised = entry 0 5 ∷ entry 1 9 ∷ entry 0 3 ∷ []

pub the_greatest_counts : greatest 0 raised ≡ 5
the_greatest_counts = refl

pub the_last_does_not : greatest 0 raised ≡ 3 → ⊥
the_last_does_not is = absurd (omega arith)

pub places_are_apart : greatest 1 raised ≡ 9
places_are_apart = refl

pub nothing_is_zero : greatest 2 raised ≡ 0
nothing_is_zero = refl

pub lower_numbers_were_raised_too : WasRaised raised (entry 0 3)
lower_numbers_were_raised_too = inr (2, omega arith, refl)

pub marks_begin_at_zero : WasRaised [] (entry 7 0)
marks_begin_at_zero = inl refl

-- 9 was raised, and not there
pub another_place_does_not_count : WasRaised raised (entry 0 9) → ⊥
another_place_does_not_count (inl none) = absurd (omega arith)
another_place_does_not_count (inr (zero, within, is)) =
    let number = ap (λ (e : Entry). e.number) is in
    absurd (omega arith)
another_place_does_not_count (inr (suc zero, within, is)) =
    let place = ap (λ (e : Entry). e.place) is in
    absurd (omega arith)
another_place_does_not_count (inr (suc (suc zero), within, is)) =
    let number = ap (λ (e : Entry). e.number) is in
    absurd (omega arith)
another_place_does_not_count (inr (suc (suc (suc k)), within, is)) = absurd (omega arith)
