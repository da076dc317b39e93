-- Texts that are cut at an octet.
use Rattle.std.proofs.Common.{◌≡◌, ◌<◌, ◌≤◌, ◌-◌, ℕ, zero, suc, ◌+◌, List, [], ◌∷◌, ◌++◌, length, get_or, take, drop}
use Rattle.std.proofs.Common.{Bool, true, false}
use Rattle.std.proofs.Common.{cond, eqb, refl, ap, ◌∙◌, arith, Option, Some, None, rules, ltb, inl, inr}
use Rattle.std.specs.List.{slice_split, onto_first, position, position_or_len, before_first, after_first}
use Rattle.std.specs.Option.{option_map}
use Rattle.std.proofs.lemmas.Bool.{ne_eqb, eqb-false, eqb-true, ltb-true, ltb-false, cases_Bool}
use Rattle.std.proofs.lemmas.Option.{cond_some}
use Rattle.std.proofs.lemmas.List.Sums.{split_at_first, fails_before_first, passes_at_first}
use Rattle.std.proofs.lemmas.List.Splits.{length-slice_split}
use Rattle.std.proofs.lemmas.Grind.{common_steps}
use Rattle.schedule_text.specs.Cuts.{Lacks}
use Rattle.schedule_text.specs.Lines.{lines_in, lines_of}
use Rattle.schedule_text.specs.Words.{meant_by, octet_then, unescaped}

Lacks-head : (o x : ℕ) (xs : List ℕ) → Lacks o (x ∷ xs) → eqb x o ≡ false
Lacks-head o x xs h = ne_eqb x o (h 0 (omega arith))

Lacks-tail : (o x : ℕ) (xs : List ℕ) → Lacks o (x ∷ xs) → Lacks o xs
Lacks-tail o x xs h = λ i l. h (suc i) (omega arith)

pub Lacks-cons : (o x : ℕ) (xs : List ℕ) → eqb x o ≡ false → Lacks o xs → Lacks o (x ∷ xs)
Lacks-cons o x xs other h zero l = eqb-false x o other
Lacks-cons o x xs other h (suc i) l = h i (omega arith)

-- the first part ends at the first such octet
pub split_at : (o : ℕ) (xs ys : List ℕ) → Lacks o xs
    → slice_split (λ x. eqb x o) (xs ++ o ∷ ys) ≡ xs ∷ slice_split (λ x. eqb x o) ys
split_at o [] ys h =
    ap (λ b. cond b ([] ∷ slice_split (λ x. eqb x o) ys) (onto_first o (slice_split (λ x. eqb x o) ys))) (eqb-refl o)
  where
    eqb-refl : (n : ℕ) → eqb n n ≡ true
    eqb-refl n = search rules
split_at o (x ∷ xs) ys h =
    ap (λ b. cond b ([] ∷ slice_split (λ x. eqb x o) (xs ++ o ∷ ys)) (onto_first x
    (slice_split (λ x. eqb x o) (xs ++ o ∷ ys))))
    (Lacks-head o x xs h)
    ∙ ap (onto_first x) (split_at o xs ys (Lacks-tail o x xs h))

-- where there is none, there is one part
pub split_none : (o : ℕ) (xs : List ℕ) → Lacks o xs → slice_split (λ x. eqb x o) xs ≡ xs ∷ []
split_none o [] h = refl
split_none o (x ∷ xs) h =
    ap (λ b. cond b ([] ∷ slice_split (λ x. eqb x o) xs) (onto_first x (slice_split (λ x. eqb x o) xs)))
    (Lacks-head o x xs h)
    ∙ ap (onto_first x) (split_none o xs (Lacks-tail o x xs h))

-- where more parts follow, the first is a line
line_of_part : (xs : List ℕ) (parts : List (List ℕ)) → 0 < length parts → lines_in (xs ∷ parts) ≡ xs ∷ lines_in parts
line_of_part xs [] some = absurd (omega arith)
line_of_part xs (part ∷ parts) some = refl

some_part : (xs : List ℕ) → 0 < length (slice_split (λ x. eqb x 10) xs)
some_part xs = omega (arith, length-slice_split (λ x. eqb x 10) xs)

pub lines_at : (xs ys : List ℕ) → Lacks 10 xs → lines_of (xs ++ 10 ∷ ys) ≡ xs ∷ lines_of ys
lines_at xs ys h = ap lines_in (split_at 10 xs ys h) ∙ line_of_part xs (slice_split (λ x. eqb x 10) ys) (some_part ys)

pub lines_none : (xs : List ℕ) → 0 < length xs → Lacks 10 xs → lines_of xs ≡ xs ∷ []
lines_none xs some h =
    ap lines_in (split_none 10 xs h) ∙ ap (λ b. cond b [] (xs ∷ [])) (ne_eqb (length xs) 0 (λ none. omega arith))

front_lacks : (text : List ℕ) → Lacks 10 (before_first (λ x. eqb x 10) text)
front_lacks text = λ i l same.
    let at : eqb (get_or text i 0) 10 ≡ false =
    fails_before_first (λ x. eqb x 10) text i 0 (grind (arith, common_steps)) in
    let here : eqb (get_or (before_first (λ x. eqb x 10) text) i 0) 10 ≡ false = grind (arith, common_steps) in
    eqb-false _ _ here same

-- a line that ends at the first LF
pub line_found : (text : List ℕ) (at : ℕ) → position (λ x. eqb x 10) text ≡ Some at
    → lines_of text ≡ take at text ∷ lines_of (drop (at + 1) text)
line_found text at e =
    let found = cond_some _ _ _ e in
    let within : position_or_len (λ x. eqb x 10) text < length text = ltb-true _ _ found.0 in
    let parts = split_at_first (λ x. eqb x 10) text 0 within in
    let lf : get_or text (position_or_len (λ x. eqb x 10) text) 0 ≡ 10 =
    eqb-true _ _ (passes_at_first (λ x. eqb x 10) text 0 within) in
    let front : Lacks 10 (before_first (λ x. eqb x 10) text) = front_lacks text in
    let whole : text ≡ before_first (λ x. eqb x 10) text ++ 10 ∷ after_first (λ x. eqb x 10) text = parts
    ∙ ap (λ o. before_first (λ x. eqb x 10) text ++ o ∷ after_first (λ x. eqb x 10) text) lf in
    let line : lines_of text ≡ before_first (λ x. eqb x 10) text ∷ lines_of (after_first (λ x. eqb x 10) text) =
    ap lines_of whole
    ∙ lines_at (before_first (λ x. eqb x 10) text) (after_first (λ x. eqb x 10) text) front in
    let at_is : position_or_len (λ x. eqb x 10) text ≡ at = found.1 in
    rw (← at_is) line

-- the same, of the rest as a range
pub line_cut : (text : List ℕ) (at : ℕ) → position (λ x. eqb x 10) text ≡ Some at
    → lines_of text ≡ take at text ∷ lines_of (take (length text - (at + 1)) (drop (at + 1) text))
line_cut text at e =
    let all : take (length text - (at + 1)) (drop (at + 1) text) ≡ drop (at + 1) text = grind (arith, common_steps) in
    rw all (line_found text at e)

none_is_none : (b : Bool) (n : ℕ) → b ≡ true → cond b (Some n) None ≡ None → ⊥
none_is_none true n is e = cc
none_is_none false n is e = cc

-- the last line, which no LF ends
pub line_left : (text : List ℕ) → 0 < length text → position (λ x. eqb x 10) text ≡ None → lines_of text ≡ text ∷ []
line_left text some e = lines_none text some (λ i l same.
    let far : length text ≤ position_or_len (λ x. eqb x 10) text =
    elim (cases_Bool (ltb (position_or_len (λ x. eqb x 10) text) (length text))) [
      | inl within ↦ absurd (none_is_none _ _ within e)
      | inr far ↦ ltb-false _ _ far
    ] in
    eqb-false _ _ (fails_before_first (λ x. eqb x 10) text i 0 (omega arith)) same)

pub line_last : (text : List ℕ) → 0 < length text → position (λ x. eqb x 10) text ≡ None
    → lines_of text ≡ text ∷ lines_of (take (length text - length text) (drop (length text) text))
line_last text some e =
    let none : take (length text - length text) (drop (length text) text) ≡ [] = grind (arith, common_steps) in
    rw none (line_left text some e)

-- what stands before a backslash stands for itself
option_map-cons : (x : ℕ) (xs : List ℕ) (o : Option (List ℕ))
    → option_map (λ w. x ∷ w) (option_map (λ w. xs ++ w) o) ≡ option_map (λ w. (x ∷ xs) ++ w) o
option_map-cons x xs None = refl
option_map-cons x xs (Some w) = refl

option_map-nothing : (o : Option (List ℕ)) → o ≡ option_map (λ w. [] ++ w) o
option_map-nothing None = refl
option_map-nothing (Some w) = refl

then_is : (o : ℕ) (rest : Option (List ℕ)) → octet_then (Some o) rest ≡ option_map (λ w. o ∷ w) rest
then_is o None = refl
then_is o (Some rest) = refl

pub unescaped_octet : (o : ℕ) (text : List ℕ) → eqb o 92 ≡ false
    → unescaped (o ∷ text) ≡ option_map (λ w. o ∷ w) (unescaped text)
unescaped_octet o [] other = ap (λ b. cond b None (Some (o ∷ []))) other
unescaped_octet o (next ∷ text) other =
    ap (λ b. cond b (octet_then (meant_by next) (unescaped text)) (octet_then (Some o) (unescaped (next ∷ text)))) other
    ∙ then_is o (unescaped (next ∷ text))

pub unescaped_front : (xs ys : List ℕ) → Lacks 92 xs → unescaped (xs ++ ys) ≡ option_map (λ w. xs ++ w) (unescaped ys)
unescaped_front [] ys h = option_map-nothing (unescaped ys)
unescaped_front (x ∷ xs) ys h =
    unescaped_octet x (xs ++ ys) (Lacks-head 92 x xs h)
    ∙ ap (option_map (λ w. x ∷ w)) (unescaped_front xs ys (Lacks-tail 92 x xs h))
    ∙ option_map-cons x xs (unescaped ys)

pub unescaped_plain : (xs : List ℕ) → Lacks 92 xs → unescaped xs ≡ Some xs
unescaped_plain [] h = refl
unescaped_plain (x ∷ xs) h = unescaped_octet x xs (Lacks-head 92 x xs h)
    ∙ ap (option_map (λ w. x ∷ w)) (unescaped_plain xs (Lacks-tail 92 x xs h))

-- an escape
pub unescaped_escape : (letter o : ℕ) (ys : List ℕ) → meant_by letter ≡ Some o
    → unescaped (92 ∷ letter ∷ ys) ≡ option_map (λ w. o ∷ w) (unescaped ys)
unescaped_escape letter o ys e = ap (λ found. octet_then found (unescaped ys)) e ∙ then_is o (unescaped ys)

pub unescaped_bad : (after : List ℕ) → ((letter : ℕ) (rest : List ℕ) → after ≡ letter ∷ rest → meant_by letter ≡ None)
    → unescaped (92 ∷ after) ≡ None
unescaped_bad [] bad = refl
unescaped_bad (letter ∷ rest) bad = ap (λ found. octet_then found (unescaped rest)) (bad letter rest refl)
