-- What is printed is read again.
use Rattle.std.proofs.Common.{◌≡◌, ℕ, ◌<◌, List, [], ◌∷◌, ◌++◌, length, false, eqb}
use Rattle.std.proofs.Common.{refl, sym, ap, subst, ◌∙◌, append_assoc, arith, Some, inl, inr}
use Rattle.std.specs.List.{All, AllByRecursion as ByRecursion, flat_map}
use Rattle.std.specs.Option.{option_map}
use Rattle.std.proofs.lemmas.Bool.{cases_Bool, eqb-true}
use Rattle.std.proofs.lemmas.List.{append-nil}
use Rattle.std.proofs.lemmas.List.Concat.{flat_map-cons}
use Rattle.std.proofs.lemmas.List.Elements.{recursion_from_All, All-from_recursion}
use Rattle.schedule_text.specs.Words.{spelled, escaped, unescaped, word_of}
use Rattle.schedule_text.specs.Cuts.{Lacks}
use Rattle.schedule_text.specs.Lines.{lines_of, ended}
use Rattle.schedule_text.proofs.Cuts.{Lacks-cons, lines_at, lines_none, unescaped_octet, unescaped_escape}

-- written lines, and what stands behind them
lines_again : (lines : List (List ℕ)) (more : List ℕ) → ByRecursion (Lacks 10) lines
    → lines_of (ended lines ++ more) ≡ lines ++ lines_of more
lines_again [] more lacks = refl
lines_again (line ∷ lines) more lacks =
    let apart : ended (line ∷ lines) ++ more ≡ line ++ 10 ∷ (ended lines ++ more) =
    append_assoc (line ++ 10 ∷ []) (ended lines) more
    ∙ append_assoc line (10 ∷ []) (ended lines ++ more) in
    ap lines_of apart ∙ lines_at line (ended lines ++ more) lacks.0
    ∙ ap (λ ls. line ∷ ls) (lines_again lines more lacks.1)

pub ended_again : (lines : List (List ℕ)) → All (Lacks 10) lines → lines_of (ended lines) ≡ lines
ended_again lines lacks =
    sym (ap lines_of (append-nil (ended lines))) ∙ lines_again lines [] (recursion_from_All (Lacks 10) lines lacks)
    ∙ append-nil lines

pub unended_again : (lines : List (List ℕ)) (last : List ℕ) → All (Lacks 10) lines → Lacks 10 last → 0 < length last
    → lines_of (ended lines ++ last) ≡ lines ++ last ∷ []
unended_again lines last lacks last_lacks some =
    lines_again lines last (recursion_from_All (Lacks 10) lines lacks)
    ∙ ap (λ ls. lines ++ ls) (lines_none last some last_lacks)

-- a text as it is written: lines that LF ends, and what stands behind them
record Written (text : List ℕ) : Type 0 where
  lines : List (List ℕ)
  last : List ℕ
  lines_lack : ByRecursion (Lacks 10) lines
  last_lacks : Lacks 10 last
  is : text ≡ ended lines ++ last

written : (text : List ℕ) → Written text
written [] = record { lines = []; last = []; lines_lack = tt; last_lacks = (λ i l same. omega arith); is = refl }
written (o ∷ os) = elim (cases_Bool (eqb o 10)) [
  | inl e ↦ lf (written os) (eqb-true o 10 e)
  | inr other ↦ longer (written os).lines (written os).last (written os).lines_lack (written os).last_lacks
      (written os).is other
]
  where
    lf : Written os → o ≡ 10 → Written (o ∷ os)
    lf w e = record {
      lines = [] ∷ w.lines;
      last = w.last;
      lines_lack = ((λ i l same. omega arith), w.lines_lack);
      last_lacks = w.last_lacks;
      is = rw e (ap (λ t. 10 ∷ t) w.is);
    }

    longer : (lines : List (List ℕ)) (last : List ℕ) → ByRecursion (Lacks 10) lines → Lacks 10 last
        → os ≡ ended lines ++ last
        → eqb o 10 ≡ false → Written (o ∷ os)
    longer [] last none lacks is other =
        record {
          lines = [];
          last = o ∷ last;
          lines_lack = tt;
          last_lacks = Lacks-cons 10 o last other lacks;
          is = ap (λ t. o ∷ t) is;
        }
    longer (line ∷ lines) last all lacks is other = record {
      lines = (o ∷ line) ∷ lines;
      last = last;
      lines_lack = (Lacks-cons 10 o line other all.0, all.1);
      last_lacks = lacks;
      is = ap (λ t. o ∷ t) is;
    }

pub each_is_written : (text : List ℕ) → (lines : List (List ℕ)) × (last : List ℕ) × All (Lacks 10) lines × Lacks 10 last
    × (text ≡ ended lines ++ last)
each_is_written text =
    let w = written text in
    (w.lines, w.last, All-from_recursion (Lacks 10) w.lines w.lines_lack, w.last_lacks, w.is)

-- one octet, as it is printed
unescaped_spelled : (o : ℕ) (rest : List ℕ) → unescaped (spelled o ++ rest) ≡ option_map (λ w. o ∷ w) (unescaped rest)
unescaped_spelled o rest =
    let Again : ℕ → Type 0 = λ x. unescaped (spelled x ++ rest) ≡ option_map (λ w. x ∷ w) (unescaped rest) in
    elim (cases_Bool (eqb o 92)) [
      | inl e ↦ subst Again (sym (eqb-true o 92 e)) (unescaped_escape 92 92 rest refl)
      | inr backslash ↦ elim (cases_Bool (eqb o 10)) [
        | inl e ↦ subst Again (sym (eqb-true o 10 e)) (unescaped_escape 110 10 rest refl)
        | inr lf ↦ elim (cases_Bool (eqb o 13)) [
          | inl e ↦ subst Again (sym (eqb-true o 13 e)) (unescaped_escape 114 13 rest refl)
          | inr cr ↦ elim (cases_Bool (eqb o 32)) [
            | inl e ↦ subst Again (sym (eqb-true o 32 e)) (unescaped_escape 115 32 rest refl)
            | inr space ↦ plain o rest backslash lf cr space
          ]
        ]
      ]
    ]
  where
    plain : (o : ℕ) (rest : List ℕ) → eqb o 92 ≡ false → eqb o 10 ≡ false → eqb o 13 ≡ false → eqb o 32 ≡ false
        → unescaped (spelled o ++ rest) ≡ option_map (λ w. o ∷ w) (unescaped rest)
    plain o rest backslash lf cr space =
        let spelled_so : spelled o ≡ o ∷ [] = rw (backslash, lf, cr, space) refl in
        ap (λ t. unescaped (t ++ rest)) spelled_so ∙ unescaped_octet o rest backslash

unescaped_escaped : (word : List ℕ) → unescaped (escaped word) ≡ Some word
unescaped_escaped [] = refl
unescaped_escaped (o ∷ os) =
    ap unescaped (flat_map-cons spelled o os) ∙ unescaped_spelled o (flat_map spelled os)
    ∙ ap (option_map (λ w. o ∷ w)) (unescaped_escaped os)

some_spelled : (o : ℕ) (rest : List ℕ) → word_of (spelled o ++ rest) ≡ unescaped (spelled o ++ rest)
some_spelled o rest = first (spelled o) (long o) rest
  where
    first : (front : List ℕ) → 0 < length front → (rest : List ℕ) → word_of (front ++ rest) ≡ unescaped (front ++ rest)
    first [] some rest = absurd (omega arith)
    first (x ∷ xs) some rest = refl

    long : (o : ℕ) → 0 < length (spelled o)
    long o = elim (cases_Bool (eqb o 92)) [
      | inl e ↦ rw e (omega arith)
      | inr backslash ↦ elim (cases_Bool (eqb o 10)) [
        | inl e ↦ rw (backslash, e) (omega arith)
        | inr lf ↦ elim (cases_Bool (eqb o 13)) [
          | inl e ↦ rw (backslash, lf, e) (omega arith)
          | inr cr ↦ elim (cases_Bool (eqb o 32)) [
            | inl e ↦ rw (backslash, lf, cr, e) (omega arith)
            | inr space ↦ rw (backslash, lf, cr, space) (omega arith)
          ]
        ]
      ]
    ]

pub word_again : (word : List ℕ) → 0 < length word → word_of (escaped word) ≡ Some word
word_again [] some = absurd (omega arith)
word_again (o ∷ os) some =
    ap word_of (flat_map-cons spelled o os) ∙ some_spelled o (flat_map spelled os)
    ∙ sym (ap unescaped (flat_map-cons spelled o os))
    ∙ unescaped_escaped (o ∷ os)
