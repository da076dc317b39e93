-- Octets as text of a line: one front after the other, and what is printed is read back.
use Rattle.std.proofs.Common.{◌≡◌, ◌≢◌, ◌<◌, ◌≤◌, ℕ, ◌+◌, ◌/◌, ◌%◌, ◌&&◌, List, [], ◌∷◌, ◌++◌, eqb, ltb, leb}
use Rattle.std.proofs.Common.{Some, None, refl, sym, ap, ◌∙◌, arith, inl, inr, get_or, suc}
use Rattle.std.specs.List.{flat_map}
use Rattle.std.proofs.lemmas.Bool.{cases_Bool, eqb-true, ltb-true, ltb-false, le-leb, lt-leb}
use Rattle.text.specs.Escapes.{digit_of, digit, front, Spells, spelled}

-- one more octet was read
pub spells_more : (text octets rest behind : List ℕ) (o : ℕ) → Spells text octets rest → front rest ≡ Some (o, behind)
    → Spells text (octets ++ o ∷ []) behind
spells_more text [] rest behind o e f = (behind, rw e f, refl)
spells_more text (p ∷ octets) rest behind o h f = (h.0, h.1, spells_more h.0 octets rest behind o h.2 f)

found_is_some : (found : ℕ × List ℕ) → Some found ≡ None → ⊥
found_is_some found e = absurd cc

found_is_one : (a b : ℕ × List ℕ) → Some a ≡ Some b → b ≡ a
found_is_one a b e = cc

-- where a front stands for no octet, the text stands for none
pub spells_none : (text octets rest all : List ℕ) → Spells text octets rest → front rest ≡ None → rest ≢ []
    → Spells text all [] → ⊥
spells_none text [] rest [] e f more h = more (sym e ∙ h)
spells_none text [] rest (p ∷ all) e f more h = found_is_some (p, h.0) (sym h.1 ∙ ap front e ∙ f)
spells_none text (o ∷ octets) rest [] e f more h = found_is_some (o, e.0) (sym e.1 ∙ ap front h)
spells_none text (o ∷ octets) rest (p ∷ all) e f more h =
    let same : h.0 ≡ e.0 = ap (λ (x : ℕ × List ℕ). x.1) (found_is_one (o, e.0) (p, h.0) (sym e.1 ∙ h.1)) in
    let behind : Spells e.0 all [] = rw (← same) h.2 in
    spells_none e.0 octets rest all e.2 f more behind

digit_back : (v : ℕ) → v < 16 → digit_of (digit v) ≡ Some v
digit_back v small = elim (cases_Bool (ltb v 10)) [
  | inl e ↦
      let below : v < 10 = ltb-true v 10 e in
      rw (e, le-leb 48 (48 + v) (omega arith), le-leb (48 + v) 57 (omega arith)) (ap Some (omega arith))
  | inr e ↦
      let above : 10 ≤ v = ltb-false v 10 e in
      rw (e, le-leb 48 (87 + v) (omega arith), lt-leb (87 + v) 57 (omega arith), le-leb 97 (87 + v) (omega arith))
      (rw (le-leb (87 + v) 102 (omega arith)) (ap Some (omega arith)))
]

front_spelled : (o : ℕ) (rest : List ℕ) → o < 256 → front (spelled o ++ rest) ≡ Some (o, rest)
front_spelled o rest small = elim (cases_Bool (eqb o 92)) [
  | inl e ↦ rw (eqb-true o 92 e) refl
  | inr e ↦ elim (cases_Bool (eqb o 10)) [
    | inl f ↦ rw (eqb-true o 10 f) refl
    | inr f ↦ elim (cases_Bool (eqb o 13)) [
      | inl g ↦ rw (eqb-true o 13 g) refl
      | inr g ↦ elim (cases_Bool (leb 32 o && leb o 126)) [
        | inl p ↦ rw (e, f, g, p) (rw e refl)
        | inr p ↦ rw (e, f, g, p) (rw (digit_back (o / 16) (omega arith), digit_back (o % 16) (omega arith))
            (ap (λ (x : ℕ). Some (x, rest)) (omega arith)))
      ]
    ]
  ]
]

-- what is printed of octets stands for them
pub spelled_back : (octets : List ℕ) → ((i : ℕ) → get_or octets i 0 < 256) → Spells (flat_map spelled octets) octets []
spelled_back [] small = refl
spelled_back (o ∷ octets) small = (
  flat_map spelled octets,
  front_spelled o (flat_map spelled octets) (small 0),
  spelled_back octets (λ i. small (suc i)),
)
