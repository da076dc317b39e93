-- What is printed, piece by piece.
use Rattle.std.proofs.Common.{◌≡◌, ℕ, suc, ◌+◌, ◌<◌, List, [], ◌∷◌, ◌++◌, length, get_or, take, drop, sym, ap, ◌∙◌}
use Rattle.std.proofs.Common.{arith, add-one}
use Rattle.std.proofs.Common.{drop-cons}
use Rattle.std.specs.Prelude.{slice_get, Option, Some, None}
use Rattle.std.specs.List.{flat_map, enumerate_from}
use Rattle.std.proofs.lemmas.List.{take_more, append-nil}
use Rattle.std.proofs.lemmas.List.Concat.{flat_map-append}
use Rattle.std.proofs.lemmas.Option.{get_or_from_slice_get, slice_get-get_or}
use Rattle.envelope.specs.declared.message.Letter.{Letter}
use Rattle.activities.specs.declared.input.JournalRow.{JournalRow}
use Rattle.trade.specs.Orders.{Partner}
use Rattle.schedule_text.specs.Words.{spelled}
use Rattle.schedule_shows.specs.Printed.{shown_partner, journal_line, frame_line}

-- one item more
flat_more : {X : Type 0} (f : X → List ℕ) (xs : List X) (i : ℕ) (d : X) → i < length xs
    → flat_map f (take (i + 1) xs) ≡ flat_map f (take i xs) ++ f (get_or xs i d)
flat_more f xs i d lt = rw (take_more xs i d lt)
    (flat_map-append f (take i xs) (get_or xs i d ∷ [])
    ∙ ap (λ (x : List ℕ). flat_map f (take i xs) ++ x) (append-nil (f (get_or xs i d))))

-- one octet of a word more
pub word_more : (word : List ℕ) (i : ℕ) → i < length word
    → flat_map spelled (take (i + 1) word) ≡ flat_map spelled (take i word) ++ spelled (get_or word i 0)
word_more word i lt = flat_more spelled word i 0 lt

pub partners_more : (ps : List Partner) (i : ℕ) (p : Partner) → i < length ps → slice_get ps i ≡ Some p
    → flat_map shown_partner (take (i + 1) ps) ≡ flat_map shown_partner (take i ps) ++ shown_partner p
partners_more ps i p lt at =
    let there : get_or ps i p ≡ p = get_or_from_slice_get ps i p p at in
    flat_more shown_partner ps i p lt ∙ ap (λ q. flat_map shown_partner (take i ps) ++ shown_partner q) there

no_none : {X : Type 0} (o : Option X) (x : X) → o ≡ Some x → o ≡ None → ⊥
no_none o x some none = let both : Some x ≡ None = sym some ∙ none in cc

-- each index below the count has a partner
pub partner_is : (ps : List Partner) (i : ℕ) → i < length ps → slice_get ps i ≡ None → ⊥
partner_is [] i lt none = absurd (omega arith)
partner_is (p ∷ ps) i lt none = no_none _ (get_or (p ∷ ps) i p) (slice_get-get_or (p ∷ ps) i p lt) none

pub letters_more : (ls : List Letter) (i : ℕ) (l : Letter) → i < length ls → l ≡ get_or ls i l
    → flat_map frame_line (take (i + 1) ls) ≡ flat_map frame_line (take i ls) ++ frame_line l
letters_more ls i l lt at =
    flat_more frame_line ls i l lt ∙ ap (λ q. flat_map frame_line (take i ls) ++ frame_line q) (sym at)

-- the lines of rows of which the first has this position
abbrev pub lines_from : {C : Type 0} → (C → List ℕ) → ℕ → List (JournalRow C) → List ℕ
lines_from shown pos rows = flat_map (λ at. journal_line shown at.0 at.1) (enumerate_from pos rows)

-- one row more
pub rows_more : {C : Type 0} (shown : C → List ℕ) (pos : ℕ) (rows : List (JournalRow C)) (i : ℕ) (row : JournalRow C)
    → i < length rows
    → row ≡ get_or rows i row
    → lines_from shown pos (drop i rows) ≡ journal_line shown pos row ++ lines_from shown (pos + 1) (drop (i + 1) rows)
rows_more shown pos rows i row lt at =
    let first : drop i rows ≡ row ∷ drop (i + 1) rows =
    rw add-one (drop-cons rows i row lt ∙ ap (λ r. r ∷ drop (suc i) rows) (sym at)) in
    ap (lines_from shown pos) first
