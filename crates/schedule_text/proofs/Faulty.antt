-- Schedules that are read line by line.
use Rattle.std.proofs.Common.{◌≡◌, ℕ, suc, ◌+◌, Bool, true, false, ◌||◌, not, cond, List, [], ◌∷◌, ◌++◌, length, take}
use Rattle.std.proofs.Common.{refl, sym, ap, ◌∙◌}
use Rattle.std.proofs.Common.{arith, Option, Some, None, Result, Ok, Err, append_assoc, length-append}
use Rattle.std.specs.Prelude.{is_none, option_to_list}
use Rattle.std.specs.List.{list_any, before_first, position_or_len, cons_option}
use Rattle.std.specs.Option.{option_flatten}
use Rattle.std.proofs.lemmas.List.Folds.{list_any-append}
use Rattle.std.proofs.lemmas.List.Elements.{filter_map-append}
use Rattle.schedule_text.specs.Lines.{lines_of}
use Rattle.schedule_text.specs.Schedules.{Language, found_on, is_faulty, events_on, read_by}

-- the text's lines before the rest are so many, none is faulty, and these are their events
pub record AreRead {E : Type 0} (event_of : Language E) (text rest : List ℕ) (number : ℕ) (events : List E) : Type 0
  where
    pub lines : List (List ℕ)
    pub cut : lines_of text ≡ lines ++ lines_of rest
    pub counted : number ≡ length lines
    pub faultless : list_any (is_faulty event_of) lines ≡ false
    pub told : events ≡ events_on event_of lines

event_of_line : {E : Type 0} (event_of : Language E) (line : List ℕ) (found : Option E)
    → found_on event_of line ≡ Some found
    → events_on event_of (line ∷ []) ≡ option_to_list found
event_of_line event_of line None read = ap (λ o. cons_option (option_flatten o) []) read
event_of_line event_of line (Some event) read = ap (λ o. cons_option (option_flatten o) []) read

-- one line more
pub one_read : {E : Type 0} (event_of : Language E) (text rest after line : List ℕ) (number : ℕ) (events : List E)
    (found : Option E)
    → AreRead event_of text rest number events → lines_of rest ≡ line ∷ lines_of after
    → found_on event_of line ≡ Some found
    → AreRead event_of text after (number + 1) (events ++ option_to_list found)
one_read event_of text rest after line number events found r first read =
    let faulty = is_faulty event_of in record {
      lines = r.lines ++ line ∷ [];
      cut = r.cut ∙ ap (λ ls. r.lines ++ ls) first ∙ sym (append_assoc r.lines (line ∷ []) (lines_of after));
      counted = omega (arith, r.counted, length-append r.lines (line ∷ []));
      faultless = list_any-append faulty r.lines (line ∷ []) ∙ ap (λ b. b || list_any faulty (line ∷ [])) r.faultless
          ∙ ap (λ o. is_none o || false) read;
      told = ap (λ es. es ++ option_to_list found) r.told
          ∙ ap (λ es. events_on event_of r.lines ++ es) (sym (event_of_line event_of line found read))
          ∙ sym (filter_map-append (λ l. option_flatten (found_on event_of l)) r.lines (line ∷ []));
    }

-- what is told of lines
told_of : {E : Type 0} → Language E → List (List ℕ) → Result (List E) ℕ
told_of event_of lines =
    cond (list_any (is_faulty event_of) lines) (Err (length (before_first (is_faulty event_of) lines) + 1))
    (Ok (events_on event_of lines))

-- what stands before the first that passes
before_at : {X : Type 0} (p : X → Bool) (xs : List X) (y : X) (ys : List X) → list_any p xs ≡ false → p y ≡ true
    → before_first p (xs ++ y ∷ ys) ≡ xs
before_at p [] y ys none passes = ap (λ b. take (cond (not b) (1 + position_or_len p ys) 0) (y ∷ ys)) passes
before_at p (x ∷ xs) y ys none passes =
    let both = neither (p x) (list_any p xs) none in
    let next : 1 + position_or_len p (xs ++ y ∷ ys) ≡ suc (position_or_len p (xs ++ y ∷ ys)) = omega arith in
    ap (λ b. take (cond (not b) (1 + position_or_len p (xs ++ y ∷ ys)) 0) (x ∷ xs ++ y ∷ ys)) both.0
    ∙ ap (λ n. take n (x ∷ xs ++ y ∷ ys)) next ∙ ap (λ zs. x ∷ zs) (before_at p xs y ys both.1 passes)
  where
    neither : (a b : Bool) → (a || b) ≡ false → (a ≡ false) × (b ≡ false)
    neither true b e = absurd cc
    neither false b e = (refl, e)

-- the first faulty line
pub fault_read : {E : Type 0} (event_of : Language E) (text rest after line : List ℕ) (number : ℕ) (events : List E)
    → AreRead event_of text rest number events → lines_of rest ≡ line ∷ lines_of after → found_on event_of line ≡ None
    → read_by event_of text ≡ Err (number + 1)
unfolding told_of
fault_read event_of text rest after line number events r first bad =
    let faulty = is_faulty event_of in
    let lines = r.lines ++ line ∷ lines_of after in
    let whole : lines_of text ≡ lines = r.cut ∙ ap (λ ls. r.lines ++ ls) first in
    let this : faulty line ≡ true = ap is_none bad in
    let some : list_any faulty lines ≡ true =
    list_any-append faulty r.lines (line ∷ lines_of after)
    ∙ ap (λ b. b || list_any faulty (line ∷ lines_of after)) r.faultless
    ∙ ap (λ b. b || list_any faulty (lines_of after)) this in
    ap (told_of event_of) whole ∙ ap (λ b. cond b (Err (length (before_first faulty lines) + 1))
    (Ok (events_on event_of lines))) some
    ∙ ap (λ ls. Err (length ls + 1)) (before_at faulty r.lines line (lines_of after) r.faultless this)
    ∙ ap (λ n. Err (n + 1)) (sym r.counted)
