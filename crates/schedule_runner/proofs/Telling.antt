-- What steps leave of the commands in the journals.
use Rattle.std.proofs.Common.{◌≡◌, ℕ, suc, ◌+◌, List, [], ◌∷◌, ◌++◌, Option, Some, None, refl, ap, sym, ◌∙◌, arith}
use Rattle.std.proofs.Common.{length, length-append, append_assoc}
use Rattle.std.proofs.lemmas.List.{append-nil}
use Rattle.activities.specs.declared.input.JournalRow.{JournalRow}
use Rattle.schedule_text.specs.declared.event.Event.{Event}
use Rattle.schedule_text.specs.declared.event.SeatCommand.{SeatCommand}
use Rattle.schedule_text.specs.declared.outcome.Outcome.{Outcome}
use Rattle.schedule_runner.specs.Paths.{IsPath}
use Rattle.schedule_runner.specs.Told.{command_at, commands_from, TellsCommand, AreTold, RecordsTold}

-- ---- rows behind rows

from_more : {C : Type 0} (pos : ℕ) (xs ys : List (JournalRow C)) (k : ℕ) → k ≡ pos + length xs
    → commands_from pos (xs ++ ys) ≡ commands_from pos xs ++ commands_from k ys
from_more pos [] ys k e = ap (λ (n : ℕ). commands_from n ys) (let h : pos ≡ k = omega (arith, e) in h)
from_more pos (x ∷ xs) ys k e =
    ap (λ l. command_at pos x.entity x.input ++ l) (from_more (suc pos) xs ys k (omega (arith, e)))
    ∙ sym (append_assoc (command_at pos x.entity x.input) (commands_from (suc pos) xs) (commands_from k ys))

-- ---- one step

-- a step leaves this of one journal: rows behind it, of which the command is told
abbrev pub RecordsOne : {C : Type 0} → (Event → Option (SeatCommand C)) → Event → Outcome
    → (old new : List (JournalRow C)) → Type 0
RecordsOne {C} asks e o old new = (more : List (JournalRow C)) × (new ≡ old ++ more)
    × TellsCommand (asks e) o (commands_from (suc (length old)) more)

-- ---- steps of a path

module _ {Z C : Type 0} (Step : Event → Outcome → Z → Z → Type 0) (asks : Event → Option (SeatCommand C))
    (journal : Z → List (JournalRow C))
    (one : (e : Event) (o : Outcome) (a b : Z) → Step e o a b → RecordsOne asks e o (journal a) (journal b)) where
  pub path_told : (es : List Event) (os : List Outcome) (a b : Z) → IsPath Step es os a b
      → RecordsTold asks es os (journal a) (journal b)
  path_told [] [] a b path = ([], ap journal path ∙ sym (append-nil (journal a)), refl)
  path_told [] (o ∷ os) a b path = absurd path
  path_told (e ∷ es) [] a b path = absurd path
  path_told (e ∷ es) (o ∷ os) a b path =
      let first = one e o a path.0 path.1 in
      let rest = path_told es os path.0 b path.2 in
      let k = suc (length (journal path.0)) in
      let long : length (journal path.0) ≡ length (journal a) + length first.0 =
      ap length first.1 ∙ length-append (journal a) first.0 in (
        first.0 ++ rest.0,
        rest.1 ∙ ap (λ l. l ++ rest.0) first.1 ∙ append_assoc (journal a) first.0 rest.0,
        (
          commands_from (suc (length (journal a))) first.0,
          commands_from k rest.0,
          first.2,
          rest.2,
          from_more (suc (length (journal a))) first.0 rest.0 k (omega (arith, long)),
        ),
      )

-- ---- events that ask for nothing

-- no event of these asks for a command
abbrev pub AskNothing : {C : Type 0} → (Event → Option (SeatCommand C)) → List Event → Type 0
AskNothing asks [] = Unit {0}
AskNothing asks (e ∷ es) = (asks e ≡ None) × AskNothing asks es

tells_none : {C : Type 0} (asked : Option (SeatCommand C)) (o : Outcome) (told : List (ℕ × SeatCommand C))
    → asked ≡ None
    → TellsCommand asked o told → told ≡ []
tells_none None o told none h = h
tells_none (Some a) o told none h = absurd (cc)

pub told_nothing : {C : Type 0} (asks : Event → Option (SeatCommand C)) (es : List Event) (os : List Outcome)
    (told : List (ℕ × SeatCommand C))
    → AskNothing asks es → AreTold asks es os told → told ≡ []
told_nothing asks [] [] told none h = h
told_nothing asks [] (o ∷ os) told none h = absurd h
told_nothing asks (e ∷ es) [] told none h = absurd h
told_nothing asks (e ∷ es) (o ∷ os) told none h =
    let a = tells_none (asks e) o h.0 none.0 h.2 in
    let b = told_nothing asks es os h.1 none.1 h.3 in
    h.4 ∙ ap (λ l. l ++ h.1) a ∙ b

pub nothing_append : {C : Type 0} (asks : Event → Option (SeatCommand C)) (es more : List Event) → AskNothing asks es
    → AskNothing asks more
    → AskNothing asks (es ++ more)
nothing_append asks [] more a b = b
nothing_append asks (e ∷ es) more a b = (a.0, nothing_append asks es more a.1 b)
