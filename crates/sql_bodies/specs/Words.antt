-- What the words of columns say.
use Rattle.std.specs.Prelude.{ℕ, List, [], ◌∷◌, find, Option}
use Rattle.std.specs.Str.{bytes_eq}
use Rattle.activities.specs.Words.{phase_word}
use Rattle.activities.specs.declared.phase.Phase.{Phase}
use Rattle.activities.specs.declared.phase.Phase.TheVariants as phase
use Rattle.trade.specs.Words.{status_word, stock_line_word, account_line_word}
use Rattle.trade.specs.declared.line_phase.LinePhase.{LinePhase}
use Rattle.trade.specs.declared.line_phase.LinePhase.TheVariants as line
use Rattle.trade.specs.declared.status.Status.{Status}
use Rattle.trade.specs.declared.status.Status.TheVariants as status

-- which of these has that word
abbrev pub with_word : {A : Type 0} → (A → List ℕ) → List A → List ℕ → Option A
with_word word_of all word = find (λ a. bytes_eq (word_of a) word) all

abbrev pub statuses : List Status
statuses = status.Open ∷ status.Confirmed ∷ status.Cancelled ∷ []

abbrev pub phases : List Phase
phases = phase.Requested ∷ phase.Tentative ∷ phase.Refused ∷ phase.Confirmed ∷ phase.Cancelled ∷ []

abbrev pub line_phases : List LinePhase
line_phases = line.Held ∷ line.Refused ∷ line.Done ∷ line.Released ∷ []

abbrev pub status_in : List ℕ → Option Status
status_in word = with_word status_word statuses word

abbrev pub phase_in : List ℕ → Option Phase
phase_in word = with_word phase_word phases word

abbrev pub stock_phase_in : List ℕ → Option LinePhase
stock_phase_in word = with_word stock_line_word line_phases word

abbrev pub account_phase_in : List ℕ → Option LinePhase
account_phase_in word = with_word account_line_word line_phases word
