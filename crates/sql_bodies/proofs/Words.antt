-- Reading a word answers what has that word.
use Rattle.std.proofs.Common.{◌≡◌, ℕ, List, Option, Some, None, refl, sym, ap, ◌∙◌}
use Rattle.std.specs.Str.{bytes_eq}
use Rattle.std.proofs.lemmas.Slice.Eq.{bytes_eq-Decides}
use Rattle.base.specs.Number.{IsNumber}
use Rattle.envelope.specs.Reading.{as_number}
use Rattle.envelope.proofs.Texts.{number_made}
use Rattle.envelope.proofs.Answered.{none_there}
use Rattle.envelope.proofs.Finding.{find-passes}
use Rattle.activities.specs.Words.{phase_word, IsWordReading}
use Rattle.activities.specs.declared.phase.Phase.{Phase}
use Rattle.activities.specs.declared.phase.Phase.TheVariants as phase
use Rattle.trade.specs.Words.{status_word, stock_line_word, account_line_word}
use Rattle.trade.specs.declared.line_phase.LinePhase.{LinePhase}
use Rattle.trade.specs.declared.line_phase.LinePhase.TheVariants as line
use Rattle.trade.specs.declared.status.Status.{Status}
use Rattle.trade.specs.declared.status.Status.TheVariants as status
use Rattle.sql_bodies.specs.Words.{with_word, statuses, phases, line_phases, status_in, phase_in, stock_phase_in}
use Rattle.sql_bodies.specs.Words.{account_phase_in}

-- where each is found by its word, what a word is read as is what has it
word_read : {A : Type 0} (word_of : A → List ℕ) (all : List A) → ((a : A) → with_word word_of all (word_of a) ≡ Some a)
    → (word : List ℕ) (result : Option A) → IsWordReading word_of word result → result ≡ with_word word_of all word
word_read word_of all back word (Some a) is = sym (back a) ∙ ap (with_word word_of all) is
word_read word_of all back word None none = sym (none_there (with_word word_of all word)
    (λ a found. none a ((bytes_eq-Decides (word_of a) word).0
    (find-passes (λ b. bytes_eq (word_of b) word) all a found))))

pub status_back : (s : Status) → status_in (status_word s) ≡ Some s
status_back status.Open = refl
status_back status.Confirmed = refl
status_back status.Cancelled = refl

pub phase_back : (p : Phase) → phase_in (phase_word p) ≡ Some p
phase_back phase.Requested = refl
phase_back phase.Tentative = refl
phase_back phase.Refused = refl
phase_back phase.Confirmed = refl
phase_back phase.Cancelled = refl

pub stock_phase_back : (p : LinePhase) → stock_phase_in (stock_line_word p) ≡ Some p
stock_phase_back line.Held = refl
stock_phase_back line.Refused = refl
stock_phase_back line.Done = refl
stock_phase_back line.Released = refl

pub account_phase_back : (p : LinePhase) → account_phase_in (account_line_word p) ≡ Some p
account_phase_back line.Held = refl
account_phase_back line.Refused = refl
account_phase_back line.Done = refl
account_phase_back line.Released = refl

-- a status is read just from its own word
pub status_read : (word : List ℕ) (result : Option Status) → IsWordReading status_word word result
    → result ≡ status_in word
status_read word result is = word_read status_word statuses status_back word result is

-- a phase is read just from its own word
pub phase_read : (word : List ℕ) (result : Option Phase) → IsWordReading phase_word word result → result ≡ phase_in word
phase_read word result is = word_read phase_word phases phase_back word result is

-- a phase at a stock is read just from its own word
pub stock_phase_read : (word : List ℕ) (result : Option LinePhase) → IsWordReading stock_line_word word result
    → result ≡ stock_phase_in word
stock_phase_read word result is = word_read stock_line_word line_phases stock_phase_back word result is

-- a phase at an account is read just from its own word
pub account_phase_read : (word : List ℕ) (result : Option LinePhase) → IsWordReading account_line_word word result
    → result ≡ account_phase_in word
account_phase_read word result is = word_read account_line_word line_phases account_phase_back word result is

-- a number from 1 to 2^40 is one
pub as_number_is : (n : ℕ) → IsNumber n → as_number n ≡ Some n
as_number_is n is = sym (number_made (Some n) n (refl, is))
