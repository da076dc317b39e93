-- Examples: the words of statuses and of lines' phases.
use Rattle.std.proofs.Common.{◌≡◌, refl}
use Rattle.std.specs.Prelude.{codes, Some, None}
use Rattle.trade.specs.declared.line_phase.LinePhase.TheVariants as line
use Rattle.trade.specs.declared.status.Status.TheVariants as status
use Rattle.activities.specs.Words.{IsWordReading}
use Rattle.trade.specs.Words.{status_word, stock_line_word, account_line_word}

-- how far an order is has a word
statuses_have_words : (status_word status.Open ≡ codes "open") × (status_word status.Confirmed ≡ codes "confirmed")
    × (status_word status.Cancelled ≡ codes "cancelled")
statuses_have_words = (refl, refl, refl)

-- and so has a line: what a stock ships, an account bills
lines_have_words : (stock_line_word line.Held ≡ codes "held") × (stock_line_word line.Refused ≡ codes "refused")
    × (stock_line_word line.Done ≡ codes "shipped") × (stock_line_word line.Released ≡ codes "released")
    × (account_line_word line.Held ≡ codes "held") × (account_line_word line.Refused ≡ codes "refused")
    × (account_line_word line.Done ≡ codes "billed") × (account_line_word line.Released ≡ codes "released")
lines_have_words = (refl, refl, refl, refl, refl, refl, refl, refl)

-- a word is read as what has it, and not as another; what has a word is not read as nothing
words_are_read : IsWordReading stock_line_word (codes "shipped") (Some line.Done)
    × (IsWordReading stock_line_word (codes "shipped") (Some line.Held) → ⊥)
    × (IsWordReading stock_line_word (codes "shipped") None → ⊥)
    × (IsWordReading account_line_word (codes "shipped") (Some line.Done) → ⊥)
words_are_read = (refl, λ e. absurd (cc), λ none. none line.Done refl, λ e. absurd (cc))
