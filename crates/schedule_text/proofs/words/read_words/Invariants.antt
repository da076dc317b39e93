use Rattle.std.proofs.Common.{◌≡◌, ◌++◌, length}
use Rattle.std.specs.Option.{option_map}
use denote.Text.{Utf8}
use denote.Shadow.{shadow}
use Rattle.schedule_text.specs.Words.{words_of}
use Rattle.schedule_text.proofs.words.read_words.Given as goal

-- the words so far, and those of the rest
abbrev pub invariant-loop-part : goal.invariant-loop-part
invariant-loop-part l =
    shadow (Utf8 l.rest) × (option_map (λ words. l.words.items ++ words) (words_of l.rest) ≡ words_of l.line)

abbrev pub decreases-loop-part : goal.decreases-loop-part
decreases-loop-part l = length l.rest
