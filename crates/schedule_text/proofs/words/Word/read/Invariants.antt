use Rattle.std.proofs.Common.{◌≡◌, ◌++◌, length, string_bytes}
use Rattle.std.specs.Option.{option_map}
use denote.Text.{Utf8}
use denote.Shadow.{shadow}
use Rattle.schedule_text.specs.Words.{unescaped}
use Rattle.schedule_text.proofs.words.Word.read.Given as goal

-- what is read of the word, and what the rest stands for
abbrev pub invariant-loop-before : goal.invariant-loop-before
invariant-loop-before l =
    shadow (Utf8 l.rest) × (option_map (λ w. string_bytes l.text ++ w) (unescaped l.rest) ≡ unescaped l.part)

abbrev pub decreases-loop-before : goal.decreases-loop-before
decreases-loop-before l = length l.rest
