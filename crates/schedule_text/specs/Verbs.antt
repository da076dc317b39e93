-- The first words of lines.
use Rattle.std.specs.Prelude.{ℕ, List, [], ◌∷◌, codes, Option}
use Rattle.std.specs.Map.{lookup}
use Rattle.std.specs.Str.{bytes_eq}
use Rattle.schedule_text.specs.declared.verb.Verb.{Verb}
use Rattle.schedule_text.specs.declared.verb.Verb.TheVariants as verb

-- the verbs, with their words
abbrev pub verbs : List (List ℕ × Verb)
verbs =
    (codes "place", verb.Place) ∷ (codes "cancel", verb.Cancel) ∷ (codes "receive", verb.Receive) ∷
    (codes "limit", verb.Limit)
    ∷ (codes "open", verb.Open) ∷ (codes "cut", verb.Cut) ∷ (codes "fill", verb.Fill) ∷ (codes "resend", verb.Resend)
    ∷ (codes "carry", verb.Carry) ∷ (codes "take", verb.Take) ∷ (codes "drain", verb.Drain) ∷
    (codes "repeat", verb.Repeat)
    ∷ (codes "fail", verb.Fail) ∷ (codes "reopen", verb.Reopen) ∷ (codes "stop", verb.Stop) ∷ (codes "pump", verb.Pump)
    ∷ (codes "show", verb.Show) ∷ (codes "pair", verb.Pair) ∷ (codes "frames", verb.Frames) ∷
    (codes "journal", verb.Journal)
    ∷ (codes "agreement", verb.Agreement) ∷ []

-- the verb that a word is
abbrev pub verb_of : List ℕ → Option Verb
verb_of word = lookup (bytes_eq word) verbs
