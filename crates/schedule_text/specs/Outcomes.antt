-- The lines that tell what became of events.
use Rattle.std.specs.Prelude.{ℕ, true, false, List, [], ◌∷◌, ◌++◌, codes, decimal}
use Rattle.std.specs.String.{string_bytes}
use Rattle.base.specs.Entity.{Entity, text_of}
use Rattle.base.specs.declared.pair.Pair.{Pair}
use Rattle.activities.specs.Faults.{refusal_number}
use Rattle.schedule_text.specs.Words.{escaped}
use Rattle.schedule_text.specs.declared.outcome.Pieces.{Pieces}
use Rattle.schedule_text.specs.declared.outcome.Pieces.TheVariants as pieces
use Rattle.schedule_text.specs.declared.outcome.Outcome.{Outcome}
use Rattle.schedule_text.specs.declared.outcome.Outcome.TheVariants.{Committed, Opened, Already, Closed, Cut, Sent, Due}
use Rattle.schedule_text.specs.declared.outcome.Outcome.TheVariants.{Carried, Connected}
use Rattle.schedule_text.specs.declared.outcome.Outcome.TheVariants.{Receipt, Handled, Repeated, Held, Settled, Error}
use Rattle.schedule_text.specs.declared.outcome.Outcome.TheVariants.{Idle, Drained, Again}
use Rattle.schedule_text.specs.declared.outcome.Outcome.TheVariants.{Absent, Armed, Reopened, Stopped, Pumped, Refused}
use Rattle.schedule_text.specs.declared.outcome.Outcome.TheVariants.{NotDone, Shown}
use Rattle.schedule_text.specs.declared.outcome.Outcome.TheVariants.{Agreement}

-- a text and a number
abbrev pub told_number : List ℕ → ℕ → List ℕ
told_number text number = text ++ decimal number

-- an entity's text, escaped as a word
abbrev pub shown_entity : Entity → List ℕ
shown_entity e = escaped (text_of e)

-- a pair: its sender and its receiver
abbrev pub shown_pair : Pair → List ℕ
shown_pair pair = shown_entity pair.from ++ codes " " ++ shown_entity pair.to

-- the words that tell an outcome; what is shown has lines of its own
abbrev pub told : Outcome → List ℕ
told (Committed pos) = told_number (codes "committed ") pos
told Opened = codes "opened"
told Already = codes "already"
told Closed = codes "closed"
told Cut = codes "cut"
told (Sent count) = told_number (codes "sent ") count
told Due = codes "due"
told (Carried count) = told_number (codes "carried ") count
told Connected = codes "connected"
told (Receipt number) = told_number (codes "receipt ") number
told (Handled pos) = told_number (codes "handled ") pos
told Repeated = codes "repeated"
told Held = codes "held"
told (Settled mark) = told_number (codes "settled ") mark
told (Error text) = codes "error " ++ string_bytes text
told Idle = codes "idle"
told (Drained pair number) = codes "drained " ++ shown_pair pair ++ codes " " ++ decimal number
told (Again number) = told_number (codes "again ") number
told Absent = codes "none"
told Armed = codes "armed"
told Reopened = codes "reopened"
told Stopped = codes "stopped"
told Pumped = codes "pumped"
told (Refused number) = told_number (codes "refused ") number
told (NotDone refusal) = told_number (codes "refused 61 ") (refusal_number refusal)
told (Shown lines) = []
told (Agreement true) = codes "agreement true"
told (Agreement false) = codes "agreement false"

-- the lines that tell an outcome: its words, or what is shown
abbrev pub outcome_lines : Outcome → List ℕ
outcome_lines (Shown lines) = lines.items
outcome_lines outcome = told outcome ++ 10 ∷ []

-- the lines that pieces make
abbrev pub told_lines : Pieces → List ℕ
told_lines (pieces.Number words number) = words.now ++ decimal number ++ 10 ∷ []
told_lines (pieces.Text words text) = words.now ++ text.now ++ 10 ∷ []
told_lines (pieces.OfPair words pair number) =
    words.now ++ shown_pair pair.now ++ (codes " " ++ decimal number ++ 10 ∷ [])
told_lines (pieces.Lines lines) = lines.now
