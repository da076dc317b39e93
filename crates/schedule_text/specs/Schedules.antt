-- What a schedule has, in a language that says which event the words of a line are.
use Rattle.std.specs.Prelude.{ℕ, ◌+◌, ◌==◌, Bool, List, length, slice_index, ◌||◌, Option, Some, None, is_none, Result}
use Rattle.std.specs.Prelude.{Ok, Err}
use Rattle.std.specs.Prelude.{if◌then◌else◌}
use Rattle.std.specs.List.{list_any, before_first, filter_map}
use Rattle.std.specs.Option.{option_map, option_flatten}
use Rattle.std.specs.Str.{is_utf8}
use Rattle.schedule_text.specs.Lines.{lines_of}
use Rattle.schedule_text.specs.Words.{◌>>=◌, words_of}

-- whether a line has nothing to run: it's empty, or begins with #
abbrev pub is_quiet : List ℕ → Bool
is_quiet line = (length line == 0) || (slice_index line 0 == 35)

-- the event of the words, where the language has one
abbrev pub Language : Type 0 → Type 0
Language E = List (List ℕ) → Option E

-- the event of a line, where its words are one
abbrev pub said_on : {E : Type 0} → Language E → List ℕ → Option E
said_on event_of line = words_of line >>= event_of

-- what a line of text has: nothing to run, or an event; nothing at all where it's faulty
abbrev pub found_in : {E : Type 0} → Language E → List ℕ → Option (Option E)
found_in event_of line = if is_quiet line then Some None else option_map Some (said_on event_of line)

-- a line that isn't UTF-8 is faulty too
abbrev pub found_on : {E : Type 0} → Language E → List ℕ → Option (Option E)
found_on event_of line = if is_utf8 line then found_in event_of line else None

-- whether a line is faulty: it isn't UTF-8, or is neither quiet nor an event
abbrev pub is_faulty : {E : Type 0} → Language E → List ℕ → Bool
is_faulty event_of line = is_none (found_on event_of line)

-- the events of lines in order, of which quiet ones have none
abbrev pub events_on : {E : Type 0} → Language E → List (List ℕ) → List E
events_on event_of lines = filter_map (λ line. option_flatten (found_on event_of line)) lines

-- the events of a schedule; where a line is faulty, the number of the first such line: one more than there are lines
-- before it
abbrev pub read_by : {E : Type 0} → Language E → List ℕ → Result (List E) ℕ
read_by event_of text =
    if list_any (is_faulty event_of) (lines_of text)
    then Err (length (before_first (is_faulty event_of) (lines_of text)) + 1)
    else Ok (events_on event_of (lines_of text))
