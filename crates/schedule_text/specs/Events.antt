-- The events of a schedule: the first word of a line names one, and the others are its arguments.
use Rattle.std.specs.Prelude.{ℕ, List, [], ◌∷◌, codes, Option, Some, None, Result, if◌then◌else◌}
use Rattle.std.specs.Option.{option_map}
use Rattle.std.specs.Str.{bytes_eq}
use Rattle.text.specs.Numerals.{number_of}
use Rattle.base.specs.Entity.{Entity}
use Rattle.base.specs.declared.pair.Pair.{Pair}
use Rattle.schedule_text.specs.declared.event.Event.{Event}
use Rattle.schedule_text.specs.declared.event.Event.TheVariants as event
use Rattle.schedule_text.specs.declared.event.ConnectionName.{ConnectionName}
use Rattle.schedule_text.specs.declared.verb.Verb.{Verb}
use Rattle.schedule_text.specs.declared.verb.Verb.TheVariants.{Place, Cancel, Receive, Limit, Open, Cut, Fill, Resend}
use Rattle.schedule_text.specs.declared.verb.Verb.TheVariants.{Carry, Take, Drain}
use Rattle.schedule_text.specs.declared.verb.Verb.TheVariants.{Repeat, Fail, Reopen, Stop, Pump, Show, Frames, Journal}
use Rattle.schedule_text.specs.declared.verb.Verb.TheVariants.{Agreement}
use Rattle.schedule_text.specs.declared.verb.Verb.TheVariants as verb
use Rattle.schedule_text.specs.Arguments.{entity_of, service_of, connection_number, way_of, leaves_of, ordinal_of}
use Rattle.schedule_text.specs.Arguments.{rounds_of}
use Rattle.schedule_text.specs.Commands.{place_of, cancel_of, receive_of, limit_of}
use Rattle.schedule_text.specs.Schedules.{read_by}
use Rattle.schedule_text.specs.Verbs.{verb_of}
use Rattle.schedule_text.specs.Words.{◌>>=◌, words_of}

-- a word alone, as what it is
abbrev pub alone : {A : Type 0} → (List ℕ → Option A) → List (List ℕ) → Option A
alone meant (word ∷ []) = meant word
alone meant _ = None

-- SERVICE CONN
abbrev pub connection_of : List (List ℕ) → Option ConnectionName
connection_of (service ∷ number ∷ []) = do
  service ← service_of service
  number ← connection_number number
  Some (record { service = service; number = number })
connection_of _ = None

-- SERVICE CONN LIMIT
abbrev pub fill_of : List (List ℕ) → Option Event
fill_of (service ∷ number ∷ limit ∷ []) = do
  connection ← connection_of (service ∷ number ∷ [])
  limit ← number_of limit
  Some (event.Fill connection limit)
fill_of _ = None

-- SERVICE CONN up MOST, or down
abbrev pub carry_of : List (List ℕ) → Option Event
carry_of (service ∷ number ∷ way ∷ most ∷ []) = do
  connection ← connection_of (service ∷ number ∷ [])
  way ← way_of way
  most ← number_of most
  Some (event.Carry connection way most)
carry_of _ = None

-- SERVICE N old, or new
abbrev pub fail_of : List (List ℕ) → Option Event
fail_of (service ∷ n ∷ leaves ∷ []) = do
  service ← service_of service
  n ← ordinal_of n
  leaves ← leaves_of leaves
  Some (event.Fail service n leaves)
fail_of _ = None

-- SERVICE, or broker
abbrev pub stopped_of : List ℕ → Option Event
stopped_of word =
    if bytes_eq word (codes "broker") then Some event.StopBroker else option_map event.Stop (service_of word)

-- FROM TO
abbrev pub pair_of : List (List ℕ) → Option Pair
pair_of (from ∷ to ∷ []) = do
  from ← entity_of from
  to ← entity_of to
  Some (record { from = from; to = to })
pair_of _ = None

-- nothing more
abbrev pub agreement_of : List (List ℕ) → Option Event
agreement_of [] = Some event.Agreement
agreement_of _ = None

-- the event of a verb and its arguments
abbrev pub event_by : Verb → List (List ℕ) → Option Event
event_by Place arguments = option_map event.Order (place_of arguments)
event_by Cancel arguments = option_map event.Order (cancel_of arguments)
event_by Receive arguments = option_map event.Stock (receive_of arguments)
event_by Limit arguments = option_map event.Account (limit_of arguments)
event_by Open arguments = option_map event.Open (connection_of arguments)
event_by Cut arguments = option_map event.Cut (connection_of arguments)
event_by Fill arguments = fill_of arguments
event_by Resend arguments = option_map event.Resend (connection_of arguments)
event_by Carry arguments = carry_of arguments
event_by Take arguments = option_map event.Take (connection_of arguments)
event_by Drain arguments = option_map event.Drain (connection_of arguments)
event_by Repeat arguments = option_map event.Repeat (alone ordinal_of arguments)
event_by Fail arguments = fail_of arguments
event_by Reopen arguments = option_map event.Reopen (alone service_of arguments)
event_by Stop arguments = alone stopped_of arguments
event_by Pump arguments = option_map event.Pump (alone rounds_of arguments)
event_by Show arguments = option_map event.Show (alone entity_of arguments)
event_by verb.Pair arguments = option_map event.Pair (pair_of arguments)
event_by Frames arguments = option_map event.Frames (alone service_of arguments)
event_by Journal arguments = option_map event.Journal (alone service_of arguments)
event_by Agreement arguments = agreement_of arguments

-- the event of the words of a line: the first names it
abbrev pub event_of : List (List ℕ) → Option Event
event_of [] = None
event_of (name ∷ arguments) = verb_of name >>= λ verb. event_by verb arguments

-- the entity that the only word of a line names
abbrev pub entity_on : List ℕ → Option Entity
entity_on line = words_of line >>= alone entity_of

-- the events of a schedule, or the number of its first faulty line
abbrev pub events_of : List ℕ → Result (List Event) ℕ
events_of text = read_by event_of text
