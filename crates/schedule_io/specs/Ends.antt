-- How a whole schedule ends.
use Rattle.std.specs.Prelude.{◌≡◌, ◌⊎◌, ◌≤◌, ℕ, List, ◌++◌, length, take, codes, decimal, Option, Result, Ok, Err, IfSome, ⊤}
use Rattle.std.specs.Prelude.{IsOk}
use Rattle.std.specs.Global.{Vec}
use Rattle.std.specs.List.{flat_map}
use Rattle.std.specs.Io.KnownBytes.{Appends}
use Rattle.schedule_text.specs.declared.event.Event.{Event}
use Rattle.schedule_text.specs.declared.outcome.Outcome.{Outcome}
use Rattle.schedule_text.specs.Events.{events_of}
use Rattle.schedule_text.specs.Outcomes.{outcome_lines}
use Rattle.schedule_io.specs.declared.fault.RunFault.{RunFault}
use Rattle.schedule_io.specs.declared.fault.RunFault.TheVariants.{BadEvent, Memory, Device, Unopened}
use Rattle.schedule_io.specs.declared.fault.StoresFault.{StoresFault}
use Rattle.schedule_io.specs.StoresFaults.{line_of, reason_of, service_of}
use Rattle.streams.specs.Written.{AppendsPart}

-- the line of a fault; where a store couldn't be opened, below one that names the service and says why
abbrev pub fault_line : RunFault → List ℕ
fault_line (BadEvent number) = codes "line " ++ decimal number ++ codes ": bad event\n"
fault_line Memory = codes "fault 81 Memory\n"
fault_line Device = codes "fault 2 Device\n"
fault_line (Unopened fault) = service_of fault ++ reason_of fault ++ line_of fault

-- the lines that tell outcomes, in order
abbrev pub lines_of : List Outcome → List ℕ
lines_of outcomes = flat_map outcome_lines outcomes

-- what the two writers hold, where that is known: `out` the outcomes, and `err` what is told of faults
pub record Writers : Type 0 where
  pub out : Option (List ℕ)
  pub err : Option (List ℕ)

-- nothing was read, for want of memory or since the reader failed; nothing is written
abbrev pub IsUnread : Option (List ℕ) → Option (List ℕ) → Result Unit RunFault → Type 0
IsUnread old new (Err Memory) = new ≡ old
IsUnread old new (Err Device) = new ≡ old
IsUnread old new _ = ⊥

-- What reading a schedule answers: the events of the text that the reader had left, where that is known; or the number
-- of its first faulty line; or nothing was read, for want of memory or since the reader failed.
abbrev pub IsReadFrom : Option (List ℕ) → Result (Vec Event) RunFault → Type 0
IsReadFrom input (Ok events) =
    (text : List ℕ) × IfSome input (λ xs. text ≡ xs) × (events_of text ≡ Ok events.items)
IsReadFrom input (Err (BadEvent number)) =
    (text : List ℕ) × IfSome input (λ xs. text ≡ xs) × (events_of text ≡ Err number)
IsReadFrom input (Err Memory) = ⊤
IsReadFrom input (Err Device) = ⊤
IsReadFrom input (Err (Unopened fault)) = ⊥

-- a writer that failed took the lines of all outcomes but the last one, and of the last one's a beginning; or no outcome
-- was cut off, and it took all lines
pub record IsCutOff (old new : Option (List ℕ)) (outcomes : List Outcome) : Type 0 where
  pub before : List Outcome
  pub last : List Outcome
  pub one : length last ≤ 1
  pub are : outcomes ≡ before ++ last
  pub mid : Option (List ℕ)
  pub written : Appends old mid (lines_of before)
  pub part : AppendsPart mid new (lines_of last)

-- `Run` says that events were made, with these outcomes
module _ (Run : List Event → List Outcome → Type 0) where
  -- the events of a text, the first of which were made, with these outcomes
  pub record BeginsRun (text : List ℕ) (outcomes : List Outcome) : Type 0 where
    pub events : List Event
    pub read : events_of text ≡ Ok events
    pub ran : Run (take (length outcomes) events) outcomes

  -- the events of a text, all of which were made, with these outcomes
  pub record RunsWhole (text : List ℕ) (outcomes : List Outcome) : Type 0 where
    pub events : List Event
    pub read : events_of text ≡ Ok events
    pub ran : Run events outcomes

  -- and `Fails` for which faults the opening of stores may fail
  module _ (Fails : StoresFault → Type 0) where
    -- What running events answers, over the known octets of the writer before it and after it: all are made and their
    -- outcomes written; or the writer failed, and took the outcomes of the first events, the last of them maybe in part;
    -- or a store can't be opened, and nothing is written.
    abbrev pub AreRun : List Event → Option (List ℕ) → Option (List ℕ) → Result Unit RunFault → Type 0
    AreRun events old new (Ok _) = (outcomes : List Outcome) × Run events outcomes × Appends old new (lines_of outcomes)
    AreRun events old new (Err Device) =
        (outcomes : List Outcome) × Run (take (length outcomes) events) outcomes × IsCutOff old new outcomes
    AreRun events old new (Err (Unopened fault)) = Fails fault × (new ≡ old)
    AreRun events old new _ = ⊥

    -- What running a text answers, over the known octets of the writer before it and after it: its events are made and
    -- their outcomes written; or the writer failed, and took a beginning of the outcomes of the first events; or the
    -- first faulty line is told, or that a store can't be opened, or that memory was refused to the events, and nothing
    -- is written.
    abbrev pub IsRunOf : List ℕ → Option (List ℕ) → Option (List ℕ) → Result Unit RunFault → Type 0
    IsRunOf text old new (Ok _) =
        (outcomes : List Outcome) × RunsWhole text outcomes × Appends old new (lines_of outcomes)
    IsRunOf text old new (Err (BadEvent number)) = (events_of text ≡ Err number) × (new ≡ old)
    IsRunOf text old new (Err (Unopened fault)) = IsOk (events_of text) × Fails fault × (new ≡ old)
    IsRunOf text old new (Err Memory) = new ≡ old
    IsRunOf text old new (Err Device) =
        (outcomes : List Outcome) × BeginsRun text outcomes × AppendsPart old new (lines_of outcomes)

    -- a run of what the reader had left, where that is known; or nothing was read
    abbrev pub IsRunFrom : Option (List ℕ) → Option (List ℕ) → Option (List ℕ) → Result Unit RunFault → Type 0
    IsRunFrom input old new r =
        ((text : List ℕ) × IfSome input (λ xs. text ≡ xs) × IsRunOf text old new r) ⊎ IsUnread old new r

    -- With status 0 the schedule was run whole: its outcomes are written to `out`, and nothing to `err`. With status 1
    -- a fault is told on `err`.
    abbrev pub IsEndOf : Option (List ℕ) → Writers → Writers → ℕ → Type 0
    IsEndOf input old new status =
        ((status ≡ 0) × (new.err ≡ old.err) × IsRunFrom input old.out new.out (Ok tt))
        ⊎ ((status ≡ 1) × (fault : RunFault) × IsRunFrom input old.out new.out (Err fault)
        × Appends old.err new.err (fault_line fault))

    -- the same where `err` failed while a fault was told: it took a beginning of the fault's line
    abbrev pub IsUntold : Option (List ℕ) → Writers → Writers → Type 0
    IsUntold input old new =
        (fault : RunFault) × IsRunFrom input old.out new.out (Err fault)
        × AppendsPart old.err new.err (fault_line fault)
