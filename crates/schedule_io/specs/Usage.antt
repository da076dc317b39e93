-- What the words of the command line come to.
use Rattle.std.specs.Prelude.{◌≡◌, ◌⊎◌, ℕ, true, false, List, [], Option, Result, Ok, Err, IfOk, IfErr}
use Rattle.std.specs.Borrow.{Bor}
use Rattle.clap.specs.Simple.{matches_of}
use Rattle.clap.specs.Words.{Kinds, IsAmong, Text, fault_of, takes}
use Rattle.clap.specs.declared.error.kind.ErrorKind.{ErrorKind}
use Rattle.command_line.specs.Usage.{is_request}
use Rattle.schedule_text.specs.declared.event.Event.{Event}
use Rattle.schedule_text.specs.declared.outcome.Outcome.{Outcome}
use Rattle.schedule_io.specs.Asked.{AreKeeps, IsAskedFor, command_line}
use Rattle.schedule_io.specs.declared.choice.StoreChoice.{StoreChoice}
use Rattle.schedule_io.specs.declared.fault.RunFault.{RunFault}
use Rattle.schedule_io.specs.declared.fault.RunFault.TheVariants.{Memory}
use Rattle.schedule_io.specs.declared.fault.StoresFault.{StoresFault}
use Rattle.schedule_io.specs.Ends.{Writers, AreRun, IsEndOf, IsUntold, fault_line}
use Rattle.streams.specs.Written.{AppendsPart}

-- what was asked for is told on `out`, with status 0, and a fault of usage on `err`, with status 2; the other stream is
-- as it was
abbrev pub IsUsage : ErrorKind → Writers → Writers → ℕ → Type 0
IsUsage kind old new status =
    ((is_request kind ≡ true) × (status ≡ 0) × (new.err ≡ old.err))
    ⊎ ((is_request kind ≡ false) × (status ≡ 2) × (new.out ≡ old.out))

-- the stream failed on which it was told; the other is as it was
abbrev pub IsCutUsage : ErrorKind → Writers → Writers → Type 0
IsCutUsage kind old new =
    ((is_request kind ≡ true) × (new.err ≡ old.err)) ⊎ ((is_request kind ≡ false) × (new.out ≡ old.out))

-- memory was refused over the words, which is told on `err`, as far as it took it
abbrev pub IsRefused : Writers → Writers → ℕ → Type 0
IsRefused old new status =
    (status ≡ 1) × (new.out ≡ old.out) × AppendsPart old.err new.err (fault_line Memory)

-- What is told in place of a run: help, the version, or a fault of the words, of one of these kinds; or that memory was
-- refused over the words. With status 1 it was the latter, or the stream failed on which it was told.
abbrev pub IsWordAnswer : Kinds → Writers → Writers → ℕ → Type 0
IsWordAnswer kinds old new status =
    ((kind : ErrorKind) × IsAmong kind kinds × (IsUsage kind old new status ⊎ ((status ≡ 1) × IsCutUsage kind old new)))
    ⊎ IsRefused old new status

module _ (Run : List Event → List Outcome → Type 0) (Fails : StoresFault → Type 0) where
  -- the status of a run: that of its end, or 1 where `err` failed while a fault was told
  abbrev pub IsStatusOf : Option (List ℕ) → Writers → Writers → ℕ → Type 0
  IsStatusOf input old new status =
      IsEndOf Run Fails input old new status ⊎ ((status ≡ 1) × IsUntold Run Fails input old new)

  -- the status of a run of events: 0 where all were run, and nothing is printed on `err`; 1 where a fault is printed there, whole
  -- or in part
  abbrev pub IsStatusOfEvents : List Event → Writers → Writers → ℕ → Type 0
  IsStatusOfEvents events old new status =
      ((status ≡ 0) × (new.err ≡ old.err) × AreRun Run Fails events old.out new.out (Ok tt))
      ⊎ ((status ≡ 1) × (fault : RunFault) × AreRun Run Fails events old.out new.out (Err fault)
      × AppendsPart old.err new.err (fault_line fault))

-- what the words of a command line come to: the stores that they ask for, with nothing told; or help, the version, a fault
-- of theirs or want of memory is told, and the status follows. Words that the command line takes have no fault.
pub record IsAsked (words : List Text) (old new : Writers) (r : Result StoreChoice ℕ) : Type 0 where
  pub keeps : Bor (List (Bor Text))
  pub are : AreKeeps keeps
  pub asks : IfOk r (λ choice. (fault_of (command_line keeps) words ≡ [])
      × IsAskedFor (matches_of (command_line keeps) words) choice × (new ≡ old))
  pub tells : IfErr r (λ status. IsWordAnswer (fault_of (command_line keeps) words) old new status
      × (takes (command_line keeps) words ≡ true → IsRefused old new status))
