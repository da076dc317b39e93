-- How a schedule ends.
use Rattle.std.proofs.Common.{◌≡◌, ◌⊎◌, ℕ, Bool, true, false, List, Option, Result, Ok, Err, inl, inr}
use Rattle.std.proofs.Common.{refl, sym, ap, subst, ◌∙◌}
use Rattle.std.proofs.lemmas.List.Concat.{flat_map-append}
use Rattle.std.specs.Prelude.{if◌then◌else◌, IfSome, IfOk, IsOk, OnErr, MatchResult}
use Rattle.std.specs.Global.{Vec}
use Rattle.std.specs.Io.KnownBytes.{Appends}
use Rattle.schedule_text.specs.declared.event.Event.{Event}
use Rattle.schedule_text.specs.declared.outcome.Outcome.{Outcome}
use Rattle.schedule_text.specs.declared.fault.ScheduleFault.{ScheduleFault}
use Rattle.schedule_text.specs.declared.fault.ScheduleFault.TheVariants as read
use Rattle.std.specs.Borrow.{Bor}
use Rattle.clap.specs.Words.{HasKind, IsAmong, Kinds, Text, fault_of, kind_of}
use Rattle.clap.specs.declared.error.Error as clap
use Rattle.clap.specs.declared.error.kind.ErrorKind.{ErrorKind}
use Rattle.clap.specs.declared.error.kind.ErrorKind.TheVariants.{OutOfMemory}
use Rattle.schedule_io.specs.Asked.{AreKeeps, IsReadAs, command_line}
use Rattle.schedule_io.specs.declared.choice.StoreChoice.{StoreChoice}
use Rattle.command_line.specs.Usage.{is_request, status_of}
use Rattle.schedule_io.specs.declared.fault.RunFault.{RunFault}
use Rattle.schedule_io.specs.declared.fault.RunFault.TheVariants.{BadEvent, Memory, Device, Unopened}
use Rattle.schedule_io.specs.declared.fault.StoresFault.{StoresFault}
use Rattle.schedule_io.specs.RunFaults.{run_fault_of}
use Rattle.schedule_text.specs.Events.{events_of}
use Rattle.schedule_text.specs.Faults.{IsRead}
use Rattle.schedule_text.specs.Outcomes.{outcome_lines}
use Rattle.schedule_io.specs.Ends.{Writers, fault_line, lines_of, IsCutOff, IsReadFrom, AreRun, IsRunOf, IsRunFrom, IsEndOf, IsUntold}
use Rattle.streams.specs.Written.{AppendsPart}
use Rattle.streams.proofs.Writes.{part_whole, part_then}
use Rattle.schedule_io.specs.Usage.{IsAsked, IsStatusOf, IsRefused, IsUsage, IsCutUsage, IsWordAnswer}
use Rattle.std.specs.declared.io.Error.{Error}

-- a writer that was cut off took a beginning of all lines
cut_part : (old new : Option (List ℕ)) (outcomes : List Outcome) → IsCutOff old new outcomes
    → AppendsPart old new (lines_of outcomes)
cut_part old new outcomes cut =
    subst (AppendsPart old new)
    (sym (ap lines_of cut.are ∙ flat_map-append outcome_lines cut.before cut.last))
    (part_then old cut.mid new (lines_of cut.before) (lines_of cut.last) cut.written cut.part)

-- what is known of a run, and of stores that fail, may be said otherwise
pub are_run_as : (Run More : List Event → List Outcome → Type 0) (Fails Others : StoresFault → Type 0)
    → ((events : List Event) (outcomes : List Outcome) → Run events outcomes → More events outcomes)
    → ((fault : StoresFault) → Fails fault → Others fault)
    → (events : List Event) (out out' : Option (List ℕ)) (r : Result Unit RunFault) → AreRun Run Fails events out out' r
    → AreRun More Others events out out' r
are_run_as Run More Fails Others more others events out out' (Ok tt) run = (run.0, more events run.0 run.1, run.2)
are_run_as Run More Fails Others more others events out out' (Err Device) run = (run.0, more _ run.0 run.1, run.2)
are_run_as Run More Fails Others more others events out out' (Err (Unopened fault)) run = (others fault run.0, run.1)
are_run_as Run More Fails Others more others events out out' (Err Memory) run = run
are_run_as Run More Fails Others more others events out out' (Err (BadEvent number)) run = run

module _ (Run : List Event → List Outcome → Type 0) (Fails : StoresFault → Type 0) where
  -- a schedule that can't be read
  pub unread : (text : List ℕ) (out : Option (List ℕ)) (fault : ScheduleFault) → IsRead (events_of text) (Err fault)
      → IsRunOf Run Fails text out out (Err (run_fault_of fault))
  unread text out (read.BadEvent number) told = (told, refl)
  unread text out read.Memory told = refl

  -- a run of the events that were read is one of the text
  pub run_told : (text : List ℕ) (events : List Event) (out out' : Option (List ℕ)) (r : Result Unit RunFault)
      → events_of text ≡ Ok events → AreRun Run Fails events out out' r → IsRunOf Run Fails text out out' r
  run_told text events out out' (Ok tt) read run =
      (run.0, record { events = events; read = read; ran = run.1 }, run.2)
  run_told text events out out' (Err Device) read run =
      (run.0, record { events = events; read = read; ran = run.1 }, cut_part out out' run.0 run.2)
  run_told text events out out' (Err (Unopened fault)) read run =
      (subst (λ (r : Result (List Event) ℕ). IsOk r) (sym read) refl, run.0, run.1)
  run_told text events out out' (Err Memory) read run = elim run [ ]
  run_told text events out out' (Err (BadEvent number)) read run = elim run [ ]

  -- a run of the text that was read is one of what the reader had left
  pub from_text : (input : Option (List ℕ)) (text : List ℕ) (out out' : Option (List ℕ)) (r : Result Unit RunFault)
      → IfSome input (λ xs. text ≡ xs) → IsRunOf Run Fails text out out' r → IsRunFrom Run Fails input out out' r
  from_text input text out out' r is told = inl (text, is, told)

  -- nothing was read
  pub from_nothing : (input out : Option (List ℕ)) (fault : RunFault) → (fault ≡ Memory) ⊎ (fault ≡ Device)
      → IsRunFrom Run Fails input out out (Err fault)
  from_nothing input out fault (inl is) =
      subst (λ (f : RunFault). IsRunFrom Run Fails input out out (Err f)) (sym is) (inr refl)
  from_nothing input out fault (inr is) =
      subst (λ (f : RunFault). IsRunFrom Run Fails input out out (Err f)) (sym is) (inr refl)

  -- the status of a run that ended, or whose fault couldn't be told
  pub run_status : (input : Option (List ℕ)) (old new : Writers) (r : Result ℕ Error) (status : ℕ)
      → MatchResult r (λ s. status ≡ s) (λ _. status ≡ 1) → IfOk r (λ s. IsEndOf Run Fails input old new s)
      → OnErr r (IsUntold Run Fails input old new)
      → IsStatusOf Run Fails input old new status
  run_status input old new (Ok s) status is ended untold =
      inl (subst (λ n. IsEndOf Run Fails input old new n) (sym is) ended)
  run_status input old new (Err e) status is ended untold = inr (is, untold)

  -- the status where a fault is told
  pub told_status : (input : Option (List ℕ)) (old new : Writers) (fault : RunFault) (r : Result ℕ Error) (status : ℕ)
      → MatchResult r (λ s. status ≡ s) (λ _. status ≡ 1) → IsRunFrom Run Fails input old.out new.out (Err fault)
      → IfOk r (λ s. (s ≡ 1) × Appends old.err new.err (fault_line fault))
      → OnErr r (AppendsPart old.err new.err (fault_line fault))
      → IsStatusOf Run Fails input old new status
  told_status input old new fault (Ok s) status is ran told untold = inl (inr (is ∙ told.0, fault, ran, told.1))
  told_status input old new fault (Err e) status is ran told untold = inr (is, (fault, ran, untold))

  -- a run of the events of what the reader had left is one of that
  pub from_events : (input : Option (List ℕ)) (events : Vec Event) (out out' : Option (List ℕ))
      (r : Result Unit RunFault)
      → IsReadFrom input (Ok events) → AreRun Run Fails events.items out out' r → IsRunFrom Run Fails input out out' r
  from_events input events out out' r read run =
      inl (read.0, read.1, run_told read.0 events.items out out' r read.2 run)

  -- no events were read
  pub from_no_events : (input out : Option (List ℕ)) (fault : RunFault) → IsReadFrom input (Err fault)
      → IsRunFrom Run Fails input out out (Err fault)
  from_no_events input out (BadEvent number) read = inl (read.0, read.1, (read.2, refl))
  from_no_events input out Memory read = inr refl
  from_no_events input out Device read = inr refl
  from_no_events input out (Unopened fault) read = elim read [ ]

-- memory was refused over the words
pub refused_status : (old new : Writers) (r : Result ℕ Error) (status : ℕ)
    → MatchResult r (λ s. status ≡ s) (λ _. status ≡ 1) → new.out ≡ old.out
    → IfOk r (λ s. (s ≡ 1) × Appends old.err new.err (fault_line Memory))
    → OnErr r (AppendsPart old.err new.err (fault_line Memory))
    → IsRefused old new status
refused_status old new (Ok s) status is same told untold =
    (is ∙ told.0, same, part_whole old.err new.err (fault_line Memory) told.1)
refused_status old new (Err e) status is same told untold = (is, same, untold)

-- what `clap` says of the words is told
pub words_status : (kinds : Kinds) (kind : ErrorKind) (old new : Writers) (r : Result ℕ Error) (status : ℕ)
    → IsAmong kind kinds → MatchResult r (λ s. status ≡ s) (λ _. status ≡ 1) → IfOk r (λ s. s ≡ status_of kind)
    → (is_request kind ≡ true → new.err ≡ old.err) → (is_request kind ≡ false → new.out ≡ old.out)
    → IsWordAnswer kinds old new status
words_status kinds kind old new r status among is told request fault = inl (kind, among, go (is_request kind) refl r is told)
  where
    go : (b : Bool) → is_request kind ≡ b → (r : Result ℕ Error) → MatchResult r (λ s. status ≡ s) (λ _. status ≡ 1)
        → IfOk r (λ s. s ≡ status_of kind)
        → IsUsage kind old new status ⊎ ((status ≡ 1) × IsCutUsage kind old new)
    go true asked (Ok s) is told =
        inl (inl (asked, is ∙ told ∙ ap (λ b. if b then 0 else 2) asked, request asked))
    go false asked (Ok s) is told =
        inl (inr (asked, is ∙ told ∙ ap (λ b. if b then 0 else 2) asked, fault asked))
    go true asked (Err e) is told = inr (is, inl (asked, request asked))
    go false asked (Err e) is told = inr (is, inr (asked, fault asked))

-- ---- what the words come to
module _ (keeps : Bor (List (Bor Text))) (are : AreKeeps keeps) (said : List Text) (old new : Writers) where
  pub asked : (choice : StoreChoice) → IsReadAs keeps said (Ok choice) → new ≡ old → IsAsked said old new (Ok choice)
  asked choice read same =
      record { keeps = keeps; are = are; asks = (read.fails, read.asked, same); tells = tt }

  pub refused : (e : clap.Error) → IsReadAs keeps said (Err e) → (status : ℕ) → IsRefused old new status
      → IsAsked said old new (Err status)
  refused e read status memory =
      record { keeps = keeps; are = are; asks = tt; tells = (inr memory, λ _. memory) }

  pub told : (e : clap.Error) → IsReadAs keeps said (Err e) → (kind_of e ≡ OutOfMemory → ⊥) → (status : ℕ)
      → (r : Result ℕ Error) → MatchResult r (λ s. status ≡ s) (λ _. status ≡ 1)
      → IfOk r (λ s. s ≡ status_of (kind_of e))
      → (is_request (kind_of e) ≡ true → new.err ≡ old.err) → (is_request (kind_of e) ≡ false → new.out ≡ old.out)
      → IsAsked said old new (Err status)
  told e read no_refusal status r is say request fault = record {
    keeps = keeps;
    are = are;
    asks = tt;
    tells = (among read.fails, λ takes. absurd (no_refusal (read.taken takes)));
  }
    where
      among : HasKind (fault_of (command_line keeps) said) e
          → IsWordAnswer (fault_of (command_line keeps) said) old new status
      among (inl refused) = absurd (no_refusal refused)
      among (inr kind) =
          words_status (fault_of (command_line keeps) said) (kind_of e) old new r status kind is say request fault
