-- What contracts see of an intake's readers and of its worker.
use Rattle.std.specs.Prelude.{◌≡◌, ℕ, List, length, take}
use Rattle.crossbeam_channel.specs.Claims.{view}
use Rattle.crossbeam_channel.specs.Ends.{sends_on, ruled_capacity}
use Rattle.intake.specs.declared.slip.Slip.{Slip}
use Rattle.intake.specs.declared.intake.IntakeReader.{IntakeReader}
use Rattle.intake.specs.declared.intake.IntakeWorker.{IntakeWorker}
use Rattle.intake.specs.Rule.{of_reader, first_of}

module _ {M : Type 0} where
  -- a reader's number, 0 or 1
  abbrev pub number_of : IntakeReader M → ℕ
  number_of reader = reader.number

  -- what a reader has put, in order
  abbrev pub put_by : IntakeReader M → List M
  put_by reader = (first_of (view reader.key).own).put

  -- what the worker has taken, in order, each with its reader's number
  abbrev pub taken_by : IntakeWorker M → List (Slip M)
  taken_by worker = (view worker.key).got

  -- what it has taken of the reader with this number
  abbrev pub taken_of : ℕ → IntakeWorker M → List M
  taken_of n worker = of_reader n (taken_by worker)

  -- how many arrivals there is room for
  abbrev pub capacity_of : IntakeWorker M → ℕ
  capacity_of worker = ruled_capacity (sends_on worker.to)

  -- the reader was opened with this worker
  abbrev pub IsReaderOf : IntakeWorker M → IntakeReader M → Type 0
  IsReaderOf worker reader = sends_on reader.to ≡ sends_on worker.to

  -- it is that reader still, with its number and at its intake
  abbrev pub IsSameReader : IntakeReader M → IntakeReader M → Type 0
  IsSameReader old new = (number_of new ≡ number_of old) × (sends_on new.to ≡ sends_on old.to)

  -- it is that worker still, at its intake
  abbrev pub IsSameWorker : IntakeWorker M → IntakeWorker M → Type 0
  IsSameWorker old new = sends_on new.to ≡ sends_on old.to

-- these are the first of those, so many
abbrev pub AreFirst : {X : Type 0} → ℕ → List X → List X → Type 0
AreFirst count these those = (these ≡ take count those) × (length these ≡ count)
