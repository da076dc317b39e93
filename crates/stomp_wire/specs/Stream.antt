-- What answers of a reader and a writer mean for a link over them.
use Rattle.std.specs.Prelude.{◌≡◌, ℕ, zero, suc, ◌≤◌, Bool, true, false, if◌then◌else◌, List, length, Option, Result}
use Rattle.std.specs.Prelude.{Ok, Err}
use Rattle.std.specs.Io.KnownBytes.{Consumes, IsAtEnd, Keeps}
use Rattle.std.specs.IoError.{error_kind}
use Rattle.std.specs.declared.io.Error.{Error}
use Rattle.std.specs.declared.io.ErrorKind.{ErrorKind}
use Rattle.std.specs.declared.io.ErrorKind.TheVariants.{WouldBlock, Interrupted}
use Rattle.stomp_wire.specs.Fault.{next_count}
use Rattle.stomp_wire.specs.Link.{IsPut}
use Rattle.stomp_wire.specs.declared.fault.LinkFault.{LinkFault}
use Rattle.stomp_wire.specs.declared.fault.LinkFault.TheVariants.{Cut, Device, Memory}
use Rattle.stomp_wire.specs.declared.stream.StreamLink.{StreamLink}

-- an error that says only that there is nothing now
abbrev pub is_passing : ErrorKind → Bool
is_passing WouldBlock = true
is_passing Interrupted = true
is_passing _ = false

-- what an error means: nothing now where it is passing, and else that the device failed
abbrev pub meaning_of_error : Error → Result ℕ LinkFault
meaning_of_error error = if is_passing (error_kind error) then Ok 0 else Err Device

-- what a writer's answer means
abbrev pub meaning_of_write : Result ℕ Error → Result ℕ LinkFault
meaning_of_write (Ok n) = Ok n
meaning_of_write (Err error) = meaning_of_error error

-- what a reader's answer means that was offered room: none is the end of its input
abbrev pub meaning_of_read : Result ℕ Error → Result ℕ LinkFault
meaning_of_read (Ok zero) = Err Cut
meaning_of_read (Ok (suc n)) = Ok (suc n)
meaning_of_read (Err error) = meaning_of_error error

-- the count of failures after this answer
abbrev pub count_after : ℕ → Result ℕ LinkFault → ℕ
count_after count (Ok _) = count
count_after count (Err Cut) = next_count count
count_after count (Err Device) = next_count count
count_after count (Err Memory) = count

module _ {R W : Type 0} (remaining : R → Option (List ℕ)) (contents : W → Option (List ℕ)) where
  -- a put writes a beginning of the octets, or answers `Device` and writes nothing
  abbrev pub StreamPuts : StreamLink R W → List ℕ → Result ℕ LinkFault → StreamLink R W → Type 0
  StreamPuts old octets (Ok n) new =
      IsPut octets (contents old.writer) (contents new.writer) (Ok n) × (new.failures ≡ old.failures)
      × (new.reader ≡ old.reader)
  StreamPuts old octets (Err fault) new = (fault ≡ Device) × Keeps (contents old.writer) (contents new.writer)
      × (new.failures ≡ next_count old.failures) × (new.reader ≡ old.reader)

  -- a take gives what was read, or answers `Cut` at the end of the input, `Device`, or `Memory`, which changes nothing
  abbrev pub StreamTakes : StreamLink R W → ℕ → Result (List ℕ) LinkFault → StreamLink R W → Type 0
  StreamTakes old most (Ok octets) new =
      (length octets ≤ most) × Consumes (remaining old.reader) (remaining new.reader) octets
      × (new.failures ≡ old.failures) × (new.writer ≡ old.writer)
  StreamTakes old most (Err Cut) new =
      Keeps (remaining old.reader) (remaining new.reader) × IsAtEnd (remaining new.reader)
      × (new.failures ≡ next_count old.failures) × (new.writer ≡ old.writer)
  StreamTakes old most (Err Device) new =
      Keeps (remaining old.reader) (remaining new.reader) × (new.failures ≡ next_count old.failures)
      × (new.writer ≡ old.writer)
  StreamTakes old most (Err Memory) new = new ≡ old
