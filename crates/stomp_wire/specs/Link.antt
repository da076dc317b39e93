-- What a put and a take do to the octets that a link knows.
use Rattle.std.specs.Prelude.{◌≡◌, ℕ, ◌≤◌, List, ◌++◌, length, take, drop, Option, Result, Ok, Err}
use Rattle.std.specs.Io.KnownBytes.{Appends, Consumes, Keeps}
use Rattle.stomp_wire.specs.declared.fault.LinkFault.{LinkFault}

-- a beginning of the octets was added at the end of what goes out, and at a fault nothing
abbrev pub IsPut : List ℕ → Option (List ℕ) → Option (List ℕ) → Result ℕ LinkFault → Type 0
IsPut octets old new (Ok n) = (n ≤ length octets) × Appends old new (take n octets)
IsPut octets old new (Err _) = Keeps old new

-- the octets that a list grew by
abbrev pub came : List ℕ → List ℕ → List ℕ
came before after = drop (length before) after

-- at most `most` octets left the front of what comes in and were appended to a list, and at a fault none
abbrev pub IsTake : ℕ → (before after : List ℕ) → Option (List ℕ) → Option (List ℕ) → Result ℕ LinkFault → Type 0
IsTake most before after old new (Ok n) =
    (after ≡ before ++ came before after) × (length (came before after) ≡ n) × (n ≤ most)
    × Consumes old new (came before after)
IsTake most before after old new (Err _) = (after ≡ before) × Keeps old new

-- what a take answered, with the octets in the place of their number
abbrev pub answer_of : (before after : List ℕ) → Result ℕ LinkFault → Result (List ℕ) LinkFault
answer_of before after (Ok _) = Ok (came before after)
answer_of before after (Err fault) = Err fault
