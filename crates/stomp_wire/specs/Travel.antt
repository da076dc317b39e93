-- What was put at one end of a wire and what was taken at the other.
use Rattle.std.specs.Prelude.{◌≡◌, ℕ, List, [], ◌++◌, take, Option, Some, None, Result, Ok, Err}
use Rattle.std.specs.Io.KnownBytes.{Appends, Consumes}
use Rattle.stomp_wire.specs.Link.{IsPut, IsTake, came}
use Rattle.stomp_wire.specs.declared.fault.LinkFault.{LinkFault}

-- the octets that a put added
abbrev pub added : List ℕ → Result ℕ LinkFault → List ℕ
added octets (Ok n) = take n octets
added octets (Err _) = []

-- One way of a wire, from its beginning, after any calls in any order: all octets that one end put, all that the other
-- end took, what waits at the one and what was carried to the other. A put and a take do what each link promises, and a
-- carry moves some octets from the front of what waits to the end of what was carried. A pump is a put of the octets
-- that its `count` says.
pub data Travels : (put taken : List ℕ) → (waiting carried : Option (List ℕ)) → Type 0 where
  begins : Travels [] [] (Some []) (Some [])
  puts : {put taken : List ℕ} {waiting later carried : Option (List ℕ)} (octets : List ℕ) (answer : Result ℕ LinkFault)
      → Travels put taken waiting carried → IsPut octets waiting later answer
      → Travels (put ++ added octets answer) taken later carried
  carries : {put taken : List ℕ} {waiting later carried arrived : Option (List ℕ)} (moved : List ℕ)
      → Travels put taken waiting carried → Consumes waiting later moved → Appends carried arrived moved
      → Travels put taken later arrived
  takes : {put taken : List ℕ} {waiting carried later : Option (List ℕ)} (most : ℕ) (before after : List ℕ)
      (answer : Result ℕ LinkFault)
      → Travels put taken waiting carried → IsTake most before after carried later answer
      → Travels put (taken ++ came before after) waiting later

-- all that was put is what was taken, then what was carried, then what waits
abbrev pub IsKept : (put taken : List ℕ) → (waiting carried : Option (List ℕ)) → Type 0
IsKept put taken (Some waiting) (Some carried) = put ≡ taken ++ carried ++ waiting
IsKept put taken (Some waiting) None = ⊥
IsKept put taken None carried = ⊥
