-- One end of a wire in memory.
use Rattle.std.specs.Prelude.{◌≡◌, ℕ, List, ◌++◌, length, min, take, drop, Result, Ok, Err}
use Rattle.stomp_wire.specs.declared.fault.LinkFault.{LinkFault}
use Rattle.stomp_wire.specs.declared.fault.LinkFault.TheVariants.{Memory}

-- what an end holds: octets that it put and that nobody carried yet, and octets that were carried to it and that it
-- didn't take yet
pub record Queues : Type 0 where
  pub waiting : List ℕ
  pub carried : List ℕ

-- a put adds all of the octets at the end of what waits
abbrev pub QueuePuts : Queues → List ℕ → Result ℕ LinkFault → Queues → Type 0
QueuePuts old octets (Ok n) new = (n ≡ length octets) × (new ≡ record old { waiting = old.waiting ++ octets })
QueuePuts old octets (Err fault) new = (fault ≡ Memory) × (new ≡ old)

-- a take removes the first `most` octets from what was carried, or all where there are fewer
abbrev pub QueueTakes : Queues → ℕ → Result (List ℕ) LinkFault → Queues → Type 0
QueueTakes old most (Ok octets) new =
    (octets ≡ take most old.carried) × (new ≡ record old { carried = drop most old.carried })
QueueTakes old most (Err fault) new = (fault ≡ Memory) × (new ≡ old)

-- a carry moves the lesser of `most` and what waits, from the front of what waits to the end of what was carried to the
-- other end
abbrev pub IsCarried : ℕ → (from to : Queues) → (from' to' : Queues) → Result ℕ LinkFault → Type 0
IsCarried most from to from' to' (Ok n) =
    (n ≡ min most (length from.waiting)) × (from' ≡ record from { waiting = drop n from.waiting })
    × (to' ≡ record to { carried = to.carried ++ take n from.waiting })
IsCarried most from to from' to' (Err fault) = (fault ≡ Memory) × (from' ≡ from) × (to' ≡ to)
