-- The numbers and names of the faults, and how they are counted.
use Rattle.std.specs.Prelude.{◌≡◌, ℕ, ◌+◌, ◌-◌, ◌^◌, ◌≤◌, min, List, codes, Result, Ok, Err}
use Rattle.stomp_wire.specs.declared.fault.LinkFault.{LinkFault}
use Rattle.stomp_wire.specs.declared.fault.LinkFault.TheVariants.{Cut, Device, Memory}

-- a fault's number
abbrev pub link_fault_number : LinkFault → ℕ
link_fault_number Cut = 1
link_fault_number Device = 2
link_fault_number Memory = 3

-- a fault's name
abbrev pub link_fault_name : LinkFault → List ℕ
link_fault_name Cut = codes "Cut"
link_fault_name Device = codes "Device"
link_fault_name Memory = codes "Memory"

-- one failure more; a count at its last value stays there
abbrev pub next_count : ℕ → ℕ
next_count count = min (count + 1) (2 ^ 64 - 1)

-- a failure was counted, at least one; no count falls, and at its last value it stays
abbrev pub CountsFailure : ℕ → ℕ → Type 0
CountsFailure before after = (before ≤ after) × (next_count before ≤ after)

-- a failure was counted where the answer is `Cut` or `Device`, and else none
abbrev pub IsCounted : {T : Type 0} → ℕ → ℕ → Result T LinkFault → Type 0
IsCounted before after (Ok _) = after ≡ before
IsCounted before after (Err Cut) = CountsFailure before after
IsCounted before after (Err Device) = CountsFailure before after
IsCounted before after (Err Memory) = after ≡ before
