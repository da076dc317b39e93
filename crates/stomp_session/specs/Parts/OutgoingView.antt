-- Octets on their way out, without those that were taken.
use Rattle.std.specs.Prelude.{◌≤◌, ◌-◌, drop, vec_len}
use Rattle.std.specs.Vec.{vec_capacity}
use Rattle.stomp_session.specs.declared.outgoing.Outgoing.TheInside.{Inside}
use Rattle.stomp_session.specs.Outgoing.{Pending}

-- the octets from the start on, and what is free of the memory
abbrev pub pending_of : Inside → Pending
pending_of o = record { octets = drop o.start o.octets.items; room = vec_capacity o.octets - vec_len o.octets }

-- the start lies within the octets
abbrev pub IsInside : Inside → Type 0
IsInside o = o.start ≤ vec_len o.octets
