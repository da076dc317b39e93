-- The events of a pump.
use Rattle.std.specs.Prelude.{ℕ, zero, suc, List, [], ◌∷◌, ◌++◌}
use Rattle.stomp_wire.specs.declared.wire.Way.TheVariants.{Up, Down}
use Rattle.schedule_text.specs.declared.event.ConnectionName.{ConnectionName}
use Rattle.schedule_text.specs.declared.event.ConnectionNumber.{ConnectionNumber}
use Rattle.schedule_text.specs.declared.event.ConnectionNumber.TheVariants.{Zero, One}
use Rattle.schedule_text.specs.declared.event.Event.{Event}
use Rattle.schedule_text.specs.declared.event.Event.TheVariants.{Fill, Carry, Take, Drain}
use Rattle.schedule_text.specs.declared.event.ServiceName.{ServiceName}
use Rattle.schedule_text.specs.declared.event.ServiceName.TheVariants.{Purchasing, Warehouse, Billing}

-- so many frames are taken
abbrev pub takes : ℕ → ConnectionName → List Event
takes zero c = []
takes (suc n) c = takes n c ++ Take c ∷ []

-- one connection: what is due is sent, all octets are carried both ways, and sixteen frames are taken
abbrev pub connection_events : ConnectionName → List Event
connection_events c = (Fill c 64 ∷ Carry c Up 1048576 ∷ Carry c Down 1048576 ∷ []) ++ takes 16 c

abbrev pub named : ServiceName → ConnectionNumber → ConnectionName
named service number = record { service = service; number = number }

-- one service: its two connections, and then a held letter is handled
abbrev pub service_events : ServiceName → List Event
service_events service = connection_events (named service Zero) ++ connection_events (named service One)
    ++ Drain (named service Zero) ∷ []

-- one round
abbrev pub round_events : List Event
round_events = service_events Purchasing ++ service_events Warehouse ++ service_events Billing

-- so many rounds
abbrev pub all_rounds : ℕ → List Event
all_rounds zero = []
all_rounds (suc n) = all_rounds n ++ round_events
