-- The numbers of sessions rise, and end at the last that was given.
use Rattle.std.specs.Prelude.{◌≡◌, ◌<◌, ◌≤◌, ℕ, List, [], ◌∷◌, Option, Some, None, true, false}
use Rattle.std.specs.List.{list_any, slice_get}
use Rattle.broker_core.specs.Calls.{is_fresh}
use Rattle.broker_core.specs.declared.session.Session.{Session}
use Rattle.broker_core.specs.declared.sessions.Sessions.TheInside.{Inside}

-- each number is above the one before it, and none is above the last
abbrev pub AreRising : ℕ → List Session → ℕ → Type 0
AreRising low [] last = low ≤ last
AreRising low (s ∷ ss) last = (low < s.number) × AreRising s.number ss last

-- the same of the sessions of a broker, from 1 on
abbrev pub InOrder : Inside → Type 0
InOrder r = AreRising 0 r.items.items r.opened

-- the session of this number stands there
abbrev pub StandsAt : ℕ → List Session → ℕ → Type 0
StandsAt n ss at = (s : Session) × (slice_get ss at ≡ Some s) × (s.number ≡ n)

-- a session with fresh octets stands there
abbrev pub IsFreshAt : List Session → ℕ → Type 0
IsFreshAt ss at = (s : Session) × (slice_get ss at ≡ Some s) × (s.fresh ≡ true)

-- where one stands, or there is none
abbrev pub FreshPlace : List Session → Option ℕ → Type 0
FreshPlace ss (Some at) = IsFreshAt ss at
FreshPlace ss None = list_any is_fresh ss ≡ false
