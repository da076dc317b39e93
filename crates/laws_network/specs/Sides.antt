-- Two sides and what they have sent each other.
use Rattle.std.specs.Prelude.{◌≡◌}
use Rattle.activities.specs.Service.{Service}
use Rattle.keep.specs.Seen.{Seen}
use Rattle.keep.specs.Tables.{Tables}
use Rattle.endpoint.specs.Matches.{AllMatch}
use Rattle.laws_network.specs.declared.network.Network.{Network}

-- the tables of both sides, and all that they ever sent each other
pub record Sides (S C T D : Type 0) : Type 0 where
  pub left : Tables S C
  pub right : Tables T D
  pub network : Network

-- what is seen of both stores, and all that was ever sent
pub record Contents (S C T D : Type 0) : Type 1 where
  pub left : Seen (Tables S C)
  pub right : Seen (Tables T D)
  pub network : Network

abbrev pub contents : {S C T D : Type 0} → Seen (Tables S C) → Seen (Tables T D) → Network → Contents S C T D
contents left right network = record { left = left; right = right; network = network }

module _ {S C T D : Type 0} where
  -- no file of theirs is in doubt
  abbrev pub AreClean : Contents S C T D → Type 0
  AreClean c = (c.left.doubt ≡ 0) × (c.right.doubt ≡ 0)

  -- the tables of each match their journals, whatever a stop leaves
  abbrev pub AreMatching : Service S C → Service T D → Contents S C T D → Type 0
  AreMatching one other c = AllMatch one c.left.may_leave × AllMatch other c.right.may_leave

  -- it holds of both sides, in each combination of what a stop may leave of each
  abbrev pub Everywhere : Contents S C T D → (Sides S C T D → Type 0) → Type 0
  Everywhere c P = (x : Tables S C) (y : Tables T D) → c.left.may_leave x → c.right.may_leave y
      → P (record { left = x; right = y; network = c.network })
