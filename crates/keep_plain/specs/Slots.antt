-- Maps of slots.
use Rattle.std.specs.Prelude.{◌≡◌, Option, Some, None, IsSome, if◌then◌else◌}
use Rattle.std.specs.declared.cmp.Ordering.{Ordering}
use Rattle.std.specs.declared.cmp.Ordering.TheVariants.{Less}
use Rattle.std.specs.Ordering.{is_eq}
use Rattle.std.specs.BTreeMap.{BTreeMap, get}

-- what a slot has, where there is one
abbrev pub filled : {V : Type 0} → Option (Option V) → Option V
filled None = None
filled (Some slot) = slot

module _ {K V : Type 0} (cmp : K → K → Ordering) where
  -- what stands at a key: an empty slot is as none
  abbrev pub at : BTreeMap K (Option V) → K → Option V
  at m k = filled (get cmp m k)

  -- the key has a slot
  abbrev pub HasSlot : BTreeMap K (Option V) → K → Type 0
  HasSlot m k = IsSome (get cmp m k)

  -- no slot is taken away
  abbrev pub KeepsSlots : BTreeMap K (Option V) → BTreeMap K (Option V) → Type 0
  KeepsSlots old new = (q : K) → HasSlot old q → HasSlot new q

  -- at each key stands what stood there
  abbrev pub SameAt : BTreeMap K (Option V) → BTreeMap K (Option V) → Type 0
  SameAt old new = (q : K) → at new q ≡ at old q

  -- at this key stands that value, or nothing; at others what stood there
  abbrev pub SetsAt : K → Option V → BTreeMap K (Option V) → BTreeMap K (Option V) → Type 0
  SetsAt k value old new = (q : K) → at new q ≡ (if is_eq (cmp k q) then value else at old q)

  -- the first key at which something stands, or there is none
  abbrev pub IsFirstFilled : (K → Option V) → Option K → Type 0
  IsFirstFilled stands None = (k : K) → stands k ≡ None
  IsFirstFilled stands (Some k) = IsSome (stands k) × ((q : K) → cmp q k ≡ Less → stands q ≡ None)
