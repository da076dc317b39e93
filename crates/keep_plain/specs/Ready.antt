-- Maps that have the slots that changes set.
use Rattle.std.specs.Prelude.{◌≡◌, ⊤}
use Rattle.base.specs.Order.{entity_cmp, pair_cmp}
use Rattle.keep.specs.declared.change.Change.{Change}
use Rattle.keep.specs.declared.change.Change.TheVariants.{Journal, State, Sent, Settled, Handled, Held, NotHeld}
use Rattle.keep.specs.Listing.{place_of}
use Rattle.keep.specs.Places.{place_cmp}
use Rattle.keep_plain.specs.Arrivals.{CanHandle, CanHold, KeepsArrivals, SameArrivals}
use Rattle.keep_plain.specs.Slots.{HasSlot, KeepsSlots, SameAt}
use Rattle.keep_plain.specs.declared.maps.Maps.{Maps}

-- the maps have the slots that a change sets
abbrev pub IsReady : {S C : Type 0} → Maps S C → Change S C → Type 0
IsReady m (Journal position row) = ⊤
IsReady m (State e row) = HasSlot entity_cmp m.rows e
IsReady m (Sent l) = HasSlot pair_cmp m.marks l.pair × HasSlot place_cmp m.outbox (place_of l)
IsReady m (Settled p n) = HasSlot pair_cmp m.marks p
IsReady m (Handled p n) = CanHandle m.arrivals p
IsReady m (Held l) = CanHold m.arrivals (place_of l)
IsReady m (NotHeld p n) = ⊤

-- no slot is taken away
pub record KeepsAll {S C : Type 0} (old new : Maps S C) : Type 0 where
  pub rows : KeepsSlots entity_cmp old.rows new.rows
  pub marks : KeepsSlots pair_cmp old.marks new.marks
  pub outbox : KeepsSlots place_cmp old.outbox new.outbox
  pub arrivals : KeepsArrivals old.arrivals new.arrivals

-- the tables stay, whatever slots are there
pub record SameTables {S C : Type 0} (old new : Maps S C) : Type 0 where
  pub journal : new.journal.items ≡ old.journal.items
  pub rows : SameAt entity_cmp old.rows new.rows
  pub marks : SameAt pair_cmp old.marks new.marks
  pub outbox : SameAt place_cmp old.outbox new.outbox
  pub arrivals : SameArrivals old.arrivals new.arrivals
