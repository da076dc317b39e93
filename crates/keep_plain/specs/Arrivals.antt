-- Arrivals that have the slots that a change sets.
use Rattle.base.specs.Order.{pair_cmp}
use Rattle.base.specs.declared.pair.Pair.{Pair}
use Rattle.keep.specs.declared.change.LetterPlace.{LetterPlace}
use Rattle.keep.specs.Places.{place_cmp}
use Rattle.keep_plain.specs.Slots.{HasSlot, KeepsSlots, SameAt}
use Rattle.keep_plain.specs.declared.arrivals.Arrivals.{Arrivals}

-- the handled mark of a pair may be set
abbrev pub CanHandle : Arrivals → Pair → Type 0
CanHandle a p = HasSlot pair_cmp a.handled p × HasSlot pair_cmp a.drainable p

-- a message may be held at a place
abbrev pub CanHold : Arrivals → LetterPlace → Type 0
CanHold a x = HasSlot place_cmp a.held x × HasSlot pair_cmp a.drainable x.pair

-- no slot is taken away
pub record KeepsArrivals (old new : Arrivals) : Type 0 where
  pub handled : KeepsSlots pair_cmp old.handled new.handled
  pub held : KeepsSlots place_cmp old.held new.held
  pub drainable : KeepsSlots pair_cmp old.drainable new.drainable

-- what arrived stays, whatever slots are there
pub record SameArrivals (old new : Arrivals) : Type 0 where
  pub handled : SameAt pair_cmp old.handled new.handled
  pub held : SameAt place_cmp old.held new.held
