-- What stands in the maps of pairs and of places, and the index of the pairs whose next message is held.
use Rattle.std.specs.Prelude.{◌≡◌, ℕ, Option, is_some}
use Rattle.std.specs.Option.{unwrap_or}
use Rattle.std.specs.BTreeMap.{BTreeMap}
use Rattle.base.specs.Order.{pair_cmp}
use Rattle.base.specs.declared.pair.Pair.{Pair}
use Rattle.envelope.specs.declared.message.Message.{Message}
use Rattle.keep.specs.declared.change.LetterPlace.{LetterPlace}
use Rattle.keep.specs.Listing.{next_held}
use Rattle.keep.specs.Places.{place_cmp}
use Rattle.keep.specs.Tables.{Messages}
use Rattle.keep_plain.specs.Slots.{at}

-- the messages that stand at places
abbrev pub messages_in : BTreeMap LetterPlace (Option Message) → Messages
messages_in m p n = at place_cmp m (record { pair = p; number = n })

-- the last number handled of a pair: 0 where none was
abbrev pub handled_at : BTreeMap Pair (Option ℕ) → Pair → ℕ
handled_at handled p = unwrap_or (at pair_cmp handled p) 0

-- those pairs stand among the drainable ones whose next message is held
abbrev pub IsIndexed : BTreeMap Pair (Option ℕ) → BTreeMap LetterPlace (Option Message) → BTreeMap Pair (Option (Unit {0}))
    → Type 0
IsIndexed handled held drainable = (p : Pair)
    → is_some (at pair_cmp drainable p) ≡ is_some (next_held (messages_in held) (handled_at handled) p)
