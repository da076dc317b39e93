-- The tables that stand in the maps.
use Rattle.std.specs.Prelude.{ℕ, Option}
use Rattle.std.specs.Option.{unwrap_or}
use Rattle.std.specs.BTreeMap.{BTreeMap}
use Rattle.base.specs.Order.{entity_cmp, pair_cmp}
use Rattle.base.specs.declared.pair.Pair.{Pair}
use Rattle.keep.specs.Tables.{Tables}
use Rattle.keep_plain.specs.Slots.{at}
use Rattle.keep_plain.specs.Index.{messages_in, handled_at}
use Rattle.keep_plain.specs.declared.maps.Maps.{Maps}
use Rattle.keep_plain.specs.declared.marks.Marks.{Marks}
use Rattle.keep_plain.specs.declared.marks.Mark.{Mark}
use Rattle.keep_plain.specs.declared.marks.Mark.TheVariants.{Sent, Settled}

-- one of the marks
abbrev pub mark_of : Mark → Marks → ℕ
mark_of Sent m = m.sent
mark_of Settled m = m.settled

-- the marks with one of them set
abbrev pub with_mark : Mark → ℕ → Marks → Marks
with_mark Sent n m = record m { sent = n }
with_mark Settled n m = record m { settled = n }

-- the marks of a pair
abbrev pub marks_at : BTreeMap Pair (Option Marks) → Pair → Marks
marks_at marks p = unwrap_or (at pair_cmp marks p) (record { sent = 0; settled = 0 })

-- the tables that stand in the maps
abbrev pub tables_in : {S C : Type 0} → Maps S C → Tables S C
tables_in m = record {
  journal = m.journal.items;
  entity = at entity_cmp m.rows;
  unsettled = messages_in m.outbox;
  sent = λ p. (marks_at m.marks p).sent;
  settled = λ p. (marks_at m.marks p).settled;
  handled = handled_at m.arrivals.handled;
  held = messages_in m.arrivals.held;
}
