-- What is seen of tables in memory.
use Rattle.std.specs.Prelude.{◌≡◌, true, None, refl}
use Rattle.keep.specs.Seen.{Seen, IsSound}
use Rattle.keep.specs.Tables.{Tables}
use Rattle.keep_plain.specs.Maps.{tables_in}
use Rattle.keep_plain.specs.declared.maps.Maps.{Maps}
use Rattle.keep_plain.specs.declared.plain.PlainKeep.{PlainKeep}

-- the tables that stand in the maps; a stop leaves them, and nothing fails
abbrev pub in_memory : {S C : Type 0} → Maps S C → Seen (Tables S C)
in_memory k = record {
  tables = tables_in k;
  may_leave = λ t. t ≡ tables_in k;
  failures = 0;
  usable = true;
  doubt = 0;
  armed = None;
}

pub in_memory_sound : {S C : Type 0} (k : Maps S C) → IsSound (in_memory k)
in_memory_sound k = record {
  only_now = λ clean usable t left. left;
  stays = λ clean usable. refl;
  leaves = λ clean. ∣ (tables_in k, refl) ∣₁;
}

-- the tables of a store in memory
abbrev pub tables_of : {H S C : Type 0} → PlainKeep H S C → Tables S C
tables_of k = tables_in k.maps
