-- What a relay remembers: the last number that it sent of each pair.
use Rattle.std.specs.Prelude.{ℕ, unwrap_or}
use Rattle.std.specs.BTreeMap.{BTreeMap, get}
use Rattle.base.specs.Order.{pair_cmp}
use Rattle.base.specs.declared.pair.Pair.{Pair}

-- the number of a pair, and 0 where there is none
abbrev pub mark_in : BTreeMap Pair ℕ → Pair → ℕ
mark_in m p = unwrap_or (get pair_cmp m p) 0
