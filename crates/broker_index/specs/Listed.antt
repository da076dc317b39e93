-- Lists by number, in a map.
use Rattle.std.specs.Prelude.{◌≡◌, ◌≢◌, ℕ, [], Some, Vec}
use Rattle.std.specs.Global.{Global}
use Rattle.std.specs.Ordering.{nat_cmp}
use Rattle.std.specs.BTreeMap.{BTreeMap, get}
use Rattle.broker_index.specs.declared.places.KeyedPlace.{KeyedPlace}

-- each number that is there has a place at least
abbrev pub NoneIsEmpty : BTreeMap ℕ (Vec KeyedPlace Global) → Type 0
NoneIsEmpty lists = (n : ℕ) (list : Vec KeyedPlace Global) → get nat_cmp lists n ≡ Some list → list.items ≢ []
