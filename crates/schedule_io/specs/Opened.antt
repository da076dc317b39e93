-- Three stores that were opened.
use Rattle.std.specs.Prelude.{◌≡◌, true, None}
use Rattle.keep.specs.Seen.{Seen}
use Rattle.laws_stores.specs.Sight.{AllTables, Sight, OrderTables, StockTables, AccountTables, AreClean, MayLeave}

-- a store that was opened: it may be used, no failure was counted, and none is to come
pub record IsOpened {T : Type 0} (s : Seen T) : Type 0 where
  pub usable : s.usable ≡ true
  pub failures : s.failures ≡ 0
  pub armed : s.armed ≡ None

-- three of them
pub record AreNew (s : Sight) : Type 0 where
  pub purchasing : IsOpened s.purchasing
  pub warehouse : IsOpened s.warehouse
  pub billing : IsOpened s.billing

-- three of them; while no file is in doubt, what is known of tables that are found holds of each content that a stop may
-- leave
pub record AreOpened (Found : AllTables → Type 0) (s : Sight) : Type 0 where
  pub new : AreNew s
  pub found : AreClean s → (t : AllTables) → MayLeave s t → Found t

-- what three stores show
abbrev pub shown : {KO KS KA : Type 0} → (KO → Seen OrderTables) → (KS → Seen StockTables) → (KA → Seen AccountTables)
    → KO × KS × KA → Sight
shown orders stocks accounts keeps =
    record { purchasing = orders keeps.0; warehouse = stocks keeps.1; billing = accounts keeps.2 }

-- of stores that were opened: no file is in doubt, and a stop may leave these tables
abbrev pub AreLeftBy : Sight → AllTables → Type 0
AreLeftBy s t = AreClean s × MayLeave s t
