-- Three services, and what they ever wrote and took, over a broker of which nothing is known.
use Rattle.std.specs.Prelude.{◌≡◌, List, []}
use Rattle.envelope.specs.declared.message.Envelope.{Envelope}
use Rattle.envelope.specs.declared.message.Letter.{Letter}
use Rattle.keep.specs.Seen.{Seen}
use Rattle.keep.specs.Tables.{empty}
use Rattle.laws_stores.specs.Sight.{Sight, OrderTables, StockTables, AccountTables}

-- all envelopes that the services ever wrote, whatever became of them, and the letters that they took
pub record Traffic : Type 0 where
  pub written : List Envelope
  pub taken : List Letter

-- the stores of three services, and their traffic
pub record Services (KO KS KA : Type 0) : Type 0 where
  pub purchasing : KO
  pub warehouse : KS
  pub billing : KA
  pub traffic : Traffic

module _ {KO KS KA : Type 0} (orders : KO → Seen OrderTables) (stocks : KS → Seen StockTables)
    (accounts : KA → Seen AccountTables) where
  -- what is seen of the stores
  abbrev pub sight_of : Services KO KS KA → Sight
  sight_of w = record {
    purchasing = orders w.purchasing;
    warehouse = stocks w.warehouse;
    billing = accounts w.billing;
  }

  -- the services did nothing yet: whatever a stop leaves, their tables are empty
  pub record DidNothing (w : Services KO KS KA) : Type 0 where
    pub purchasing : (t : OrderTables) → (orders w.purchasing).may_leave t → t ≡ empty
    pub warehouse : (t : StockTables) → (stocks w.warehouse).may_leave t → t ≡ empty
    pub billing : (t : AccountTables) → (accounts w.billing).may_leave t → t ≡ empty
    pub written : w.traffic.written ≡ []
    pub taken : w.traffic.taken ≡ []
