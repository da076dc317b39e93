-- What is shown of the world.
use Rattle.std.specs.Prelude.{◌≡◌, ℕ, List, Result, Ok, Err}
use Rattle.std.specs.Global.{Vec}
use Rattle.base.specs.Entity.{Entity}
use Rattle.base.specs.declared.entity.Kind.{Kind}
use Rattle.base.specs.declared.entity.Kind.TheVariants.{Order, Stock, Account}
use Rattle.base.specs.declared.pair.Pair.{Pair}
use Rattle.keep.specs.Seen.{Seen}
use Rattle.schedule_text.specs.declared.event.ServiceName.{ServiceName}
use Rattle.schedule_text.specs.declared.event.ServiceName.TheVariants.{Purchasing, Warehouse, Billing}
use Rattle.schedule_text.specs.declared.outcome.Outcome.{Outcome}
use Rattle.schedule_text.specs.declared.outcome.Outcome.TheVariants.{Shown, Refused}
use Rattle.schedule_shows.specs.Printed.{shown_or_none, shown_order, shown_stock, shown_account, pair_line}
use Rattle.schedule_shows.specs.Printed.{shown_order_command, shown_stock_command, shown_account_command}
use Rattle.schedule_runner.specs.declared.looking.Listing.{Listing}
use Rattle.schedule_runner.specs.declared.looking.Mark.{Mark}
use Rattle.schedule_runner.specs.declared.looking.Mark.TheVariants.{Sent, Settled, Handled}
use Rattle.schedule_runner.specs.declared.looking.PairTables.{PairTables}
use Rattle.schedule_runner.specs.declared.world.World.{World}
use Rattle.schedule_runner.specs.Looks.{mark_of, IsRow, AreListed, shown_told, ReadsSite}
use Rattle.laws_stores.specs.Sight.{OrderTables, StockTables, AccountTables}

-- this line is shown, or memory was refused to it
abbrev pub MayShow : List ℕ → Outcome → Type 0
MayShow line (Shown lines) = lines.items ≡ line
MayShow line (Refused n) = n ≡ 64
MayShow line _ = ⊥

-- the line that shows what the tables have of a pair
abbrev pub line_of : Pair → PairTables → List ℕ
line_of p tables = pair_line p tables.sent tables.settled tables.handled

-- that line is shown of what was read, or the outcome of its fault told
abbrev pub TellsPair : Pair → Result PairTables Outcome → Outcome → Type 0
TellsPair p (Ok tables) o = MayShow (line_of p tables) o
TellsPair p (Err told) o = o ≡ told

module _ {KO KS KA : Type 0} where
  -- what was read is shown, or the outcome of its fault told
  abbrev pub TellsReading : (Result (Vec ℕ) Outcome → (a b : World KO KS KA) → Type 0) → Outcome
      → (a b : World KO KS KA)
      → Type 0
  TellsReading Reads o a b = (result : Result (Vec ℕ) Outcome) × Reads result a b × (o ≡ shown_told result)

  -- after a mark comes this; or the outcome of its fault is told
  abbrev pub Behind : Result ℕ Outcome → (ℕ → Result PairTables Outcome → (a b : World KO KS KA) → Type 0)
      → Result PairTables Outcome → (mid b : World KO KS KA) → Type 0
  Behind (Ok n) Next r mid b = Next n r mid b
  Behind (Err told) Next r mid b = (r ≡ Err told) × (b ≡ mid)

  -- these are returned, and nothing changes
  abbrev pub Returns : PairTables → Result PairTables Outcome → (a b : World KO KS KA) → Type 0
  Returns tables r a b = (r ≡ Ok tables) × (b ≡ a)

module _ {KO KS KA : Type 0} (orders : KO → Seen OrderTables) (stocks : KS → Seen StockTables)
    (accounts : KA → Seen AccountTables) where
  -- one service reads, and the other two are as they were
  abbrev pub ReadsPurchasing : {R : Type 0} → (OrderTables → R → Type 0) → Result R Outcome → (a b : World KO KS KA)
      → Type 0
  ReadsPurchasing gives result a b = ReadsSite orders gives result a.purchasing a.mail b.purchasing b.mail
      × (b.warehouse ≡ a.warehouse) × (b.billing ≡ a.billing)

  abbrev pub ReadsWarehouse : {R : Type 0} → (StockTables → R → Type 0) → Result R Outcome → (a b : World KO KS KA)
      → Type 0
  ReadsWarehouse gives result a b = ReadsSite stocks gives result a.warehouse a.mail b.warehouse b.mail
      × (b.purchasing ≡ a.purchasing) × (b.billing ≡ a.billing)

  abbrev pub ReadsBilling : {R : Type 0} → (AccountTables → R → Type 0) → Result R Outcome → (a b : World KO KS KA)
      → Type 0
  ReadsBilling gives result a b = ReadsSite accounts gives result a.billing a.mail b.billing b.mail
      × (b.purchasing ≡ a.purchasing) × (b.warehouse ≡ a.warehouse)

  -- the row of an entity, in the service of its kind
  abbrev pub RowOf : Kind → Entity → Result (Vec ℕ) Outcome → (a b : World KO KS KA) → Type 0
  RowOf Order e = ReadsPurchasing (λ t lines. IsRow (shown_or_none shown_order) e t lines.items)
  RowOf Stock e = ReadsWarehouse (λ t lines. IsRow shown_stock e t lines.items)
  RowOf Account e = ReadsBilling (λ t lines. IsRow shown_account e t lines.items)

  -- the frames that a service is to send, or its journal
  abbrev pub ListOf : ServiceName → Listing → Result (Vec ℕ) Outcome → (a b : World KO KS KA) → Type 0
  ListOf Purchasing listing = ReadsPurchasing (λ t lines. AreListed shown_order_command listing t lines.items)
  ListOf Warehouse listing = ReadsWarehouse (λ t lines. AreListed shown_stock_command listing t lines.items)
  ListOf Billing listing = ReadsBilling (λ t lines. AreListed shown_account_command listing t lines.items)

  -- a mark of a pair, in the service of this kind
  abbrev pub MarkOf : Kind → Mark → Pair → Result ℕ Outcome → (a b : World KO KS KA) → Type 0
  MarkOf Order mark p = ReadsPurchasing (λ t n. n ≡ mark_of mark t p)
  MarkOf Stock mark p = ReadsWarehouse (λ t n. n ≡ mark_of mark t p)
  MarkOf Account mark p = ReadsBilling (λ t n. n ≡ mark_of mark t p)

  -- a mark is read, and then comes this
  abbrev pub Marks : Kind → Mark → Pair → (ℕ → Result PairTables Outcome → (a b : World KO KS KA) → Type 0)
      → Result PairTables Outcome → (a b : World KO KS KA) → Type 0
  Marks kind mark p Next r a b = (result : Result ℕ Outcome) × (mid : World KO KS KA) × MarkOf kind mark p result a mid
      × Behind result Next r mid b

  -- how many letters of a pair were handled, of which so many were sent and so many settled
  abbrev pub ReadsHandled : Pair → ℕ → ℕ → Result PairTables Outcome → (a b : World KO KS KA) → Type 0
  ReadsHandled p sent settled = Marks p.to.kind Handled p
      (λ handled. Returns (record { sent = sent; settled = settled; handled = handled }))

  abbrev pub ReadsSettled : Pair → ℕ → Result PairTables Outcome → (a b : World KO KS KA) → Type 0
  ReadsSettled p sent = Marks p.from.kind Settled p (λ settled. ReadsHandled p sent settled)

  -- what the tables have of a pair: the sender's service tells what was sent and settled, the receiver's what was handled
  abbrev pub ReadsPair : Pair → Result PairTables Outcome → (a b : World KO KS KA) → Type 0
  ReadsPair p = Marks p.from.kind Sent p (λ sent. ReadsSettled p sent)

  -- and that is shown
  abbrev pub ShowsPair : Pair → Outcome → (a b : World KO KS KA) → Type 0
  ShowsPair p o a b = (result : Result PairTables Outcome) × ReadsPair p result a b × TellsPair p result o
