-- How the three journals grow: by one row of one service at a time.
use Rattle.std.specs.Prelude.{◌≡◌, ◌≤◌, [], ◌∷◌, ◌++◌, ⊤}
use Rattle.base.specs.Entity.{Entity}
use Rattle.base.specs.declared.entity.Kind.TheVariants.{Order, Stock, Account}
use Rattle.base.specs.declared.pair.Pair.{Pair}
use Rattle.envelope.specs.declared.message.Envelope.{Envelope}
use Rattle.envelope.specs.declared.message.Envelope.TheVariants.{Letter}
use Rattle.trade.specs.declared.commands.OrderCommand.{OrderCommand}
use Rattle.trade.specs.declared.commands.StockCommand.{StockCommand}
use Rattle.trade.specs.declared.commands.AccountCommand.{AccountCommand}
use Rattle.activities.specs.declared.input.Input.{Input}
use Rattle.activities.specs.declared.input.Input.TheVariants.{FromSeat, FromEntity}
use Rattle.activities.specs.declared.input.JournalRow.{JournalRow}
use Rattle.activities.specs.Follow.{MayFollow}
use Rattle.activities.specs.Numbered.{IsPrefixOf}
use Rattle.trade.specs.Orders.{order_reactions}
use Rattle.trade.specs.Stocks.{stock_reactions}
use Rattle.trade.specs.Accounts.{account_reactions}
use Rattle.laws_journals.specs.Journals.{Journals, sent_in, handled_in}
use Rattle.laws_journals.specs.Envelopes.{IsAuthentic}

-- a letter that an entity takes in is one of the known envelopes; a command needs nothing
abbrev pub IsFrom : {C : Type 0} → (Envelope → Type 0) → Entity → Input C → Type 0
IsFrom known e (FromSeat seat command) = ⊤
IsFrom known e (FromEntity sender number message) =
    known (Letter (record { pair = record { from = sender; to = e }; number = number; message = message }))

-- one service wrote one row: one that may follow, and whose letter is one of the known envelopes
pub data AddsRowFrom (known : Envelope → Type 0) (js later : Journals) : Type 0 where
  AddsOrder : (row : JournalRow OrderCommand) → MayFollow order_reactions Order js.orders row
      → IsFrom known row.entity row.input
      → later ≡ record js { orders = js.orders ++ row ∷ [] } → AddsRowFrom known js later
  AddsStock : (row : JournalRow StockCommand) → MayFollow stock_reactions Stock js.stocks row
      → IsFrom known row.entity row.input
      → later ≡ record js { stocks = js.stocks ++ row ∷ [] } → AddsRowFrom known js later
  AddsAccount : (row : JournalRow AccountCommand) → MayFollow account_reactions Account js.accounts row
      → IsFrom known row.entity row.input
      → later ≡ record js { accounts = js.accounts ++ row ∷ [] } → AddsRowFrom known js later

-- one whose letter is authentic
abbrev pub AddsRow : Journals → Journals → Type 0
AddsRow js later = AddsRowFrom (IsAuthentic js) js later

-- nothing that was sent or handled goes away
pub record Grows (js later : Journals) : Type 0 where
  pub sent : (pair : Pair) → IsPrefixOf (sent_in js pair) (sent_in later pair)
  pub handled : (pair : Pair) → handled_in js pair ≤ handled_in later pair
