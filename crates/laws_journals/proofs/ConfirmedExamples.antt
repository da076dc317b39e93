-- Example: one order from its placing to its confirmation, computed.
use Rattle.std.proofs.Common.{◌≡◌, ℕ, List, [], ◌∷◌, refl, take, Option, Some}
use Rattle.std.specs.Prelude.{codes}
use Rattle.base.specs.Entity.{Entity, order_of, stock_of, account_of}
use Rattle.base.specs.Order.{same_entity, same_pair}
use Rattle.base.specs.declared.pair.Pair.{Pair}
use Rattle.envelope.specs.declared.message.Message.TheVariants.{Request, Tentative, Confirm}
use Rattle.trade.specs.declared.commands.OrderCommand.TheVariants.{Place}
use Rattle.trade.specs.declared.commands.StockCommand.TheVariants.{Receive}
use Rattle.trade.specs.declared.commands.AccountCommand.TheVariants.{SetLimit}
use Rattle.activities.specs.declared.input.Input.TheVariants.{FromSeat, FromEntity}
use Rattle.activities.specs.declared.phase.Phase.{Phase}
use Rattle.trade.specs.declared.line_phase.LinePhase.{LinePhase}
use Rattle.trade.specs.declared.line_phase.LinePhase.TheVariants.{Held, Done}
use Rattle.trade.specs.declared.status.Status.{Status}
use Rattle.trade.specs.declared.status.Status.TheVariants.{Open, Confirmed}
use Rattle.trade.specs.Items.{item}
use Rattle.trade.specs.Lines.{is_before}
use Rattle.trade.specs.Orders.{OrderState}
use Rattle.trade.specs.Stocks.{StockState}
use Rattle.trade.specs.Accounts.{AccountState}
use Rattle.laws_journals.specs.Journals.{sent_in}
use Rattle.laws_journals.specs.Agreement.{states_in}
use Rattle.laws_journals.specs.Steps.{Configuration, Reaches, start}
use Rattle.laws_journals.proofs.Machine.{Action, ToOrder, ToStock, ToAccount, SendsLetter, SendsSettle, Arrives}
use Rattle.laws_journals.proofs.Machine.{act_all, acts_reach}

-- the order o1, its stock bolts and its account acme
abbrev pub order : Entity
order = order_of (codes "o1")

abbrev pub stock : Entity
stock = stock_of (codes "bolts")

abbrev pub account : Entity
account = account_of (codes "acme")

-- a pair
abbrev pub from_to : Entity → Entity → Pair
from_to sender receiver = record { from = sender; to = receiver }

-- ten bolts came in and the limit is 500; the order asks for 3 of them and for all of the limit; every letter arrives,
-- the stock's answer twice, and the stock says how far it has handled
abbrev pub schedule : List Action
schedule =
    ToStock (codes "bolts") 0 (Receive 10) ∷ ToAccount (codes "acme") 0 (SetLimit 500)
    ∷ ToOrder (codes "o1") 0 (Place (item (codes "bolts") 3 ∷ []) (codes "acme") 500)
    ∷ SendsLetter (from_to order stock) 1 ∷ Arrives 0 ∷ SendsLetter (from_to order account) 1 ∷ Arrives 0
    ∷ SendsLetter (from_to stock order) 1 ∷ Arrives 0 ∷ Arrives 0 ∷ SendsLetter (from_to account order) 1 ∷ Arrives 0
    ∷ SendsLetter (from_to order stock) 2 ∷ Arrives 0 ∷ SendsLetter (from_to order account) 2 ∷ Arrives 0
    ∷ SendsSettle (from_to order stock) ∷ Arrives 0 ∷ []

-- the configuration after the first of these actions
abbrev pub after_first : ℕ → Configuration
after_first count = act_all (take count schedule) start

-- the order, with how far it is and how far it is with each partner
abbrev pub order_at : Status → Phase → Phase → Option OrderState
order_at status bolts acme = Some (record {
  status = status;
  partners = record { entity = stock; n = 3; phase = bolts } ∷ record { entity = account; n = 500; phase = acme } ∷ [];
})

-- the stock and the account, with the order's line in this phase
abbrev pub stock_at : ℕ → ℕ → ℕ → LinePhase → StockState
stock_at on_hand held shipped phase =
    record {
      on_hand = on_hand;
      held = held;
      shipped = shipped;
      received = 10;
      lines = record { order = order; n = 3; phase = phase } ∷ [];
    }

abbrev pub account_at : ℕ → ℕ → LinePhase → AccountState
account_at billed held phase = record
    { limit = 500; billed = billed; held = held; lines = record { order = order; n = 500; phase = phase } ∷ [] }

-- how the order comes to be confirmed
pub record IsOnItsWay : Type 0 where
  pub placed : (states_in (after_first 3).journals).orders order ≡ order_at Open Phase.Requested Phase.Requested
  pub stock_holds : (states_in (after_first 5).journals).stocks stock ≡ stock_at 10 3 0 Held
  pub account_holds : (states_in (after_first 7).journals).accounts account ≡ account_at 0 500 Held
  pub half : (states_in (after_first 9).journals).orders order ≡ order_at Open Phase.Tentative Phase.Requested
  pub repeated : (after_first 10).journals ≡ (after_first 9).journals
  pub confirmed : (states_in (after_first 12).journals).orders order
      ≡ order_at Confirmed Phase.Confirmed Phase.Confirmed
  pub shipped : (states_in (after_first 14).journals).stocks stock ≡ stock_at 7 0 3 Done
  pub billed : (states_in (after_first 16).journals).accounts account ≡ account_at 500 0 Done

-- what stands at the end
pub record IsConfirmed (w : Configuration) : Type 0 where
  -- the rows of the three journals
  pub orders : w.journals.orders
      ≡ record { entity = order; input = FromSeat 0 (Place (item (codes "bolts") 3 ∷ []) (codes "acme") 500) }
      ∷ record { entity = order; input = FromEntity stock 1 Tentative }
      ∷ record { entity = order; input = FromEntity account 1 Tentative } ∷ []
  pub stocks : w.journals.stocks
      ≡ record { entity = stock; input = FromSeat 0 (Receive 10) }
      ∷ record { entity = stock; input = FromEntity order 1 (Request 3) }
      ∷ record { entity = stock; input = FromEntity order 2 Confirm } ∷ []
  pub accounts : w.journals.accounts
      ≡ record { entity = account; input = FromSeat 0 (SetLimit 500) }
      ∷ record { entity = account; input = FromEntity order 1 (Request 500) }
      ∷ record { entity = account; input = FromEntity order 2 Confirm } ∷ []
  -- what was sent
  pub to_stock : sent_in w.journals (from_to order stock) ≡ Request 3 ∷ Confirm ∷ []
  pub to_account : sent_in w.journals (from_to order account) ≡ Request 500 ∷ Confirm ∷ []
  pub from_stock : sent_in w.journals (from_to stock order) ≡ Tentative ∷ []
  pub from_account : sent_in w.journals (from_to account order) ≡ Tentative ∷ []
  -- the states
  pub confirmed : (states_in w.journals).orders order ≡ order_at Confirmed Phase.Confirmed Phase.Confirmed
  pub shipped : (states_in w.journals).stocks stock ≡ stock_at 7 0 3 Done
  pub billed : (states_in w.journals).accounts account ≡ account_at 500 0 Done
  -- and how far the stock is known to have handled
  pub settled : w.settled (from_to order stock) ≡ 2

confirmed : IsConfirmed (act_all schedule start)
unfolding same_entity same_pair is_before
confirmed = record {
  orders = refl;
  stocks = refl;
  accounts = refl;
  to_stock = refl;
  to_account = refl;
  from_stock = refl;
  from_account = refl;
  confirmed = refl;
  shipped = refl;
  billed = refl;
  settled = refl;
}

on_its_way : IsOnItsWay
unfolding same_entity same_pair is_before
on_its_way = record {
  placed = refl;
  stock_holds = refl;
  account_holds = refl;
  half = refl;
  repeated = refl;
  confirmed = refl;
  shipped = refl;
  billed = refl;
}

-- and steps lead there from the beginning
reached : Reaches start (act_all schedule start)
reached = acts_reach schedule start
