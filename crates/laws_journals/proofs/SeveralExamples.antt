-- Example: an order of two stocks, which is confirmed once all hold, and is cancelled where one refuses, computed.
use Rattle.std.proofs.Common.{◌≡◌, ℕ, List, [], ◌∷◌, refl, inl, inr, take, Option, Some}
use Rattle.std.specs.Prelude.{codes}
use Rattle.base.specs.Entity.{Entity, stock_of}
use Rattle.base.specs.Order.{same_entity, same_pair}
use Rattle.envelope.specs.declared.message.Message.TheVariants.{Request, Confirm, Cancel}
use Rattle.trade.specs.declared.commands.OrderCommand.TheVariants.{Place}
use Rattle.trade.specs.declared.commands.StockCommand.TheVariants.{Receive}
use Rattle.trade.specs.declared.commands.AccountCommand.TheVariants.{SetLimit}
use Rattle.activities.specs.declared.phase.Phase.{Phase}
use Rattle.trade.specs.declared.line_phase.LinePhase.{LinePhase}
use Rattle.trade.specs.declared.line_phase.LinePhase.TheVariants.{Done, Released}
use Rattle.trade.specs.declared.status.Status.{Status}
use Rattle.trade.specs.declared.status.Status.TheVariants.{Open, Confirmed, Cancelled}
use Rattle.trade.specs.Items.{item}
use Rattle.trade.specs.Lines.{is_before}
use Rattle.trade.specs.Orders.{OrderState}
use Rattle.trade.specs.Stocks.{StockState}
use Rattle.laws_journals.specs.Journals.{sent_in}
use Rattle.laws_journals.specs.Agreement.{states_in, HasRefused}
use Rattle.laws_journals.specs.Steps.{Configuration, Reaches, start}
use Rattle.laws_journals.proofs.ConfirmedExamples.{order, stock, account, from_to, stock_at, account_at}
use Rattle.laws_journals.proofs.Machine.{Action, ToOrder, ToStock, ToAccount, SendsLetter, Arrives, act_all, acts_reach}

abbrev nuts : Entity
nuts = stock_of (codes "nuts")

-- ten bolts and four nuts came in; the order asks for 3 bolts, so many nuts and all of the limit; the nuts answer
-- first, the account last, and whatever the order tells arrives
abbrev schedule : ℕ → List Action
schedule asked =
    ToStock (codes "bolts") 0 (Receive 10) ∷ ToStock (codes "nuts") 0 (Receive 4) ∷ ToAccount (codes "acme") 0
    (SetLimit 500)
    ∷ ToOrder (codes "o1") 0 (Place (item (codes "bolts") 3 ∷ item (codes "nuts") asked ∷ []) (codes "acme") 500)
    ∷ SendsLetter (from_to order stock) 1 ∷ Arrives 0 ∷ SendsLetter (from_to order nuts) 1 ∷ Arrives 0
    ∷ SendsLetter (from_to order account) 1 ∷ Arrives 0 ∷ SendsLetter (from_to nuts order) 1 ∷ Arrives 0
    ∷ SendsLetter (from_to stock order) 1 ∷ Arrives 0 ∷ SendsLetter (from_to account order) 1 ∷ Arrives 0
    ∷ SendsLetter (from_to order stock) 2 ∷ Arrives 0 ∷ SendsLetter (from_to order nuts) 2 ∷ Arrives 0
    ∷ SendsLetter (from_to order account) 2 ∷ Arrives 0 ∷ []

-- the configuration after the first of these actions, and after all
abbrev after_first : ℕ → ℕ → Configuration
after_first asked count = act_all (take count (schedule asked)) start

abbrev after_all : ℕ → Configuration
after_all asked = act_all (schedule asked) start

-- the order, with how far it is and how far it is with each partner
abbrev order_at : ℕ → Status → Phase → Phase → Phase → Option OrderState
order_at asked status of_bolts of_nuts of_account = Some (record {
  status = status;
  partners = record { entity = stock; n = 3; phase = of_bolts } ∷ record { entity = nuts; n = asked; phase = of_nuts }
      ∷ record { entity = account; n = 500; phase = of_account } ∷ [];
})

-- the nuts, with the order's line in this phase
abbrev nuts_at : ℕ → ℕ → ℕ → LinePhase → StockState
nuts_at asked on_hand shipped phase =
    record {
      on_hand = on_hand;
      held = 0;
      shipped = shipped;
      received = 4;
      lines = record { order = order; n = asked; phase = phase } ∷ [];
    }

-- for four nuts
pub record AllHold : Type 0 where
  -- two hold, and the third wasn't heard of
  pub waits : (states_in (after_first 4 14).journals).orders order ≡ order_at 4 Open Phase.Tentative Phase.Tentative
      Phase.Requested
  pub untold : sent_in (after_first 4 14).journals (from_to order nuts) ≡ Request 4 ∷ []
  -- all hold
  pub confirmed : (states_in (after_first 4 16).journals).orders order
      ≡ order_at 4 Confirmed Phase.Confirmed Phase.Confirmed Phase.Confirmed
  pub told : sent_in (after_first 4 16).journals (from_to order nuts) ≡ Request 4 ∷ Confirm ∷ []
  pub bolts_shipped : (states_in (after_all 4).journals).stocks stock ≡ stock_at 7 0 3 Done
  pub nuts_shipped : (states_in (after_all 4).journals).stocks nuts ≡ nuts_at 4 0 4 Done
  pub billed : (states_in (after_all 4).journals).accounts account ≡ account_at 500 0 Done

-- for five
pub record OneRefuses : Type 0 where
  pub cancelled : (states_in (after_first 5 12).journals).orders order
      ≡ order_at 5 Cancelled Phase.Cancelled Phase.Refused Phase.Cancelled
  pub known : HasRefused ((states_in (after_first 5 12).journals).orders order) nuts
  -- all others are told, though one wasn't heard of; the one that refused isn't
  pub to_bolts : sent_in (after_first 5 12).journals (from_to order stock) ≡ Request 3 ∷ Cancel ∷ []
  pub to_nuts : sent_in (after_first 5 12).journals (from_to order nuts) ≡ Request 5 ∷ []
  pub to_account : sent_in (after_first 5 12).journals (from_to order account) ≡ Request 500 ∷ Cancel ∷ []
  -- the answers of the others change nothing
  pub late : (states_in (after_first 5 16).journals).orders order ≡ (states_in (after_first 5 12).journals).orders order
  pub bolts_free : (states_in (after_all 5).journals).stocks stock ≡ stock_at 10 0 0 Released
  pub nuts_free : (states_in (after_all 5).journals).stocks nuts ≡ nuts_at 5 4 0 LinePhase.Refused
  pub account_free : (states_in (after_all 5).journals).accounts account ≡ account_at 0 0 Released

all_hold : AllHold
unfolding same_entity same_pair is_before
all_hold = record {
  waits = refl;
  untold = refl;
  confirmed = refl;
  told = refl;
  bolts_shipped = refl;
  nuts_shipped = refl;
  billed = refl;
}

one_refuses : OneRefuses
unfolding same_entity same_pair is_before
one_refuses = record {
  cancelled = refl;
  known = inr (inl (refl, refl));
  to_bolts = refl;
  to_nuts = refl;
  to_account = refl;
  late = refl;
  bolts_free = refl;
  nuts_free = refl;
  account_free = refl;
}

-- and steps lead to both from the beginning
reached : (asked : ℕ) → Reaches start (act_all (schedule asked) start)
reached asked = acts_reach (schedule asked) start
