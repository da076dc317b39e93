-- Example: one order whose account refuses, and a cancel that overtakes the request that it cancels, computed.
use Rattle.std.proofs.Common.{◌≡◌, ℕ, List, [], ◌∷◌, refl, inl, inr, take, Some}
use Rattle.std.specs.Prelude.{codes}
use Rattle.base.specs.Order.{same_entity, same_pair}
use Rattle.envelope.specs.declared.message.Message.TheVariants.{Request, Tentative, Refused, Cancel}
use Rattle.trade.specs.declared.commands.OrderCommand.TheVariants.{Place}
use Rattle.trade.specs.declared.commands.StockCommand.TheVariants.{Receive}
use Rattle.trade.specs.declared.commands.AccountCommand.TheVariants.{SetLimit}
use Rattle.activities.specs.declared.phase.Phase.{Phase}
use Rattle.trade.specs.declared.line_phase.LinePhase.{LinePhase}
use Rattle.trade.specs.declared.line_phase.LinePhase.TheVariants.{Held, Released}
use Rattle.trade.specs.declared.status.Status.TheVariants.{Cancelled}
use Rattle.trade.specs.Items.{item}
use Rattle.trade.specs.Lines.{is_before}
use Rattle.laws_journals.specs.Journals.{sent_in}
use Rattle.laws_journals.specs.Agreement.{states_in, HasRefused}
use Rattle.laws_journals.proofs.ConfirmedExamples.{order, stock, account, from_to, stock_at}
use Rattle.laws_journals.specs.Steps.{Configuration, Reaches, start}
use Rattle.laws_journals.proofs.Machine.{Action, ToOrder, ToStock, ToAccount, SendsLetter, SendsSettle, Arrives}
use Rattle.laws_journals.proofs.Machine.{act_all, acts_reach}

-- ten bolts came in and the limit is 500; the order asks for 3 of them and for 501; the account refuses before the
-- stock is asked, and the order's cancel arrives at the stock first; then the request arrives, the cancel again, two
-- settles in the wrong order, and what the stock had answered
abbrev pub schedule : List Action
schedule =
    ToStock (codes "bolts") 0 (Receive 10) ∷ ToAccount (codes "acme") 0 (SetLimit 500)
    ∷ ToOrder (codes "o1") 0 (Place (item (codes "bolts") 3 ∷ []) (codes "acme") 501)
    ∷ SendsLetter (from_to order account) 1 ∷ Arrives 0 ∷ SendsLetter (from_to account order) 1 ∷ Arrives 0
    ∷ SendsLetter (from_to order stock) 2 ∷ Arrives 0 ∷ SendsLetter (from_to order stock) 1 ∷ Arrives 0 ∷ SendsSettle
    (from_to order stock)
    ∷ Arrives 2 ∷ SendsSettle (from_to order stock) ∷ Arrives 0 ∷ Arrives 1
    ∷ SendsLetter (from_to stock order) 1 ∷ Arrives 0 ∷ []

-- the configuration after the first of these actions
abbrev pub after_first : ℕ → Configuration
after_first count = act_all (take count schedule) start

-- how the order comes to be cancelled
pub record IsCancelledByRefusal : Type 0 where
  pub refused : (states_in (after_first 5).journals).accounts account
      ≡ record {
        limit = 500;
        billed = 0;
        held = 0;
        lines =
            record { order = order; n = 501; phase = LinePhase.Refused } ∷ [];
      }
  pub cancelled : (states_in (after_first 7).journals).orders order ≡ Some (record {
    status = Cancelled;
    partners = record { entity = stock; n = 3; phase = Phase.Cancelled } ∷ record
        { entity = account; n = 501; phase = Phase.Refused } ∷ [];
  })
  pub known : HasRefused ((states_in (after_first 7).journals).orders order) account
  -- the cancel waits for the request
  pub overtaken : (after_first 9).journals ≡ (after_first 7).journals
  pub held : (states_in (after_first 11).journals).stocks stock ≡ stock_at 10 3 0 Held
  pub released : (states_in (after_first 13).journals).stocks stock ≡ stock_at 10 0 0 Released
  -- an older settle takes no mark back
  pub settled : (after_first 15).settled (from_to order stock) ≡ 2
  pub still_settled : (after_first 16).settled (from_to order stock) ≡ 2
  -- a late answer changes nothing
  pub late : (states_in (after_first 18).journals).orders order ≡ (states_in (after_first 7).journals).orders order
  pub to_stock : sent_in (after_first 18).journals (from_to order stock) ≡ Request 3 ∷ Cancel ∷ []
  pub to_account : sent_in (after_first 18).journals (from_to order account) ≡ Request 501 ∷ []
  pub from_stock : sent_in (after_first 18).journals (from_to stock order) ≡ Tentative ∷ []
  pub from_account : sent_in (after_first 18).journals (from_to account order) ≡ Refused ∷ []

cancelled : IsCancelledByRefusal
unfolding same_entity same_pair is_before
cancelled = record {
  refused = refl;
  cancelled = refl;
  known = inr (inl (refl, refl));
  overtaken = refl;
  held = refl;
  released = refl;
  settled = refl;
  still_settled = refl;
  late = refl;
  to_stock = refl;
  to_account = refl;
  from_stock = refl;
  from_account = refl;
}

-- and steps lead there from the beginning
reached : Reaches start (act_all schedule start)
reached = acts_reach schedule start
