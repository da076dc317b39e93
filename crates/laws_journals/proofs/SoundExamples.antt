-- Examples: journals that grow, and others that lost something; journals that are sound, and others that aren't.
use Rattle.std.proofs.Common.{[], ◌∷◌, refl, arith, inl, inr, Some, None}
use Rattle.std.specs.Prelude.{codes, IsNone}
use Rattle.base.specs.Entity.{Entity}
use Rattle.base.specs.Order.{same_entity, same_pair}
use Rattle.base.specs.declared.entity.Kind.{Kind}
use Rattle.base.specs.declared.entity.Kind.TheVariants.{Order, Stock, Account}
use Rattle.envelope.specs.declared.message.Message.TheVariants.{Request, Confirm, Cancel}
use Rattle.trade.specs.declared.commands.OrderCommand.TheVariants.{Place}
use Rattle.trade.specs.declared.commands.StockCommand.TheVariants.{Receive}
use Rattle.trade.specs.declared.commands.AccountCommand.TheVariants.{SetLimit}
use Rattle.activities.specs.declared.input.Input.TheVariants.{FromSeat, FromEntity}
use Rattle.trade.specs.Items.{item}
use Rattle.laws_journals.specs.Agreement.{states_in, AreSound, line_by, IsShippedOrBilled, IsAsAsked}
use Rattle.laws_journals.specs.Growth.{Grows, AddsOrder, AddsStock}
use Rattle.laws_journals.specs.Journals.{Journals}
use Rattle.laws_journals.specs.Steps.{start}
use Rattle.trade.specs.declared.status.Status.TheVariants.{Open}
use Rattle.trade.proofs.LineLists.{lines_sound-none}
use Rattle.laws_journals.proofs.ConfirmedExamples.{order, stock, account, from_to, after_first}
use Rattle.laws_journals.proofs.Growth.{grows}

-- the order is placed, and so it has sent its requests; the stock takes the first of them in: nothing is lost
a_placed_order_grows : Grows (after_first 2).journals (after_first 3).journals
a_placed_order_grows =
    grows _ _ (AddsOrder _ (record { of_kind = refl; seated = omega arith; accepted = refl; next = tt }) tt refl)

a_handled_request_grows : Grows (after_first 4).journals (after_first 5).journals
unfolding same_entity same_pair
a_handled_request_grows =
    grows _ _ (AddsStock _ (record { of_kind = refl; seated = tt; accepted = refl; next = refl }) refl refl)

-- without the order's row its request is lost, and without the stock's row the request's handling is
lost_rows_are_no_growth : (Grows (after_first 3).journals start.journals → ⊥)
    × (Grows (after_first 5).journals (after_first 3).journals → ⊥)
unfolding same_entity same_pair
lost_rows_are_no_growth = (
  λ h. let sent = (h.sent (from_to order stock)).1 in absurd (cc),
  λ h. let handled = h.handled (from_to order stock) in omega arith,
)

-- where no service did anything, all is sound
nothing_is_sound : AreSound (states_in start.journals)
nothing_is_sound = record {
  agree = λ order kind. record {
    confirmed = λ is p partner. absurd is;
    only_confirmed = λ at done. not_shipped order at.kind at done;
    one_way = λ p q partner other done undone. partner;
    nowhere_else = λ at none. no_line order at.kind at;
    as_asked = λ at. not_asked order at.kind at;
  };
  orders = λ e. tt;
  stocks = λ e. record {
    conserved = refl;
    bounded = omega arith;
    covered = omega arith;
    held = refl;
    shipped = refl;
    lines = lines_sound-none;
  };
  accounts = λ e. record {
    bounded = omega arith;
    covered = omega arith;
    held = refl;
    billed = refl;
    lines = lines_sound-none;
  };
}
  where
    no_line : (order : Entity) (kind : Kind) (at : Entity) → IsNone (line_by (states_in start.journals) order kind at)
    no_line order Order at = refl
    no_line order Stock at = refl
    no_line order Account at = refl

    not_shipped : (order : Entity) (kind : Kind) (at : Entity)
        → IsShippedOrBilled (line_by (states_in start.journals) order kind at) → ⊥
    not_shipped order Order at done = done
    not_shipped order Stock at done = done
    not_shipped order Account at done = done

    not_asked : (order : Entity) (kind : Kind) (at : Entity)
        → IsAsAsked None at (line_by (states_in start.journals) order kind at)
    not_asked order Order at = tt
    not_asked order Stock at = tt
    not_asked order Account at = tt

-- an order that asks nobody isn't sound
asks_nobody : AreSound (record {
  orders = λ e. Some (record { status = Open; partners = [] });
  stocks = (states_in start.journals).stocks;
  accounts = (states_in start.journals).accounts;
}) → ⊥
asks_nobody h = let some = (h.orders order).some in omega (arith, some)

-- it isn't sound that a stock shipped to an order that nobody placed, though its own numbers are right
abbrev unasked : Journals
unasked = record {
  orders = [];
  stocks = record { entity = stock; input = FromSeat 0 (Receive 10) } ∷ record
      { entity = stock; input = FromEntity order 1 (Request 3) }
      ∷ record { entity = stock; input = FromEntity order 2 Confirm } ∷ [];
  accounts = [];
}

shipped_to_nobody : AreSound (states_in unasked) → ⊥
unfolding same_entity
shipped_to_nobody h = let none = (h.agree order refl).nowhere_else stock (λ no. no) in absurd (cc)

-- nor is it sound that the bolts are shipped and the account gave back what it held
abbrev apart : Journals
apart = record {
  orders = record { entity = order; input = FromSeat 0 (Place (item (codes "bolts") 3 ∷ []) (codes "acme") 500) } ∷ [];
  stocks = unasked.stocks;
  accounts = record { entity = account; input = FromSeat 0 (SetLimit 500) }
      ∷ record { entity = account; input = FromEntity order 1 (Request 500) }
      ∷ record { entity = account; input = FromEntity order 2 Cancel } ∷ [];
}

shipped_and_unbilled : AreSound (states_in apart) → ⊥
unfolding same_entity
shipped_and_unbilled h = (h.agree order refl).one_way stock account (inl refl) (inr (inl refl)) refl (inl refl)
