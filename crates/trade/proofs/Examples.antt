-- Examples: an order's life, and a journal of purchasing.
use Rattle.std.proofs.Common.{◌≡◌, ◌<◌, ℕ, suc, List, [], ◌∷◌, ◌++◌, refl, arith}
use Rattle.std.specs.Prelude.{codes, Option, Some, None, Ok, Err, IsOk, is_none}
use Rattle.base.specs.Entity.{Entity, order_of, stock_of, account_of}
use Rattle.base.specs.Order.{same_entity}
use Rattle.envelope.specs.declared.message.Message.{Message}
use Rattle.envelope.specs.declared.message.Message.TheVariants.{Request, Tentative, Refused, Confirm, Cancel}
use Rattle.trade.specs.declared.commands.OrderCommand.{OrderCommand}
use Rattle.trade.specs.declared.commands.OrderCommand.TheVariants.{Place, CancelOrder}
use Rattle.activities.specs.declared.handler.Refusal.TheVariants.{AlreadyPlaced, NotOpen, OutOfRange, BadLines}
use Rattle.activities.specs.declared.input.Input.{Input}
use Rattle.activities.specs.declared.input.Input.TheVariants.{FromSeat, FromEntity}
use Rattle.activities.specs.declared.input.JournalRow.{JournalRow}
use Rattle.trade.specs.declared.items.Item.{Item}
use Rattle.activities.specs.declared.outs.Out.{Out}
use Rattle.activities.specs.declared.phase.Phase.{Phase}
use Rattle.trade.specs.declared.status.Status.{Status}
use Rattle.trade.specs.declared.status.Status.TheVariants.{Open, Confirmed, Cancelled}
use Rattle.activities.specs.Follow.{MayFollow}
use Rattle.activities.specs.Journal.{IsLegal, state_of, sent_of, letters_of, handled_of}
use Rattle.trade.specs.Items.{item}
use Rattle.trade.specs.Orders.{OrderState, order_reactions}
use Rattle.activities.specs.Reaction.{react}
use Rattle.activities.specs.Rows.{row_for, state_for, row_after, row_of}
use Rattle.activities.specs.Service.{Service}
use Rattle.base.specs.declared.entity.Kind.TheVariants.{Order}
use Rattle.activities.proofs.Legal.{legal-more, legal-last, legal-none}

abbrev o1 : Entity
o1 = order_of (codes "o1")

abbrev o2 : Entity
o2 = order_of (codes "o2")

abbrev bolts : Entity
bolts = stock_of (codes "bolts")

abbrev nuts : Entity
nuts = stock_of (codes "nuts")

abbrev acme : Entity
acme = account_of (codes "acme")

-- one of each stock whose key is such an octet
abbrev one_each : List ℕ → List Item
one_each [] = []
one_each (octet ∷ octets) = item (octet ∷ []) 1 ∷ one_each octets

-- ---- an order's life

-- seat 0 places an order for 3 bolts, and 500 from acme
abbrev placing : Input OrderCommand
placing = FromSeat 0 (Place (item (codes "bolts") 3 ∷ []) (codes "acme") 500)

-- an order with these phases of its stock and its account
abbrev order : Status → Phase → Phase → Option OrderState
order status stock account = Some (record {
  status = status;
  partners = record { entity = bolts; n = 3; phase = stock } ∷ record { entity = acme; n = 500; phase = account } ∷ [];
})

abbrev to : Entity → Message → Out
to receiver message = record { receiver = receiver; message = message }

-- a placed order is open, and asks both partners
a_placed_order_asks_both : react order_reactions None placing
    ≡ Ok (order Open Phase.Requested Phase.Requested, to bolts (Request 3) ∷ to acme (Request 500) ∷ [])
a_placed_order_asks_both = refl

-- the first tentative answer sends nothing
one_tentative_waits : react order_reactions (order Open Phase.Requested Phase.Requested) (FromEntity bolts 1 Tentative)
    ≡ Ok (order Open Phase.Tentative Phase.Requested, [])
unfolding same_entity
one_tentative_waits = refl

-- the second confirms the order, and both partners are told
the_second_tentative_confirms : react order_reactions (order Open Phase.Tentative Phase.Requested)
    (FromEntity acme 1 Tentative)
    ≡ Ok (order Confirmed Phase.Confirmed Phase.Confirmed, to bolts Confirm ∷ to acme Confirm ∷ [])
unfolding same_entity
the_second_tentative_confirms = refl

-- a partner counts as tentative in that phase alone: one that was confirmed, that refused or was cancelled doesn't
only_the_tentative_count :
    (react order_reactions (order Open Phase.Confirmed Phase.Requested) (FromEntity acme 1 Tentative)
    ≡ Ok (order Open Phase.Confirmed Phase.Tentative, []))
    × (react order_reactions (order Open Phase.Refused Phase.Requested) (FromEntity acme 1 Tentative)
    ≡ Ok (order Open Phase.Refused Phase.Tentative, []))
    × (react order_reactions (order Open Phase.Cancelled Phase.Requested) (FromEntity acme 1 Tentative)
    ≡ Ok (order Open Phase.Cancelled Phase.Tentative, []))
unfolding same_entity
only_the_tentative_count = (refl, refl, refl)

-- a refusal cancels the order; the other partner alone is told
a_refusal_cancels_the_other : react order_reactions (order Open Phase.Tentative Phase.Requested)
    (FromEntity acme 1 Refused)
    ≡ Ok (order Cancelled Phase.Cancelled Phase.Refused, to bolts Cancel ∷ [])
unfolding same_entity
a_refusal_cancels_the_other = refl

-- at an order that is closed an answer changes nothing, whatever its sender was asked
a_closed_order_stays :
    (react order_reactions (order Cancelled Phase.Requested Phase.Cancelled) (FromEntity bolts 1 Refused)
    ≡ Ok (order Cancelled Phase.Requested Phase.Cancelled, []))
    × (react order_reactions (order Cancelled Phase.Requested Phase.Tentative) (FromEntity bolts 1 Tentative)
    ≡ Ok (order Cancelled Phase.Requested Phase.Tentative, []))
unfolding same_entity
a_closed_order_stays = (refl, refl)

-- a seat cancels an open order, and both partners are told; a confirmed one it can't cancel
a_seat_cancels :
    (react order_reactions (order Open Phase.Tentative Phase.Requested) (FromSeat 1 CancelOrder)
    ≡ Ok (order Cancelled Phase.Cancelled Phase.Cancelled, to bolts Cancel ∷ to acme Cancel ∷ []))
    × (react order_reactions (order Confirmed Phase.Confirmed Phase.Confirmed) (FromSeat 1 CancelOrder) ≡ Err NotOpen)
a_seat_cancels = (refl, refl)

-- ---- an order of two stocks

-- seat 0 places an order for 3 bolts and 4 nuts, and 500 from acme
abbrev placing_two : Input OrderCommand
placing_two = FromSeat 0 (Place (item (codes "bolts") 3 ∷ item (codes "nuts") 4 ∷ []) (codes "acme") 500)

-- an order with these phases of its bolts, its nuts and its account
abbrev order_of_two : Status → Phase → Phase → Phase → Option OrderState
order_of_two status bolts_phase nuts_phase account = Some (record {
  status = status;
  partners = record { entity = bolts; n = 3; phase = bolts_phase } ∷ record { entity = nuts; n = 4; phase = nuts_phase }
      ∷ record { entity = acme; n = 500; phase = account } ∷ [];
})

-- each stock is asked, in the order in which they were placed, and then the account
each_stock_is_asked : react order_reactions None placing_two
    ≡ Ok (
      order_of_two Open Phase.Requested Phase.Requested Phase.Requested,
      to bolts (Request 3) ∷ to nuts (Request 4) ∷ to acme (Request 500) ∷ [],
    )
each_stock_is_asked = refl

-- while another wasn't heard of, a tentative answer sends nothing; the last one confirms all
all_have_to_hold :
    (react order_reactions (order_of_two Open Phase.Tentative Phase.Requested Phase.Requested)
    (FromEntity acme 1 Tentative)
    ≡ Ok (order_of_two Open Phase.Tentative Phase.Requested Phase.Tentative, []))
    × (react order_reactions (order_of_two Open Phase.Tentative Phase.Requested Phase.Tentative)
    (FromEntity nuts 1 Tentative)
    ≡ Ok (
      order_of_two Confirmed Phase.Confirmed Phase.Confirmed Phase.Confirmed,
      to bolts Confirm ∷ to nuts Confirm ∷ to acme Confirm ∷ [],
    ))
unfolding same_entity
all_have_to_hold = (refl, refl)

-- a refusal cancels the order; all others are told, whether they hold what they were asked for or weren't heard of
a_refusal_cancels_all_others :
    react order_reactions (order_of_two Open Phase.Tentative Phase.Requested Phase.Requested)
    (FromEntity nuts 1 Refused)
    ≡ Ok (order_of_two Cancelled Phase.Cancelled Phase.Refused Phase.Cancelled, to bolts Cancel ∷ to acme Cancel ∷ [])
unfolding same_entity
a_refusal_cancels_all_others = refl

-- ---- what is refused

-- an order is placed once, for 1 at least; what isn't placed can't be cancelled
commands_are_refused : (react order_reactions (order Open Phase.Requested Phase.Requested) placing ≡ Err AlreadyPlaced)
    × (react order_reactions None (FromSeat 0 (Place (item (codes "bolts") 0 ∷ []) (codes "acme") 500))
    ≡ Err OutOfRange)
    × (react order_reactions None (FromSeat 0 CancelOrder) ≡ Err NotOpen)
commands_are_refused = (refl, refl, refl)

-- no line, a stock twice, and nine lines are refused, and before a number out of range is; eight lines aren't
lines_are_one_to_eight : (react order_reactions None (FromSeat 0 (Place [] (codes "acme") 500)) ≡ Err BadLines)
    × (react order_reactions None (FromSeat 0 (Place (item (codes "a") 1 ∷ item (codes "b") 1 ∷ item (codes "a") 1 ∷ [])
    (codes "acme") 5))
    ≡ Err BadLines)
    × (react order_reactions None (FromSeat 0 (Place (item (codes "a") 0 ∷ item (codes "a") 1 ∷ []) (codes "acme") 0))
    ≡ Err BadLines)
    × (react order_reactions None (FromSeat 0 (Place (one_each (codes "abcdefghi")) (codes "acme") 5)) ≡ Err BadLines)
    × IsOk (react order_reactions None (FromSeat 0 (Place (one_each (codes "abcdefgh")) (codes "acme") 5)))
lines_are_one_to_eight = (refl, refl, refl, refl, refl)

-- what is asked for is 1 to 2^40, of each stock and of the account
amounts_are_in_range : (react order_reactions None (FromSeat 0 (Place (item (codes "bolts") 3 ∷ item (codes "nuts") 0 ∷
    [])
    (codes "acme") 5))
    ≡ Err OutOfRange)
    × (react order_reactions None (FromSeat 0 (Place (item (codes "bolts") 3 ∷ []) (codes "acme") 0)) ≡ Err OutOfRange)
    × (react order_reactions None (FromSeat 0 (Place (item (codes "bolts") 1099511627777 ∷ []) (codes "acme") 500))
    ≡ Err OutOfRange)
    × (react order_reactions None (FromSeat 0 (Place (item (codes "bolts") 3 ∷ []) (codes "acme") 1099511627777))
    ≡ Err OutOfRange)
    × IsOk (react order_reactions None (FromSeat 0 (Place (item (codes "bolts") 1099511627776 ∷ []) (codes "acme")
    1099511627776)))
amounts_are_in_range = (refl, refl, refl, refl, refl)

-- a partner answers once: what it says behind its answer changes nothing
second_answers_change_nothing :
    (react order_reactions (order Open Phase.Tentative Phase.Requested) (FromEntity bolts 2 Refused)
    ≡ Ok (order Open Phase.Tentative Phase.Requested, []))
    × (react order_reactions (order Open Phase.Tentative Phase.Requested) (FromEntity bolts 2 Tentative)
    ≡ Ok (order Open Phase.Tentative Phase.Requested, []))
    × (react order_reactions (order Confirmed Phase.Confirmed Phase.Confirmed) (FromEntity acme 2 Refused)
    ≡ Ok (order Confirmed Phase.Confirmed Phase.Confirmed, []))
unfolding same_entity
second_answers_change_nothing = (refl, refl, refl)

-- an answer that comes late, or from no partner, changes nothing
late_answers_change_nothing :
    (react order_reactions (order Cancelled Phase.Cancelled Phase.Refused) (FromEntity bolts 1 Tentative)
    ≡ Ok (order Cancelled Phase.Cancelled Phase.Refused, []))
    × (react order_reactions (order Open Phase.Requested Phase.Requested)
    (FromEntity (stock_of (codes "nuts")) 1 Refused)
    ≡ Ok (order Open Phase.Requested Phase.Requested, []))
unfolding same_entity
late_answers_change_nothing = (refl, refl)

-- ---- a journal of purchasing

-- `o1` is placed and both partners answer; `o2` is placed between
abbrev rows : List (JournalRow OrderCommand)
rows = record { entity = o1; input = placing }
    ∷ record { entity = o1; input = FromEntity bolts 1 Tentative }
    ∷ record { entity = o2; input = placing }
    ∷ record { entity = o1; input = FromEntity acme 1 Tentative }
    ∷ []

-- each order has its own state
states_are_by_order : (state_of order_reactions rows o1 ≡ order Confirmed Phase.Confirmed Phase.Confirmed)
    × (state_of order_reactions rows o2 ≡ order Open Phase.Requested Phase.Requested)
unfolding same_entity
states_are_by_order = (refl, refl)

-- `o1` sent the stock a request and then a confirm; `o2` has sent a request alone
letters_are_by_pair : (sent_of order_reactions rows (record { from = o1; to = bolts }) ≡ Request 3 ∷ Confirm ∷ [])
    × (sent_of order_reactions rows (record { from = o2; to = bolts }) ≡ Request 3 ∷ [])
unfolding same_entity
letters_are_by_pair = (refl, refl)

-- of each partner one letter was handled; what the stock handled stands in another journal
handled_letters_are_counted : (letters_of rows (record { from = bolts; to = o1 }) ≡ (1, Tentative) ∷ [])
    × (handled_of rows (record { from = acme; to = o1 }) ≡ 1) × (handled_of rows (record { from = o1; to = bolts }) ≡ 0)
unfolding same_entity
handled_letters_are_counted = (refl, refl, refl)

-- the stock's first letter to `o2` may follow; it has the number 1, since none was handled
the_next_letter_may_follow : MayFollow order_reactions Order rows (record
    { entity = o2; input = FromEntity bolts 1 Tentative })
unfolding same_entity
the_next_letter_may_follow = record { of_kind = refl; seated = tt; accepted = refl; next = refl }

-- seats are numbered from 0 to 15: the last may place an order, and there is none behind it
the_last_seat_may_command : MayFollow order_reactions Order []
    (record { entity = o1; input = FromSeat 15 (Place (item (codes "bolts") 3 ∷ []) (codes "acme") 500) })
the_last_seat_may_command = record { of_kind = refl; seated = omega arith; accepted = refl; next = tt }

no_other_seat_may_command : MayFollow order_reactions Order []
    (record { entity = o1; input = FromSeat 16 (Place (item (codes "bolts") 3 ∷ []) (codes "acme") 500) }) → ⊥
no_other_seat_may_command may = apart may.seated
  where
    apart : 16 < 16 → ⊥
    apart h = omega arith

-- purchasing
abbrev orders : Service (Option OrderState) OrderCommand
orders = record { kind = Order; reactions = order_reactions; is_none = λ s. is_none s }

-- no row stands for an order that took nothing in, nor for one whose state is none
rows_stand_for_states : (row_after orders (placing ∷ []) ≡ Some (order Open Phase.Requested Phase.Requested))
    × (row_after orders [] ≡ None) × (row_after orders (FromEntity bolts 1 Tentative ∷ []) ≡ None)
    × (row_for orders.is_none (order Open Phase.Requested Phase.Requested)
    ≡ Some (order Open Phase.Requested Phase.Requested))
    × (state_for None (row_for orders.is_none None) ≡ None)
    × (row_of orders (record { entity = o1; input = placing } ∷ []) o1
    ≡ Some (order Open Phase.Requested Phase.Requested))
    × (row_of orders (record { entity = o1; input = placing } ∷ []) o2 ≡ None)
unfolding same_entity
rows_stand_for_states = (refl, refl, refl, refl, refl, refl, refl)

-- so the journal of these rows is legal, row by row; one with a letter of a number that was handled is not
placed_and_answered : IsLegal order_reactions Order
    (record { entity = o1; input = placing } ∷ record { entity = o1; input = FromEntity bolts 1 Tentative } ∷ [])
unfolding same_entity
placed_and_answered = legal-more order_reactions Order (record { entity = o1; input = placing } ∷ [])
    (record { entity = o1; input = FromEntity bolts 1 Tentative })
    (legal-more order_reactions Order [] (record { entity = o1; input = placing }) (legal-none order_reactions Order)
    (record { of_kind = refl; seated = omega arith; accepted = refl; next = tt }))
    (record { of_kind = refl; seated = tt; accepted = refl; next = refl })

a_repeated_letter_is_not_legal : IsLegal order_reactions Order (rows
    ++ record { entity = o1; input = FromEntity bolts 1 Tentative } ∷ [])
    → ⊥
unfolding same_entity
a_repeated_letter_is_not_legal legal =
    apart ((legal-last order_reactions Order rows (record { entity = o1; input = FromEntity bolts 1 Tentative })
    legal).next)
  where
    apart : 1 ≡ suc 1 → ⊥
    apart h = omega arith
