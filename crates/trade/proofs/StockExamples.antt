-- Examples: a stock and an account, which hold, ship and bill.
use Rattle.std.proofs.Common.{◌≡◌, ℕ, List, [], ◌∷◌, refl}
use Rattle.std.specs.Prelude.{codes, Ok, Err}
use Rattle.base.specs.Entity.{Entity, order_of, stock_of, account_of}
use Rattle.base.specs.Order.{same_entity}
use Rattle.envelope.specs.declared.message.Message.{Message}
use Rattle.envelope.specs.declared.message.Message.TheVariants.{Request, Tentative, Refused, Confirm, Cancel}
use Rattle.trade.specs.declared.commands.StockCommand.TheVariants.{Receive}
use Rattle.trade.specs.declared.commands.AccountCommand.TheVariants.{SetLimit}
use Rattle.activities.specs.declared.handler.Refusal.TheVariants.{OutOfRange, BelowUse}
use Rattle.activities.specs.declared.input.Input.TheVariants.{FromSeat, FromEntity}
use Rattle.activities.specs.declared.outs.Out.{Out}
use Rattle.trade.specs.declared.line_phase.LinePhase.{LinePhase}
use Rattle.trade.specs.Accounts.{AccountState, account_reactions}
use Rattle.trade.specs.Lines.{Line, is_before, total}
use Rattle.activities.specs.Reaction.{react}
use Rattle.trade.specs.Stocks.{StockState, stock_reactions}

abbrev o1 : Entity
o1 = order_of (codes "o1")

abbrev o2 : Entity
o2 = order_of (codes "o2")

abbrev to : Entity → Message → Out
to receiver message = record { receiver = receiver; message = message }

-- lines of `o1` for 3 and of `o2` for 6
abbrev lines : LinePhase → LinePhase → List Line
lines first second = record { order = o1; n = 3; phase = first } ∷ record { order = o2; n = 6; phase = second } ∷ []

abbrev later_line : List Line
later_line = record { order = o2; n = 6; phase = LinePhase.Held } ∷ []

abbrev stock : ℕ → ℕ → ℕ → ℕ → List Line → StockState
stock on_hand held shipped received ls =
    record { on_hand = on_hand; held = held; shipped = shipped; received = received; lines = ls }

abbrev account : ℕ → ℕ → ℕ → List Line → AccountState
account limit billed held ls = record { limit = limit; billed = billed; held = held; lines = ls }

-- what is asked for is held while enough is free, and refused beyond; lines stand in order of the orders' keys
a_stock_holds_what_is_free :
    (react stock_reactions (stock 9 6 0 9 later_line) (FromEntity o1 1 (Request 3))
    ≡ Ok (stock 9 9 0 9 (lines LinePhase.Held LinePhase.Held), to o1 Tentative ∷ []))
    × (react stock_reactions (stock 8 6 0 8 later_line) (FromEntity o1 1 (Request 3))
    ≡ Ok (stock 8 6 0 8 (lines LinePhase.Refused LinePhase.Held), to o1 Refused ∷ []))
unfolding same_entity is_before
a_stock_holds_what_is_free = (refl, refl)

-- the line of a later key goes behind
lines_stand_in_order :
    react stock_reactions (stock 9 3 0 9 (record { order = o1; n = 3; phase = LinePhase.Held } ∷ []))
    (FromEntity o2 1 (Request 6))
    ≡ Ok (stock 9 9 0 9 (lines LinePhase.Held LinePhase.Held), to o2 Tentative ∷ [])
unfolding same_entity is_before
lines_stand_in_order = refl

-- what is held, and what is done, is counted by itself
totals_are_by_phase : (total LinePhase.Held (lines LinePhase.Held LinePhase.Done) ≡ 3)
    × (total LinePhase.Done (lines LinePhase.Held LinePhase.Done) ≡ 6)
    × (total LinePhase.Released (lines LinePhase.Held LinePhase.Done) ≡ 0)
totals_are_by_phase = (refl, refl, refl)

-- a confirm ships what is held, and a cancel sets it free; behind a confirm a cancel has no effect
a_stock_ships_or_releases :
    (react stock_reactions (stock 10 9 0 10 (lines LinePhase.Held LinePhase.Held)) (FromEntity o1 2 Confirm)
    ≡ Ok (stock 7 6 3 10 (lines LinePhase.Done LinePhase.Held), []))
    × (react stock_reactions (stock 10 9 0 10 (lines LinePhase.Held LinePhase.Held)) (FromEntity o2 2 Cancel)
    ≡ Ok (stock 10 3 0 10 (lines LinePhase.Held LinePhase.Released), []))
    × (react stock_reactions (stock 7 6 3 10 (lines LinePhase.Done LinePhase.Held)) (FromEntity o1 3 Cancel)
    ≡ Ok (stock 7 6 3 10 (lines LinePhase.Done LinePhase.Held), []))
unfolding same_entity
a_stock_ships_or_releases = (refl, refl, refl)

-- a request that comes again, or from an entity that is no order, changes nothing, and isn't answered
a_stock_is_asked_once :
    (react stock_reactions (stock 9 6 0 9 later_line) (FromEntity o2 2 (Request 1)) ≡ Ok (stock 9 6 0 9 later_line, []))
    × (react stock_reactions (stock 9 0 0 9 []) (FromEntity (account_of (codes "acme")) 1 (Request 1))
    ≡ Ok (stock 9 0 0 9 [], []))
    × (react stock_reactions (stock 9 0 0 9 []) (FromEntity (stock_of (codes "nuts")) 1 (Request 1))
    ≡ Ok (stock 9 0 0 9 [], []))
unfolding same_entity
a_stock_is_asked_once = (refl, refl, refl)

-- what was refused or released isn't shipped, what was released isn't freed again, and an order that never asked has no
-- line
a_stock_ships_what_is_held :
    (react stock_reactions (stock 9 0 0 9 (lines LinePhase.Refused LinePhase.Released)) (FromEntity o1 2 Confirm)
    ≡ Ok (stock 9 0 0 9 (lines LinePhase.Refused LinePhase.Released), []))
    × (react stock_reactions (stock 9 0 0 9 (lines LinePhase.Refused LinePhase.Released)) (FromEntity o2 3 Confirm)
    ≡ Ok (stock 9 0 0 9 (lines LinePhase.Refused LinePhase.Released), []))
    × (react stock_reactions (stock 9 3 0 9 (lines LinePhase.Held LinePhase.Released)) (FromEntity o2 3 Cancel)
    ≡ Ok (stock 9 3 0 9 (lines LinePhase.Held LinePhase.Released), []))
    × (react stock_reactions (stock 9 6 0 9 later_line) (FromEntity o1 1 Confirm) ≡ Ok (stock 9 6 0 9 later_line, []))
unfolding same_entity
a_stock_ships_what_is_held = (refl, refl, refl, refl)

-- 1 at least comes in, and no more than 2^40 in all, shipped or not
stock_comes_in : (react stock_reactions (stock 7 0 3 10 []) (FromSeat 0 (Receive 5)) ≡ Ok (stock 12 0 3 15 [], []))
    × (react stock_reactions (stock 7 0 3 10 []) (FromSeat 0 (Receive 0)) ≡ Err OutOfRange)
    × (react stock_reactions (stock 7 0 3 10 []) (FromSeat 0 (Receive 1099511627766))
    ≡ Ok (stock 1099511627773 0 3 1099511627776 [], []))
    × (react stock_reactions (stock 7 0 3 10 []) (FromSeat 0 (Receive 1099511627767)) ≡ Err OutOfRange)
stock_comes_in = (refl, refl, refl, refl)

-- the limit covers what is billed and held
an_account_holds_within_its_limit :
    (react account_reactions (account 10 1 6 later_line) (FromEntity o1 1 (Request 3))
    ≡ Ok (account 10 1 9 (lines LinePhase.Held LinePhase.Held), to o1 Tentative ∷ []))
    × (react account_reactions (account 10 2 6 later_line) (FromEntity o1 1 (Request 3))
    ≡ Ok (account 10 2 6 (lines LinePhase.Refused LinePhase.Held), to o1 Refused ∷ []))
unfolding same_entity is_before
an_account_holds_within_its_limit = (refl, refl)

-- a confirm bills what is held, and a cancel sets it free
an_account_bills_or_releases :
    (react account_reactions (account 10 1 9 (lines LinePhase.Held LinePhase.Held)) (FromEntity o1 2 Confirm)
    ≡ Ok (account 10 4 6 (lines LinePhase.Done LinePhase.Held), []))
    × (react account_reactions (account 10 1 9 (lines LinePhase.Held LinePhase.Held)) (FromEntity o2 2 Cancel)
    ≡ Ok (account 10 1 3 (lines LinePhase.Held LinePhase.Released), []))
unfolding same_entity
an_account_bills_or_releases = (refl, refl)

-- a request that comes again, or from an entity that is no order, changes nothing, and isn't answered
an_account_is_asked_once :
    (react account_reactions (account 10 0 6 later_line) (FromEntity o2 2 (Request 1))
    ≡ Ok (account 10 0 6 later_line, []))
    × (react account_reactions (account 10 0 0 []) (FromEntity (account_of (codes "acme")) 1 (Request 1))
    ≡ Ok (account 10 0 0 [], []))
    × (react account_reactions (account 10 0 0 []) (FromEntity (stock_of (codes "bolts")) 1 (Request 1))
    ≡ Ok (account 10 0 0 [], []))
unfolding same_entity
an_account_is_asked_once = (refl, refl, refl)

-- what was refused or released isn't billed, what was released isn't freed again, and what was billed stays so
an_account_bills_what_is_held :
    (react account_reactions (account 10 0 0 (lines LinePhase.Refused LinePhase.Released)) (FromEntity o1 2 Confirm)
    ≡ Ok (account 10 0 0 (lines LinePhase.Refused LinePhase.Released), []))
    × (react account_reactions (account 10 0 0 (lines LinePhase.Refused LinePhase.Released)) (FromEntity o2 3 Confirm)
    ≡ Ok (account 10 0 0 (lines LinePhase.Refused LinePhase.Released), []))
    × (react account_reactions (account 10 3 6 (lines LinePhase.Done LinePhase.Held)) (FromEntity o1 3 Cancel)
    ≡ Ok (account 10 3 6 (lines LinePhase.Done LinePhase.Held), []))
    × (react account_reactions (account 10 0 3 (lines LinePhase.Held LinePhase.Released)) (FromEntity o2 3 Cancel)
    ≡ Ok (account 10 0 3 (lines LinePhase.Held LinePhase.Released), []))
unfolding same_entity
an_account_bills_what_is_held = (refl, refl, refl, refl)

-- a limit is 2^40 at most, and not below what is billed and held
limits_are_set : (react account_reactions (account 10 1 6 []) (FromSeat 0 (SetLimit 7)) ≡ Ok (account 7 1 6 [], []))
    × (react account_reactions (account 10 1 6 []) (FromSeat 0 (SetLimit 6)) ≡ Err BelowUse)
    × (react account_reactions (account 10 1 6 []) (FromSeat 0 (SetLimit 1099511627776))
    ≡ Ok (account 1099511627776 1 6 [], []))
    × (react account_reactions (account 10 1 6 []) (FromSeat 0 (SetLimit 1099511627777)) ≡ Err OutOfRange)
limits_are_set = (refl, refl, refl, refl)
