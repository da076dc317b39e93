-- Examples: purchasing before and after an order is placed, its tables and what its endpoint answers.
use Rattle.std.proofs.Common.{◌≡◌, ◌≤◌, List, [], ◌∷◌, length, refl, ap, arith}
use Rattle.std.specs.Prelude.{codes, Option, Some, Result, Ok, Err}
use Rattle.base.specs.Entity.{Entity}
use Rattle.base.specs.Order.{same_entity}
use Rattle.base.specs.declared.entity.Kind.TheVariants.{Order}
use Rattle.base.specs.declared.limits.TheConstants.{HELD_WINDOW}
use Rattle.envelope.specs.declared.message.Message.TheVariants.{Request}
use Rattle.activities.specs.declared.handler.Refusal.{Refusal}
use Rattle.activities.specs.declared.handler.Refusal.TheVariants.{AlreadyPlaced}
use Rattle.activities.specs.declared.input.Input.TheVariants.{FromSeat}
use Rattle.activities.specs.declared.input.JournalRow.{JournalRow}
use Rattle.activities.specs.declared.outs.Out.{Out}
use Rattle.activities.specs.declared.phase.Phase.TheVariants.{Requested}
use Rattle.activities.specs.Reaction.{messages_to}
use Rattle.trade.specs.declared.commands.OrderCommand.{OrderCommand}
use Rattle.trade.specs.declared.commands.OrderCommand.TheVariants.{Place}
use Rattle.trade.specs.declared.status.Status.TheVariants.{Open}
use Rattle.trade.specs.Items.{item}
use Rattle.trade.specs.Orders.{OrderState, order_reactions}
use Rattle.keep.specs.declared.change.Change.TheVariants.{Sent, State, Journal}
use Rattle.keep.specs.Tables.{changed, empty}
use Rattle.outbox.specs.Numbering.{NumbersFit}
use Rattle.endpoint.specs.declared.fault.EndFault.TheVariants.{Business}
use Rattle.endpoint.specs.Answers.{CommitAt, sent_counts, reaction}
use Rattle.endpoint.specs.Calls.{Appends}
use Rattle.endpoint.specs.Matches.{TablesMatchJournal}
use Rattle.endpoint.specs.Parts.Handling.{Prepares}
use Rattle.endpoint.proofs.Commands.{command-prepares}
use Rattle.endpoint.proofs.Examples.{o1, bolts, acme, from_order}
use Rattle.endpoint.proofs.Opening.{empty-matches}
use Rattle.endpoint.proofs.Taking.{taken-appends}
use Rattle.laws_stores.specs.Sight.{OrderTables, orders_service}

-- seat 0 places `o1` for 3 bolts, and 500 from acme
abbrev pub placing : JournalRow OrderCommand
placing = record { entity = o1; input = FromSeat 0 (Place (item (codes "bolts") 3 ∷ []) (codes "acme") 500) }

abbrev pub placed : OrderState
placed = record {
  status = Open;
  partners =
      record { entity = bolts; n = 3; phase = Requested } ∷ record { entity = acme; n = 500; phase = Requested } ∷ [];
}

-- what that asks its partners
abbrev requests : List Out
requests = record { receiver = bolts; message = Request 3 } ∷ record { receiver = acme; message = Request 500 } ∷ []

-- to one receiver go no more messages than are sent
few : (r : Entity) (outs : List Out) → length (messages_to r outs) ≤ length outs
few r [] = omega arith
few r (out ∷ outs) = grind (arith, few r outs)

abbrev outs_of : Result (Option OrderState × List Out) Refusal → List Out
outs_of (Ok done) = done.1
outs_of (Err refusal) = []

first_numbers_fit : (done : Option OrderState × List Out) → reaction order_reactions [] placing
    ≡ Ok done → NumbersFit (sent_counts order_reactions []) o1 done.1
first_numbers_fit done e r some =
    let two : 2 ≡ length done.1 = ap (λ answer. length (outs_of answer)) e in
    let short = few r done.1 in
    omega arith

-- placing it is answered by its position, 1, and the journal has it then
pub a_placed_order_is_committed : CommitAt order_reactions Order [] placing (Ok (record { pos = 1 })) (placing ∷ [])
a_placed_order_is_committed = (
  record {
    follows = record { of_kind = refl; seated = omega arith; accepted = refl; next = tt };
    room = omega arith;
    fits = first_numbers_fit;
    appended = refl;
  },
  refl,
)

-- placing it again is refused, and the journal stays
pub it_is_placed_once : CommitAt order_reactions Order (placing ∷ []) placing (Err (Business AlreadyPlaced))
    (placing ∷ [])
unfolding same_entity
it_is_placed_once = (refl, omega arith, refl, refl)

-- ---- the tables of purchasing

abbrev pub before : OrderTables
before = empty

-- two letters to be sent, the order's row and the journal's
abbrev pub after : OrderTables
after = changed (
    Sent (record { pair = from_order bolts; number = 1; message = Request 3 })
    ∷ Sent (record { pair = from_order acme; number = 1; message = Request 500 })
    ∷ State o1 (Some (Some placed)) ∷ Journal 1 placing ∷ []) before

pub before_matches : TablesMatchJournal orders_service before
before_matches = empty-matches HELD_WINDOW orders_service

prepared : Prepares HELD_WINDOW Order before placing []
prepared =
    command-prepares HELD_WINDOW orders_service before o1 0 (Place (item (codes "bolts") 3 ∷ []) (codes "acme") 500) []
    before_matches (omega arith) refl

-- so `o1` was taken in: the tables after it match their journal
pub taken_in : Appends HELD_WINDOW orders_service before placing before.held after
unfolding same_entity
taken_in =
    taken-appends HELD_WINDOW orders_service before 1 placing [] (Some placed, requests) before_matches refl prepared
    (omega arith) refl (a_placed_order_is_committed.0.fits (Some placed, requests) refl)
