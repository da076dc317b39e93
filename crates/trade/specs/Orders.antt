-- The reactions of an order.
use Rattle.std.specs.Prelude.{ℕ, Bool, true, false, ◌&&◌, not, List, [], ◌∷◌, ◌++◌, map, filter, Option, Some, None}
use Rattle.std.specs.Prelude.{Result, Ok, Err}
use Rattle.std.specs.Prelude.{if◌then◌else◌}
use Rattle.envelope.specs.declared.message.Message.{Message}
use Rattle.envelope.specs.declared.message.Message.TheVariants.{Request, Tentative, Refused, Confirm, Cancel}
use Rattle.base.specs.Number.{is_number}
use Rattle.activities.specs.declared.phase.Phase.{Phase}
use Rattle.trade.specs.declared.status.Status.{Status}
use Rattle.trade.specs.declared.status.Status.TheVariants.{Open, Confirmed, Cancelled}
use Rattle.base.specs.Entity.{Entity, stock_of, account_of}
use Rattle.base.specs.Order.{same_entity}
use Rattle.trade.specs.declared.commands.OrderCommand.{OrderCommand}
use Rattle.trade.specs.declared.commands.OrderCommand.TheVariants.{Place, CancelOrder}
use Rattle.activities.specs.declared.handler.Refusal.{Refusal}
use Rattle.activities.specs.declared.handler.Refusal.TheVariants.{AlreadyPlaced, NotOpen, OutOfRange, BadLines}
use Rattle.trade.specs.declared.items.Item.{Item}
use Rattle.activities.specs.declared.outs.Out.{Out}
use Rattle.trade.specs.Items.{are_lines, are_numbers}
use Rattle.activities.specs.Reaction.{Reactions}

-- a partner of an order: whom it asked, for how much, and how far they are
pub record Partner : Type 0 where
  pub entity : Entity
  pub n : ℕ
  pub phase : Phase

-- an order that was placed: how far it is, and its partners, which are its stocks and then its account
pub record OrderState : Type 0 where
  pub status : Status
  pub partners : List Partner

-- whether it waits for its partners
abbrev pub is_open : Status → Bool
is_open Open = true
is_open _ = false

-- whether a partner was asked and hasn't answered
abbrev pub is_requested : Phase → Bool
is_requested Phase.Requested = true
is_requested _ = false

-- whether a partner holds what it was asked for
abbrev pub is_tentative : Phase → Bool
is_tentative Phase.Tentative = true
is_tentative _ = false

-- whether it is a partner whose phase is requested
abbrev pub awaits : Entity → List Partner → Bool
awaits e [] = false
awaits e (p ∷ ps) = if same_entity e p.entity then is_requested p.phase else awaits e ps

-- the partners, with this phase for one of them
abbrev pub with_phase : Entity → Phase → List Partner → List Partner
with_phase e phase [] = []
with_phase e phase (p ∷ ps) =
    if same_entity e p.entity then record p { phase = phase } ∷ ps else p ∷ with_phase e phase ps

-- whether each partner holds what it was asked for
abbrev pub all_tentative : List Partner → Bool
all_tentative [] = true
all_tentative (p ∷ ps) = is_tentative p.phase && all_tentative ps

-- the partners, with this phase for all
abbrev pub all_in : Phase → List Partner → List Partner
all_in phase ps = map (λ (p : Partner). record p { phase = phase }) ps

-- a message to each partner
abbrev pub to_all : Message → List Partner → List Out
to_all m ps = map (λ (p : Partner). record { receiver = p.entity; message = m }) ps

-- a message to each partner but one
abbrev pub to_others : Entity → Message → List Partner → List Out
to_others e m ps = to_all m (filter (λ (p : Partner). not (same_entity e p.entity)) ps)

-- to each partner a request for its number
abbrev pub requests : List Partner → List Out
requests ps = map (λ (p : Partner). record { receiver = p.entity; message = Request p.n }) ps

-- a partner that is asked
abbrev pub asked : Entity → ℕ → Partner
asked e n = record { entity = e; n = n; phase = Phase.Requested }

-- the partners of a new order: its stocks, and its account
abbrev pub partners_of : List Item → List ℕ → ℕ → List Partner
partners_of items account amount =
    map (λ (i : Item). asked (stock_of i.stock) i.quantity) items ++ asked (account_of account) amount ∷ []

-- a new order, and its requests
abbrev pub placed : List Partner → Option OrderState × List Out
placed ps = (Some (record { status = Open; partners = ps }), requests ps)

-- an order is placed once, with one to eight lines, each of another stock, and with numbers in range, and cancelled
-- while it is open; any other command is refused
abbrev pub on_order_command : Option OrderState → OrderCommand → Result (Option OrderState × List Out) Refusal
on_order_command (Some o) (Place items account amount) = Err AlreadyPlaced
on_order_command None (Place items account amount) =
    if not (are_lines items)
    then Err BadLines
    else (if are_numbers items && is_number amount then Ok (placed (partners_of items account amount))
    else Err OutOfRange)
on_order_command None CancelOrder = Err NotOpen
on_order_command (Some o) CancelOrder =
    if is_open o.status
    then Ok (
      Some (record { status = Cancelled; partners = all_in Phase.Cancelled o.partners }),
      to_all Cancel o.partners,
    )
    else Err NotOpen

-- a partner's phase is tentative: the order is confirmed if that was the last
abbrev pub tentative_from : OrderState → Entity → Option OrderState × List Out
tentative_from o s =
    if all_tentative (with_phase s Phase.Tentative o.partners)
    then (Some (record { status = Confirmed; partners = all_in Phase.Confirmed o.partners }), to_all Confirm o.partners)
    else (Some (record { status = o.status; partners = with_phase s Phase.Tentative o.partners }), [])

-- a partner refused: the order is cancelled, and so are the others
abbrev pub refused_by : OrderState → Entity → Option OrderState × List Out
refused_by o s = (
  Some (record { status = Cancelled; partners = with_phase s Phase.Refused (all_in Phase.Cancelled o.partners) }),
  to_others s Cancel o.partners,
)

-- tentative and refused count at an open order, from a partner that was asked and hasn't answered; anything else
-- changes nothing
abbrev pub on_order_message : Option OrderState → Entity → Message → Option OrderState × List Out
on_order_message (Some o) s Tentative =
    if is_open o.status && awaits s o.partners then tentative_from o s else (Some o, [])
on_order_message (Some o) s Refused = if is_open o.status && awaits s o.partners then refused_by o s else (Some o, [])
on_order_message order s m = (order, [])

-- orders: none, until they are placed
abbrev pub order_reactions : Reactions (Option OrderState) OrderCommand
order_reactions = record { opening = None; on_command = on_order_command; on_message = on_order_message }
