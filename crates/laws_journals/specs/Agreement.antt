-- What follows for orders, stocks and accounts, read off their states: partners agree, and nothing is lost.
use Rattle.std.specs.Prelude.{◌≡◌, ◌⊎◌, ℕ, List, [], ◌∷◌, Option, Some, None, IsNone, Contains, ⊤}
use Rattle.base.specs.Entity.{Entity}
use Rattle.base.specs.declared.entity.Kind.{Kind}
use Rattle.base.specs.declared.entity.Kind.TheVariants.{Order, Stock, Account}
use Rattle.envelope.specs.declared.message.Message.{Message}
use Rattle.envelope.specs.declared.message.Message.TheVariants.{Cancel}
use Rattle.activities.specs.declared.phase.Phase.{Phase}
use Rattle.trade.specs.declared.line_phase.LinePhase.TheVariants.{Held, Refused, Done, Released}
use Rattle.trade.specs.declared.status.Status.TheVariants.{Confirmed}
use Rattle.activities.specs.Journal.{state_of}
use Rattle.trade.specs.Lines.{Line, line_of}
use Rattle.trade.specs.Orders.{OrderState, Partner, order_reactions}
use Rattle.trade.specs.Stocks.{StockState, stock_reactions}
use Rattle.trade.specs.Accounts.{AccountState, account_reactions}
use Rattle.trade.specs.Sound.{IsOrderSound, IsStockSound, IsAccountSound}
use Rattle.laws_journals.specs.Journals.{Journals}

-- the states of all orders, stocks and accounts
pub record States : Type 0 where
  pub orders : Entity → Option OrderState
  pub stocks : Entity → StockState
  pub accounts : Entity → AccountState

-- those of three journals
abbrev pub states_in : Journals → States
states_in js = record {
  orders = state_of order_reactions js.orders;
  stocks = state_of stock_reactions js.stocks;
  accounts = state_of account_reactions js.accounts;
}

-- the line of an order at an entity of this kind
abbrev pub line_by : States → Entity → Kind → Entity → Option Line
line_by x order Order at = None
line_by x order Stock at = line_of order (x.stocks at).lines
line_by x order Account at = line_of order (x.accounts at).lines

-- the line of an order at a stock or an account
abbrev pub line_at : States → Entity → Entity → Option Line
line_at x order at = line_by x order at.kind at

-- there is a line, and it is shipped or billed
abbrev pub IsShippedOrBilled : Option Line → Type 0
IsShippedOrBilled None = ⊥
IsShippedOrBilled (Some l) = l.phase ≡ Done

-- there is a line, and it is held, or shipped or billed
abbrev pub IsHeldOrDone : Option Line → Type 0
IsHeldOrDone None = ⊥
IsHeldOrDone (Some l) = (l.phase ≡ Held) ⊎ (l.phase ≡ Done)

-- there is a line, and it is released or refused
abbrev pub IsReleasedOrRefused : Option Line → Type 0
IsReleasedOrRefused None = ⊥
IsReleasedOrRefused (Some l) = (l.phase ≡ Released) ⊎ (l.phase ≡ Refused)

-- it is one of these partners
abbrev pub IsAmong : Entity → List Partner → Type 0
IsAmong e [] = ⊥
IsAmong e (p ∷ ps) = (e ≡ p.entity) ⊎ IsAmong e ps

-- it is one of the order's partners
abbrev pub IsPartner : Option OrderState → Entity → Type 0
IsPartner None e = ⊥
IsPartner (Some o) e = IsAmong e o.partners

-- the order is confirmed
abbrev pub IsConfirmed : Option OrderState → Type 0
IsConfirmed None = ⊥
IsConfirmed (Some o) = o.status ≡ Confirmed

-- it is one of these partners, and is asked for so much
abbrev pub IsAskedFor : Entity → ℕ → List Partner → Type 0
IsAskedFor e n [] = ⊥
IsAskedFor e n (p ∷ ps) = ((e ≡ p.entity) × (n ≡ p.n)) ⊎ IsAskedFor e n ps

-- where there is a line, the order asks this entity for as much as the line is for
abbrev pub IsAsAsked : Option OrderState → Entity → Option Line → Type 0
IsAsAsked order e None = ⊤
IsAsAsked None e (Some l) = ⊥
IsAsAsked (Some o) e (Some l) = IsAskedFor e l.n o.partners

-- it is one of these partners, and its phase is refused
abbrev pub IsRefusing : Entity → List Partner → Type 0
IsRefusing e [] = ⊥
IsRefusing e (p ∷ ps) = ((e ≡ p.entity) × (p.phase ≡ Phase.Refused)) ⊎ IsRefusing e ps

-- it is one of the order's partners, and the order knows that it refused
abbrev pub HasRefused : Option OrderState → Entity → Type 0
HasRefused None e = ⊥
HasRefused (Some o) e = IsRefusing e o.partners

-- Of an order in this state, with its line at each entity: where it's confirmed each partner holds, or has shipped or
-- billed; where it isn't, none has shipped or billed. So none has while another has released or refused. Lines stand at
-- partners alone, each for what that partner was asked for.
pub record PartnersAgree (order : Option OrderState) (line : Entity → Option Line) : Type 0 where
  pub confirmed : IsConfirmed order → (p : Entity) → IsPartner order p → IsHeldOrDone (line p)
  pub only_confirmed : (at : Entity) → IsShippedOrBilled (line at) → IsConfirmed order
  pub one_way : (p q : Entity) → IsPartner order p → IsPartner order q → IsShippedOrBilled (line p)
      → IsReleasedOrRefused (line q) → ⊥
  pub nowhere_else : (at : Entity) → (IsPartner order at → ⊥) → IsNone (line at)
  pub as_asked : (at : Entity) → IsAsAsked order at (line at)

-- of an order in this state, with what it told each entity: a partner that refused isn't told to give anything back
abbrev pub RefusedAreLeftAlone : Option OrderState → (Entity → List Message) → Type 0
RefusedAreLeftAlone order told = (p : Entity) → HasRefused order p → Contains (told p) Cancel → ⊥

-- the partners of each order agree, and each order, each stock and each account is sound
pub record AreSound (x : States) : Type 0 where
  pub agree : (order : Entity) → order.kind ≡ Order → PartnersAgree (x.orders order) (line_at x order)
  pub orders : (e : Entity) → IsOrderSound (x.orders e)
  pub stocks : (e : Entity) → IsStockSound (x.stocks e)
  pub accounts : (e : Entity) → IsAccountSound (x.accounts e)
