-- Whether the partners of orders agree, by the tables of three services.
use Rattle.std.specs.Prelude.{Bool, true, false, ◌||◌, not, List, [], map, Option, Some, None}
use Rattle.std.specs.List.{list_all}
use Rattle.std.specs.Option.{option_map}
use Rattle.base.specs.Entity.{Entity}
use Rattle.base.specs.declared.entity.Kind.{Kind}
use Rattle.base.specs.declared.entity.Kind.TheVariants.{Order, Stock, Account}
use Rattle.activities.specs.declared.input.JournalRow.{JournalRow}
use Rattle.trade.specs.declared.commands.OrderCommand.{OrderCommand}
use Rattle.trade.specs.declared.line_phase.LinePhase.{LinePhase}
use Rattle.trade.specs.declared.line_phase.LinePhase.TheVariants.{Held, Done}
use Rattle.trade.specs.declared.status.Status.{Status}
use Rattle.trade.specs.declared.status.Status.TheVariants.{Confirmed}
use Rattle.trade.specs.Accounts.{AccountState}
use Rattle.trade.specs.Lines.{Line, line_of, is_order}
use Rattle.trade.specs.Orders.{OrderState, Partner}
use Rattle.trade.specs.Stocks.{StockState}
use Rattle.laws_stores.specs.Sight.{OrderTables, StockTables, AccountTables}

-- how far the line of an order is, if it has one among these
abbrev pub phase_in : Entity → List Line → Option LinePhase
phase_in order lines = option_map (λ (l : Line). l.phase) (line_of order lines)

-- the lines of a stock's row and of an account's: none where there is no row
abbrev pub stock_lines : Option StockState → List Line
stock_lines (Some s) = s.lines
stock_lines None = []

abbrev pub account_lines : Option AccountState → List Line
account_lines (Some a) = a.lines
account_lines None = []

-- whether a partner's line fits how far its order is: that of a confirmed one is held, or shipped or billed; that of
-- another isn't shipped or billed
abbrev pub fits : Status → Option LinePhase → Bool
fits Confirmed (Some Held) = true
fits Confirmed (Some Done) = true
fits Confirmed _ = false
fits _ (Some Done) = false
fits _ _ = true

-- an order's line at an entity of this kind
abbrev pub phase_by : StockTables → AccountTables → Entity → Kind → Entity → Option LinePhase
phase_by warehouse billing order Order at = None
phase_by warehouse billing order Stock at = phase_in order (stock_lines (warehouse.entity at))
phase_by warehouse billing order Account at = phase_in order (account_lines (billing.entity at))

-- how far an order's line is at each of these partners
abbrev pub phases_at : StockTables → AccountTables → Entity → List Partner → List (Option LinePhase)
phases_at warehouse billing order partners =
    map (λ (p : Partner). phase_by warehouse billing order p.entity.kind p.entity) partners

-- whether its line at each of them fits
abbrev pub all_fit : StockTables → AccountTables → Entity → Status → List Partner → Bool
all_fit warehouse billing order status partners = list_all (fits status) (phases_at warehouse billing order partners)

-- whether the lines of an order with this row do
abbrev pub order_agrees : StockTables → AccountTables → Entity → Option (Option OrderState) → Bool
order_agrees warehouse billing order (Some (Some o)) = all_fit warehouse billing order o.status o.partners
order_agrees warehouse billing order _ = true

-- whether those of a row's entity do, which is an order
abbrev pub row_agrees : OrderTables → StockTables → AccountTables → JournalRow OrderCommand → Bool
row_agrees purchasing warehouse billing row =
    not (is_order row.entity.kind) || order_agrees warehouse billing row.entity (purchasing.entity row.entity)

-- whether the partners of each order that has one of these rows agree
abbrev pub rows_agree : OrderTables → StockTables → AccountTables → List (JournalRow OrderCommand) → Bool
rows_agree purchasing warehouse billing rows = list_all (row_agrees purchasing warehouse billing) rows

-- whether the partners of each order that has a row in purchasing's journal agree
abbrev pub partners_agree : OrderTables → StockTables → AccountTables → Bool
partners_agree purchasing warehouse billing = rows_agree purchasing warehouse billing purchasing.journal
