-- What always holds of an order, of a stock and of an account.
use Rattle.std.specs.Prelude.{◌≡◌, ◌≢◌, ◌+◌, ◌≤◌, ◌<◌, suc, length, List, [], ◌∷◌, map, Option, Some, None, ⊤}
use Rattle.std.specs.Cmp.Lexicographic.{slice_cmp}
use Rattle.std.specs.List.{AllByRecursion}
use Rattle.std.specs.List.Sorted.{IsStrictlySortedBy}
use Rattle.std.specs.Ordering.{nat_cmp}
use Rattle.base.specs.Entity.{Entity}
use Rattle.base.specs.declared.entity.Kind.TheVariants.{Order, Stock, Account}
use Rattle.base.specs.declared.limits.TheConstants.{MAX_LINES, MAX_NUMBER}
use Rattle.trade.specs.declared.line_phase.LinePhase.TheVariants.{Held, Done}
use Rattle.trade.specs.Accounts.{AccountState}
use Rattle.trade.specs.Lines.{Line, line_of, total}
use Rattle.trade.specs.Orders.{Partner, OrderState}
use Rattle.trade.specs.Stocks.{StockState}

-- stocks, each once, and then one account
abbrev pub AreStocksThenAccount : List Entity → Type 0
AreStocksThenAccount [] = ⊥
AreStocksThenAccount (e ∷ []) = e.kind ≡ Account
AreStocksThenAccount (e ∷ es) = (e.kind ≡ Stock) × AllByRecursion (λ other. e ≢ other) es × AreStocksThenAccount es

-- the partners of an order: one to eight stocks, each once, and then one account
pub record ArePartners (es : List Entity) : Type 0 where
  pub in_order : AreStocksThenAccount es
  pub some : 1 < length es
  pub few : length es ≤ suc MAX_LINES

-- of an order that was placed: its partners are such
abbrev pub IsOrderSound : Option OrderState → Type 0
IsOrderSound None = ⊤
IsOrderSound (Some o) = ArePartners (map (λ (p : Partner). p.entity) o.partners)

-- no order has two lines
abbrev pub HasOneLineEach : List Line → Type 0
HasOneLineEach [] = ⊤
HasOneLineEach (l ∷ ls) = (line_of l.order ls ≡ None) × HasOneLineEach ls

-- lines: of orders alone, one an order, in order of their keys
pub record AreLinesSound (ls : List Line) : Type 0 where
  pub of_orders : AllByRecursion (λ l. l.order.kind ≡ Order) ls
  pub one_each : HasOneLineEach ls
  pub in_order : IsStrictlySortedBy (slice_cmp nat_cmp) (map (λ (l : Line). l.order.key) ls)

-- of a stock: what came in is there or was shipped, and is 2^40 at most; what is held is there; held and shipped are
-- the totals over its lines
pub record IsStockSound (x : StockState) : Type 0 where
  pub conserved : x.on_hand + x.shipped ≡ x.received
  pub bounded : x.received ≤ MAX_NUMBER
  pub covered : x.held ≤ x.on_hand
  pub held : x.held ≡ total Held x.lines
  pub shipped : x.shipped ≡ total Done x.lines
  pub lines : AreLinesSound x.lines

-- of an account: the limit is 2^40 at most, and covers what is billed and held; these are the totals over its lines
pub record IsAccountSound (x : AccountState) : Type 0 where
  pub bounded : x.limit ≤ MAX_NUMBER
  pub covered : x.billed + x.held ≤ x.limit
  pub held : x.held ≡ total Held x.lines
  pub billed : x.billed ≡ total Done x.lines
  pub lines : AreLinesSound x.lines
