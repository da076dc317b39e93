-- Examples: lines that fit their order and others, by the tables of three services, and what looking at them does.
use Rattle.std.proofs.Common.{◌≡◌, ℕ, List, [], ◌∷◌, Bool, true, false, Option, Some, None, Ok, Err, refl, ap, arith}
use Rattle.std.proofs.Common.{inl, inr}
use Rattle.std.specs.Prelude.{codes}
use Rattle.base.specs.Entity.{Entity, order_of}
use Rattle.base.specs.Order.{same_entity}
use Rattle.base.specs.declared.entity.Kind.TheVariants.{Order, Stock, Account}
use Rattle.trade.specs.declared.line_phase.LinePhase.{LinePhase}
use Rattle.trade.specs.declared.line_phase.LinePhase.TheVariants.{Held, Refused, Done, Released}
use Rattle.trade.specs.declared.status.Status.{Status}
use Rattle.trade.specs.declared.status.Status.TheVariants.{Open, Confirmed, Cancelled}
use Rattle.trade.specs.Lines.{Line}
use Rattle.trade.specs.Orders.{OrderState}
use Rattle.keep.specs.Seen.{Seen}
use Rattle.keep.specs.Tables.{empty, set_entity}
use Rattle.endpoint.specs.declared.fault.EndFault.TheVariants.{StoreFailed, Memory, Unusable}
use Rattle.endpoint.proofs.Examples.{o1, bolts, acme}
use Rattle.laws_stores.specs.Sight.{OrderTables, StockTables, AccountTables}
use Rattle.schedule_audit.specs.Agree.{phase_in, stock_lines, account_lines, fits, phase_by, phases_at}
use Rattle.schedule_audit.specs.Agree.{order_agrees, row_agrees, rows_agree, partners_agree}
use Rattle.schedule_audit.specs.Looks.{StandsFor, Rests, FailsToRead, LooksAtPartners, Looks}
use Rattle.schedule_audit.specs.declared.fault.AuditFault.TheVariants.{Purchasing, Warehouse, Billing}
use Rattle.laws_stores.proofs.Placed.{placing, placed}

-- an order that nobody placed
abbrev o2 : Entity
o2 = order_of (codes "o2")

-- ---- phases

-- a partner of a confirmed order holds, or has shipped or billed
confirmed_lines_stand : (fits Confirmed (Some Held) ≡ true) × (fits Confirmed (Some Done) ≡ true)
    × (fits Confirmed (Some Released) ≡ false) × (fits Confirmed (Some Refused) ≡ false)
    × (fits Confirmed None ≡ false)
confirmed_lines_stand = (refl, refl, refl, refl, refl)

-- one of an order that isn't confirmed may do anything but ship or bill
others_are_not_done : (fits Open (Some Held) ≡ true) × (fits Open (Some Done) ≡ false)
    × (fits Open (Some Refused) ≡ true) × (fits Open None ≡ true)
    × (fits Cancelled (Some Held) ≡ true) × (fits Cancelled (Some Done) ≡ false)
    × (fits Cancelled (Some Released) ≡ true) × (fits Cancelled (Some Refused) ≡ true) × (fits Cancelled None ≡ true)
others_are_not_done = (refl, refl, refl, refl, refl, refl, refl, refl, refl)

-- ---- lines

-- lines of two orders, the second of which has another phase
abbrev lines_with : LinePhase → List Line
lines_with phase = record { order = o1; n = 3; phase = phase } ∷ record { order = o2; n = 1; phase = Held } ∷ []

-- each order has its own line, and an order with none has no phase
each_order_has_its_line : (phase_in o1 (lines_with Done) ≡ Some Done) × (phase_in o2 (lines_with Done) ≡ Some Held)
    × (phase_in bolts (lines_with Done) ≡ None) × (phase_in o1 [] ≡ None)
unfolding same_entity
each_order_has_its_line = (refl, refl, refl, refl)

-- tables of a stock and an account with these lines, and of the order that asked both
abbrev stocks_with : LinePhase → StockTables
stocks_with phase = record empty {
  entity = set_entity bolts (Some (record {
    on_hand = 7;
    held = 1;
    shipped = 3;
    received = 10;
    lines = lines_with phase;
  })) (λ _. None);
}

abbrev accounts_with : LinePhase → AccountTables
accounts_with phase = record empty {
  entity = set_entity acme (Some (record { limit = 500; billed = 3; held = 1; lines = lines_with phase })) (λ _. None);
}

abbrev orders_placed : OrderTables
orders_placed = record empty { journal = placing ∷ []; entity = set_entity o1 (Some (Some placed)) (λ _. None) }

-- a row's lines are read, and where there is no row there is none; a stock is asked at warehouse and an account at
-- billing
lines_stand_in_rows : (stock_lines ((stocks_with Done).entity bolts) ≡ lines_with Done) × (stock_lines None ≡ [])
    × (account_lines ((accounts_with Done).entity acme) ≡ lines_with Done) × (account_lines None ≡ [])
    × (phase_by (stocks_with Done) (accounts_with Released) o1 Stock bolts ≡ Some Done)
    × (phase_by (stocks_with Done) (accounts_with Released) o1 Account acme ≡ Some Released)
    × (phase_by (stocks_with Done) (accounts_with Released) o1 Order o1 ≡ None)
    × (phases_at (stocks_with Done) (accounts_with Released) o1 placed.partners ≡ Some Done ∷ Some Released ∷ [])
unfolding same_entity
lines_stand_in_rows = (refl, refl, refl, refl, refl, refl, refl, refl)

-- ---- orders

-- this order once all have answered
abbrev as_told : Status → OrderState
as_told status = record placed { status = status }

-- a confirmed order that shipped and wasn't billed yet agrees, and one that shipped and released, or has no line at its
-- account, doesn't; an open one that one holds for agrees, and one that shipped doesn't, nor does a cancelled one
orders_agree_or_not : (order_agrees (stocks_with Done) (accounts_with Held) o1 (Some (Some (as_told Confirmed))) ≡ true)
    × (order_agrees (stocks_with Done) (accounts_with Released) o1 (Some (Some (as_told Confirmed))) ≡ false)
    × (order_agrees (stocks_with Done) empty o1 (Some (Some (as_told Confirmed))) ≡ false)
    × (order_agrees (stocks_with Held) empty o1 (Some (Some placed)) ≡ true)
    × (order_agrees empty (accounts_with Done) o1 (Some (Some placed)) ≡ false)
    × (order_agrees (stocks_with Refused) (accounts_with Released) o1 (Some (Some (as_told Cancelled))) ≡ true)
    × (order_agrees (stocks_with Refused) (accounts_with Done) o1 (Some (Some (as_told Cancelled))) ≡ false)
    × (order_agrees (stocks_with Done) (accounts_with Released) o1 None ≡ true)
    × (order_agrees (stocks_with Done) (accounts_with Released) o1 (Some None) ≡ true)
unfolding same_entity
orders_agree_or_not = (refl, refl, refl, refl, refl, refl, refl, refl, refl)

-- a journal with no row agrees; one with the order's row does as the order does, also behind a row of a stock
partners_agree_or_not : (partners_agree empty (stocks_with Done) (accounts_with Released) ≡ true)
    × (partners_agree orders_placed (stocks_with Held) (accounts_with Held) ≡ true)
    × (partners_agree orders_placed (stocks_with Done) (accounts_with Released) ≡ false)
    × (row_agrees orders_placed (stocks_with Done) (accounts_with Released) (record placing { entity = bolts }) ≡ true)
    × (rows_agree orders_placed (stocks_with Done) (accounts_with Released)
    (record placing { entity = bolts } ∷ placing ∷ []) ≡ false)
    × (rows_agree orders_placed (stocks_with Done) (accounts_with Released) (record placing { entity = o2 } ∷ [])
    ≡ true)
unfolding same_entity
partners_agree_or_not = (refl, refl, refl, refl, refl, refl)

-- ---- looking at stores

-- a store that is usable, failed so often, and has these tables
abbrev Store : Type 0 → Type 0
Store T = Bool × ℕ × T

abbrev seen : {T : Type 0} → Store T → Seen T
seen e = record { tables = e.2; may_leave = λ t. t ≡ e.2; failures = e.1; usable = e.0; doubt = 0; armed = None }

abbrev stocks : Store StockTables
stocks = (true, 4, stocks_with Done)

abbrev accounts : Store AccountTables
accounts = (true, 4, accounts_with Released)

abbrev orders : Store OrderTables
orders = (true, 4, orders_placed)

-- a store rests that wasn't asked; one that was asked has the same tables, is usable and counted no failure
stores_rest : Rests seen stocks stocks × (Rests seen stocks (true, 5, stocks_with Done) → ⊥)
    × (Rests seen stocks (true, 4, stocks_with Held) → ⊥)
unfolding same_entity
stores_rest = (inl refl, counted, changed)
  where
    counted : Rests seen stocks (true, 5, stocks_with Done) → ⊥
    counted (inl same) = let more : 5 ≡ 4 = ap (λ (s : Store StockTables). s.1) same in omega (arith, more)
    counted (inr reads) = let more : 5 ≡ 4 = reads.call.2 in omega (arith, more)

    line : StockTables → Option LinePhase
    line t = phase_in o1 (stock_lines (t.entity bolts))

    changed : Rests seen stocks (true, 4, stocks_with Held) → ⊥
    changed (inl same) =
        let phase : Some Held ≡ Some Done = ap (λ (s : Store StockTables). line s.2) same in absurd (cc)
    changed (inr reads) = let phase : Some Held ≡ Some Done = ap line (reads.clean refl).1 in absurd (cc)

-- a read that fails counts a failure and leaves the store unusable; want of memory doesn't
reads_fail : FailsToRead seen stocks (false, 5, stocks_with Done) StoreFailed × FailsToRead seen stocks stocks Memory
    × FailsToRead seen (false, 5, stocks_with Done) (false, 5, stocks_with Done) Unusable
    × (FailsToRead seen stocks stocks StoreFailed → ⊥) × (FailsToRead seen stocks (false, 5, stocks_with Done) Memory
    → ⊥)
reads_fail = (
  record { call = (refl, refl, (omega arith, omega arith), inl refl); doubt = omega arith; clean = λ _ t h. h },
  record { call = (refl, refl, refl, refl); doubt = omega arith; clean = λ _. refl },
  record { call = (refl, refl); doubt = omega arith; clean = λ _. tt },
  λ h. let usable = h.call.1 in absurd (cc),
  λ h. let usable = h.call.1 in absurd (cc),
)

-- the store of the stock after it failed
abbrev down : Store StockTables
down = (false, 5, stocks_with Done)

-- whatever is taken for the tables of a store that isn't usable stands for them; of a usable one its own tables alone
any_stand_where_none_can_be_asked : StandsFor seen down (stocks_with Held) × StandsFor seen stocks (stocks_with Done)
    × (StandsFor seen stocks (stocks_with Held) → ⊥)
unfolding same_entity
any_stand_where_none_can_be_asked = (λ usable. absurd (cc), λ usable. refl, λ h. other (h refl))
  where
    other : stocks_with Held ≡ stocks_with Done → ⊥
    other same =
        let phase : Some Held ≡ Some Done = ap (λ (t : StockTables). phase_in o1 (stock_lines (t.entity bolts)))
        same in absurd (cc)

abbrev agreement : OrderTables → StockTables → AccountTables → Bool → Type 0
agreement o s a agree = agree ≡ partners_agree o s a

-- the answer is what the tables give, and all rest; a fault is told at the service whose read wasn't done, and the
-- others rest
looks_are_told : Looks seen seen seen agreement (Ok false) orders orders stocks stocks accounts accounts
    × (Looks seen seen seen agreement (Ok true) orders orders stocks stocks accounts accounts → ⊥)
    × Looks seen seen seen agreement (Err (Warehouse StoreFailed)) orders orders stocks down accounts accounts
    × (Looks seen seen seen agreement (Err (Billing StoreFailed)) orders orders stocks down accounts accounts → ⊥)
    × (LooksAtPartners seen seen {R = Bool} (λ _ _ _. ⊥) (Err (Purchasing Memory)) stocks stocks accounts accounts → ⊥)
unfolding same_entity
looks_are_told = (
  (inl refl, inl refl, inl refl, λ _ _ _ x y z xo ys za. let told = stands_told x y z xo ys za in told),
  λ h. let agrees =
      h.3 refl refl refl orders_placed (stocks_with Done) (accounts_with Released) (λ _. refl) (λ _. refl) (λ _. refl)
      in absurd (cc),
  (inl refl, reads_fail.0, inl refl),
  λ h. let usable = h.2.call.1 in absurd (cc),
  λ h. h,
)
  where
    -- what stands for the tables of usable stores are these
    stands_told : (x : OrderTables) (y : StockTables) (z : AccountTables) → StandsFor seen orders x
        → StandsFor seen stocks y
        → StandsFor seen accounts z → false ≡ partners_agree x y z
    stands_told x y z xo ys za = rw (xo refl, ys refl) refl
