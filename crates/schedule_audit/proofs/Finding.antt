-- What one call finds, as the call around it tells it.
use Rattle.std.proofs.Common.{◌≡◌, ◌||◌, inr, Bool, Some, sym, ◌∙◌, ap}
use Rattle.std.specs.Prelude.{Option, Result, Ok, Err, not}
use Rattle.base.specs.Entity.{Entity}
use Rattle.base.specs.declared.entity.Kind.TheVariants.{Order}
use Rattle.activities.specs.declared.input.JournalRow.{JournalRow}
use Rattle.trade.specs.declared.commands.OrderCommand.{OrderCommand}
use Rattle.trade.specs.Lines.{is_order}
use Rattle.trade.specs.Orders.{OrderState}
use Rattle.keep.specs.Law.{Reads}
use Rattle.keep.specs.Seen.{Seen}
use Rattle.endpoint.specs.declared.fault.EndFault.{EndFault}
use Rattle.laws_stores.specs.Sight.{OrderTables, StockTables, AccountTables}
use Rattle.schedule_audit.specs.Agree.{all_fit, order_agrees, row_agrees}
use Rattle.schedule_audit.specs.Looks.{LooksAtPartners, Looks}
use Rattle.schedule_audit.specs.declared.fault.AuditFault.{AuditFault}
use Rattle.schedule_audit.specs.declared.fault.AuditFault.TheVariants.{Purchasing, Warehouse, Billing}

module _ {KO KS KA : Type 0} (orders : KO → Seen OrderTables) (stocks : KS → Seen StockTables)
    (accounts : KA → Seen AccountTables)
    (o p : KO) (s t : KS) (a b : KA) where
  -- an order that is placed was read, and then its lines at its partners
  pub order_looked : (order : Entity) (placed : OrderState) (result : Result Bool AuditFault)
      → Reads orders o p {R = Option (Option OrderState)} {F = EndFault} (λ x row. row ≡ x.entity order)
      (Ok (Some (Some placed)))
      → LooksAtPartners stocks accounts (λ y z (agree : Bool). agree
      ≡ all_fit y z order placed.status placed.partners) result s t a b
      → Looks orders stocks accounts (λ x y z (agrees : Bool). agrees ≡ order_agrees y z order (x.entity order)) result
      o p s t a b
  order_looked order placed (Ok agrees) read look = (
    inr (record { call = read.call; doubt = read.doubt; clean = λ clean. (tt, (read.clean clean).1) }),
    look.0,
    look.1,
    λ co cs ca x y z xo ys za. look.2 cs ca y z ys za
        ∙ ap (order_agrees y z order) ((read.clean co).0
        ∙ ap (λ (w : OrderTables). w.entity order) (sym (xo read.call.0))),
  )
  order_looked order placed (Err (Purchasing fault)) read look = absurd look
  order_looked order placed (Err (Warehouse fault)) read look = (
    inr (record { call = read.call; doubt = read.doubt; clean = λ clean. (tt, (read.clean clean).1) }),
    look.0,
    look.1,
  )
  order_looked order placed (Err (Billing fault)) read look = (
    inr (record { call = read.call; doubt = read.doubt; clean = λ clean. (tt, (read.clean clean).1) }),
    look.0,
    look.1,
  )

  -- a row whose entity is an order
  pub row_looked : (row : JournalRow OrderCommand) (result : Result Bool AuditFault) → row.entity.kind ≡ Order
      → Looks orders stocks accounts (λ x y z (agrees : Bool). agrees
      ≡ order_agrees y z row.entity (x.entity row.entity))
      result o p s t a b
      → Looks orders stocks accounts (λ x y z (agrees : Bool). agrees ≡ row_agrees x y z row) result o p s t a b
  row_looked row (Ok agrees) is look = (
    look.0,
    look.1,
    look.2,
    λ co cs ca x y z xo ys za. look.3 co cs ca x y z xo ys za
        ∙ ap (λ k. not (is_order k) || order_agrees y z row.entity (x.entity row.entity)) (sym is),
  )
  row_looked row (Err (Purchasing fault)) is look = look
  row_looked row (Err (Warehouse fault)) is look = look
  row_looked row (Err (Billing fault)) is look = look
