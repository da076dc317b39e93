use Rattle.std.proofs.Common.{◌≡◌, ◌∙◌, Some, true, refl, ap, subst}
use Rattle.std.specs.Prelude.{is_some}
use Rattle.sqlite.specs.Held.{state}
use Rattle.base.specs.Entity.{Entity, stock_of}
use Rattle.base.specs.declared.entity.Kind.TheVariants as kind
use Rattle.keep_sqlite.specs.Stocks.{stocks as filing}
use Rattle.keep_sqlite.proofs.Holders.{of_entity}
use Rattle.keep_sqlite.proofs.HolderSteps.{is_own}
use Rattle.keep_sqlite.proofs.stocks.StocksFiled.write_step.Goals as goal

pub step_stock-requires-clause-stands : goal.step_stock-requires-clause-stands
step_stock-requires-clause-stands g c clean =
    let db = (state g.S.Store c.args.tx.now.conn.now).now.trees in
    let of_kind : c.args.entity.now.kind ≡ kind.Stock = cc in
    let own : c.args.entity.now ≡ stock_of c.key.result.now = is_own _ _ c.args.entity.now of_kind c.key.ensures.key in
    subst (λ (e : Entity). is_some (filing.entity db e) ≡ true) own (c.requires.stands clean)

pub step_stock-requires-clause-follows : goal.step_stock-requires-clause-follows
step_stock-requires-clause-follows g c clean before is =
    let db = (state g.S.Store c.args.tx.now.conn.now).now.trees in
    let of_kind : c.args.entity.now.kind ≡ kind.Stock = cc in
    let own : c.args.entity.now ≡ stock_of c.key.result.now = is_own _ _ c.args.entity.now of_kind c.key.ensures.key in
    c.requires.follows clean before (ap (filing.entity db) own ∙ is)

pub returns-in-Stock-clause-ok : goal.returns-in-Stock-clause-ok
returns-in-Stock-clause-ok g c clean =
    let of_kind : c.args.entity.now.kind ≡ kind.Stock = cc in
    of_entity filing kind.Stock _ c.args.entity.now _ (Some c.args.row.now) c.step_stock.result _ _ of_kind
    c.key.ensures.key refl (c.step_stock.ensures.ok clean)
