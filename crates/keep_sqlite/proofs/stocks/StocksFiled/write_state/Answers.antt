use Rattle.std.proofs.Common.{◌≡◌, Some, None}
use Rattle.base.specs.declared.entity.Kind.TheVariants as kind
use Rattle.keep_sqlite.specs.Stocks.{stocks as filing}
use Rattle.keep_sqlite.proofs.Holders.{of_entity}
use Rattle.keep_sqlite.proofs.stocks.StocksFiled.write_state.Goals as goal

pub returns-in-Stock-Some-clause-ok : goal.returns-in-Stock-Some-clause-ok
returns-in-Stock-Some-clause-ok g c clean =
    let of_kind : c.args.entity.now.kind ≡ kind.Stock = cc in
    let is : Some c.in-Stock-Some.stock ≡ c.args.row.now = cc in
    of_entity filing kind.Stock _ c.args.entity.now _ c.args.row.now c.set_stock.result _ _ of_kind
    c.key.ensures.key is (c.set_stock.ensures.ok clean)

pub returns-in-Stock-None-clause-ok : goal.returns-in-Stock-None-clause-ok
returns-in-Stock-None-clause-ok g c clean =
    let of_kind : c.args.entity.now.kind ≡ kind.Stock = cc in
    let is : None ≡ c.args.row.now = cc in
    of_entity filing kind.Stock _ c.args.entity.now _ c.args.row.now c.remove_stock.result _ _ of_kind
    c.key-in-Stock-None.ensures.key is (c.remove_stock.ensures.ok clean)
