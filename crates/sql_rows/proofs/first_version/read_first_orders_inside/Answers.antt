use Rattle.std.proofs.Common.{arith}
use Rattle.sqlite.specs.Held.{state}
use Rattle.sqlite.specs.State.{HasCleanDisk}
use Rattle.sql_rows.proofs.FirstVersionRows.{select_orders, select_orders_asks, reads_orders}
use Rattle.sql_rows.proofs.Services.{plain_at}
use Rattle.sql_rows.proofs.first_version.read_first_orders_inside.Goals as goal

pub read_inside-requires : goal.read_inside-requires
read_inside-requires g c = record {
  plain = λ clean. plain_at select_orders select_orders_asks.0.1 _ (c.requires.schema clean);
}

pub returns-clause-rows : goal.returns-clause-rows
returns-clause-rows g c clean =
    let old = state g.S.Store c.args.tx.now.conn.now in
    let early : HasCleanDisk old = omega (arith, c.read_inside.ensures.survives.clean) in
    reads_orders (λ v. v.items) old (state g.S.Store c.read_inside.new.tx.conn.now) c.read_inside.result
    (c.requires.schema early) (c.read_inside.ensures.shown clean)
