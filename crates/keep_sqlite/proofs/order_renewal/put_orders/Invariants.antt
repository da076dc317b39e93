use Rattle.std.proofs.Common.{◌≡◌, drop, map}
use Rattle.sqlite.specs.Held.{state}
use Rattle.sqlite.specs.State.{HasCleanDisk, Survives}
use Rattle.keep_sqlite.specs.OrderRenewal.{order_change}
use Rattle.keep_sqlite.specs.Orders.{orders}
use Rattle.keep_sqlite.specs.Ready.{IsUnderWay}
use Rattle.keep_sqlite.proofs.order_renewal.put_orders.Given as goal

abbrev pub invariant-loop-one : goal.invariant-loop-one
invariant-loop-one g l =
    let old = state g.S.Store l.fn.tx.conn.now in
    let now = state g.S.Store l.tx.conn.now in
    let all = map order_change l.keyed in
    (l.tx.conn.ghost_name ≡ l.fn.tx.conn.ghost_name)
    × Survives old now (λ _. ⊥)
    × (HasCleanDisk now → IsUnderWay orders (drop l.one-index all) all l.count old now)
    × (HasCleanDisk now → now.now.trees 14 ≡ old.now.trees 14)
