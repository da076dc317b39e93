use Rattle.std.proofs.Common.{◌≡◌, drop}
use Rattle.std.specs.Prelude.{IsTrue}
use Rattle.sqlite.specs.Held.{state}
use Rattle.sqlite.specs.State.{HasCleanDisk, Survives}
use Rattle.last_states.specs.Known.{known_of, Knows}
use Rattle.keep.specs.Steps.{AreSteps}
use Rattle.keep_sqlite.specs.Ready.{IsUnderWay}
use Rattle.keep_sqlite.specs.Tables.{tables_of}
use Rattle.keep_sqlite.proofs.writes.stage.Given as goal

abbrev pub invariant-loop-place : goal.invariant-loop-place
invariant-loop-place g l =
    let f = g.H.Filed.filing in
    let old = state g.S.Store l.fn.tx.conn.now in
    let now = state g.S.Store l.tx.conn.now in
    let rest = drop l.place l.changes in
    (l.tx.conn.ghost_name ≡ l.fn.tx.conn.ghost_name)
    × Survives old now (λ _. ⊥)
    × (HasCleanDisk now → IsUnderWay f rest l.changes l.count old now)
    × (HasCleanDisk now → Knows (known_of l.states) (f.entity now.now.trees))
    × (HasCleanDisk now → IsTrue l.are_steps → AreSteps g.H.State.Parts.follows rest (tables_of f now.now.trees))
