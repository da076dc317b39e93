use Rattle.std.proofs.Common.{arith, inl, inr}
use Rattle.sqlite.specs.Held.{state}
use Rattle.sqlite.specs.State.{HasCleanDisk}
use Rattle.sqlite.proofs.Callers.{never_commits}
use Rattle.sql_rows.proofs.Stays.{read_open, read_stays}
use Rattle.sql_rows.proofs.statements.read.Goals as goal

pub returns-clause-open : goal.returns-clause-open
returns-clause-open g c clean =
    let early : HasCleanDisk (state g.S.Store c.args.conn.now) = omega (arith, c.query_all.ensures.survives.clean) in
    read_open (state g.S.Store c.args.conn.now) (state g.S.Store c.query_all.new.self) (λ _. c.requires.settled early)
    _ _ (c.requires.plain early) (λ v. v.items) c.query_all.result
    (c.query_all.ensures.ok clean)

pub returns-clause-stays : goal.returns-clause-stays
returns-clause-stays g c clean =
    let early : HasCleanDisk (state g.S.Store c.args.conn.now) = omega (arith, c.query_all.ensures.survives.clean) in
    read_stays (state g.S.Store c.args.conn.now) (state g.S.Store c.query_all.new.self) (λ _. c.requires.settled early)
    _ _ (c.requires.plain early) (λ v. v.items) c.query_all.result
    (c.query_all.ensures.ok clean) (c.query_all.ensures.err clean)

pub returns-clause-crash : goal.returns-clause-crash
returns-clause-crash g c clean db may =
    let early : HasCleanDisk (state g.S.Store c.args.conn.now) = omega (arith, c.query_all.ensures.survives.clean) in
    elim (c.query_all.ensures.survives.crash clean db may) [
      | inl was ↦ was
      | inr commits ↦ absurd (never_commits _ _ (state g.S.Store c.args.conn.now) db
          (c.requires.plain early) commits)
    ]
