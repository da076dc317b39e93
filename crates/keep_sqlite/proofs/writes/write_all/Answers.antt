use Rattle.std.proofs.Common.{◌≡◌, rules, ap, inl, subst, sym, true}
use Rattle.sqlite.specs.State.{State, HasCleanDisk}
use Rattle.sqlite.specs.Held.{state}
use Rattle.last_states.specs.Known.{known_of, Knows}
use Rattle.last_states.proofs.Rows.{Knows-none}
use Rattle.keep_sqlite.proofs.Commits.{undone_ready, undone_may, done_known, done_ready, done_may, refused_ready}
use Rattle.keep_sqlite.proofs.writes.write_all.Goals as goal

pub returns-in-Err-clause-err : goal.returns-in-Err-clause-err
returns-in-Err-clause-err g c =
    let same : c.conn-1.given.0 ≡ c.rollback.new.self.0 = search rules in
    rw same (undone_ready g.H.Filed.filing c.args.changes.now c.args.count (state g.S.Store c.args.conn.now) _
    (state g.S.Store c.stage.new.tx.conn.now) _ c.requires.ready (ap (state g.S.Store) c.transaction-tx.ensures.begun)
    c.stage.ensures.survives c.rollback.ensures.survives c.stage.ensures.kept c.rollback.ensures.undone)

pub returns-in-Err-clause-crash : goal.returns-in-Err-clause-crash
returns-in-Err-clause-crash g c =
    let same : c.conn-1.given.0 ≡ c.rollback.new.self.0 = search rules in
    rw same (λ db clean may. inl (undone_may g.H.Filed.filing c.args.changes.now c.args.count (state g.S.Store
    c.args.conn.now) _
    (state g.S.Store c.stage.new.tx.conn.now) _ c.requires.ready (ap (state g.S.Store) c.transaction-tx.ensures.begun)
    c.stage.ensures.survives c.rollback.ensures.survives db clean may))

pub returns-in-Ok-commit-clause-autocommit : goal.returns-in-Ok-commit-clause-autocommit
returns-in-Ok-commit-clause-autocommit g c =
    let same : c.conn-2-1.given.0 ≡ c.commit.new.self.0 = search rules in
    rw same (c.commit.ensures.ended)

pub returns-in-Err-commit-clause-autocommit : goal.returns-in-Err-commit-clause-autocommit
returns-in-Err-commit-clause-autocommit g c =
    let same : c.conn-2-1.given.0 ≡ c.commit.new.self.0 = search rules in
    rw same (c.commit.ensures.ended)

pub returns-in-Ok-commit-clause-ok : goal.returns-in-Ok-commit-clause-ok
returns-in-Ok-commit-clause-ok g c =
    let same : c.conn-2-1.given.0 ≡ c.commit.new.self.0 = search rules in
    rw same (done_ready g.H.Filed.filing c.args.changes.now c.args.count (state g.S.Store c.args.conn.now) _
    (state g.S.Store c.stage.new.tx.conn.now) _ c.requires.ready (ap (state g.S.Store) c.transaction-tx.ensures.begun)
    c.stage.ensures.survives c.in-Ok.count c.in-Ok.ensures.ok c.commit.ensures.survives
    (λ clean. (c.in-Ok-commit.ensures.ok clean).1))

pub returns-in-Ok-commit-clause-crash : goal.returns-in-Ok-commit-clause-crash
returns-in-Ok-commit-clause-crash g c =
    let same : c.conn-2-1.given.0 ≡ c.commit.new.self.0 = search rules in
    rw same (done_may g.H.Filed.filing c.args.changes.now c.args.count (state g.S.Store c.args.conn.now) _
    (state g.S.Store c.stage.new.tx.conn.now) _ c.requires.ready (ap (state g.S.Store) c.transaction-tx.ensures.begun)
    c.stage.ensures.survives c.in-Ok.count c.in-Ok.ensures.ok c.commit.ensures.survives)

pub returns-in-Err-commit-clause-err : goal.returns-in-Err-commit-clause-err
returns-in-Err-commit-clause-err g c =
    let same : c.conn-2-1.given.0 ≡ c.commit.new.self.0 = search rules in
    rw same (refused_ready g.H.Filed.filing c.args.changes.now c.args.count (state g.S.Store c.args.conn.now) _
    (state g.S.Store c.stage.new.tx.conn.now) _ c.requires.ready (ap (state g.S.Store) c.transaction-tx.ensures.begun)
    c.stage.ensures.survives c.in-Ok.count c.in-Ok.ensures.ok c.commit.ensures.survives _ c.in-Err-commit.ensures.err)

pub returns-in-Err-commit-clause-crash : goal.returns-in-Err-commit-clause-crash
returns-in-Err-commit-clause-crash g c =
    let same : c.conn-2-1.given.0 ≡ c.commit.new.self.0 = search rules in
    rw same (done_may g.H.Filed.filing c.args.changes.now c.args.count (state g.S.Store c.args.conn.now) _
    (state g.S.Store c.stage.new.tx.conn.now) _ c.requires.ready (ap (state g.S.Store) c.transaction-tx.ensures.begun)
    c.stage.ensures.survives c.in-Ok.count c.in-Ok.ensures.ok c.commit.ensures.survives)

pub returns-in-Err-clause-known : goal.returns-in-Err-clause-known
returns-in-Err-clause-known g c clean live = Knows-none (known_of c.clear.new.self) _ c.clear.ensures

pub returns-in-Ok-commit-clause-known : goal.returns-in-Ok-commit-clause-known
returns-in-Ok-commit-clause-known g c =
    let same : c.conn-2-1.given.0 ≡ c.commit.new.self.0 = search rules in
    rw same (λ clean live. done_known g.H.Filed.filing c.args.changes.now c.args.count (state g.S.Store c.args.conn.now) _
    (state g.S.Store c.stage.new.tx.conn.now) _ c.requires.ready (ap (state g.S.Store) c.transaction-tx.ensures.begun)
    c.stage.ensures.survives c.in-Ok.count c.in-Ok.ensures.ok c.commit.ensures.survives
    (known_of c.stage.new.states) c.in-Ok.ensures.known (λ clean. (c.in-Ok-commit.ensures.ok clean).1) clean)

pub returns-in-Err-commit-clause-known : goal.returns-in-Err-commit-clause-known
returns-in-Err-commit-clause-known g c clean live = Knows-none (known_of c.clear-in-Err-commit.new.self) _
    c.clear-in-Err-commit.ensures

pub stage-requires-clause-known : goal.stage-requires-clause-known
stage-requires-clause-known g c clean =
    let old = state g.S.Store c.args.conn.now in
    let begun = state g.S.Store c.transaction-tx.result.conn.now in
    let begins : begun ≡ record old { in_transaction = true } = ap (state g.S.Store) c.transaction-tx.ensures.begun in
    subst (λ (s : State). Knows (known_of c.args.states.now) (g.H.Filed.filing.entity s.now.trees)) (sym begins)
    (c.requires.known (subst HasCleanDisk begins clean))
