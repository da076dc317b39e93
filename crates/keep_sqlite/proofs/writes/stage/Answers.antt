use Rattle.std.proofs.Common.{arith, ◌∙◌, ◌+◌, ◌∷◌, drop, ap, sym, subst}
use Rattle.std.proofs.lemmas.List.{drop_more}
use Rattle.sqlite.specs.Held.{state}
use Rattle.sqlite.specs.State.{HasCleanDisk}
use Rattle.keep.specs.Steps.{AreSteps}
use Rattle.keep_sqlite.specs.Ready.{IsUnderWay}
use Rattle.keep_sqlite.specs.Tables.{tables_of}
use Rattle.keep_sqlite.proofs.Clean.{clean_before}
use Rattle.keep_sqlite.proofs.Changes.{both_keep, one_more, survives_quietly}
use Rattle.keep_sqlite.proofs.Commits.{all_made, way_keeps}
use Rattle.keep_sqlite.proofs.Knowing.{next_steps, step_by}
use Rattle.keep_sqlite.proofs.writes.stage.Goals as goal

pub write_one-requires-clause-step : goal.write_one-requires-clause-step
write_one-requires-clause-step g c clean =
    let follows = g.H.State.Parts.follows in
    let all = c.args.changes.now in
    let at = c.loop-place.place in
    let change = c.index-changes-place.result in
    let t = tables_of g.H.Filed.filing (state g.S.Store c.loop-place.tx.conn.now).now.trees in
    let next = drop_more all at change c.loop-place-test.true
    ∙ ap (λ v. v ∷ drop (at + 1) all) (sym c.index-changes-place.is) in
    rw c.step_at-step.ensures (step_by follows c.args.are_steps change (drop (at + 1) all) t
    (λ are. subst (λ rest. AreSteps follows rest t) next (c.loop-place.invariant.4 clean are)))

pub returns-in_err-count-clause-kept : goal.returns-in_err-count-clause-kept
returns-in_err-count-clause-kept g c clean =
    let f = g.H.Filed.filing in
    let old = state g.S.Store c.args.tx.now.conn.now in
    let mid = state g.S.Store c.loop-place.tx.conn.now in
    let new = state g.S.Store c.write_one.new.tx.conn.now in
    let early : HasCleanDisk mid = clean_before _ _ c.write_one.ensures.survives.clean clean in
    both_keep f old mid new
    (way_keeps f _ c.args.changes.now c.loop-place.count old mid (c.loop-place.invariant.2 early))
    (c.write_one.ensures.kept clean)

pub returns-in_err-count-clause-survives : goal.returns-in_err-count-clause-survives
returns-in_err-count-clause-survives g c =
    survives_quietly (state g.S.Store c.args.tx.now.conn.now) (state g.S.Store c.loop-place.tx.conn.now)
    (state g.S.Store c.write_one.new.tx.conn.now) c.loop-place.invariant.1 c.write_one.ensures.survives

pub loop-place-preserved : goal.loop-place-preserved
loop-place-preserved g c =
    let f = g.H.Filed.filing in
    let follows = g.H.State.Parts.follows in
    let old = state g.S.Store c.args.tx.now.conn.now in
    let mid = state g.S.Store c.loop-place.tx.conn.now in
    let new = state g.S.Store c.write_one.new.tx.conn.now in
    let all = c.args.changes.now in
    let at = c.loop-place.place in
    let change = c.index-changes-place.result in
    let next = drop_more all at change c.loop-place-test.true
    ∙ ap (λ v. v ∷ drop (at + 1) all) (sym c.index-changes-place.is) in (
      c.write_one.ensures.same_reference ∙ c.loop-place.invariant.0,
      survives_quietly old mid new c.loop-place.invariant.1 c.write_one.ensures.survives,
      λ clean.
          let early : HasCleanDisk mid = clean_before _ _ c.write_one.ensures.survives.clean clean in
          one_more f change (drop (at + 1) all) all c.loop-place.count _ old mid new (c.in_ok-count.ensures.ok clean)
          (subst (λ rest. IsUnderWay f rest all c.loop-place.count old mid) next (c.loop-place.invariant.2 early)),
      c.in_ok-count.ensures.known,
      λ clean are.
          let early : HasCleanDisk mid = clean_before _ _ c.write_one.ensures.survives.clean clean in
          next_steps follows f change (drop (at + 1) all) _ mid new (c.in_ok-count.ensures.ok clean)
          (subst (λ rest. AreSteps follows rest (tables_of f mid.now.trees)) next (c.loop-place.invariant.4 early are)),
    )

pub returns-clause-ok : goal.returns-clause-ok
returns-clause-ok g c clean =
    all_made g.H.Filed.filing c.args.changes.now c.loop-place.place c.loop-place.count
    (state g.S.Store c.args.tx.now.conn.now) (state g.S.Store c.loop-place.tx.conn.now)
    (omega (arith, c.loop-place-test.false)) (c.loop-place.invariant.2 clean)

pub returns-clause-kept : goal.returns-clause-kept
returns-clause-kept g c clean =
    way_keeps g.H.Filed.filing _ c.args.changes.now c.loop-place.count (state g.S.Store c.args.tx.now.conn.now)
    (state g.S.Store c.loop-place.tx.conn.now) (c.loop-place.invariant.2 clean)
