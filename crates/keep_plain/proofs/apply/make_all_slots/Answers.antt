use Rattle.std.proofs.Common.{take, ◌∙◌, ◌++◌, ◌∷◌, [], sym, ap, subst}
use Rattle.std.specs.List.{AllByRecursion}
use Rattle.std.proofs.lemmas.List.{take_more}
use Rattle.keep_plain.specs.Ready.{IsReady}
use Rattle.keep_plain.proofs.Made.{same_after, all_kept, all_more}
use Rattle.keep_plain.proofs.apply.make_all_slots.Goals as goal

pub returns-in_err-make_slots-clause-same : goal.returns-in_err-make_slots-clause-same
returns-in_err-make_slots-clause-same g c =
    same_after c.args.maps.now c.loop-change.maps c.make_slots.new.maps c.loop-change.invariant.same
    c.make_slots.ensures.same

pub loop-change-preserved : goal.loop-change-preserved
loop-change-preserved g c =
    let change = c.change-item.result in
    let changes = c.args.changes.now in
    record {
      same = same_after c.args.maps.now c.loop-change.maps c.make_slots.new.maps c.loop-change.invariant.same
          c.make_slots.ensures.same;
      journal = c.make_slots.ensures.journal ∙ c.loop-change.invariant.journal;
      ready = subst (AllByRecursion (IsReady c.make_slots.new.maps))
          (sym (take_more changes c.loop-change.change-index change c.loop-change-test.true
          ∙ ap (λ x. take c.loop-change.change-index changes ++ x ∷ []) (sym c.change-item.is)))
          (all_more c.make_slots.new.maps (take c.loop-change.change-index changes) change
          (all_kept c.loop-change.maps c.make_slots.new.maps c.make_slots.ensures.keeps
          (take c.loop-change.change-index changes) c.loop-change.invariant.ready)
          c.in_ok-make_slots.ensures.ready);
    }
