use Rattle.std.proofs.Common.{◌≡◌, ◌+◌, ◌∙◌, ap, drop, sym, []}
use Rattle.std.proofs.lemmas.List.{drop_all}
use Rattle.std.proofs.lemmas.Result.{err_from_is_err_and}
use Rattle.broker_book.specs.Steps.{act_of, apply_of, then_all}
use Rattle.broker_queues.specs.Parts.Held.{holding_of}
use Rattle.broker_queues.specs.Parts.Whole.{book_of}
use Rattle.broker_queues.proofs.Acting.{goes_on, grows_again, left_first, refused_stays}
use Rattle.broker_queues.proofs.parts.Parts.act_all.Goals as goal

pub act-requires : goal.act-requires
act-requires c = c.loop-action.invariant.sound

pub loop-action-preserved : goal.loop-action-preserved
loop-action-preserved c =
    let rest = drop (c.loop-action.action-index + 1) c.args.actions.now in
    record {
      sound = c.in_ok-act.ensures.sound;
      begun = λ start b. c.in_ok-act.ensures.begun start (c.loop-action.invariant.begun start b);
      left = ap (then_all c.args.full c.args.session rest) (sym c.in_ok-act.ensures.goes)
          ∙ sym (left_first c.args.full c.args.session c.args.actions.now c.loop-action.action-index
          c.action-item.result
          (book_of (holding_of c.loop-action.self) c.loop-action.accepted.items) c.loop-action-test.true
          c.action-item.is)
          ∙ c.loop-action.invariant.left;
      grows = grows_again c.args.accepted.now.items c.loop-action.accepted.items c.act.new.accepted.items
          c.loop-action.invariant.grows
          c.in_ok-act.ensures.grows;
    }

pub returns-in_err-act : goal.returns-in_err-act
returns-in_err-act c =
    let p = err_from_is_err_and c.from_residual.result c.from_residual.ensures.1 in
    let rest = drop (c.loop-action.action-index + 1) c.args.actions.now in
    let b = book_of (holding_of c.loop-action.self) c.loop-action.accepted.items in
    rw (p.1, p.2) (record {
      sound = c.in_err-act.ensures.sound;
      begun = λ start b. c.in_err-act.ensures.begun start (c.loop-action.invariant.begun start b);
      goes = goes_on (Unit {0}) (Unit {0}) (act_of c.args.full c.args.session b c.action-item.result)
          (apply_of c.args.full c.args.session (book_of (holding_of c.args.self.now) c.args.accepted.now.items)
          c.args.actions.now)
          (book_of (holding_of c.act.new.self) c.act.new.accepted.items)
          (book_of (holding_of c.act.new.self) c.act.new.accepted.items)
          c.in_err-act.field-0.0
          (λ e. sym c.loop-action.invariant.left
          ∙ left_first c.args.full c.args.session c.args.actions.now c.loop-action.action-index c.action-item.result b
          c.loop-action-test.true c.action-item.is
          ∙ ap (then_all c.args.full c.args.session rest) e
          ∙ refused_stays c.args.full c.args.session rest c.in_err-act.field-0.0)
          c.in_err-act.ensures.goes;
      grows = grows_again c.args.accepted.now.items c.loop-action.accepted.items c.act.new.accepted.items
          c.loop-action.invariant.grows
          c.in_err-act.ensures.grows;
    })

pub returns : goal.returns
returns c =
    let none : drop c.loop-action.action-index c.args.actions.now ≡ [] =
    drop_all c.loop-action.action-index c.args.actions.now c.loop-action-test.false in
    record {
      sound = c.loop-action.invariant.sound;
      begun = c.loop-action.invariant.begun;
      goes = sym (rw none at c.loop-action.invariant.left);
      grows = c.loop-action.invariant.grows;
    }
