use Rattle.std.proofs.Common.{[]}
use Rattle.std.proofs.lemmas.Result.{err_from_is_err_and}
use Rattle.broker_queues.specs.Parts.Held.{holding_of}
use Rattle.broker_queues.specs.Parts.Whole.{book_of}
use Rattle.broker_queues.proofs.Running.{dealt_next, dealt_no_more, dealt_still, ends_quiet, fewer_kept}
use Rattle.broker_queues.proofs.Swept.{none_same}
use Rattle.broker_queues.proofs.queues.Queues.dispatch.Goals as goal

pub loop-pick-smaller : goal.loop-pick-smaller
loop-pick-smaller g c =
    let next = rw c.in-Some.is at c.in_ok-pick.ensures in
    let n = next c.loop-pick.invariant.0.sound in
    let one = c.in_ok-hand.ensures.hands [] n.1.0 n.1.1 n.0.sound n.1.2 in
    fewer_kept (holding_of c.loop-pick.self-inside.parts) (holding_of c.next_deal.new.self)
    (holding_of c.hand.new.self) n.0 one.1.0 one.1.1

pub loop-pick-preserved : goal.loop-pick-preserved
loop-pick-preserved g c =
    let parts = c.loop-pick.self-inside.parts in
    let accepted = c.loop-pick.self-inside.accepted.items in
    let next = rw c.in-Some.is at c.in_ok-pick.ensures in
    let n = next c.loop-pick.invariant.0.sound in
    let one = c.in_ok-hand.ensures.hands accepted n.1.0 n.1.1 n.0.sound n.1.2 in (
      record {
        sound = one.0;
        none_gone = c.in_ok-hand.ensures.whole n.1.0 n.1.1 n.0.sound n.1.2
            (none_same parts.messages c.next_deal.new.self.messages n.0.kept c.loop-pick.invariant.0.none_gone);
      },
      dealt_next g.S.Sink.takes (book_of (holding_of c.self.inside.parts) c.self.inside.accepted.items)
          (holding_of parts) (holding_of c.next_deal.new.self) c.args.sink.now c.loop-pick.sink n.0 accepted
          c.loop-pick.invariant.1 (holding_of c.hand.new.self) c.hand.new.sink one.1.0 one.1.1 one.1.2,
    )

pub invariant_of-self-in_err-hand : goal.invariant_of-self-in_err-hand
invariant_of-self-in_err-hand g c =
    let next = rw c.in-Some.is at c.in_ok-pick.ensures in
    let n = next c.loop-pick.invariant.0.sound in
    record {
      sound = (c.in_err-hand.ensures.hands [] n.1.0 n.1.1 n.0.sound n.1.2).0;
      none_gone = c.in_err-hand.ensures.whole n.1.0 n.1.1 n.0.sound n.1.2
          (none_same c.loop-pick.self-inside.parts.messages c.next_deal.new.self.messages n.0.kept
          c.loop-pick.invariant.0.none_gone);
    }

pub returns-in_err-hand : goal.returns-in_err-hand
returns-in_err-hand g c =
    let accepted = c.loop-pick.self-inside.accepted.items in
    let next = rw c.in-Some.is at c.in_ok-pick.ensures in
    let n = next c.loop-pick.invariant.0.sound in
    let one = c.in_err-hand.ensures.hands accepted n.1.0 n.1.1 n.0.sound n.1.2 in
    let failed = err_from_is_err_and c.from_residual-in_err-hand.result c.from_residual-in_err-hand.ensures.1 in
    rw (← c.self.view_is, failed.1)
    (dealt_no_more g.S.Sink.takes (book_of (holding_of c.self.inside.parts) c.self.inside.accepted.items)
    (holding_of c.loop-pick.self-inside.parts) (holding_of c.next_deal.new.self) c.args.sink.now c.loop-pick.sink n.0
    accepted c.loop-pick.invariant.1 (holding_of c.hand.new.self) c.hand.new.sink one.1.0 one.1.1)

pub returns : goal.returns
returns g c =
    let accepted = c.loop-pick.self-inside.accepted.items in
    let next = rw c.in_default.is at c.in_ok-pick.ensures in
    let n = next c.loop-pick.invariant.0.sound in
    rw (← c.self.view_is) (
      dealt_still g.S.Sink.takes (book_of (holding_of c.self.inside.parts) c.self.inside.accepted.items)
          (holding_of c.loop-pick.self-inside.parts) (holding_of c.next_deal.new.self) c.args.sink.now
          c.loop-pick.sink n.0 accepted c.loop-pick.invariant.1,
      ends_quiet (holding_of c.next_deal.new.self) n.0.sound n.1 accepted,
    )
