use Rattle.std.proofs.Common.{refl, sym, subst, arith, []}
use Rattle.broker_core.specs.Feeding.{HandlesAll}
use Rattle.broker_core.specs.Parts.Rising.{StandsAt}
use Rattle.broker_core.specs.Parts.Taking.{Handled}
use Rattle.broker_core.specs.Serving.{Server, broker_of}
use Rattle.broker_core.proofs.Rising.{got_within}
use Rattle.broker_core.proofs.Standing.{stands_fed, stands_first, stands_handled}
use Rattle.broker_core.proofs.Turning.{finished, handled_more}
use Rattle.broker_core.proofs.broker.Broker.feed.Goals as goal

pub returns-in_default-feed : goal.returns-in_default-feed
returns-in_default-feed g c =
    let n = c.args.session in
    let stands = stands_first n c.self.inside.sessions.sessions c.in-Some.at
    (rw c.number.ensures at c.in-Some.ensures) in
    rw (← c.self.view_is) (c.in_default-feed.ensures n c.self.inside.queues stands)

pub loop-count-init : goal.loop-count-init
loop-count-init g c =
    let n = c.args.session in
    let at = c.in-Some.at in
    let stands = stands_first n c.self.inside.sessions.sessions at (rw c.number.ensures at c.in-Some.ensures) in
    let b = c.in-Ok.ensures n c.self.inside.queues stands in
    record {
      handled = record { frames = []; handles = refl; counted = refl };
      less = omega (arith, b.2);
      stands = subst (λ (x : Server). StandsAt n x.sessions at) (sym b.1)
          (stands_fed n n c.args.piece.now c.self.inside.sessions.sessions at stands);
    }

pub turn-requires : goal.turn-requires
turn-requires g c =
    let stands = c.loop-count.invariant.stands in (
      omega arith,
      got_within c.loop-count.self.sessions c.in-Some.at stands.0 stands.1,
    )

pub returns-in-Err : goal.returns-in-Err
returns-in-Err g c =
    let n = c.args.session in
    let stands = stands_first n c.self.inside.sessions.sessions c.in-Some.at
    (rw c.number.ensures at c.in-Some.ensures) in
    let b = c.in-Ok.ensures n c.self.inside.queues stands in
    rw (← c.self.view_is)
    record {
      frames = c.loop-count.invariant.handled.frames;
      handled = c.loop-count.self;
      there = b.0;
      handles = subst (λ (x : Server). HandlesAll g.row.FULL n x c.loop-count.invariant.handled.frames
          c.loop-count.self) b.1 c.loop-count.invariant.handled.handles;
      stops = c.in-Err.ensures n c.loop-count.invariant.stands;
    }

pub returns-in-Ok-false : goal.returns-in-Ok-false
returns-in-Ok-false g c =
    let n = c.args.session in
    let stands = stands_first n c.self.inside.sessions.sessions c.in-Some.at
    (rw c.number.ensures at c.in-Some.ensures) in
    let b = c.in-Ok.ensures n c.self.inside.queues stands in
    rw (← c.self.view_is)
    (finished g.row.FULL n c.args.piece.now (broker_of c.self.inside.queues c.self.inside.sessions) c.loop-count.self
    c.turn.new.self c.loop-count.count b.0
    (subst (λ (x : Server). Handled g.row.FULL n x c.loop-count.count c.loop-count.self) b.1
    c.loop-count.invariant.handled)
    (rw c.in-Ok-false.field-0-test at (c.in-Ok-false.ensures n c.loop-count.invariant.stands)))

pub loop-count-preserved : goal.loop-count-preserved
loop-count-preserved g c =
    let n = c.args.session in
    let stands = c.loop-count.invariant.stands in
    let h = rw c.in-Ok-true.field-0-test at (c.in-Ok-true.ensures n stands) in
    let l = c.loop-count.invariant.less in
    let d = h.less in
    record {
      handled = handled_more _ _ _ _ _ _ c.loop-count.invariant.handled h;
      less = omega (arith, l, d);
      stands = stands_handled n g.row.FULL n c.loop-count.self c.turn.new.self h.frame c.in-Some.at h.handles stands;
    }
