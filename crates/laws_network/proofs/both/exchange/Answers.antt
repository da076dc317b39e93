use Rattle.std.proofs.Common.{◌≡◌, ◌+◌, ◌++◌, ◌∷◌, [], take, arith, ap, sym, ◌∙◌, subst}
use Rattle.std.proofs.lemmas.List.{take_more, take_all}
use Rattle.laws_network.specs.Runs.{Runs}
use Rattle.laws_network.specs.Sides.{contents}
use Rattle.laws_network.proofs.Paths.{runs_more, runs_fair, runs_taken}
use Rattle.laws_network.proofs.both.exchange.Goals as goal

pub loop-delivery-preserved : goal.loop-delivery-preserved
loop-delivery-preserved g c =
    let one = g.H.Handler.service in
    let other = g.G.Handler.service in
    let ds = c.args.deliveries.now in
    let i = c.loop-delivery.delivery-index in
    let d = c.delivery-item.result in
    let before = c.loop-delivery.invariant in
    let doubt = c.deliver-outcome.ensures.doubt in
    let old = contents (g.K.Keep.seen c.args.left.now) (g.L.Keep.seen c.args.right.now) c.args.network.now in
    let mid =
    contents (g.K.Keep.seen c.loop-delivery.left) (g.L.Keep.seen c.loop-delivery.right) c.loop-delivery.network in
    let new = contents (g.K.Keep.seen c.deliver-outcome.new.left) (g.L.Keep.seen c.deliver-outcome.new.right)
    c.deliver-outcome.new.network in
    let more : take (i + 1) ds ≡ take i ds ++ d ∷ [] =
    take_more ds i d c.loop-delivery-test.true ∙ ap (λ v. take i ds ++ v ∷ []) (sym c.delivery-item.is) in
    let runs : Runs one other (take i ds ++ d ∷ []) (c.loop-delivery.outcomes.items ++ c.deliver-outcome.result ∷ [])
    old new =
    runs_more one other (take i ds) c.loop-delivery.outcomes.items d c.deliver-outcome.result old mid new
    (λ clean. let l = doubt.0 in let r = doubt.1 in (omega (arith, l, clean.0), omega (arith, r, clean.1)))
    (λ clean good. (before.left clean.0 good.0, before.right clean.1 good.1))
    before.runs c.deliver-outcome.ensures.runs in
    record {
      room = omega arith;
      count = omega arith;
      left = λ clean good. let l =
          doubt.0 in c.deliver-outcome.ensures.left clean (before.left (omega (arith, l, clean)) good);
      right = λ clean good. let r =
          doubt.1 in c.deliver-outcome.ensures.right clean (before.right (omega (arith, r, clean)) good);
      doubt = let l = doubt.0 in let r = doubt.1 in (omega arith, omega arith);
      runs = subst (λ done. Runs one other done c.push_reserved.new.self.items old new) (sym more)
          (subst (λ told. Runs one other (take i ds ++ d ∷ []) told old new) (sym c.push_reserved.ensures.items) runs);
    }

pub returns-clause-runs : goal.returns-clause-runs
returns-clause-runs g c = rw (take_all c.loop-delivery.delivery-index c.args.deliveries.now c.loop-delivery-test.false)
    at c.loop-delivery.invariant.runs

pub returns-clause-fair : goal.returns-clause-fair
returns-clause-fair g c =
    runs_fair g.H.Handler.service g.G.Handler.service c.args.deliveries.now c.loop-delivery.outcomes.items
    (contents (g.K.Keep.seen c.args.left.now) (g.L.Keep.seen c.args.right.now) c.args.network.now)
    (contents (g.K.Keep.seen c.loop-delivery.left) (g.L.Keep.seen c.loop-delivery.right) c.loop-delivery.network)
    (returns-clause-runs g c)

pub returns-clause-all : goal.returns-clause-all
returns-clause-all g c =
    runs_taken g.H.Handler.service g.G.Handler.service c.args.deliveries.now c.loop-delivery.outcomes.items
    (contents (g.K.Keep.seen c.args.left.now) (g.L.Keep.seen c.args.right.now) c.args.network.now)
    (contents (g.K.Keep.seen c.loop-delivery.left) (g.L.Keep.seen c.loop-delivery.right) c.loop-delivery.network)
    (returns-clause-runs g c)
