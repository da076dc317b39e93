use Rattle.std.proofs.Common.{ap, ◌∙◌, subst, arith}
use Rattle.std.proofs.Math.ListN.{length-set}
use Rattle.marks.specs.Rule.{IsSettled}
use Rattle.marks.proofs.Steps.{settles_keep, settled_more}
use Rattle.marks.proofs.marks.Marks.settled.Goals as goal

pub load-requires : goal.load-requires
load-requires c =
    let i = c.loop-place.invariant in
    let words = c.args.self.now.words in
    let more = c.loop-place-test.true in
    (i.0, omega arith, settles_keep _ _ _ _ _ _ (ap (λ m. m.0.parts) i.1 ∙ c.requires.parts))

pub loop-place-preserved : goal.loop-place-preserved
loop-place-preserved c =
    let i = c.loop-place.invariant in
    let more = c.loop-place-test.true in
    let most = c.args.self.now.most in
    let long = i.3 in
    let e = c.load.ensures in
    let now = subst (λ m. IsSettled c.loop-place.place c.load.result m.0) i.1 e.2.0 in (
      e.0 ∙ i.0,
      e.2.1 ∙ i.1,
      omega arith,
      length-set c.loop-place.marks c.loop-place.place c.load.result ∙ i.3,
      settled_more c.loop-place.marks c.loop-place.place c.load.result c.args.all.now.me.0 (omega arith) now i.4,
    )
