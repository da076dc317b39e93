use Rattle.std.proofs.Common.{◌∙◌, arith}
use Rattle.std.proofs.lemmas.Grind.{common_steps}
use Rattle.stomp_wire.specs.Pump.{one_more}
use Rattle.stomp_wire.proofs.Known.{Keeps-twice, Appends-kept, Appends-then_none, Appends-more, Appends-whole}
use Rattle.stomp_wire.proofs.Known.{take-rest}
use Rattle.stomp_wire.proofs.pump.pump_rest.Goals as goal

pub loop-count-preserved : goal.loop-count-preserved
loop-count-preserved g c =
    let so_far = c.loop-count.invariant in
    let rest = take-rest c.loop-count.count c.args.bytes.now in
    let put = c.in-Ok.ensures in
    record {
      least = omega (arith, so_far.least);
      most = grind (arith, common_steps);
      run = λ first start earlier. one_more (so_far.run first start earlier) (rw rest at put.gives) (omega arith);
      outgoing = Appends-more c.args.gone c.loop-count.count so_far.least c.args.bytes.now c.in-Ok.some
          (g.L.Link.outgoing c.args.link.now)
          (g.L.Link.outgoing c.loop-count.link) (g.L.Link.outgoing c.put.new.self) so_far.outgoing
          (rw rest at put.outgoing.1);
      incoming = Keeps-twice _ _ _ so_far.incoming put.incoming;
      counted = put.counted ∙ so_far.counted;
    }

pub returns-in-Err-clause-whole : goal.returns-in-Err-clause-whole
returns-in-Err-clause-whole g c = λ first earlier.
    Appends-kept _ _ _ _ (Appends-whole _ _ c.loop-count.invariant.least _ _ _ _ earlier
    c.loop-count.invariant.outgoing)
    c.in-Err.ensures.outgoing

pub returns-after-loop-count-clause-whole : goal.returns-after-loop-count-clause-whole
returns-after-loop-count-clause-whole g c = λ first earlier.
    Appends-whole _ _ c.loop-count.invariant.least _ _ _ _ earlier c.loop-count.invariant.outgoing

pub returns-in-Ok-eq0-clause-whole : goal.returns-in-Ok-eq0-clause-whole
returns-in-Ok-eq0-clause-whole g c = λ first earlier.
    Appends-then_none _ c.in-Ok-eq0.field-0-test _ _ _ _ _
    (Appends-whole _ _ c.loop-count.invariant.least _ _ _ _ earlier c.loop-count.invariant.outgoing)
    c.in-Ok-eq0.ensures.outgoing.1
