use Rattle.std.proofs.Common.{refl}
use Rattle.keep_plain.proofs.Index.{same_index}
use Rattle.keep_plain.proofs.arrivals.Arrivals.sweep_handled.Goals as goal

pub invariant_of-self : goal.invariant_of-self
invariant_of-self c =
    let a = c.args.self.now in
    record {
      indexed = same_index a.handled c.sweep_slot.new.map a.held a.held a.drainable c.sweep_slot-2.new.map a.indexed
          c.sweep_slot.ensures.same (λ _. refl) c.sweep_slot-2.ensures.same;
    }
