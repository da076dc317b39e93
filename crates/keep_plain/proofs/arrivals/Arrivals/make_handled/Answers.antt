use Rattle.std.proofs.Common.{refl}
use Rattle.keep_plain.proofs.Index.{same_index}
use Rattle.keep_plain.proofs.arrivals.Arrivals.make_handled.Goals as goal

pub invariant_of-self-in-Break-branch-2 : goal.invariant_of-self-in-Break-branch-2
invariant_of-self-in-Break-branch-2 c =
    let a = c.args.self.now in
    record {
      indexed = same_index a.handled c.make_slot.new.map a.held a.held a.drainable a.drainable a.indexed
          c.make_slot.ensures.same
          (λ _. refl) (λ _. refl);
    }

pub invariant_of-self-in-Break-branch-3 : goal.invariant_of-self-in-Break-branch-3
invariant_of-self-in-Break-branch-3 c =
    let a = c.args.self.now in
    record {
      indexed = same_index a.handled c.make_slot.new.map a.held a.held a.drainable a.drainable a.indexed
          c.make_slot.ensures.same
          (λ _. refl) (λ _. refl);
    }

pub invariant_of-self-2 : goal.invariant_of-self-2
invariant_of-self-2 c =
    let a = c.args.self.now in
    record {
      indexed = same_index a.handled c.make_slot.new.map a.held a.held a.drainable c.make_slot-2.new.map a.indexed
          c.make_slot.ensures.same (λ _. refl) c.make_slot-2.ensures.same;
    }
