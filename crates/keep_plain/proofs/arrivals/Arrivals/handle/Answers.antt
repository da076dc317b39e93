use Rattle.std.proofs.Common.{◌∙◌, ap}
use Rattle.std.specs.Prelude.{is_some}
use Rattle.keep_plain.proofs.Index.{index_handled, some_where}
use Rattle.keep_plain.proofs.arrivals.Arrivals.handle.Goals as goal

pub invariant_of-self : goal.invariant_of-self
invariant_of-self c =
    let a = c.args.self.now in
    let x = c.args.place.now in
    record {
      indexed = index_handled x.pair x.number a.handled c.set_slot.new.map a.held a.drainable c.set_slot-2.new.map
          c.then_some.result a.indexed c.set_slot.ensures.sets c.set_slot-2.ensures.sets
          (ap is_some c.then_some.ensures ∙ some_where c.has_next-is_drainable.result
          ∙ c.has_next-is_drainable.ensures);
    }
