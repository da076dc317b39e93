use Rattle.std.proofs.Common.{◌∙◌, refl, sym, Some}
use Rattle.keep_plain.proofs.Index.{index_next, index_later}
use Rattle.keep_plain.proofs.arrivals.Arrivals.hold.Goals as goal

pub invariant_of-self : goal.invariant_of-self
invariant_of-self c =
    let a = c.args.self.now in
    record {
      indexed =
          index_next a.handled c.args.place.now (Some c.args.message) a.held c.set_slot.new.map a.drainable a.indexed
          c.set_slot.ensures.sets c.set_slot-then-is_drainable.new.map (Some tt)
          c.set_slot-then-is_drainable.ensures.sets refl
          (sym c.is_next-is_drainable.ensures ∙ c.if-is_drainable.true);
    }

pub invariant_of-self-else-is_drainable : goal.invariant_of-self-else-is_drainable
invariant_of-self-else-is_drainable c =
    let a = c.args.self.now in
    record {
      indexed =
          index_later a.handled c.args.place.now (Some c.args.message) a.held c.set_slot.new.map a.drainable a.indexed
          c.set_slot.ensures.sets (sym c.is_next-is_drainable.ensures ∙ c.if-is_drainable.false);
    }
