use Rattle.std.proofs.Common.{◌∙◌, refl, sym, None}
use Rattle.keep_plain.proofs.Index.{index_next, index_later}
use Rattle.keep_plain.proofs.arrivals.Arrivals.release.Goals as goal

pub invariant_of-self : goal.invariant_of-self
invariant_of-self c =
    let a = c.args.self.now in
    record {
      indexed = index_next a.handled c.args.place.now None a.held c.empty_slot.new.map a.drainable a.indexed
          c.empty_slot.ensures.sets c.empty_slot-then-was_drainable.new.map None
          c.empty_slot-then-was_drainable.ensures.sets refl
          (sym c.is_next-was_drainable.ensures ∙ c.if-was_drainable.true);
    }

pub invariant_of-self-else-was_drainable : goal.invariant_of-self-else-was_drainable
invariant_of-self-else-was_drainable c =
    let a = c.args.self.now in
    record {
      indexed = index_later a.handled c.args.place.now None a.held c.empty_slot.new.map a.drainable a.indexed
          c.empty_slot.ensures.sets (sym c.is_next-was_drainable.ensures ∙ c.if-was_drainable.false);
    }
