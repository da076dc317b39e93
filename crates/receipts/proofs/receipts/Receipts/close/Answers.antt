use Rattle.std.specs.Ordering.{nat_cmp}
use Rattle.std.specs.BTreeMap.{is_at}
use Rattle.receipts.proofs.Adding.{removed}
use Rattle.receipts.proofs.receipts.Receipts.close.Goals as goal

pub invariant_of-self : goal.invariant_of-self
invariant_of-self g c = record {
  numbered =
      rw c.remove.ensures.entries
      (removed (is_at (nat_cmp c.args.number)) 0 c.self.inside.last c.self.inside.tags.entries
      c.self.invariant.numbered);
}
