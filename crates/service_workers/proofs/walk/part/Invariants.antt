use Rattle.std.proofs.Common.{◌≡◌, ◌++◌}
use Rattle.std.specs.Prelude.{filter, not}
use Rattle.std.specs.Vec.Iter.{into_iter_items}
use Rattle.service_workers.specs.Counts.{is_to}
use Rattle.service_workers.proofs.walk.part.Given as goal

abbrev pub invariant-loop-letter : goal.invariant-loop-letter
invariant-loop-letter l = record {
  own : l.own.items ≡ filter (is_to l.fn.kind) l.yielded;
  others : l.others.items ≡ filter (λ x. not (is_to l.fn.kind x)) l.yielded;
  read : l.yielded ++ into_iter_items l.letter-iterator ≡ l.fn.letters.items;
}
