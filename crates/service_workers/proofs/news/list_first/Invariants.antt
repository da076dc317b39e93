use Rattle.std.proofs.Common.{◌≡◌, ◌++◌}
use Rattle.std.specs.Vec.Iter.{into_iter_items}
use Rattle.service_workers.proofs.news.list_first.Given as goal

abbrev pub invariant-loop-letter : goal.invariant-loop-letter
invariant-loop-letter l = record {
  listed : l.list.items ≡ l.fn.list.items ++ l.yielded;
  read : l.yielded ++ into_iter_items l.letter-iterator ≡ l.fn.letters.items;
}
