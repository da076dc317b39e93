use Rattle.std.proofs.Common.{◌≡◌, ◌+◌, ◌≤◌, length}
use Rattle.std.specs.Prelude.{vec_len}
use Rattle.std.specs.Vec.{vec_capacity}
use Rattle.std.specs.Vec.Iter.{into_iter_items}
use Rattle.std.specs.List.{AllByRecursion}
use Rattle.keep.specs.Tables.{changed}
use Rattle.keep_plain.specs.Maps.{tables_in}
use Rattle.keep_plain.specs.Ready.{IsReady}
use Rattle.keep_plain.proofs.apply.make_all.Given as goal

abbrev pub invariant-loop-change : goal.invariant-loop-change
invariant-loop-change g l = record {
  made : changed (into_iter_items l.change-iterator) (tables_in l.maps)
      ≡ changed (into_iter_items l.initial.change-iterator)
      (tables_in l.fn.maps);
  ready : AllByRecursion (IsReady l.maps) (into_iter_items l.change-iterator);
  room : vec_len l.maps.journal + length (into_iter_items l.change-iterator) ≤ vec_capacity l.maps.journal;
}
