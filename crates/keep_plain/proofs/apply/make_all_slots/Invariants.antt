use Rattle.std.proofs.Common.{◌≡◌, take}
use Rattle.std.specs.List.{AllByRecursion}
use Rattle.keep_plain.specs.Ready.{IsReady, SameTables}
use Rattle.keep_plain.proofs.apply.make_all_slots.Given as goal

abbrev pub invariant-loop-change : goal.invariant-loop-change
invariant-loop-change g l = record {
  same : SameTables l.fn.maps l.maps;
  journal : l.maps.journal ≡ l.fn.maps.journal;
  ready : AllByRecursion (IsReady l.maps) (take l.change-index l.changes);
}
