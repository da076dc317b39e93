use Rattle.std.proofs.Common.{◌≡◌, drop}
use Rattle.std.specs.Prelude.{slice_get}
use Rattle.std.specs.List.{flat_map}
use Rattle.schedule_mail.specs.Accepted.{at_place}
use Rattle.schedule_mail.proofs.accepted.find.Given as goal

abbrev pub invariant-loop-list : goal.invariant-loop-list
invariant-loop-list l = at_place l.place (flat_map (λ list. list.items) l.lists)
    ≡ slice_get (flat_map (λ list. list.items) (drop l.list-index l.lists)) l.index
