use Rattle.std.proofs.Common.{◌≡◌, ◌++◌}
use Rattle.std.specs.Array.Iter.{array_into_iter_items}
use Rattle.told_lock.specs.Keys.{knows, IsKeyOf}
use Rattle.told_lock.specs.Rule.{Every}
use Rattle.told_lock.specs.declared.view.Stage.TheVariants.{Open}
use Rattle.shared_endpoint.specs.Keys.{told_seats, shown_seats}
use Rattle.shared_endpoint.proofs.shared.Shared.all_in.Given as goal

abbrev pub invariant-loop-seat : goal.invariant-loop-seat
invariant-loop-seat g l = (goal.iterator-loop-seat g).can_next l.seat-iterator
    × (goal.iterator-loop-seat g).is_finite l.seat-iterator
    × IsKeyOf l.self.lock l.key × ((knows l.key).stage ≡ Open) × ((knows l.key).has ≡ (knows l.initial.key).has)
    × Every (λ s. IsKeyOf l.self.lock s.key) (array_into_iter_items l.seat-iterator)
    × ((knows l.key).own ++ told_seats (array_into_iter_items l.seat-iterator)
    ≡ (knows l.initial.key).own ++ told_seats l.fn.seats)
    × ((knows l.key).shown ++ shown_seats (array_into_iter_items l.seat-iterator)
    ≡ (knows l.initial.key).shown ++ shown_seats l.fn.seats)
