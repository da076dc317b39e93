use Rattle.std.proofs.Common.{◌≡◌, ◌++◌, ℕ, map}
use Rattle.broker_index.specs.Named.{queues_in}
use Rattle.broker_index.specs.declared.destinations.Destination.{Destination}
use Rattle.broker_index.proofs.destinations.shared_names.Given as goal

abbrev pub invariant-loop-destination : goal.invariant-loop-destination
invariant-loop-destination l =
    l.names.items ++ map (λ (p : ℕ × Destination). p.1.name) l.destination-iterator
    ≡ map (λ e. e.0) (queues_in l.slab.slots)
