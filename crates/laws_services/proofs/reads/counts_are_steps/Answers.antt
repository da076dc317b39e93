use Rattle.std.proofs.Common.{◌≡◌}
use Rattle.laws_services.proofs.Contracts.{read_does, counted_write}
use Rattle.laws_services.proofs.reads.counts_are_steps.Goals as goal

pub returns-clause-does : goal.returns-clause-does
returns-clause-does g c = λ old new written p result h.
    read_does g.K.Keep.seen g.met.K.Keep.sound g.H.Handler.service old new (λ t n. n ≡ t.handled p) result h written

pub returns-clause-handled : goal.returns-clause-handled
returns-clause-handled g c = λ old new p result count.
    counted_write g.K.Keep.seen g.met.K.Keep.sound g.H.Handler.service old new p result count
