use Rattle.keep.specs.Listing.{AreFirst}
use Rattle.laws_services.proofs.Contracts.{read_does, listed_write}
use Rattle.laws_services.proofs.reads.listings_are_steps.Goals as goal

pub returns-clause-does : goal.returns-clause-does
returns-clause-does g c = λ old new written after limit result h.
    read_does g.K.Keep.seen g.met.K.Keep.sound g.H.Handler.service old new
    (λ t letters. AreFirst t.unsettled after limit letters.items) result h written

pub returns-clause-letters : goal.returns-clause-letters
returns-clause-letters g c = λ old new after limit result letters i l.
    listed_write g.K.Keep.seen g.met.K.Keep.sound g.H.Handler.service old new after limit result letters i l
