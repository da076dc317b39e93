use Rattle.programs.proofs.GoodTables.{goes_on}
use Rattle.schedule_stores.proofs.Folders.{all_found}
use Rattle.schedule_stores.proofs.laws.a_run_over_files_goes_on.Goals as goal

pub returns : goal.returns
returns g c = λ left good held.
    goes_on _ _ _ c.stores_are_sound.ensures c.stores_are_sound-2.ensures c.stores_are_sound-3.ensures left good _
    (all_found _ _ _ left held)
