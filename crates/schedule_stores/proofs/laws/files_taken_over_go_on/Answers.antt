use Rattle.schedule_stores.proofs.Folders.{all_taken_over}
use Rattle.schedule_stores.proofs.laws.files_taken_over_go_on.Goals as goal

pub returns : goal.returns
returns g c = λ left good taken.
    c.a_run_over_files_goes_on.ensures left good (all_taken_over _ _ _ left taken)
