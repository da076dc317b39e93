use Rattle.laws_stores.specs.Sight.{all_empty}
use Rattle.schedule_stores.proofs.Folders.{empty_is_good, new_held}
use Rattle.schedule_stores.proofs.laws.a_run_over_new_files_ends_well.Goals as goal

pub returns : goal.returns
returns g c = λ one two three.
    c.a_run_over_files_goes_on.ensures all_empty empty_is_good (new_held _ _ _ one two three)
