use Rattle.std.proofs.Common.{true, refl}
use Rattle.sqlite_trees.proofs.Doubt.{no_doubt}
use Rattle.laws_stores.specs.Sight.{all_empty}
use Rattle.schedule_stores.proofs.Folders.{empty_is_good}
use Rattle.schedule_stores.proofs.laws.a_run_in_sql_ends_well.Goals as goal

-- the trees of a store in memory are never in doubt
pub returns : goal.returns
returns c = λ events outcomes run.
    c.a_run_goes_on.ensures all_empty empty_is_good (λ t is. is) events outcomes run
    (no_doubt true refl, no_doubt true refl, no_doubt true refl)
