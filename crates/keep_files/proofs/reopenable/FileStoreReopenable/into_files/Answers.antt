use Rattle.std.proofs.Common.{◌≤◌, subst, le_refl}
use Rattle.sqlite_trees.specs.View.{doubt}
use Rattle.sqlite_store.specs.FileStore.{view}
use Rattle.keep_files.proofs.Reopenings.{clean_left, held_left}
use Rattle.keep_files.proofs.reopenable.FileStoreReopenable.into_files.Goals as goal

pub returns-clause-clean : goal.returns-clause-clean
returns-clause-clean g c =
    subst (λ b. doubt (view c.args.self).is_clean ≤ doubt b)
    (clean_left c.args.self c.close.result c.close.ensures) (le_refl _)

pub returns-clause-holds : goal.returns-clause-holds
returns-clause-holds g c =
    λ none numbered sound.
    held_left c.args.self c.close.result c.close.ensures g.met.D.Disk.seen_may_stay none numbered sound
