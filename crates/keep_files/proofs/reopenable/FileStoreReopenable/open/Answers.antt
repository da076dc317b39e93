use Rattle.sqlite_trees.proofs.Doubt.{no_doubt, only_falls}
use Rattle.sqlite_wal.specs.Reads.{are_clean}
use Rattle.sqlite.specs.Files.{file_state}
use Rattle.keep_files.proofs.reopenable.FileStoreReopenable.open.Goals as goal

pub returns-in-Ok-clause-clean : goal.returns-in-Ok-clause-clean
returns-in-Ok-clause-clean g c =
    only_falls (are_clean g.D.Disk c.args.files.log c.args.files.db) (file_state c.in-Ok.conn).is_clean
    (λ clean. (c.in-Ok.ensures.found (no_doubt _ clean)).honest)

pub returns-in-Ok-clause-holds : goal.returns-in-Ok-clause-holds
returns-in-Ok-clause-holds g c = λ clean. (c.in-Ok.ensures.found clean).holds
