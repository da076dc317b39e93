use Rattle.keep_sqlite.proofs.migration.«SqliteKeep+H+FileStore+FileFrom+D».migrate.Goals as goal

pub returns : goal.returns
returns g c = c.migrate_opened.ensures
