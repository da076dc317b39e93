use Rattle.std.proofs.Common.{inr}
use Rattle.schedule_program.proofs.migration.read_and_migrate.Goals as goal

pub returns-in-Err-migrate_files : goal.returns-in-Err-migrate_files
returns-in-Err-migrate_files g c = inr (c.in-Ok.events, c.in-Ok.ensures, c.in-Err-migrate_files.ensures)
