use Rattle.schedule_program.specs.Migration.{Versions}
use Rattle.streams.proofs.Writes.{appends_then}
use Rattle.schedule_program.proofs.TakenOver.{first_cut, is_cut, second_cut, third_told}
use Rattle.schedule_program.proofs.migration.migrate_files.Goals as goal

pub returns-in_err-tell_migrated-in-Ok : goal.returns-in_err-tell_migrated-in-Ok
returns-in_err-tell_migrated-in-Ok g c =
    let p = c.in-Ok.migrated in
    let v : Versions = record { purchasing = p; warehouse = p; billing = p } in
    let told = c.in_err-tell_migrated-in-Ok.ensures.err in
    is_cut _ _ v (first_cut v _ _ told.1) _ told.0 c.from_residual.result c.from_residual.ensures.1

pub returns-in_err-tell_migrated-in-Ok-migrate_file : goal.returns-in_err-tell_migrated-in-Ok-migrate_file
returns-in_err-tell_migrated-in-Ok-migrate_file g c =
    let p = c.in-Ok.migrated in
    let v : Versions = record { purchasing = p; warehouse = c.in-Ok-migrate_file.migrated; billing = p } in
    let told = c.in_err-tell_migrated-in-Ok-migrate_file.ensures.err in
    is_cut _ _ v (second_cut v _ _ _ c.in_ok-tell_migrated-in-Ok.ensures.ok told.1) _ told.0
    c.from_residual-in_err-tell_migrated-in-Ok-migrate_file.result
    c.from_residual-in_err-tell_migrated-in-Ok-migrate_file.ensures.1

pub returns-in-Err-migrate_file : goal.returns-in-Err-migrate_file
returns-in-Err-migrate_file g c =
    let p = c.in-Ok.migrated in
    let v : Versions = record { purchasing = p; warehouse = p; billing = p } in
    (v, c.in_ok-tell_migrated-in-Ok.ensures.ok)

pub returns-in-Ok-migrate_file-2 : goal.returns-in-Ok-migrate_file-2
returns-in-Ok-migrate_file-2 g c =
    let v : Versions = record {
      purchasing = c.in-Ok.migrated;
      warehouse = c.in-Ok-migrate_file.migrated;
      billing = c.in-Ok-migrate_file-2.migrated;
    } in
    let told = c.tell_migrated-in-Ok-migrate_file-2.ensures in
    third_told v (g.W.Write.contents c.args.out.now) (g.W.Write.contents c.tell_migrated-in-Ok-migrate_file.new.out) _
    (appends_then (g.W.Write.contents c.args.out.now) (g.W.Write.contents c.tell_migrated.new.out) _ _ _
    c.in_ok-tell_migrated-in-Ok.ensures.ok c.in_ok-tell_migrated-in-Ok-migrate_file.ensures.ok)
    c.tell_migrated-in-Ok-migrate_file-2.result told.ok told.err

pub returns-in-Err-migrate_file-2 : goal.returns-in-Err-migrate_file-2
returns-in-Err-migrate_file-2 g c =
    let p = c.in-Ok.migrated in
    let v : Versions = record { purchasing = p; warehouse = c.in-Ok-migrate_file.migrated; billing = p } in (
      v,
      appends_then (g.W.Write.contents c.args.out.now) (g.W.Write.contents c.tell_migrated.new.out) _ _ _
          c.in_ok-tell_migrated-in-Ok.ensures.ok c.in_ok-tell_migrated-in-Ok-migrate_file.ensures.ok,
    )
