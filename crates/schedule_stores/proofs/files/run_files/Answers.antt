use Rattle.sqlite.specs.WalFiles.{image_at}
use Rattle.schedule_stores.proofs.Making.{run_over_files}
use Rattle.schedule_stores.proofs.files.run_files.Goals as goal

pub returns-in-Ok : goal.returns-in-Ok
returns-in-Ok g c =
    run_over_files _ _ _ (image_at g.O.Start) (image_at g.S.Start) (image_at g.A.Start) c.in-Ok.keeps
    c.in-Ok.ensures.purchasing c.in-Ok.ensures.warehouse c.in-Ok.ensures.billing c.args.events.items
    (g.T.Write.contents c.args.out.now) (g.T.Write.contents c.run_over_opened.new.out) c.run_over_opened.result
    c.run_over_opened.ensures
