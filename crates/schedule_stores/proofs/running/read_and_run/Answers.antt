use Rattle.schedule_io.proofs.Endings.{from_events}
use Rattle.schedule_stores.proofs.running.read_and_run.Goals as goal

pub returns : goal.returns
returns g c =
    from_events _ _ (g.R.Read.remaining c.args.input.now) c.in_ok-events.events (g.W.Write.contents c.args.out.now)
    (g.W.Write.contents c.run_files.new.out) c.run_files.result c.in_ok-events.ensures c.run_files.ensures
