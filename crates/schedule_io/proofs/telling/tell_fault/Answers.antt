use Rattle.streams.proofs.Writes.{part_whole, part_keeps, on_err_always}
use Rattle.schedule_io.specs.Ends.{fault_line}
use Rattle.schedule_io.proofs.telling.tell_fault.Goals as goal

pub returns-in_err-flush-clause-untold : goal.returns-in_err-flush-clause-untold
returns-in_err-flush-clause-untold g c =
    let at = g.E.Write.contents in
    let line = fault_line c.args.fault in
    on_err_always c.from_residual-in_err-flush.result
    (part_keeps (at c.args.err.now) (at c.write_run_fault.new.err) (at c.flush.new.self) line
    (part_whole (at c.args.err.now) (at c.write_run_fault.new.err) line c.in_ok-write_run_fault.ensures.ok)
    c.flush.ensures.bytes)
