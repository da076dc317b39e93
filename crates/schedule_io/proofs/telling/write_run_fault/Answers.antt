use Rattle.std.proofs.Common.{sym, subst}
use Rattle.std.specs.Prelude.{OnOk, OnErr}
use Rattle.std.specs.Io.KnownBytes.{Appends}
use Rattle.schedule_io.specs.declared.fault.RunFault.{RunFault}
use Rattle.schedule_io.specs.Ends.{fault_line}
use Rattle.streams.specs.Written.{AppendsPart}
use Rattle.schedule_io.proofs.telling.write_run_fault.Goals as goal

pub returns-in-Memory-clause-ok : goal.returns-in-Memory-clause-ok
returns-in-Memory-clause-ok g c =
    let at = g.E.Write.contents in
    subst (λ (f : RunFault). OnOk c.write_octets.result (Appends (at c.args.err.now) (at c.write_octets.new.out)
    (fault_line f)))
    (sym c.in-Memory.is) c.write_octets.ensures.ok

pub returns-in-Device-clause-ok : goal.returns-in-Device-clause-ok
returns-in-Device-clause-ok g c =
    let at = g.E.Write.contents in
    subst (λ (f : RunFault). OnOk c.write_octets-in-Device.result
    (Appends (at c.args.err.now) (at c.write_octets-in-Device.new.out) (fault_line f)))
    (sym c.in-Device.is) c.write_octets-in-Device.ensures.ok

pub returns-in-BadEvent-clause-err : goal.returns-in-BadEvent-clause-err
returns-in-BadEvent-clause-err g c =
    let at = g.E.Write.contents in
    subst (λ (f : RunFault). OnErr c.write_numbered.result (AppendsPart (at c.args.err.now)
    (at c.write_numbered.new.out) (fault_line f)))
    (sym c.in-BadEvent.is) c.write_numbered.ensures.err
