use Rattle.std.proofs.Common.{arith}
use Rattle.sqlite.specs.Held.{state}
use Rattle.sqlite.specs.State.{HasCleanDisk}
use Rattle.keep_files.proofs.Reopenings.{taken_over}
use Rattle.keep_files.proofs.files.FileKeep.adopt.Goals as goal

pub returns-in-Ok-adopt-clause-found : goal.returns-in-Ok-adopt-clause-found
returns-in-Ok-adopt-clause-found g c none db held =
    let found = state g.S.Store c.in-Ok.conn in
    let clean : HasCleanDisk found = omega (arith, none, c.in-Ok-adopt.ensures.clean) in
    let opened = c.in-Ok.ensures.opened clean in
    taken_over g.H.Filed.filing found db _ opened.0 opened.1 (c.in-Ok.ensures.holds clean db held)
    (c.in-Ok-adopt.ensures.found none)
