use Rattle.std.proofs.Common.{◌+◌, arith, ap, ◌∙◌, to_z, of_z, w64}
use Rattle.std.proofs.lemmas.Int.{to_z_pos}
use Rattle.sqlite.specs.Held.{state}
use Rattle.sqlite.specs.State.{HasCleanDisk}
use Rattle.keep_sqlite.proofs.Clean.{clean_before}
use Rattle.keep_sqlite.proofs.Rows.{command_row}
use Rattle.keep_sqlite.proofs.Changes.{adds}
use Rattle.keep_sqlite.proofs.Through.{counted_makes}
use Rattle.keep_sqlite.proofs.writes.write_command.Goals as goal

pub returns-clause-ok : goal.returns-clause-ok
returns-clause-ok g c clean =
    let f = g.H.Filed.filing in
    let old = state g.S.Store c.args.tx.now.conn.now in
    let new = state g.S.Store c.add_command-made.new.tx.conn.now in
    let early : HasCleanDisk old = clean_before _ _ c.add_command-made.ensures.survives.clean clean in
    counted_makes f _ old new (c.args.count + 1) _ c.add_command-made.result c.counted.result
    (c.add_command-made.ensures.ok clean) c.counted.ensures
    (λ h. adds f old new c.args.count (c.requires.filed early) (c.requires.sound early) _ _
    (command_row f c.args.entity.now _ c.text.ensures.entity c.text.ensures.text c.args.seat _ c.args.command.now _
    (ap (λ z. to_z w64 (of_z w64 z)) c.from.ensures ∙ to_z_pos w64 c.args.seat (omega (arith, c.ranges.seat.fits)))
    (omega (arith, c.ranges.seat.fits))
    (g.met.H.Filed.commands _ ∙ ap g.H.Command.CommandBody.read c.as_str.ensures.value ∙ c.in_ok-body.ensures.reads))
    h)
