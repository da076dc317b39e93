use Rattle.std.proofs.Common.{Ok, Err, sym, subst}
use Rattle.endpoint.specs.Parts.Handling.{SetNoRow}
use Rattle.endpoint.proofs.Finishing.{handled_works}
use Rattle.endpoint.proofs.receiving.handle_letter.Goals as goal

-- a mark and a held letter are no rows
pub handle-requires-clause-rows : goal.handle-requires-clause-rows
handle-requires-clause-rows g c = subst SetNoRow (sym c.in_ok-changes.ensures) tt

pub returns-in-Ok : goal.returns-in-Ok
returns-in-Ok g c = handled_works g.K.Keep.seen g.met.K.Keep.sound g.W.Window.ahead g.H.Handler.service c.args.keep.now
    c.handle.new.keep
    c.args.letter.now
    c.requires.kind c.in_ok-from.from c.in_ok-changes.changes.items c.in_ok-from.ensures c.in_ok-changes.ensures
    c.requires.usable
    (Ok c.in-Ok.committed) c.in-Ok.ensures

pub returns-in-Err : goal.returns-in-Err
returns-in-Err g c = handled_works g.K.Keep.seen g.met.K.Keep.sound g.W.Window.ahead g.H.Handler.service c.args.keep.now
    c.handle.new.keep
    c.args.letter.now
    c.requires.kind c.in_ok-from.from c.in_ok-changes.changes.items c.in_ok-from.ensures c.in_ok-changes.ensures
    c.requires.usable
    (Err c.in-Err.fault) c.in-Err.ensures
