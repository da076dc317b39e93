use Rattle.std.proofs.Common.{refl}
use Rattle.std.proofs.lemmas.Bool.{false≢true}
use Rattle.sqlite.specs.Held.{state}
use Rattle.keep.specs.Tables.{changed, ArePlaced}
use Rattle.keep_sqlite.proofs.Ends.{write_undone, only_settled}
use Rattle.keep_sqlite.proofs.kept.SqliteKeep.write.Goals as goal

pub invariant_of-self : goal.invariant_of-self
invariant_of-self g c = record {
  autocommit = c.write_all-done.ensures.autocommit;
  sound = λ clean opened. (c.in-Ok.ensures.ok clean).0;
  live = λ used clean. (c.in-Ok.ensures.ok clean).0.is_open;
  known = c.write_all-done.ensures.known;
}

pub returns-in-Ok : goal.returns-in-Ok
returns-in-Ok g c = record {
  call = (c.requires.usable, refl, refl, refl);
  doubt = c.write_all-done.ensures.clean;
  clean = λ clean placed. (rw c.as_slice.ensures.value at (c.in-Ok.ensures.ok clean)).1;
}

pub returns : goal.returns
returns g c =
    let k = c.args.self.now in
    write_undone g.H.Filed.filing (λ k. state g.S.Store k.conn) (λ k. k.is_usable) (λ k. k.failures) k c.end.new.self
    (state g.S.Store c.write_all-done.new.conn) c.requires.usable
    (only_settled g.H.Filed.filing k.count (state g.S.Store k.conn) k.sound (k.live c.requires.usable)
    (λ live db. g.met.S.Store.settled k.conn.store db live))
    c.write_all-done.ensures.clean c.end.ensures.clean c.end.ensures.live c.end.ensures.stays c.end.ensures.crash
    (ArePlaced c.args.changes.items) (changed c.args.changes.items) c.end.result
    (rw c.as_slice.ensures.value at c.write_all-done.ensures.crash)
    (λ clean opened. (c.in-Err.ensures.err clean opened).1) c.in-Err.error c.end.ensures.end

pub write_all-done-requires-clause-ready : goal.write_all-done-requires-clause-ready
write_all-done-requires-clause-ready g c clean =
    let k = c.args.self.now in k.sound clean (k.live c.requires.usable clean)

pub write_all-done-requires-clause-known : goal.write_all-done-requires-clause-known
write_all-done-requires-clause-known g c clean =
    let k = c.args.self.now in k.known clean (k.live c.requires.usable clean)

pub invariant_of-self-in-Err-1 : goal.invariant_of-self-in-Err-1
invariant_of-self-in-Err-1 g c = record {
  autocommit = c.write_all-done.ensures.autocommit;
  sound = λ clean opened. (c.in-Err.ensures.err clean opened).0;
  live = λ used clean. absurd (false≢true used);
  known = c.write_all-done.ensures.known;
}
