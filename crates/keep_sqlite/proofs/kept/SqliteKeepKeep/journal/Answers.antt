use Rattle.std.proofs.Common.{◌≡◌, ◌-◌, take, drop}
use Rattle.sqlite.specs.Held.{state}
use Rattle.last_states.specs.Known.{known_of}
use Rattle.keep_sqlite.proofs.Ends.{known_stays, read_ends, only_settled}
use Rattle.keep_sqlite.proofs.kept.SqliteKeepKeep.journal.Goals as goal

pub returns : goal.returns
returns g c =
    let k = c.args.self.now in
    read_ends g.H.Filed.filing (λ k. state g.S.Store k.conn) (λ k. k.is_usable) (λ k. k.failures) k c.end.new.self
    (state g.S.Store c.find_rows-found.new.conn) c.requires
    (only_settled g.H.Filed.filing k.count (state g.S.Store k.conn) k.sound (k.live c.requires)
    (λ live db. g.met.S.Store.settled k.conn.store db live))
    c.find_rows-found.ensures.clean c.end.ensures.clean c.end.ensures.live c.end.ensures.stays c.end.ensures.crash
    (λ t v. v.items ≡ take c.args.limit (drop (c.args.from - 1) t.journal)) c.find_rows-found.result c.end.result
    c.find_rows-found.ensures.rows c.find_rows-found.ensures.stays
    c.find_rows-found.ensures.crash c.end.ensures.end

pub invariant_of-self-clause-known : goal.invariant_of-self-clause-known
invariant_of-self-clause-known g c =
    let k = c.args.self.now in
    known_stays g.H.Filed.filing (known_of k.states) (state g.S.Store k.conn)
    (state g.S.Store c.find_rows-found.new.conn) k.known c.find_rows-found.ensures.clean c.find_rows-found.ensures.stays
