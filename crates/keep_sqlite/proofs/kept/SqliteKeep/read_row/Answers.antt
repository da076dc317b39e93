use Rattle.std.proofs.Common.{◌≡◌}
use Rattle.sqlite.specs.Held.{state}
use Rattle.keep_sqlite.proofs.Ends.{read_ends, only_settled}
use Rattle.keep_sqlite.proofs.kept.SqliteKeep.read_row.Goals as goal

pub returns : goal.returns
returns g c =
    let k = c.args.self.now in
    read_ends g.H.Filed.filing (λ k. state g.S.Store k.conn) (λ k. k.is_usable) (λ k. k.failures) k c.end.new.self
    (state g.S.Store c.read_state-found.new.conn) c.requires
    (only_settled g.H.Filed.filing k.count (state g.S.Store k.conn) k.sound (k.live c.requires)
    (λ live db. g.met.S.Store.settled k.conn.store db live))
    c.read_state-found.ensures.clean c.end.ensures.clean c.end.ensures.live c.end.ensures.stays c.end.ensures.crash
    (λ t v. v ≡ t.entity c.args.entity.now) c.read_state-found.result c.end.result
    c.read_state-found.ensures.row c.read_state-found.ensures.stays
    c.read_state-found.ensures.crash c.end.ensures.end
