use Rattle.std.proofs.Common.{◌+◌, ◌-◌, arith}
use Rattle.relay.proofs.Knowing.{known_but, behind_rows}
use Rattle.relay.proofs.Paging.{earlier}
use Rattle.relay.proofs.relay.Relay.read_news.Goals as goal

pub returns-in-Ok-clause-news : goal.returns-in-Ok-clause-news
returns-in-Ok-clause-news g c clean up long known =
    let clean0 = earlier _ _ c.in-Ok.ensures.read.doubt clean in
    known_but g.K.Keep.seen g.met.K.Keep.sound g.H.Handler.service c.args.endpoint.now c.args.self.now
    c.in-Ok.news.items up clean0 known
    (behind_rows _ c.in-Ok.news.items c.args.self.now.rows (c.args.self.now.rows + 1 - 1) 256 (omega arith)
    (omega (arith, long, c.if-rows-self-2.false)) (c.in-Ok.ensures.read.clean clean).0)
