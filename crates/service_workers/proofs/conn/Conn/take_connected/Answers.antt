use Rattle.std.proofs.Common.{refl}
use Rattle.service_workers.specs.Written.{IsOfSession}
use Rattle.service_workers.proofs.Reading.{none_after, reads_nothing}
use Rattle.service_workers.proofs.Speaking.{accepts_nothing, accepts_says}
use Rattle.service_workers.proofs.Written.{conn_says, writes_after}
use Rattle.service_workers.proofs.conn.Conn.take_connected.Goals as goal

pub returns : goal.returns
returns g c = record {
  writes = writes_after g.L.Link.put_gives g.L.Link.take_gives (IsOfSession c.args.kind) c.args.self.now _ _ refl refl
      (accepts_nothing c.args.frame c.args.self.now.channel.client.client
      c.accept.new.self.client c.accept.result c.accept.ensures.accepts)
      c.subscribe.ensures.writes;
  finds = none_after g.L.Link.put_gives g.L.Link.take_gives c.subscribe.result c.args.self.now _ _
      (reads_nothing g.L.Link.put_gives g.L.Link.take_gives c.args.self.now _ refl refl refl refl) c.subscribe.ensures.finds;
}

pub returns-in-Err : goal.returns-in-Err
returns-in-Err g c = record {
  writes = conn_says g.L.Link.put_gives g.L.Link.take_gives (IsOfSession c.args.kind) c.args.self.now _ refl refl
      (accepts_says (IsOfSession c.args.kind) c.args.frame c.args.self.now.channel.client.client c.accept.new.self.client c.accept.result
      c.accept.ensures.accepts);
  finds = reads_nothing g.L.Link.put_gives g.L.Link.take_gives c.args.self.now _ refl refl refl refl;
}
