use Rattle.std.proofs.Common.{refl, subst}
use Rattle.stomp_client.specs.Calls.{WritesFrame}
use Rattle.stomp_client.specs.Frames.{subscribe_frame_with}
use Rattle.service_workers.specs.Written.{IsOfSession}
use Rattle.service_workers.proofs.Reading.{reads_nothing}
use Rattle.service_workers.proofs.Speaking.{subscribes_say}
use Rattle.service_workers.proofs.Written.{conn_says}
use Rattle.service_workers.proofs.conn.Conn.subscribe.Goals as goal

pub returns-in-Ok : goal.returns-in-Ok
returns-in-Ok g c = record {
  writes = conn_says g.L.Link.put_gives g.L.Link.take_gives (IsOfSession c.args.kind) c.args.self.now _ refl refl
      (subscribes_say c.args.kind _ c.args.self.now.channel.client.client c.subscribe_with.new.self.client c.subscribe_with.result
      (subst (λ q. WritesFrame (subscribe_frame_with q c.unwrap_or-prefetch.result) c.args.self.now.channel.client.client
      c.subscribe_with.new.self.client c.subscribe_with.result) c.queue.ensures c.subscribe_with.ensures.does));
  finds = reads_nothing g.L.Link.put_gives g.L.Link.take_gives c.args.self.now _ refl refl refl refl;
}

pub returns-in-Err-Memory : goal.returns-in-Err-Memory
returns-in-Err-Memory g c = record {
  writes = conn_says g.L.Link.put_gives g.L.Link.take_gives (IsOfSession c.args.kind) c.args.self.now _ refl refl
      (subscribes_say c.args.kind _ c.args.self.now.channel.client.client c.subscribe_with.new.self.client c.subscribe_with.result
      (subst (λ q. WritesFrame (subscribe_frame_with q c.unwrap_or-prefetch.result) c.args.self.now.channel.client.client
      c.subscribe_with.new.self.client c.subscribe_with.result) c.queue.ensures c.subscribe_with.ensures.does));
  finds = reads_nothing g.L.Link.put_gives g.L.Link.take_gives c.args.self.now _ refl refl refl refl;
}

pub returns-in-Err : goal.returns-in-Err
returns-in-Err g c = record {
  writes = conn_says g.L.Link.put_gives g.L.Link.take_gives (IsOfSession c.args.kind) c.args.self.now _ refl refl
      (subscribes_say c.args.kind _ c.args.self.now.channel.client.client c.subscribe_with.new.self.client c.subscribe_with.result
      (subst (λ q. WritesFrame (subscribe_frame_with q c.unwrap_or-prefetch.result) c.args.self.now.channel.client.client
      c.subscribe_with.new.self.client c.subscribe_with.result) c.queue.ensures c.subscribe_with.ensures.does));
  finds = reads_nothing g.L.Link.put_gives g.L.Link.take_gives c.args.self.now _ refl refl refl refl;
}
