use Rattle.std.proofs.Common.{ℕ, ap, refl}
use Rattle.stomp_client.specs.Clients.{Client}
use Rattle.service_workers.proofs.Reading.{reads_no_puts}
use Rattle.service_workers.proofs.Written.{writes_out}
use Rattle.service_workers.proofs.conn.Conn.write.Goals as goal

pub returns-in-Some : goal.returns-in-Some
returns-in-Some g c = record {
  writes = writes_out g.L.Link.put_gives g.L.Link.take_gives c.args.self.now _ c.write_out.result refl c.write_out.ensures.run
      (ap (λ (k : Client ℕ). k.out) c.write_out.ensures.taken.client);
  reads = reads_no_puts g.L.Link.put_gives g.L.Link.take_gives c.args.self.now _ _ c.write_out.result refl c.write_out.ensures.run
      c.write_out.ensures.taken.decoder c.write_out.ensures.taken.waiting;
}

pub returns-in-None : goal.returns-in-None
returns-in-None g c = record {
  writes = writes_out g.L.Link.put_gives g.L.Link.take_gives c.args.self.now _ c.write_out.result refl c.write_out.ensures.run
      (ap (λ (k : Client ℕ). k.out) c.write_out.ensures.taken.client);
  reads = reads_no_puts g.L.Link.put_gives g.L.Link.take_gives c.args.self.now _ _ c.write_out.result refl c.write_out.ensures.run
      c.write_out.ensures.taken.decoder c.write_out.ensures.taken.waiting;
}
