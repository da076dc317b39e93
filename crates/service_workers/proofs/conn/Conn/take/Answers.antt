use denote.Enum.Bare.{sameb}
use Rattle.std.proofs.Common.{ℕ, ap, refl, subst, sym, ◌≡◌, ◌∙◌, true, false, Ok, Some}
use Rattle.channel.specs.declared.channel.Channel.{Channel}
use Rattle.stomp_client.specs.Clients.{Client}
use Rattle.stomp_frame.specs.contracts.command.Command as Command
use Rattle.stomp_frame.specs.declared.command.Command.TheVariants as command
use Rattle.reception.specs.Prepared.{PreparesFrame}
use Rattle.service_workers.specs.Written.{IsOfSession}
use Rattle.service_workers.proofs.Reading.{deals_with_it, done_other, ends_with_it, gives_it, none_found, puts_it_back, reads_nothing}
use Rattle.service_workers.proofs.Speaking.{Says, prepares_says}
use Rattle.service_workers.proofs.Written.{conn_says}
use Rattle.service_workers.proofs.conn.Conn.take.Goals as goal

pub returns-in-Ok-Done-Connected : goal.returns-in-Ok-Done-Connected
returns-in-Ok-Done-Connected g c = record {
  writes = conn_says g.L.Link.put_gives g.L.Link.take_gives (IsOfSession c.args.kind) c.args.self.now _ refl refl
      (prepares_says c.args.kind c.args.frame
      c.args.self.now.channel.client c.prepare.new.client c.prepare.result (c.is_message.ensures.not c.if-is_message.false) c.prepare.ensures);
  finds = deals_with_it g.L.Link.put_gives g.L.Link.take_gives c.args.frame c.args.self.now _ c.requires
      (let e = subst (λ p. PreparesFrame c.args.kind c.args.frame c.args.self.now.channel.client c.prepare.new.client (Ok p))
      c.in-Ok-Done-Connected.field-0-is c.in-Ok-Done-Connected.ensures in
      done_other c.args.kind c.args.frame c.args.self.now.channel.client.client c.prepare.new.client.client
      c.in-Ok-Done-Connected.field-0-0 e.0 e.1)
      (reads_nothing g.L.Link.put_gives g.L.Link.take_gives c.args.self.now _ refl refl refl refl);
}

pub returns-in-Ok-Done-Error : goal.returns-in-Ok-Done-Error
returns-in-Ok-Done-Error g c = record {
  writes = conn_says g.L.Link.put_gives g.L.Link.take_gives (IsOfSession c.args.kind) c.args.self.now _ refl refl
      (prepares_says c.args.kind c.args.frame
      c.args.self.now.channel.client c.prepare.new.client c.prepare.result (c.is_message.ensures.not c.if-is_message.false) c.prepare.ensures);
  finds = ends_with_it g.L.Link.put_gives g.L.Link.take_gives c.args.frame c.args.self.now _ c.requires
      (reads_nothing g.L.Link.put_gives g.L.Link.take_gives c.args.self.now _ refl refl refl refl);
}

pub returns-in-Ok-Done : goal.returns-in-Ok-Done
returns-in-Ok-Done g c = record {
  writes = conn_says g.L.Link.put_gives g.L.Link.take_gives (IsOfSession c.args.kind) c.args.self.now _ refl refl
      (prepares_says c.args.kind c.args.frame
      c.args.self.now.channel.client c.prepare.new.client c.prepare.result (c.is_message.ensures.not c.if-is_message.false) c.prepare.ensures);
  finds = deals_with_it g.L.Link.put_gives g.L.Link.take_gives c.args.frame c.args.self.now _ c.requires
      (let e = subst (λ p. PreparesFrame c.args.kind c.args.frame c.args.self.now.channel.client c.prepare.new.client (Ok p))
      c.in-Ok-Done.field-0-is c.in-Ok-Done.ensures in
      done_other c.args.kind c.args.frame c.args.self.now.channel.client.client c.prepare.new.client.client
      c.in-Ok-Done.field-0-0 e.0 e.1)
      (reads_nothing g.L.Link.put_gives g.L.Link.take_gives c.args.self.now _ refl refl refl refl);
}

pub returns-in-Some : goal.returns-in-Some
returns-in-Some g c = record {
  writes = conn_says g.L.Link.put_gives g.L.Link.take_gives (IsOfSession c.args.kind) c.args.self.now _ refl refl
      (subst (λ (k : Client ℕ). Says (IsOfSession c.args.kind) c.args.self.now.channel.client.client k)
      (sym (ap (λ (ch : Channel). ch.client.client) c.put_back.ensures)) (prepares_says c.args.kind c.args.frame
      c.args.self.now.channel.client c.prepare.new.client c.prepare.result (c.is_message.ensures.not c.if-is_message.false) c.prepare.ensures));
  finds = puts_it_back g.L.Link.put_gives g.L.Link.take_gives c.args.frame c.in-Some.frame c.in-Err.untaken.fault
      c.in-Err.untaken.frame c.args.self.now _ c.in-Err.ensures.2 c.in-Some.is refl refl
      (ap (λ (ch : Channel). ch.decoder) c.put_back.ensures) (ap (λ (ch : Channel). ch.waiting) c.put_back.ensures ∙ ap Some
      c.in-Some.frame-is);
}

pub returns : goal.returns
returns g c = record {
  writes = conn_says g.L.Link.put_gives g.L.Link.take_gives (IsOfSession c.args.kind) c.args.self.now _ refl refl
      (prepares_says c.args.kind c.args.frame
      c.args.self.now.channel.client c.prepare.new.client c.prepare.result (c.is_message.ensures.not c.if-is_message.false) c.prepare.ensures);
  finds = ends_with_it g.L.Link.put_gives g.L.Link.take_gives c.args.frame c.args.self.now _ c.requires
      (reads_nothing g.L.Link.put_gives g.L.Link.take_gives c.args.self.now _ refl refl refl refl);
}

pub returns-then-is_message-clause-finds : goal.returns-then-is_message-clause-finds
returns-then-is_message-clause-finds g c = (
  c.is_message.ensures.is c.if-is_message.true,
  gives_it g.L.Link.put_gives g.L.Link.take_gives c.args.frame c.args.self.now c.requires,
)

pub returns-then-is_some-clause-finds : goal.returns-then-is_some-clause-finds
returns-then-is_some-clause-finds g c = none_found g.L.Link.put_gives g.L.Link.take_gives c.take_connected.result c.args.frame
    c.args.self.now _ c.requires
    (λ message. absurd (let k : true ≡ false = c.if-eq.ensures ∙ ap (λ x. sameb Command.the_type x command.Connected)
    (c.command.ensures ∙ message) in cc))
    c.take_connected.ensures.finds
