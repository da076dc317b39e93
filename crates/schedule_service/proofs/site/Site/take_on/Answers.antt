use Rattle.std.proofs.Common.{◌≡◌, Some, None, refl, sym, subst}
use Rattle.std.specs.Prelude.{Ok}
use Rattle.channel.specs.Calls.{GivesNext}
use Rattle.schedule_mail.specs.declared.connection.Connection.{Connection}
use Rattle.schedule_service.specs.Deeds.{CameOn, FrameMay}
use Rattle.schedule_service.proofs.Going.{comes_more}
use Rattle.schedule_service.proofs.Telling.{frame_more}
use Rattle.schedule_service.proofs.site.Site.take_on.Goals as goal

pub returns-in-Ok-None-clause-did : goal.returns-in-Ok-None-clause-did
returns-in-Ok-None-clause-did g c =
    let was : c.next.result ≡ Ok None = cc (c.in-Ok-None.is, c.in-Ok-None.field-0-is) in
    let later : Connection = record c.args.channel.connection { channel = c.next.new.self } in (
      Ok None,
      later,
      (subst (GivesNext c.args.channel.connection.channel c.next.new.self) was c.next.ensures.gives, refl),
      (refl, (c.put_channel.ensures, refl)),
    )

pub returns-in-Ok-Some-clause-did : goal.returns-in-Ok-Some-clause-did
returns-in-Ok-Some-clause-did g c =
    let frame = c.in-Ok-Some.frame in
    let was : c.next.result ≡ Ok (Some frame) = cc (c.in-Ok-Some.is, c.in-Ok-Some.field-0-is) in
    let later : Connection = record c.args.channel.connection { channel = c.next.new.self } in (
      Ok (Some frame),
      later,
      (subst (GivesNext c.args.channel.connection.channel c.next.new.self) was c.next.ensures.gives, refl),
      c.take_frame.ensures.did,
    )

pub returns-in-Ok-Some-clause-comes : goal.returns-in-Ok-Some-clause-comes
returns-in-Ok-Some-clause-comes g c =
    let service = g.H.Handler.service in
    let frame = c.in-Ok-Some.frame in
    let was : c.next.result ≡ Ok (Some frame) = cc (c.in-Ok-Some.is, c.in-Ok-Some.field-0-is) in
    let later : Connection = record c.args.channel.connection { channel = c.next.new.self } in
    let came : CameOn (Some c.args.channel) frame =
    (later, (subst (GivesNext c.args.channel.connection.channel c.next.new.self) was c.next.ensures.gives, refl)) in
    comes_more g.K.Keep.seen c.args.self.now.endpoint c.take_frame.new.self.endpoint c.take_frame.new.self.endpoint
    service
    c.take_frame.result (FrameMay service (λ f. f ≡ frame) c.take_frame.result)
    (FrameMay service (CameOn (Some c.args.channel)) c.take_frame.result)
    (frame_more service (λ f. f ≡ frame) (CameOn (Some c.args.channel)) (λ f e. subst (CameOn (Some c.args.channel))
    (sym e) came)
    c.take_frame.result) refl c.take_frame.ensures.comes
