use Rattle.std.proofs.Common.{[], refl, codes, arith}
use Rattle.stomp_frame.specs.declared.command.Command.TheVariants.{Subscribe}
use Rattle.stomp_frame.specs.Frames.{frame, header, with_header}
use Rattle.stomp_client.proofs.Headers.{short_unrefused}
use Rattle.stomp_client.proofs.frames.subscribe_frame.Goals as goal

pub push-requires : goal.push-requires
push-requires c = rw c.new-frame.ensures
    (short_unrefused (frame Subscribe [] []) (codes "id") (codes "0") refl (omega arith) refl
    (record { plain = refl; short = omega arith }))

pub push-requires-2 : goal.push-requires-2
push-requires-2 c = rw (c.in_ok-push.ensures.ok, c.new-frame.ensures)
    (short_unrefused (with_header (frame Subscribe [] []) (header (codes "id") (codes "0")))
    (codes "destination") c.args.destination.now refl (omega arith) refl c.requires)

pub push-requires-3 : goal.push-requires-3
push-requires-3 c = rw (c.in_ok-push-2.ensures.ok, c.in_ok-push.ensures.ok, c.new-frame.ensures)
    (short_unrefused (with_header (with_header (frame Subscribe [] []) (header (codes "id") (codes "0")))
    (header (codes "destination") c.args.destination.now))
    (codes "ack") (codes "client-individual") refl (omega arith) refl (record { plain = refl; short = omega arith }))
