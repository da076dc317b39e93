use Rattle.std.proofs.Common.{arith}
use Rattle.stomp_client.proofs.Headers.{short_unrefused, short_number}
use Rattle.stomp_client.proofs.frames.with_number.Goals as goal

pub push-requires : goal.push-requires
push-requires c = rw c.format.ensures.text
    (short_unrefused c.args.frame c.args.name.now _ c.requires.plain c.requires.room c.requires.name
    (short_number c.args.number (omega arith)))
