use Rattle.std.proofs.Common.{codes, refl}
use Rattle.stomp_session.proofs.Taking.{behind_one}
use Rattle.stomp_session.proofs.reading.unsubscribe.Goals as goal

pub returns : goal.returns
returns c = rw (
  c.take.ensures.value,
  c.take_required.ensures.rest,
  c.take_required.ensures.value,
  behind_one (codes "id") (codes "receipt") c.args.headers.items refl,
) refl
