use Rattle.std.proofs.Common.{codes, refl}
use Rattle.stomp_session.proofs.Taking.{behind_one, behind_two}
use Rattle.stomp_session.proofs.reading.acknowledge.Goals as goal

pub returns : goal.returns
returns c = rw (
  c.take-2.ensures.value,
  c.take.ensures.rest,
  c.take.ensures.value,
  c.take_required.ensures.rest,
  c.take_required.ensures.value,
  behind_one (codes "id") (codes "transaction") c.args.headers.items refl,
  behind_two (codes "id") (codes "transaction") (codes "receipt") c.args.headers.items refl refl,
) refl
