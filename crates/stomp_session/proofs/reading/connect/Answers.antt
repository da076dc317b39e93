use Rattle.std.proofs.Common.{codes, refl}
use Rattle.stomp_session.proofs.Taking.{behind_one, second_is_there}
use Rattle.stomp_session.proofs.reading.connect.Goals as goal

pub take_required-requires-2 : goal.take_required-requires-2
take_required-requires-2 c =
    rw (c.take_required.ensures.rest, behind_one (codes "accept-version") (codes "host") c.args.headers.items refl)
    (second_is_there _ _ c.requires)

pub returns : goal.returns
returns c = rw (
  c.take_required-2.ensures.value,
  c.take_required.ensures.rest,
  c.take_required.ensures.value,
  behind_one (codes "accept-version") (codes "host") c.args.headers.items refl,
) refl
