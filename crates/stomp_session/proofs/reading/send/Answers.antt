use Rattle.std.proofs.Common.{codes, refl}
use Rattle.stomp_session.specs.Parts.Taking.{without_first}
use Rattle.stomp_session.proofs.Taking.{behind_one, behind_two, own_behind}
use Rattle.stomp_session.proofs.reading.send.Goals as goal

pub returns : goal.returns
returns c = rw (
  c.own.ensures,
  c.new.ensures,
  c.take-2.ensures.rest,
  c.take-2.ensures.value,
  c.take.ensures.rest,
  c.take.ensures.value,
  c.take_required.ensures.rest,
  c.take_required.ensures.value,
  behind_one (codes "destination") (codes "transaction") c.args.headers.items refl,
  behind_two (codes "destination") (codes "transaction") (codes "receipt") c.args.headers.items refl refl,
  own_behind (codes "receipt") (without_first (codes "transaction") (without_first (codes "destination")
      c.args.headers.items)) refl,
  own_behind (codes "transaction") (without_first (codes "destination") c.args.headers.items) refl,
  own_behind (codes "destination") c.args.headers.items refl,
) refl
