use Rattle.std.proofs.Common.{refl}
use Rattle.laws_broker.specs.Lives.{frames_feeding}
use Rattle.laws_broker.proofs.calls.feed.Goals as goal

-- the frames are those that the broker's own contract tells
pub returns : goal.returns
returns g c = (
  frames_feeding g.row.FULL c.args.broker.now c.args.session c.args.piece.now c.feed.new.self c.feed.result
      c.feed.ensures,
  (c.feed.ensures, refl),
)
