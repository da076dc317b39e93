use Rattle.std.proofs.Common.{refl}
use Rattle.shared_endpoint.specs.Token.{hand_number}
use Rattle.shared_endpoint.proofs.Witnessing.{token_learns}
use Rattle.shared_endpoint.proofs.tokens.Hand.learn.Goals as goal

pub returns-clause-hand : goal.returns-clause-hand
returns-clause-hand g c = (
  (
    token_learns c.args.shared.now.lock hand_number c.args.self.now.key c.learn.new.key c.args.witness.key
        c.requires.hand.0 c.learn.ensures.key.0 c.learn.ensures.key.1,
    c.requires.hand.1,
  ),
  refl,
)
