use Rattle.std.proofs.Common.{refl}
use Rattle.shared_endpoint.specs.Token.{hand_number}
use Rattle.shared_endpoint.proofs.Witnessing.{token_shows}
use Rattle.shared_endpoint.proofs.tokens.Hand.witness.Goals as goal

pub returns-clause-hand : goal.returns-clause-hand
returns-clause-hand g c = (
  (
    token_shows c.args.shared.now.lock hand_number c.args.self.now.key c.witness-known.new.key c.requires.hand.0
        c.witness-known.ensures.key.0 c.witness-known.ensures.key.1,
    c.requires.hand.1,
  ),
  refl,
)
