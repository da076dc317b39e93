use Rattle.std.proofs.Common.{refl}
use Rattle.shared_endpoint.specs.Token.{scout_number}
use Rattle.shared_endpoint.proofs.Witnessing.{token_shows}
use Rattle.shared_endpoint.proofs.tokens.Scout.witness.Goals as goal

pub returns-clause-scout : goal.returns-clause-scout
returns-clause-scout g c = (
  (
    token_shows c.args.shared.now.lock scout_number c.args.self.now.key c.witness-seen.new.key c.requires.scout.0
        c.witness-seen.ensures.key.0 c.witness-seen.ensures.key.1,
    c.requires.scout.1,
  ),
  refl,
)
