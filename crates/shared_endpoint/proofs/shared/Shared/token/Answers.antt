use Rattle.std.proofs.Common.{ap}
use Rattle.shared_endpoint.proofs.Passing.{chief_of, token_new}
use Rattle.shared_endpoint.proofs.shared.Shared.token.Goals as goal

pub token-requires-clause-chief : goal.token-requires-clause-chief
token-requires-clause-chief g c = chief_of _ _ _ c.requires.maker

pub returns-clause-token : goal.returns-clause-token
returns-clause-token g c = token_new _ _ _ _ _ c.requires.maker c.token.ensures.token.0 c.token.ensures.token.1

pub returns-clause-shown : goal.returns-clause-shown
returns-clause-shown g c = ap (λ v. v.shown) c.token.ensures.token.1
