use Rattle.std.proofs.Common.{inl, inr, refl}
use Rattle.relay.proofs.Beginning.{fills_there}
use Rattle.relay.proofs.relay.Relay.resume.Goals as goal

pub returns-in-Connected-clause-fills : goal.returns-in-Connected-clause-fills
returns-in-Connected-clause-fills g c stage =
    fills_there _ _ (λ clean. (clean.0, inl clean.1)) _ _ (λ clean. refl) _ _ _ _ c.fill_connected.ensures.fills

pub returns-in-Connected-clause-anew : goal.returns-in-Connected-clause-anew
returns-in-Connected-clause-anew g c stage none =
    fills_there _ _ (λ clean. (clean, inr none)) _ _ (λ clean. refl) _ _ _ _ c.fill_connected.ensures.fills
