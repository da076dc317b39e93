use Rattle.std.proofs.Common.{◌≡◌, refl, subst}
use Rattle.std.specs.Prelude.{IfSome}
use Rattle.relay.specs.Calls.{idle_answer}
use Rattle.relay.specs.Filling.{SendState, send_state}
use Rattle.relay.proofs.Beginning.{fills_to}
use Rattle.relay.proofs.Paging.{same_connection}
use Rattle.relay.proofs.relay.Relay.fill.Goals as goal

pub returns-clause-idle : goal.returns-clause-idle
returns-clause-idle g c =
    subst (λ (start : SendState). IfSome (idle_answer c.args.client.now.client.stage) (λ answer. (c.resume.result ≡ answer)
    × (c.resume.new.endpoint ≡ c.args.endpoint.now)
    × (send_state c.resume.new.self c.resume.new.client ≡ start)))
    (same_connection c.args.self.now c.look_anew.new.self c.args.client.now c.look_anew.ensures.marks)
    c.resume.ensures.idle

pub returns-clause-fills : goal.returns-clause-fills
returns-clause-fills g c stage =
    fills_to (same_connection c.args.self.now c.look_anew.new.self c.args.client.now c.look_anew.ensures.marks) refl
    (c.resume.ensures.anew stage c.look_anew.ensures.behind)

pub returns-clause-knows : goal.returns-clause-knows
returns-clause-knows g c clean matches = c.resume.ensures.knows clean (matches, λ t left. c.look_anew.ensures.knows _ _)
