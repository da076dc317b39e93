use Rattle.std.proofs.Common.{◌+◌, sym, ◌∙◌, arith}
use Rattle.broker_core.specs.Calls.{new_session}
use Rattle.broker_core.proofs.Rising.{rising_push, opens}
use Rattle.broker_core.proofs.Turning.{at_ok}
use Rattle.broker_core.proofs.sessions.Sessions.open.Goals as goal

pub invariant_of-self-2 : goal.invariant_of-self-2
invariant_of-self-2 c =
    rw (at_ok c.push_new.result (sym c.is_err.ensures.value ∙ c.if-is_err.false) c.push_new.ensures.ok)
    (rising_push 0 c.self.inside.opened c.self.inside.items.items (new_session (c.self.inside.opened + 1))
    c.self.invariant (omega arith))

pub returns : goal.returns
returns c =
    let pushed = at_ok c.push_new.result (sym c.is_err.ensures.value ∙ c.if-is_err.false) c.push_new.ensures.ok in
    λ book. rw (
      ← c.self.view_is,
      pushed,
      c.new.ensures,
    ) (opens book c.self.inside.items.items c.self.inside.opened c.self.invariant)
