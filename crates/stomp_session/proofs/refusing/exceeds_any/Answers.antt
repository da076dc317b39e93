use Rattle.std.proofs.Common.{◌≡◌, ◌∙◌, false, length, sym}
use Rattle.std.specs.Prelude.{nat_lt}
use Rattle.std.specs.List.{list_any}
use Rattle.base.specs.declared.limits.TheConstants.{MAX_ECHOED}
use Rattle.stomp_frame.specs.Frames.{Header}
use Rattle.stomp_session.proofs.Measuring.{any_never, value_short}
use Rattle.stomp_session.proofs.refusing.exceeds_any.Goals as goal

pub returns-else-has_any_long : goal.returns-else-has_any_long
returns-else-has_any_long c =
    let none : list_any (λ (h : Header). nat_lt MAX_ECHOED (length h.value)) c.args.frame.now.headers ≡ false =
    rw (← c.headers.ensures) (sym c.has_any_long.ensures ∙ c.if-has_any_long.false) in
    sym (any_never _ c.args.names.now (λ name. value_short name.now c.args.frame.now.headers none))
