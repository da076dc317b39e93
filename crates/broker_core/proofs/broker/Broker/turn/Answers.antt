use Rattle.std.proofs.lemmas.Result.{err_from_is_err_and}
use Rattle.broker_core.proofs.Turning.{stops_behind, turned_step}
use Rattle.broker_core.proofs.broker.Broker.turn.Goals as goal

pub returns-in_err-stepped : goal.returns-in_err-stepped
returns-in_err-stepped g c = λ n stands.
    let p = err_from_is_err_and c.from_residual.result c.from_residual.ensures.1 in
    rw (← c.self.view_is, p.1) (c.in_err-stepped.ensures n (rw (← c.self.view_is) at stands))

pub returns-in_err-dispatch : goal.returns-in_err-dispatch
returns-in_err-dispatch g c = λ n stands.
    let p = err_from_is_err_and c.from_residual-in_err-dispatch.result c.from_residual-in_err-dispatch.ensures.1 in
    let stepped = c.in_ok-stepped.ensures n (rw (← c.self.view_is) at stands) in
    rw (← c.self.view_is, p.1) (stops_behind g.row.FULL n _ _ _ _ stepped c.in_err-dispatch.ensures)

pub returns : goal.returns
returns g c = λ n stands.
    let stepped = c.in_ok-stepped.ensures n (rw (← c.self.view_is) at stands) in
    rw (← c.self.view_is) (turned_step g.row.FULL n _ _ _ _ stepped c.in_ok-dispatch.ensures)
