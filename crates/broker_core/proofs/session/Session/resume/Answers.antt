use Rattle.std.proofs.Common.{refl}
use Rattle.std.proofs.lemmas.Result.{err_from_is_err_and}
use Rattle.broker_core.specs.Parts.Taking.{waits}
use Rattle.broker_core.proofs.session.Session.resume.Goals as goal

pub returns-in_err-handle_decided : goal.returns-in_err-handle_decided
returns-in_err-handle_decided g c =
    let p = err_from_is_err_and c.from_residual.result c.from_residual.ensures.1 in
    let e = c.in_err-handle_decided.ensures.err in
    rw (p.1, e.0, e.1)
    (waits c.take_waiting-decided.result c.take_waiting-decided.new.self c.requires.is_open
    (c.take_waiting-decided.ensures c.args.self.now.server) refl)

pub returns : goal.returns
returns g c = record {
  decided = c.take_waiting-decided.result;
  left = c.take_waiting-decided.new.self;
  is_open = c.requires.is_open;
  takes = c.take_waiting-decided.ensures c.args.self.now.server;
  changed = c.in_ok-handle_decided.ensures.ok;
}
