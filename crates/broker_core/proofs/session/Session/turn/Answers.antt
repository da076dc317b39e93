use Rattle.std.proofs.Common.{refl, sym, ◌∙◌}
use Rattle.std.proofs.lemmas.Result.{err_from_is_err_and}
use Rattle.broker_core.specs.Feeding.{answer_of}
use Rattle.broker_core.specs.Parts.Taking.{before_frame, has_none, met_fault, untold, waits}
use Rattle.broker_core.proofs.Taking.{met, no_memory}
use Rattle.broker_core.proofs.session.Session.turn.Goals as goal

pub returns-in_err-handle-in-Ok-Some : goal.returns-in_err-handle-in-Ok-Some
returns-in_err-handle-in-Ok-Some g c =
    let p = err_from_is_err_and c.from_residual.result c.from_residual.ensures.1 in
    let e = c.in_err-handle-in-Ok-Some.ensures.err in
    let server = c.args.self.now.server in
    rw (p.1, e.0, e.1)
    (waits (answer_of server c.in-Ok-Some.frame) c.decode.new.self c.if-self.false
    ((rw c.in-Ok-Some.field-0-is at c.in-Ok-Some.ensures) server) refl)

pub returns-then-is_memory : goal.returns-then-is_memory
returns-then-is_memory g c =
    let server = c.args.self.now.server in
    rw (no_memory server c.args.self.now.incoming c.decode.new.self c.in-Err.fault
    (sym c.is_memory.ensures ∙ c.if-is_memory.true) (c.in-Err.ensures server))
    (before_frame refl)

pub returns-in_err-tell-in-Err : goal.returns-in_err-tell-in-Err
returns-in_err-tell-in-Err g c =
    let p = err_from_is_err_and c.from_residual-in_err-tell-in-Err.result
    c.from_residual-in_err-tell-in-Err.ensures.1 in
    let e = c.in_err-tell-in-Err.ensures.err in
    let server = c.args.self.now.server in
    rw (p.1, e.0, e.1)
    (untold c.decode.new.self c.if-self.false
    (met server c.args.self.now.incoming c.decode.new.self c.in-Err.fault
    (sym c.is_memory.ensures ∙ c.if-is_memory.false) (c.in-Err.ensures server)) refl)

pub returns-in_ok-handle-in-Ok-Some : goal.returns-in_ok-handle-in-Ok-Some
returns-in_ok-handle-in-Ok-Some g c =
    let server = c.args.self.now.server in
    record {
      decided = answer_of server c.in-Ok-Some.frame;
      left = c.decode.new.self;
      is_open = c.if-self.false;
      takes = (rw c.in-Ok-Some.field-0-is at c.in-Ok-Some.ensures) server;
      changed = c.in_ok-handle-in-Ok-Some.ensures.ok;
    }

pub returns-in-Ok-None : goal.returns-in-Ok-None
returns-in-Ok-None g c =
    has_none c.decode.new.self c.if-self.false ((rw c.in-Ok-None.field-0-is at c.in-Ok-None.ensures) c.args.self.now.server) refl

pub returns-in_ok-tell-in-Err : goal.returns-in_ok-tell-in-Err
returns-in_ok-tell-in-Err g c =
    let server = c.args.self.now.server in
    met_fault c.decode.new.self c.if-self.false
    (met server c.args.self.now.incoming c.decode.new.self c.in-Err.fault
    (sym c.is_memory.ensures ∙ c.if-is_memory.false) (c.in-Err.ensures server))
    c.in_ok-tell-in-Err.ensures.ok
