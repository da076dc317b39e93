use Rattle.std.proofs.Common.{◌-◌, ◌++◌, length, take, drop, sym, ap, subst, ◌∙◌, arith, length-take, take-append-drop}
use Rattle.std.proofs.Math.Seq.{take-add, take-take}
use Rattle.std.specs.Io.KnownBytes.{Appends}
use Rattle.streams.proofs.Writes.{appends_then, appends_keeps, on_err_always}
use Rattle.streams.proofs.writing.write_octets.Goals as goal

pub loop-preserved : goal.loop-preserved
loop-preserved g c =
    let at = g.W.Write.contents in
    let done = c.loop.written in
    let n = c.in_ok-written.field-0 in
    let xs = c.args.octets.now in
    let fits = c.in_ok-written.ensures.bound in
    let most = length-take (length xs - done) (drop done xs) in
    let joined = ap (λ l. take done xs ++ l) (take-take n (length xs - done) (drop done xs) (omega arith))
    ∙ sym (take-add done n xs) in
    record {
      within = omega arith;
      appended = subst (Appends (at c.args.out.now) (at c.write_some.new.out)) joined
          (appends_then (at c.args.out.now) (at c.loop.out) (at c.write_some.new.out) (take done xs)
          (take n (take (length xs - done) (drop done xs))) c.loop.invariant.appended c.in_ok-written.ensures.bytes);
    }

pub returns-in_err-written-clause-err : goal.returns-in_err-written-clause-err
returns-in_err-written-clause-err g c =
    let at = g.W.Write.contents in
    let done = c.loop.written in
    let xs = c.args.octets.now in
    on_err_always c.from_residual.result (record {
      part = take done xs;
      rest = drop done xs;
      whole = sym (take-append-drop done xs);
      appended = appends_keeps (at c.args.out.now) (at c.loop.out) (at c.write_some.new.out)
          (take done xs) c.loop.invariant.appended c.in_err-written.ensures.bytes;
    })

pub returns-clause-err : goal.returns-clause-err
returns-clause-err g c = record {
  part = take c.loop.written c.args.octets.now;
  rest = drop c.loop.written c.args.octets.now;
  whole = sym (take-append-drop c.loop.written c.args.octets.now);
  appended = c.loop.invariant.appended;
}
