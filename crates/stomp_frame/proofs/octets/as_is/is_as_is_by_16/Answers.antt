use Rattle.std.proofs.Common.{◌∙◌, sym, arith}
use Rattle.stomp_frame.proofs.AsIs.{last_tell, found, goes_on}
use Rattle.stomp_frame.proofs.octets.as_is.is_as_is_by_16.Goals as goal

pub returns-then-not-are_as_is : goal.returns-then-not-are_as_is
returns-then-not-are_as_is c =
    sym (found c.args.text.now c.loop-at.at 16 (sym c.are_as_is.ensures ∙ c.if-not-are_as_is.true))

pub loop-at-preserved : goal.loop-at-preserved
loop-at-preserved c = record {
  before = goes_on c.args.text.now c.loop-at.at 16 (omega (arith, c.loop-at-test.true)) c.loop-at.invariant.before
      (sym c.are_as_is.ensures ∙ c.if-not-are_as_is.false);
  within = omega (arith, c.loop-at-test.true);
}

pub returns : goal.returns
returns c =
    c.are_as_is-2.ensures
    ∙ last_tell c.args.text.now c.loop-at.at 16 c.loop-at.invariant.before (omega (arith, c.loop-at-test.false))
