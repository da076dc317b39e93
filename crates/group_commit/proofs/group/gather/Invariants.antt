-- the first of the envelopes are taken in by the changes so far, each told of
use Rattle.group_commit.proofs.Gathering.{IsSoFar}
use Rattle.group_commit.proofs.group.gather.Given as goal

abbrev pub invariant-loop-at : goal.invariant-loop-at
invariant-loop-at g l =
    IsSoFar g.K.Keep.seen g.H.Handler.service g.H.State.Parts.follows l.fn.keep l.envelopes l.keep l.group l.rows l.at
