use Rattle.std.specs.Prelude.{[]}
use Rattle.std.proofs.Common.{subst, sym}
use Rattle.service_workers.specs.Reads.{ReadsLast}
use Rattle.service_workers.proofs.Reading.{last_after, some_both, some_last, turn_goes_on, turn_last}
use Rattle.service_workers.proofs.Written.{writes_both}
use Rattle.service_workers.proofs.conn.Conn.has_left.Goals as goal
use Rattle.service_workers.proofs.conn.Conn.has_left.Goals.{then-is_err-via-then-is_err, then-is_err-via-else-is_err+then-is_err-2}

pub returns-in-Some : goal.returns-in-Some
returns-in-Some g c =
    let reads = some_both g.L.Link.put_gives g.L.Link.take_gives _ _ _ c.loop.invariant.1 c.throw_away.ensures.reads in
    record {
      writes = writes_both g.L.Link.put_gives g.L.Link.take_gives [] [] _ _ _ c.loop.invariant.0 c.throw_away.ensures.writes;
      reads = λ _. reads;
      ends = some_last g.L.Link.put_gives g.L.Link.take_gives _ _ reads;
    }

pub loop-init : goal.loop-init
loop-init g c = (
  writes_both g.L.Link.put_gives g.L.Link.take_gives [] [] _ _ _ c.write.ensures.writes c.read.ensures.writes,
  some_both g.L.Link.put_gives g.L.Link.take_gives _ _ _ ([], c.write.ensures.reads)
      (turn_goes_on g.L.Link.put_gives g.L.Link.take_gives c.read.result _ _ (sym c.if-is_err-2.ensures.value)
      c.read.ensures.reads),
)

pub loop-preserved : goal.loop-preserved
loop-preserved g c = (
  writes_both g.L.Link.put_gives g.L.Link.take_gives [] [] _ _ _ c.loop.invariant.0 c.throw_away.ensures.writes,
  some_both g.L.Link.put_gives g.L.Link.take_gives _ _ _ c.loop.invariant.1 c.throw_away.ensures.reads,
)

pub returns-clause-writes : goal.returns-clause-writes
returns-clause-writes g c = c.loop.invariant.0

pub returns-clause-reads : goal.returns-clause-reads
returns-clause-reads g c = λ _. c.loop.invariant.1

pub returns-clause-ends : goal.returns-clause-ends
returns-clause-ends g c = some_last g.L.Link.put_gives g.L.Link.take_gives _ _ c.loop.invariant.1

pub returns-then-is_err-clause-ends : goal.returns-then-is_err-clause-ends
returns-then-is_err-clause-ends g c = elim c.then-is_err.branch [
  | then-is_err-via-then-is_err w ↦ subst (ReadsLast g.L.Link.put_gives g.L.Link.take_gives c.args.self.now) (sym w.self-is)
      (some_last g.L.Link.put_gives g.L.Link.take_gives _ _ ([], c.write.ensures.reads))
  | then-is_err-via-else-is_err+then-is_err-2 w ↦ subst (ReadsLast g.L.Link.put_gives g.L.Link.take_gives c.args.self.now) (sym w.self-is)
      (last_after g.L.Link.put_gives g.L.Link.take_gives _ _ _ ([], c.write.ensures.reads) (turn_last g.L.Link.put_gives
      g.L.Link.take_gives w.read.result _ _ w.read.ensures.reads))
]
