-- the letters so far are those of what was passed
use Rattle.std.proofs.Common.{◌≡◌, ◌≤◌, ◌++◌, take, true}
use Rattle.keep.specs.Law.{StaysArmed}
use Rattle.outbox.specs.Numbering.{NumbersFit}
use Rattle.outbox.specs.Numbering.{numbering}
use Rattle.outbox.proofs.outbox.number_outs.Given as goal

abbrev pub invariant-loop-at : goal.invariant-loop-at
invariant-loop-at g l =
    let old = (g.K.Keep.seen l.fn.keep).tables in
    record {
      usable : (g.K.Keep.seen l.keep).usable ≡ true;
      counts : (g.K.Keep.seen l.keep).failures ≡ (g.K.Keep.seen l.fn.keep).failures;
      armed : StaysArmed (g.K.Keep.seen l.fn.keep).armed (g.K.Keep.seen l.keep).armed;
      doubt : (g.K.Keep.seen l.fn.keep).doubt ≤ (g.K.Keep.seen l.keep).doubt;
      same : (g.K.Keep.seen l.keep).doubt ≡ 0 → (g.K.Keep.seen l.keep).tables ≡ old;
      items : (g.K.Keep.seen l.keep).doubt ≡ 0
          → l.changes.items ≡ l.fn.changes.items ++ numbering old.sent l.entity (take l.at l.outs);
      fits : (g.K.Keep.seen l.keep).doubt ≡ 0 → NumbersFit old.sent l.entity (take l.at l.outs);
    }
