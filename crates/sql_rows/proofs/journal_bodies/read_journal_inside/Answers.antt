use Rattle.std.proofs.Common.{arith, w64}
use Rattle.std.proofs.lemmas.Int.{to_z-of_z}
use Rattle.sqlite.specs.Held.{state}
use Rattle.sqlite.specs.State.{HasCleanDisk}
use Rattle.sql_rows.proofs.JournalRows.{select_from, select_from_asks, reads_from}
use Rattle.sql_rows.proofs.Services.{plain_in}
use Rattle.sql_rows.proofs.journal_bodies.read_journal_inside.Goals as goal

pub read_inside-requires : goal.read_inside-requires
read_inside-requires g c = record {
  plain = λ clean. plain_in select_from (λ service. (select_from_asks service).0.1) _
      (c.requires.schema clean);
}

pub returns-clause-rows : goal.returns-clause-rows
returns-clause-rows g c clean =
    let old = state g.S.Store c.args.tx.now.conn.now in
    let early : HasCleanDisk old = omega (arith, c.read_inside.ensures.survives.clean) in
    reads_from c.args.from c.args.limit (λ v. v.items) old (state g.S.Store c.read_inside.new.tx.conn.now)
    c.read_inside.result (c.requires.schema early)
    (rw (
      c.int.ensures,
      c.int-2.ensures,
      to_z-of_z w64 c.args.from c.ranges.from,
      to_z-of_z w64 c.args.limit
          c.ranges.limit,
    ) at (c.read_inside.ensures.shown clean))
