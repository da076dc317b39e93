use Rattle.std.proofs.Common.{arith, w64}
use Rattle.std.proofs.lemmas.Int.{to_z-of_z}
use Rattle.sqlite.specs.Held.{state}
use Rattle.sqlite.specs.State.{HasCleanDisk}
use Rattle.sql_rows.proofs.JournalRows.{select_within, select_within_asks, reads_within}
use Rattle.sql_rows.proofs.Services.{plain_in}
use Rattle.sql_rows.proofs.journal.count_rows_within_inside.Goals as goal

pub read_inside-requires : goal.read_inside-requires
read_inside-requires g c = record {
  plain = λ clean. plain_in select_within (λ service. (select_within_asks service).0.1) _ (c.requires.schema clean);
}

pub returns-clause-rows : goal.returns-clause-rows
returns-clause-rows g c clean =
    let old = state g.S.Store c.args.tx.now.conn.now in
    let early : HasCleanDisk old = omega (arith, c.read_inside.ensures.survives.clean, clean) in
    reads_within c.args.first c.args.last (λ v. v.items) old (state g.S.Store c.read_inside.new.tx.conn.now)
    c.read_inside.result (c.requires.schema early)
    (rw (
      c.int.ensures,
      c.int-2.ensures,
      to_z-of_z w64 c.args.first c.ranges.first,
      to_z-of_z w64 c.args.last c.ranges.last,
    ) at (c.read_inside.ensures.shown clean))
