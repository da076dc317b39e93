use Rattle.std.proofs.Common.{◌≡◌, length, arith, ap, sym, ◌∙◌, slice_index_or}
use Rattle.sqlite.specs.Held.{state}
use Rattle.sql_rows.specs.Schema.{about_tree}
use Rattle.keep_sqlite.proofs.Abouts.{tells_of_table}
use Rattle.keep_sqlite.proofs.opening.is_of.Goals as goal

pub returns-clause-tells : goal.returns-clause-tells
returns-clause-tells g c clean =
    let low = c.in-len1.len_at_least in
    let high = c.in-len1.len_below in
    let one : length c.as_slice.result.now ≡ 1 = omega (arith, low, high) in
    tells_of_table _ 2 c.args.service ((state g.S.Store c.args.conn.now).now.trees (about_tree c.args.service))
    c.in_ok-rows.rows.items (c.in_ok-rows.ensures.rows clean) (sym (ap length c.as_slice.ensures.value) ∙ one)
    c.row-item.result
    (c.row-item.is ∙ ap (λ l. slice_index_or l 0 c.row-item.result) c.as_slice.ensures.value)
    c.tells_version.result c.tells_version.ensures
