use Rattle.std.proofs.Common.{◌≡◌, [], ◌∷◌, length, arith, ap, sym, ◌∙◌, slice_index_or}
use Rattle.std.specs.Prelude.{string_bytes}
use Rattle.keep_sqlite.proofs.JournalRenewal.{one_body, one_item}
use Rattle.keep_sqlite.proofs.journal_renewal.body_of_one.Goals as goal

pub returns : goal.returns
returns c =
    let low = c.in-len1.len_at_least in
    let high = c.in-len1.len_below in
    let one : length c.as_slice.result.now ≡ 1 = omega (arith, low, high) in
    let x = c.row-item.result in
    let items : c.in_ok-rows.rows.items ≡ x ∷ [] =
    one_item c.in_ok-rows.rows.items x (sym (ap length c.as_slice.ensures.value) ∙ one)
    (c.row-item.is ∙ ap (λ l. slice_index_or l 0 x) c.as_slice.ensures.value) in
    one_body (λ v. v.items) (λ s. string_bytes s) c.in_ok-rows.rows c.args.answer x c.body_of_today.result c.in_ok-rows.was
    items c.body_of_today.ensures
