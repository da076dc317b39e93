-- the rows stand behind the changes, the entity's first
use Rattle.std.proofs.Common.{◌∷◌, []}
use Rattle.std.proofs.lemmas.List.{append_assoc}
use Rattle.keep.specs.declared.change.Change.TheVariants.{State, Journal}
use Rattle.activities.specs.Rows.{row_for}
use Rattle.endpoint.proofs.handling.add_rows.Goals as goal

pub returns : goal.returns
returns g c =
    let both = append_assoc c.args.changes.now.items (State c.args.entity.now
    (row_for g.H.Handler.service.is_none c.args.state) ∷ [])
    (Journal c.args.position (record { entity = c.args.entity.now; input = c.args.input }) ∷ []) in
    cc (
      both,
      c.in_ok-push-2.ensures.items,
      c.in_ok-push.ensures.items,
      c.in_ok-copy.ensures,
      c.in_ok-entity.ensures,
      c.row_for-row.ensures,
    )
