use Rattle.std.proofs.Common.{◌≡◌, refl, ap, ◌∙◌}
use Rattle.std.specs.Prelude.{if◌then◌else◌}
use Rattle.base.proofs.Entities.{same_entity-Decides}
use Rattle.keep.specs.Tables.{changed_by}
use Rattle.keep_sqlite.proofs.writes.note.Goals as goal

pub returns-in-State : goal.returns-in-State
returns-in-State g c = λ t.
    let e = c.in-State.entity in
    let row = c.in-State.row in
    let set : (changed_by c.args.change.now t).entity e ≡ row = ap (λ change. (changed_by change t).entity e) c.in-State.is
    ∙ ap (λ b. if b then row else t.entity e) ((same_entity-Decides e e).1 refl) in
    c.remember_row.ensures (changed_by c.args.change.now t).entity set
