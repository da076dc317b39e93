use Rattle.std.proofs.Common.{◌≢◌, ◌∙◌, sym}
use Rattle.base.specs.Entity.{Entity, text_of}
use Rattle.schedule_text.proofs.Named.{entity_unnamed}
use Rattle.schedule_text.proofs.arguments.entity_at.Goals as goal

pub returns-in-Err-BadKind : goal.returns-in-Err-BadKind
returns-in-Err-BadKind c =
    let none : (e : Entity) → text_of e ≢ c.as_str.result.now =
    rw c.in-Err-BadKind.field-0-is at c.in-Err-BadKind.ensures in
    entity_unnamed c.args.word.now (λ e same. none e (same ∙ sym c.as_str.ensures))
