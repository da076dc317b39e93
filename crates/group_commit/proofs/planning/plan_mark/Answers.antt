-- what was read of the pair is the same behind the changes
use Rattle.std.proofs.Common.{◌≡◌, ◌<◌, ◌≤◌, ◌∷◌, [], ◌∙◌, ap, ℕ, Option, arith, Some}
use Rattle.envelope.specs.declared.message.Envelope.TheVariants.{Settle}
use Rattle.keep.specs.Tables.{Tables, changed}
use Rattle.keep.specs.declared.change.Change.TheVariants.{Settled}
use Rattle.group_commit.specs.Parts.Planning.{IsStep}
use Rattle.group_commit.specs.declared.planning.PlannedStep.{PlannedStep}
use Rattle.group_commit.specs.declared.grouped.Grouped.TheVariants as grouped
use Rattle.group_commit.proofs.Following.{mark_follows}
use Rattle.group_commit.proofs.Reading.{read_gives}
use Rattle.group_commit.proofs.Steps.{mark_step}
use Rattle.group_commit.proofs.planning.plan_mark.Goals as goal

pub returns-in-Ok-settle : goal.returns-in-Ok-settle
returns-in-Ok-settle g c =
    let S = g.row.H-State.Denot in
    let C = g.row.H-Command.Denot in
    let follows = g.H.State.Parts.follows in
    let is = c.in-Ok-settle.ensures ∙ ap (λ n. Settled c.args.pair.now n ∷ []) c.in-Some.ensures.0 in
    let more : c.in-Ok.mark < c.args.number = omega (arith, c.if-number-mark.false) in
    let gives : Tables S C → Option (PlannedStep S C) → Type 0 = λ t step. c.args.number ≤ t.sent c.args.pair.now
    → IsStep g.H.Handler.service follows c.args._before.now c.args._rows (Settle c.args.pair.now c.args.number) t step in
    let first : Tables S C → ℕ → Type 0 = λ t n. n ≡ t.settled c.args.pair.now in
    read_gives g.K.Keep.seen c.args.keep.now c.settled.new.self first c.in-Ok.mark gives
    (Some (record { changes = c.in-Ok-settle.changes; told = grouped.Settled c.args.number }))
    (λ t mark there. (
      λ h rows. mark_step g.H.Handler.service t c.args._before.now c.args.pair.now c.args.number c.requires.kind
          c.requires.apart c.in-Ok-settle.changes.items is (omega (arith, more, mark)) there h,
      mark_follows follows c.in-Ok-settle.changes.items c.args.pair.now c.args.number
          (changed c.args._before.now t) is,
    ))
    c.in-Ok.ensures
