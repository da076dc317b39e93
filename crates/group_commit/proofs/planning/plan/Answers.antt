use Rattle.std.proofs.Common.{◌≡◌, ◌≢◌, true, Option, None, inl, inr, ap, sym, ◌∙◌, arith}
use Rattle.std.proofs.lemmas.Grind.{common_steps}
use Rattle.base.specs.Entity.{Entity}
use Rattle.keep.specs.Tables.{Tables}
use Rattle.std.specs.List.{list_any}
use Rattle.group_commit.specs.Parts.Planning.{own_of, touches, IsStep}
use Rattle.group_commit.specs.declared.planning.PlannedStep.{PlannedStep}
use Rattle.group_commit.proofs.Reading.{reads_nothing}
use Rattle.group_commit.proofs.planning.plan.Goals as goal

pub returns-then-ne : goal.returns-then-ne
returns-then-ne g c =
    let S = g.row.H-State.Denot in
    let C = g.row.H-Command.Denot in
    let gives : Tables S C → Option (PlannedStep S C) → Type 0 =
    IsStep g.H.Handler.service g.H.State.Parts.follows c.args.before.now c.args.rows c.args.envelope.now in
    let is : c.kind.result ≡ (own_of c.args.envelope.now).kind = c.kind.ensures.kind ∙ ap (λ (e : Entity). e.kind) c.own_of-own.ensures in
    let apart : (own_of c.args.envelope.now).kind ≢ g.H.Handler.service.kind = λ same.
    let one : c.kind.result ≡ c.kind-2.result = is ∙ same ∙ sym c.kind-2.ensures in
    let told = c.ne.ensures in let true_is = c.if-ne.true in grind (arith, common_steps) in
    reads_nothing g.K.Keep.seen c.args.keep.now gives None c.requires.usable (λ t. inl apart)

pub returns-then-are_touching : goal.returns-then-are_touching
returns-then-are_touching g c =
    let S = g.row.H-State.Denot in
    let C = g.row.H-Command.Denot in
    let gives : Tables S C → Option (PlannedStep S C) → Type 0 =
    IsStep g.H.Handler.service g.H.State.Parts.follows c.args.before.now c.args.rows c.args.envelope.now in
    let touched : list_any (touches {S = S} {C = C} (own_of c.args.envelope.now)) c.args.before.now ≡ true =
    ap (λ (e : Entity). list_any (touches {S = S} {C = C} e) c.args.before.now) (sym c.own_of-own.ensures)
    ∙ (sym c.are_touching.ensures ∙ c.if-are_touching.true) in
    reads_nothing g.K.Keep.seen c.args.keep.now gives None c.requires.usable (λ t. inr (inl touched))
