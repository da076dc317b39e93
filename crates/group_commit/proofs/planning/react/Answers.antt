-- each exit behind the numbers: there is no step, or the step is that of its lemma
use Rattle.std.proofs.Common.{◌≡◌, ◌+◌, ◌-◌, ◌^◌, ◌++◌, ◌∷◌, [], ◌∙◌, ap, arith, min, sym, subst, ℕ, List, Option, Ok, None, inl, inr}
use Rattle.base.specs.Number.{IsNumber}
use Rattle.activities.specs.Reaction.{react}
use Rattle.activities.specs.Rows.{row_for, state_for}
use Rattle.activities.specs.declared.input.Input.{Input}
use Rattle.activities.specs.declared.outs.Out.{Out}
use Rattle.keep.specs.declared.change.Change.{Change}
use Rattle.keep.specs.declared.change.Change.TheVariants.{Journal, State}
use Rattle.outbox.specs.Numbering.{numbering, NumbersPass}
use Rattle.keep.specs.Tables.{Tables, changed}
use Rattle.envelope.specs.declared.message.Envelope.TheVariants.{Letter}
use Rattle.group_commit.specs.Parts.Planning.{IsStep, IsNext}
use Rattle.group_commit.specs.declared.planning.PlannedStep.{PlannedStep}
use Rattle.group_commit.proofs.Apart.{spares}
use Rattle.group_commit.proofs.Ends.{no_row_left, passes, refuses}
use Rattle.group_commit.proofs.Following.{letter_follows}
use Rattle.group_commit.proofs.Reading.{reads_nothing}
use Rattle.group_commit.proofs.Steps.{letter_step}
use Rattle.group_commit.proofs.planning.react.Goals as goal

pub returns-in-Ok-false : goal.returns-in-Ok-false
returns-in-Ok-false g c =
    let service = g.H.Handler.service in
    let t = (g.K.Keep.seen c.args.keep.now).tables in
    let l = c.args.letter.now in
    let e = c.in-Ok-false.ensures in
    let a = c.in-Ok-apply.ensures in
    let sent : List Out = c.as_slice.result.now in
    let are : sent ≡ a.0 = c.as_slice.ensures.value ∙ a.2 ∙ ap (λ (os : List Out). os ++ a.0) c.new-outs.ensures in
    record {
      call = e.call;
      doubt = e.doubt;
      clean = λ clean. (
        λ next found. inr (inr (passes service c.args.rows l t c.args.state c.in-Ok.input c.in-Ok.ensures found
            (c.apply.new.state, a.0) a.1
            (subst (λ (os : List Out). NumbersPass t.sent l.pair.to os) are ((e.clean clean).0.1 c.in-Ok-false.field-0-test)))),
        (e.clean clean).1,
      );
    }

-- nothing was read
pub returns-in_default : goal.returns-in_default
returns-in_default g c =
    let S = g.row.H-State.Denot in
    let C = g.row.H-Command.Denot in
    let service = g.H.Handler.service in
    let l = c.args.letter.now in
    let gives : Tables S C → Option (PlannedStep S C) → Type 0 = λ t step. IsNext l t
    → c.args.state ≡ state_for service.reactions.opening (t.entity l.pair.to)
    → IsStep service g.H.State.Parts.follows c.args._before.now c.args.rows (Letter l) t step in
    reads_nothing g.K.Keep.seen c.args.keep.now gives None c.requires.usable
    (λ t next found. inr (inr (inr (inl (no_row_left c.args.rows c.saturating_add.result c.saturating_add.ensures c.in_default.ensures)))))

pub returns-in-Err-Business : goal.returns-in-Err-Business
returns-in-Err-Business g c =
    let S = g.row.H-State.Denot in
    let C = g.row.H-Command.Denot in
    let service = g.H.Handler.service in
    let l = c.args.letter.now in
    let gives : Tables S C → Option (PlannedStep S C) → Type 0 = λ t step. IsNext l t
    → c.args.state ≡ state_for service.reactions.opening (t.entity l.pair.to)
    → IsStep service g.H.State.Parts.follows c.args._before.now c.args.rows (Letter l) t step in
    let refused = rw c.in-Err-Business.field-0-is at c.in-Err-Business.ensures in
    reads_nothing g.K.Keep.seen c.args.keep.now gives None c.requires.usable
    (λ t next found. inr (inr (refuses service c.args.rows l t c.args.state c.in-Ok.input c.in-Ok.ensures found
    c.in-Err-Business.field-0-0 refused.0)))

-- the position is the one behind so many rows
position_is : (n v p : ℕ) → v ≡ min (n + 1) (2 ^ 64 - 1) → (p ≡ v) × IsNumber v → p ≡ n + 1
position_is n v p is h = let a = h.0 in let b = h.1.small in omega (arith, is, a, b)

pub returns-in-Ok-add_rows : goal.returns-in-Ok-add_rows
returns-in-Ok-add_rows g c =
    let S = g.row.H-State.Denot in
    let C = g.row.H-Command.Denot in
    let service = g.H.Handler.service in
    let t = (g.K.Keep.seen c.args.keep.now).tables in
    let l = c.args.letter.now in
    let e = c.in-Ok-true.ensures in
    let a = c.in-Ok-apply.ensures in
    let at = c.in-Some.ensures in
    let is : c.get.result ≡ c.in-Some.position = c.get.ensures.value in
    let R : Input C → Type 0 = λ input. react service.reactions c.args.state input ≡ Ok (c.apply.new.state, a.0) in
    let last : ℕ → Input C → List (Change S C) = λ position input.
    State l.pair.to (row_for service.is_none c.apply.new.state)
    ∷ Journal position (record { entity = l.pair.to; input = input }) ∷ [] in
    let follows = g.H.State.Parts.follows in
    let done : S × List Out = (c.apply.new.state, a.0) in
    let outs = c.as_slice.result.now in
    let numbered = c.number.new.changes.items in
    let changes = c.add_rows.new.changes.items in
    let apart = spares l.pair.to c.args._before.now t c.requires.apart in
    let reacted = subst R c.in-Ok.ensures a.1 in
    let changes_are = c.in-Ok-add_rows.ensures ∙ ap (λ n. numbered ++ last n c.in-Ok.input) (sym is)
    ∙ ap (λ (i : Input C). numbered ++ last c.get.result i) c.in-Ok.ensures in
    record {
      call = e.call;
      doubt = e.doubt;
      clean = λ clean.
          let told = e.clean clean in
          let fit = told.0.0 c.in-Ok-true.field-0-test in
          let numbered_is = fit.0
          ∙ ap (λ (cs : List (Change S C)). cs ++ numbering t.sent l.pair.to outs) c.in-Ok-take_in.ensures in (
            λ next found. (
              letter_step service g.met.H.Handler.none_is_opening t c.args._before.now l c.requires.kind c.requires.apart
                  c.args.rows c.args.state done c.get.result outs numbered changes reacted
                  (subst IsNumber (sym (is ∙ at.0)) at.1)
                  (is ∙ position_is c.args.rows c.saturating_add.result c.in-Some.position c.saturating_add.ensures at)
                  (c.as_slice.ensures.value ∙ a.2 ∙ ap (λ (os : List Out). os ++ a.0) c.new-outs.ensures)
                  numbered_is fit.1 changes_are next found,
              letter_follows follows service g.met.H.Handler.follows t (changed c.args._before.now t) l c.args.state done
                  c.get.result outs numbered changes apart.entity reacted numbered_is changes_are found,
            ),
            told.1,
          );
    }

pub returns : goal.returns
returns g c =
    let e = c.in-Ok-true.ensures in
    record { call = e.call; doubt = e.doubt; clean = λ clean. (e.clean clean).1 }
