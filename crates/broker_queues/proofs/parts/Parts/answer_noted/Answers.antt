use Rattle.std.proofs.Common.{sym}
use Rattle.std.proofs.lemmas.Result.{err_from_is_err_and}
use Rattle.broker_queues.specs.Parts.Held.{holding_of}
use Rattle.broker_queues.proofs.Acting.{answering_begun, noting_begun}
use Rattle.broker_queues.proofs.Responding.{refused, responded}
use Rattle.broker_queues.proofs.parts.Parts.answer_noted.Goals as goal

pub returns-in_default : goal.returns-in_default
returns-in_default c = (
  λ start b. b,
  λ accepted is. (
    is,
    refused (holding_of c.args.self.now) accepted c.args.session c.args.ack c.args.again is
        (sym c.in_default.ensures),
  ),
)

pub returns-in_err-note_all : goal.returns-in_err-note_all
returns-in_err-note_all c =
    let p = err_from_is_err_and c.from_residual.result c.from_residual.ensures.1 in (
      noting_begun (holding_of c.args.self.now) c.args.session c.args.ack c.args.again c.in-Some.place
          c.args.log.now.items
          c.note_all.new.log.items (sym c.in-Some.ensures) c.in_err-note_all.ensures,
      λ accepted is. (is, rw (p.1, p.2) tt),
    )

pub returns : goal.returns
returns c = (
  answering_begun (holding_of c.args.self.now) c.args.session c.args.ack c.args.again c.in-Some.place
      c.args.log.now.items
      c.note_all.new.log.items (sym c.in-Some.ensures) (holding_of c.answer.new.self) c.in_ok-note_all.ensures
      c.answer.ensures,
  λ accepted is. responded (holding_of c.args.self.now) (holding_of c.answer.new.self) accepted c.args.session
      c.args.ack c.args.again
      c.in-Some.place is (sym c.in-Some.ensures) c.answer.ensures,
)
