use Rattle.std.proofs.Common.{sym, ◌∙◌}
use Rattle.stomp_session.proofs.replies.write_numbered.Goals.{then-is_some, else-is_some}
use Rattle.stomp_session.proofs.replies.write_numbered.Goals as goal

pub returns : goal.returns
returns c =
    let number = rw (← c.delivery.view_is) at c.requires.number in
    let ack = rw (← c.delivery.view_is) at c.requires.ack in
    elim c.if-is_some.branch [
      | then-is_some w ↦ rw (← c.delivery.view_is, rw (sym c.is_some.ensures ∙ w.if-is_some.true) at ack, ← number)
          (rw w.count-is at c.write.ensures)
      | else-is_some w ↦ rw (← c.delivery.view_is, rw (sym c.is_some.ensures ∙ w.if-is_some.false) at ack, ← number)
          (rw w.count-is at c.write.ensures)
    ]
