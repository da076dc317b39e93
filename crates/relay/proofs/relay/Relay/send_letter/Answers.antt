use Rattle.relay.specs.Filling.{marks_of}
use Rattle.relay.specs.Marks.{mark_in}
use Rattle.relay.proofs.Marking.{set_is}
use Rattle.relay.proofs.Sending.{sends_one}
use Rattle.relay.proofs.relay.Relay.send_letter.Goals as goal

pub returns-clause-sends : goal.returns-clause-sends
returns-clause-sends c =
    sends_one c.args.letter.now (marks_of c.args.self.now) (λ p. mark_in c.set.new.marks p) c.args.client.now.client
    c.send_with_receipt.new.self.client c.in_ok-frame.frame c.get.result
    (set_is c.args.self.now.marks c.prepare.new.marks c.set.new.marks c.args.letter.now.pair c.args.letter.now.number
    c.prepare.ensures.same
    c.set.ensures)
    c.in_ok-frame.ensures.carries.envelope c.in_ok-frame.ensures.frame
    c.get.ensures.value c.in_ok-send_with_receipt.ensures.does.2.1 c.in_ok-send_with_receipt.ensures.wrote
