use Rattle.std.proofs.Common.{◌≡◌, rules, IfOk}
use Rattle.envelope.specs.Written.{send_of}
use Rattle.envelope.specs.declared.message.Envelope.TheVariants.{Letter}
use Rattle.envelope.proofs.Bodies.{short_body}
use Rattle.envelope.proofs.Envelopes.{sent_carries}
use Rattle.envelope.proofs.sending.letter_to_send.Goals as goal

pub send-requires-clause-body : goal.send-requires-clause-body
send-requires-clause-body c =
    rw (c.deref.ensures, c.in_ok-body.ensures.text) (short_body c.args.letter.now.message c.body.ensures.message)

pub returns-clause-carries : goal.returns-clause-carries
returns-clause-carries c =
    let sent : IfOk c.send.result (λ f. f ≡ send_of (Letter c.args.letter.now)) = search rules in
    sent_carries c.send.result (Letter c.args.letter.now) c.body.ensures.message sent c.send.ensures.numbered
