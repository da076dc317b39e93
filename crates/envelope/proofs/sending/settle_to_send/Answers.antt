use Rattle.std.proofs.Common.{◌≡◌, rules, IfOk}
use Rattle.envelope.specs.Written.{send_of}
use Rattle.envelope.specs.declared.message.Envelope.TheVariants.{Settle}
use Rattle.envelope.proofs.Envelopes.{sent_carries}
use Rattle.envelope.proofs.sending.settle_to_send.Goals as goal

pub returns-clause-carries : goal.returns-clause-carries
returns-clause-carries c =
    let e = Settle c.args.pair.now c.args.number in
    let sent : IfOk c.send.result (λ f. f ≡ send_of e) = search rules in
    sent_carries c.send.result e tt sent c.send.ensures.numbered
