use Rattle.laws_broker.proofs.Carrying.{receipts_were_asked}
use Rattle.laws_broker.proofs.texts.each_receipt_was_asked_for.Goals as goal

pub returns : goal.returns
returns c = receipts_were_asked
