use Rattle.intake.proofs.Moves.{puts}
use Rattle.intake.proofs.intake.IntakeReader.put.Goals as goal

pub try_send_as-requires-clause-rule : goal.try_send_as-requires-clause-rule
try_send_as-requires-clause-rule g c =
    (puts _ _ _ _ c.args.self.now.mine.1 c.args.self.now.mine.2, λ items views _ _. tt)
