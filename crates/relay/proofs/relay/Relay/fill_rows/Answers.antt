use Rattle.relay.specs.Filling.{send_state}
use Rattle.relay.proofs.Knowing.{knows_risen}
use Rattle.relay.proofs.Paging.{filling_rises}
use Rattle.relay.proofs.relay.Relay.fill_rows.Goals as goal

pub returns-in-Connected-clause-knows : goal.returns-in-Connected-clause-knows
returns-in-Connected-clause-knows c rows messages known =
    knows_risen c.args.self.now c.fill_letters.new.self c.fill_letters.ensures.rows c.fill_letters.ensures.behind
    (filling_rises c.args.limit c.args.letters.now (send_state c.args.self.now c.args.client.now)
    (send_state c.fill_letters.new.self c.fill_letters.new.client) _ c.fill_letters.ensures.fills)
    rows messages known
