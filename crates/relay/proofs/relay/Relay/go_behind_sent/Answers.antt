use Rattle.relay.proofs.Paging.{goes_behind}
use Rattle.relay.proofs.relay.Relay.go_behind_sent.Goals as goal

pub returns-clause-sent : goal.returns-clause-sent
returns-clause-sent c messages page are sent =
    goes_behind messages c.args.self.now c.go_behind.new.self c.count_sent-count.result page c.args.rows.items
    (rw c.deref.ensures.value at c.count_sent-count.ensures.sent) (rw c.truncate.ensures.items at
    c.go_behind.ensures.behind)
    c.go_behind.ensures.marks are sent
