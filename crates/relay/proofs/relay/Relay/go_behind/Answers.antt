use Rattle.relay.specs.Filling.{marks_of}
use Rattle.relay.proofs.Paging.{jumps_behind}
use Rattle.relay.proofs.relay.Relay.go_behind.Goals as goal

pub returns-in-Some-clause-behind : goal.returns-in-Some-clause-behind
returns-in-Some-clause-behind c =
    jumps_behind (marks_of c.args.self.now) c.args.self.now.behind c.args.rows.items c.pop.new.self.items c.in-Some.last
    c.greater.result
    c.find-mark.result c.in-Some.ensures.items c.greater.ensures.least c.greater.ensures.which c.find-mark.ensures
