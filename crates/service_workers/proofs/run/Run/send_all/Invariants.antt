use Rattle.shared_endpoint.specs.Token.{scout_number}
use Rattle.shared_endpoint.specs.Keys.{IsScoutOf, told_scout}
use Rattle.service_workers.specs.Tokens.{GoesOn}
use Rattle.service_workers.specs.Truth.{IsGoodWhile}
use Rattle.service_workers.proofs.run.Run.send_all.Given as goal

abbrev pub invariant-loop : goal.invariant-loop
invariant-loop g l = IsScoutOf l.self.shared.now l.scout
    × GoesOn g.K.Keep.seen g.H.Handler.service scout_number (told_scout l.fn.scout) (told_scout l.scout)
    × IsGoodWhile g.K.Keep.seen g.H.Handler.service g.N.Naming.sound (told_scout l.scout)
