use Rattle.shared_endpoint.specs.Keys.{IsScoutOf, told_scout}
use Rattle.shared_endpoint.specs.Token.{scout_number}
use Rattle.service_workers.specs.Tokens.{GoesOn}
use Rattle.service_workers.specs.Truth.{Knows, AreSentIn}
use Rattle.service_workers.proofs.run.Run.read_news.Given as goal

abbrev pub invariant-loop-row : goal.invariant-loop-row
invariant-loop-row g l = record {
  scout : IsScoutOf l.self.shared.now l.scout;
  goes_on : GoesOn g.K.Keep.seen g.H.Handler.service scout_number (told_scout l.fn.scout) (told_scout l.scout);
  told : Knows g.K.Keep.seen g.H.Handler.service g.N.Naming.sound (AreSentIn g.H.Handler.service.reactions l.letters.items)
      (told_scout l.scout);
}
