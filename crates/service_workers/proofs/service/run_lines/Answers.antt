use Rattle.shared_endpoint.specs.Token.{hand_number, scout_number}
use Rattle.service_workers.proofs.Further.{on_join}
use Rattle.service_workers.proofs.Lives.{both_came}
use Rattle.service_workers.proofs.Truth.{still_sound}
use Rattle.service_workers.proofs.service.run_lines.Goals as goal

pub returns-clause-goes_on : goal.returns-clause-goes_on
returns-clause-goes_on g c = record {
  hand = on_join g.K.Keep.seen g.H.Handler.service hand_number _ _ _ c.run_named-held.ensures.goes_on.hand
      c.cut_where_unusable.ensures.goes_on.hand;
  scout = on_join g.K.Keep.seen g.H.Handler.service scout_number _ _ _ c.run_named-held.ensures.goes_on.scout
      c.cut_where_unusable.ensures.goes_on.scout;
}

pub returns-clause-took : goal.returns-clause-took
returns-clause-took g c = both_came g.L.Link.put_gives g.L.Link.take_gives g.K.Keep.seen g.H.Handler.service
    g.N.Naming.sound g.N.Naming.given _ _ _ c.run_named-held.ensures.took c.cut_where_unusable.ensures.took

pub returns-clause-good : goal.returns-clause-good
returns-clause-good g c = record {
  hand = still_sound g.K.Keep.seen g.H.Handler.service hand_number g.N.Naming.sound _ _
      c.cut_where_unusable.ensures.goes_on.hand
      (still_sound g.K.Keep.seen g.H.Handler.service hand_number g.N.Naming.sound _ _ c.run_named-held.ensures.goes_on.hand
      c.requires.good.hand);
  scout = still_sound g.K.Keep.seen g.H.Handler.service scout_number g.N.Naming.sound _ _
      c.cut_where_unusable.ensures.goes_on.scout
      (still_sound g.K.Keep.seen g.H.Handler.service scout_number g.N.Naming.sound _ _ c.run_named-held.ensures.goes_on.scout
      c.requires.good.scout);
}
