use Rattle.laws_services.proofs.Grouping.{group_does, group_takes, group_handled}
use Rattle.laws_services.proofs.calls.groups_are_steps.Goals as goal

pub returns-clause-does : goal.returns-clause-does
returns-clause-does g c = λ old new written envelopes result.
    group_does g.K.Keep.seen g.met.K.Keep.sound g.H.Handler.service old new envelopes written result

pub returns-clause-takes : goal.returns-clause-takes
returns-clause-takes g c = λ old new envelopes told i l grouped.
    group_takes g.K.Keep.seen g.met.K.Keep.sound g.H.Handler.service old new envelopes told i l grouped

pub returns-clause-handled : goal.returns-clause-handled
returns-clause-handled g c = λ old new envelopes told i l position.
    group_handled g.K.Keep.seen g.met.K.Keep.sound g.H.Handler.service old new envelopes told i l position
