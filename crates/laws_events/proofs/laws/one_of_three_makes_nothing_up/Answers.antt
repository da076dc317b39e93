use Rattle.laws_mail.specs.Passing.{passing}
use Rattle.laws_events.proofs.Threes.{first_keeps, rotated}
use Rattle.laws_events.proofs.laws.one_of_three_makes_nothing_up.Goals as goal

pub returns-clause-acts : goal.returns-clause-acts
returns-clause-acts g c test s t b d from to leads genuine =
    first_keeps (passing test) s t b d from to g.K.Keep.seen g.met.K.Keep.sound g.H.Handler.service leads.event
    leads.outcome leads.clean
    leads.matched leads.right leads.true_passes leads.step genuine

pub returns-clause-turned : goal.returns-clause-turned
returns-clause-turned g c test a b d o genuine = rotated (passing test) a b d o genuine
