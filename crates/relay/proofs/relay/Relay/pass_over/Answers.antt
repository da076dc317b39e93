use Rattle.std.proofs.Common.{subst, Option}
use Rattle.keep.specs.declared.change.LetterPlace.{LetterPlace}
use Rattle.relay.specs.Filling.{marks_of}
use Rattle.relay.specs.Parts.News.{SentBut}
use Rattle.relay.proofs.Passing.{passes, stays_put}
use Rattle.relay.proofs.relay.Relay.pass_over.Goals as goal

pub returns-in_default-clause-skips : goal.returns-in_default-clause-skips
returns-in_default-clause-skips g c messages sent = stays_put (marks_of c.args.self.now) messages c.args.self.now.behind

pub returns-in_default-clear_place-clause-skips : goal.returns-in_default-clear_place-clause-skips
returns-in_default-clear_place-clause-skips g c messages sent =
    stays_put (marks_of c.args.self.now) messages c.args.self.now.behind

pub returns-else-is_upto-clause-skips : goal.returns-else-is_upto-clause-skips
returns-else-is_upto-clause-skips g c messages sent =
    stays_put (marks_of c.args.self.now) messages c.args.self.now.behind

pub returns-then-is_ahead-clause-skips : goal.returns-then-is_ahead-clause-skips
returns-then-is_ahead-clause-skips g c messages sent =
    passes c.args.news.now (marks_of c.args.self.now) messages c.args.self.now.behind c.in-Some-clear_place.place
    c.in-Some.reach
    (subst (λ (r : Option LetterPlace). SentBut c.args.news.now (marks_of c.args.self.now) messages r) c.in-Some.is sent)
    c.in-Some-clear_place.ensures (c.is_upto.ensures c.if-is_upto.true) (c.is_ahead.ensures c.if-is_ahead.true)
