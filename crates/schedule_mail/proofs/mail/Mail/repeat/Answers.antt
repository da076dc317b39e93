use Rattle.std.proofs.Common.{◌∙◌, sym, ap, Some}
use Rattle.schedule_mail.proofs.Again.{again_repeats}
use Rattle.schedule_mail.proofs.Keeping.{repeats_all}
use Rattle.schedule_mail.proofs.Repeated.{repeats_sessions}
use Rattle.schedule_mail.proofs.mail.Mail.repeat.Goals as goal

pub returns-in-Some-clause-repeats : goal.returns-in-Some-clause-repeats
returns-in-Some-clause-repeats c =
    again_repeats c.args.place c.args.self.now c.collect.new.self c.send_again.new.self c.get.result.now
    c.send_again.result c.in_ok-collect.ensures.ok (sym c.in_ok-sent.ensures ∙ c.in-Some.is
    ∙ ap Some (sym c.get.ensures))
    c.send_again.ensures

pub returns-in-Some-clause-all : goal.returns-in-Some-clause-all
returns-in-Some-clause-all c = repeats_all c.args.place c.args.self.now c.send_again.new.self c.send_again.result
    (returns-in-Some-clause-repeats c)

pub returns-in-Some-clause-sessions : goal.returns-in-Some-clause-sessions
returns-in-Some-clause-sessions c =
    repeats_sessions c.args.place c.args.self.now c.send_again.new.self c.send_again.result
    (returns-in-Some-clause-repeats c)
