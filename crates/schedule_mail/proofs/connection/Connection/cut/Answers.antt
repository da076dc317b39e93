use Rattle.std.proofs.Common.{◌∙◌}
use Rattle.schedule_mail.proofs.connection.Connection.cut.Goals as goal

pub returns-clause-sessions : goal.returns-clause-sessions
returns-clause-sessions c = λ n apart. c.dispatch.ensures.sessions n ∙ c.drop_session.ensures.sessions n apart

pub returns-clause-gone : goal.returns-clause-gone
returns-clause-gone c = c.dispatch.ensures.sessions c.args.self.session ∙ c.drop_session.ensures.gone
