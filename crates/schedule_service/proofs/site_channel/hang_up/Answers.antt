use Rattle.schedule_service.proofs.site_channel.hang_up.Goals as goal

pub returns-in-Some : goal.returns-in-Some
returns-in-Some c = rw c.in-Some.is (c.cut.result, c.cut.ensures.cuts)
