use Rattle.service_workers.proofs.run.Run.reply.Goals as goal

pub reply-requires-clause-came : goal.reply-requires-clause-came
reply-requires-clause-came g c = λ s. (c.into_parts-number.ensures.came s).0
