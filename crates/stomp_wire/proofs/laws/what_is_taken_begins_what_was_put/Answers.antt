use Rattle.stomp_wire.proofs.Journeys.{travels_keep, kept_begins}
use Rattle.stomp_wire.proofs.laws.what_is_taken_begins_what_was_put.Goals as goal

pub returns-clause-kept : goal.returns-clause-kept
returns-clause-kept c = travels_keep

pub returns-clause-beginning : goal.returns-clause-beginning
returns-clause-beginning c = λ put taken waiting carried so_far. kept_begins put taken waiting carried
    (travels_keep put taken waiting carried so_far)
