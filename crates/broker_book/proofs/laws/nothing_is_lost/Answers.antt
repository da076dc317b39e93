use Rattle.broker_book.proofs.Kept.{messages_kept, nothing_lost}
use Rattle.broker_book.proofs.laws.nothing_is_lost.Goals as goal

pub returns-clause-kept : goal.returns-clause-kept
returns-clause-kept c = messages_kept

pub returns-clause-lives : goal.returns-clause-lives
returns-clause-lives c = nothing_lost
