use Rattle.laws_lives.proofs.Sending.{only_that, read_again, same_is_read}
use Rattle.laws_lives.proofs.frames.sends_carry_their_envelopes.Goals as goal

pub returns-clause-by_itself : goal.returns-clause-by_itself
returns-clause-by_itself c = λ receipt e is. read_again e _ is

pub returns-clause-in_a_transaction : goal.returns-clause-in_a_transaction
returns-clause-in_a_transaction c = λ transaction e is. read_again e _ is

pub returns-clause-no_other : goal.returns-clause-no_other
returns-clause-no_other c = λ receipt d e sent. only_that d e _ sent

pub returns-clause-handed_on : goal.returns-clause-handed_on
returns-clause-handed_on c = λ send message is_send is_message same bodies.
    same_is_read send message is_send is_message same bodies
