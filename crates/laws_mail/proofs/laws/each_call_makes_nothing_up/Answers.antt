use Rattle.laws_mail.specs.Passing.{passing}
use Rattle.laws_mail.proofs.Mails.{opened_connection, opened_good, carried_up_good, carried_down_good, next_good}
use Rattle.laws_mail.proofs.Mails.{cut_good, dispatched_good}
use Rattle.laws_mail.proofs.Mails.{restarted_good}
use Rattle.laws_mail.proofs.Repeating.{repeated_good}
use Rattle.laws_mail.proofs.Writing.{written_good}
use Rattle.laws_mail.proofs.laws.each_call_makes_nothing_up.Goals as goal

pub returns-clause-open : goal.returns-clause-open
returns-clause-open g c = λ test up down from k to h o.
    (opened_connection (passing test) from k to h, opened_good (passing test) up down from k to h o)

pub returns-clause-carry_up : goal.returns-clause-carry_up
returns-clause-carry_up g c = λ test. carried_up_good (passing test)

pub returns-clause-carry_down : goal.returns-clause-carry_down
returns-clause-carry_down g c = λ test. carried_down_good (passing test)

pub returns-clause-next : goal.returns-clause-next
returns-clause-next g c = λ test. next_good (passing test)

pub returns-clause-write : goal.returns-clause-write
returns-clause-write g c = λ test. written_good (passing test)

pub returns-clause-cut : goal.returns-clause-cut
returns-clause-cut g c = λ test up down k from to r h o. cut_good (passing test) up down k from to r h o

pub returns-clause-deals : goal.returns-clause-deals
returns-clause-deals g c = λ test up down from to r h e o. dispatched_good (passing test) up down from to r h e o

pub returns-clause-repeats : goal.returns-clause-repeats
returns-clause-repeats g c = λ test. repeated_good (passing test)

pub returns-clause-restarts : goal.returns-clause-restarts
returns-clause-restarts g c = λ test. restarted_good (passing test)
