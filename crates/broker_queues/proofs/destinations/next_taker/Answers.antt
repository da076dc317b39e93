use Rattle.std.proofs.Common.{◌≡◌, true, false}
use Rattle.broker_queues.proofs.destinations.next_taker.Goals as goal

pub returns-in-Some : goal.returns-in-Some
returns-in-Some c = rw (← c.in-Some.ensures) c.first_taker.ensures

pub returns-in-None : goal.returns-in-None
returns-in-None c =
    rw (← c.in-None.ensures) (λ m listed later within. let never : false ≡ true = listed in cc)
