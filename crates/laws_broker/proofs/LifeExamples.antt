-- A short life, as its definitions compute it.
use Rattle.std.proofs.Common.{◌≡◌, false, true, List, [], ◌∷◌, refl, Ok, Err, None, codes}
use Rattle.broker_core.specs.Calls.{empty, with_new_session}
use Rattle.broker_core.specs.Streams.{Fed}
use Rattle.broker_core.specs.declared.fault.BrokerFault.TheVariants.{NoSession}
use Rattle.laws_broker.specs.Lives.{BrokerCall, FedTo, Lives, Named, Opened, Told, dealt_in, fed_in}
use Rattle.laws_broker.specs.Streams.{touches}

-- a piece of which no frame had its step
abbrev nothing_done : Fed
nothing_done = record { piece = codes "SEND"; frames = [] }

-- a session is opened; nothing was written for it and nothing accepted; a piece for a session that isn't there changes
-- nothing
abbrev calls : List BrokerCall
calls = Opened (Ok 1) ∷ Named None ∷ Told [] ∷ FedTo 2 nothing_done (Err NoSession) ∷ []

life : Lives 16 empty calls (with_new_session empty)
life = (
  with_new_session empty,
  record { next = refl; unused = refl; changed = refl; found = refl },
  (
    with_new_session empty,
    (refl, refl),
    (with_new_session empty, (refl, refl), (with_new_session empty, ((refl, refl), refl), refl)),
  ),
)

nothing_dealt : dealt_in 16 empty calls (with_new_session empty) life ≡ []
nothing_dealt = refl

nothing_fed : fed_in 1 calls ≡ []
nothing_fed = refl

-- a piece that wasn't taken touches no session
no_touch : touches 2 (FedTo 2 nothing_done (Err NoSession)) ≡ false
no_touch = refl

-- one that was taken touches its own
own_touch : touches 2 (FedTo 2 nothing_done (Ok 0)) ≡ true
own_touch = refl
