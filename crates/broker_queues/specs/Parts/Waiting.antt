-- Subscribers to whom deliveries are out.
use Rattle.std.specs.Prelude.{Bool, false, nat_lt, List, Option, Some, None}
use Rattle.broker_index.specs.Index.{Subscriber}
use Rattle.broker_index.specs.declared.places.KeyedPlace.{KeyedPlace}
use Rattle.broker_queues.specs.Parts.Facts.{subscriber_at}

-- whether a delivery to a subscriber is unanswered
abbrev pub waits : Option Subscriber → Bool
waits None = false
waits (Some s) = nat_lt 0 s.count

-- the same of the subscriber at a place
abbrev pub waits_at : List Subscriber → KeyedPlace → Bool
waits_at subscribers p = waits (subscriber_at p.number subscribers)
