-- A broker with all that was accepted.
use Rattle.std.specs.Prelude.{List, [], ◌++◌}
use Rattle.broker_book.specs.declared.parts.Accepted.{Accepted}
use Rattle.broker_core.specs.Calls.{empty}
use Rattle.broker_core.specs.Serving.{Server}

-- the broker, and the SENDs that were taken from it or that a broker before it accepted, in order
pub record Mail : Type 0 where
  pub broker : Server
  pub earlier : List Accepted

-- all SENDs that were ever accepted, in order; those that were repeated aren't among them
abbrev pub all_accepted : Mail → List Accepted
all_accepted o = o.earlier ++ o.broker.book.accepted

-- nothing has happened yet
abbrev pub new_mail : Mail
new_mail = record { broker = empty; earlier = [] }

-- a broker of which the list of what was accepted was taken
abbrev pub taken_from : Server → Server
taken_from b = record b { book = record b.book { accepted = [] } }

-- the list of what was accepted was taken from the broker
abbrev pub collected : Mail → Mail
collected o = record { broker = taken_from o.broker; earlier = all_accepted o }

-- a new broker, with all that was accepted before
abbrev pub restarted : Mail → Mail
restarted o = record { broker = empty; earlier = all_accepted o }
