-- Each message that is handed out was put in.
use Rattle.std.specs.Prelude.{◌≡◌, Bool, true, List, [], ◌∷◌}
use Rattle.broker_book.specs.declared.parts.Sent.{Sent}
use Rattle.broker_book.specs.Books.{Book, QueuedMessage}
use Rattle.broker_book.specs.Steps.{Handed, Deals}

-- what these messages' SENDs brought passes a test
abbrev pub IsKnown : (Sent → Bool) → List QueuedMessage → Type 0
IsKnown p [] = Unit {0}
IsKnown p (m ∷ ms) = (p m.sent ≡ true) × IsKnown p ms

-- the same of what is handed out
abbrev pub AreKnown : (Sent → Bool) → List Handed → Type 0
AreKnown p [] = Unit {0}
AreKnown p (d ∷ ds) = (p d.sent ≡ true) × AreKnown p ds

-- whatever holds of each living message's SEND holds of each one that is handed out, and of what lives then
abbrev pub DeliveriesAreKnown : Type 0
DeliveriesAreKnown = (p : Sent → Bool) (old new : Book) (ds : List Handed) → Deals old ds new → IsKnown p old.living
    → AreKnown p ds × IsKnown p new.living
