-- What lives after a deal was sent before: the membership that a delivery needs.
use Rattle.std.proofs.Common.{◌≡◌, ℕ, Bool, true, List, [], ◌∷◌, ◌++◌, Option, Some, None, subst, ap, ◌∙◌}
use Rattle.broker_book.specs.declared.parts.Sent.{Sent}
use Rattle.broker_book.specs.declared.parts.Subscription.{Subscription}
use Rattle.broker_book.specs.Books.{Book, QueuedMessage}
use Rattle.broker_book.specs.Steps.{Handed, Deal, Deals, left_of}
use Rattle.broker_book.specs.Known.{IsKnown, AreKnown}

known_split : (p : Sent → Bool) (front back : List QueuedMessage) (m : QueuedMessage) → IsKnown p (front ++ m ∷ back)
    → IsKnown p front × (p m.sent ≡ true) × IsKnown p back
known_split p [] back m h = (tt, h.0, h.1)
known_split p (x ∷ front) back m h = let k = known_split p front back m h.1 in ((h.0, k.0), k.1, k.2)

known_append : (p : Sent → Bool) (front back : List QueuedMessage) → IsKnown p front → IsKnown p back
    → IsKnown p (front ++ back)
known_append p [] back h k = k
known_append p (x ∷ front) back h k = (h.0, known_append p front back h.1 k)

left_known : (p : Sent → Bool) (m : QueuedMessage) (s : Subscription) (n : Option ℕ) (back : List QueuedMessage)
    → p m.sent ≡ true
    → IsKnown p back
    → IsKnown p (left_of m s n ++ back)
left_known p m s None back h k = k
left_known p m s (Some n) back h k = (h, k)

-- a message that is handed out was known, and what lives afterwards is
pub deal_known : (p : Sent → Bool) (old : Book) (d : Handed) (new : Book) → Deal old d new → IsKnown p old.living
    → (p d.sent ≡ true) × IsKnown p new.living
deal_known p old d new h k =
    let s = known_split p h.front h.back h.message (subst (λ l. IsKnown p l) h.found k) in
    (ap p h.sent ∙ s.1, rw h.changed (known_append p h.front _ s.0 (left_known p h.message d.to d.ack h.back s.1 s.2)))

-- what holds of each living message's SEND holds of each one that is delivered
pub deals_known : (p : Sent → Bool) (old new : Book) (ds : List Handed) → Deals old ds new → IsKnown p old.living
    → AreKnown p ds × IsKnown p new.living
deals_known p old new [] h k = (tt, rw h k)
deals_known p old new (d ∷ ds) h k =
    let one = deal_known p old d h.0 h.1 k in
    let rest = deals_known p h.0 new ds h.2 one.1 in
    ((one.0, rest.0), rest.1)
