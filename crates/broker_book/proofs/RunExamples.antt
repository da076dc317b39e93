-- Examples: a run of two messages, and books that no run leads to.
use Rattle.std.proofs.Common.{◌≡◌, ℕ, List, [], ◌∷◌, refl, arith, codes}
use Rattle.std.specs.Prelude.{Some, None}
use Rattle.broker_book.specs.declared.parts.Accepted.{Accepted}
use Rattle.broker_book.specs.declared.parts.Mode.TheVariants.{Auto, Client, Individual}
use Rattle.broker_book.specs.declared.parts.Sent.{Sent}
use Rattle.broker_book.specs.declared.parts.Subscription.{Subscription}
use Rattle.broker_book.specs.Books.{Book, QueuedMessage, Fate, Ready, Out, empty_book}
use Rattle.broker_book.specs.Steps.{Handed, Deal, holder, released, subscribed, with_message}
use Rattle.broker_book.specs.Runs.{BookEvent, Puts, Hands, Acks, Subscribes, Releases, Takes, BookStep, Run, ended_by}
use Rattle.broker_book.specs.Runs.{ended_in, put_in, taken_in, handed_in, numbers_covered}
use Rattle.broker_book.specs.Laws.{IsKept, IsOrderly, numbered}

-- ---- a run

abbrev letter : List ℕ → Sent
letter body = record { destination = codes "/queue/a"; headers = []; body = body }

abbrev listener : Subscription
listener = record { session = 1; id = codes "0"; destination = codes "/queue/a"; mode = Individual }

abbrev message : ℕ → List ℕ → Fate → QueuedMessage
message number body fate = record { number = number; sent = letter body; fate = fate }

abbrev handed : ℕ → List ℕ → Handed
handed number body = record { number = number; sent = letter body; to = listener; ack = Some number }

abbrev accepted : List Accepted
accepted = record { number = 1; sent = letter (codes "a") } ∷ record { number = 2; sent = letter (codes "b") } ∷ []

-- two messages wait
abbrev waiting : Book
waiting = with_message (with_message (subscribed empty_book listener) (letter (codes "a"))) (letter (codes "b"))

-- the first is out, and then both are
abbrev first_out : Book
first_out = record waiting
    { living = message 1 (codes "a") (Out 1 (codes "0") 1) ∷ message 2 (codes "b") Ready ∷ []; given = 1 }

abbrev both_out : Book
both_out = record waiting {
  living = message 1 (codes "a") (Out 1 (codes "0") 1) ∷ message 2 (codes "b") (Out 1 (codes "0") 2) ∷ [];
  given = 2;
}

-- the first was acknowledged
abbrev one_left : Book
one_left = record both_out { living = message 2 (codes "b") (Out 1 (codes "0") 2) ∷ [] }

-- the subscription has ended, and the accepted SENDs were taken
abbrev last_book : Book
last_book = record { living = message 2 (codes "b") Ready ∷ []; last = 2; given = 2; subscriptions = []; accepted = [] }

abbrev events : List BookEvent
events = Subscribes listener ∷ Puts 8 (letter (codes "a")) ∷ Puts 8 (letter (codes "b")) ∷ Hands (handed 1 (codes "a"))
    ∷ Hands (handed 2 (codes "b")) ∷ Acks 1 1 (1 ∷ []) ∷ Releases 1 (codes "0") ∷ Takes accepted ∷ []

first_deal : Deal waiting (handed 1 (codes "a")) first_out
first_deal = record {
  message = message 1 (codes "a") Ready;
  front = [];
  back = message 2 (codes "b") Ready ∷ [];
  found = refl;
  first = refl;
  ready = refl;
  oldest = refl;
  number = refl;
  sent = refl;
  ack = refl;
  changed = refl;
}

second_deal : Deal first_out (handed 2 (codes "b")) both_out
second_deal = record {
  message = message 2 (codes "b") Ready;
  front = message 1 (codes "a") (Out 1 (codes "0") 1) ∷ [];
  back = [];
  found = refl;
  first = refl;
  ready = refl;
  oldest = refl;
  number = refl;
  sent = refl;
  ack = refl;
  changed = refl;
}

it_runs : Run empty_book events last_book
it_runs = (
  subscribed empty_book listener,
  (refl, refl),
  (
    with_message (subscribed empty_book listener) (letter (codes "a")),
    refl,
    (
      waiting,
      refl,
      (
        first_out,
        first_deal,
        (
          both_out,
          second_deal,
          (
            one_left,
            (refl, refl),
            (released one_left 1 (codes "0"), refl, (last_book, (refl, refl), refl)),
          ),
        ),
      ),
    ),
  ),
)

-- what it brought about
it_tells : (ended_in events ≡ 1 ∷ []) × (put_in events ≡ letter (codes "a") ∷ letter (codes "b") ∷ [])
    × (taken_in events ≡ numbered 0 (put_in events)) × (handed_in events ≡ accepted)
it_tells = (refl, refl, refl, refl)

-- a subscription of the same name can't begin
twice_subscribed : BookStep (subscribed empty_book listener) (Subscribes listener) waiting → ⊥
twice_subscribed h = let e = h.0 in absurd cc

-- ---- what ends

-- in mode `client` an ACK ends the earlier ones too, in mode `individual` that one alone, and an unknown one none
acks_end : (numbers_covered both_out 2 (Some (record listener { mode = Client })) ≡ 1 ∷ 2 ∷ [])
    × (numbers_covered both_out 2 (holder both_out 1 2) ≡ 2 ∷ [])
    × (numbers_covered both_out 3 (holder both_out 1 3) ≡ [])
acks_end = (refl, refl, refl)

-- in mode `auto` a message ends as it goes out
autos_end : ended_by (Hands (record { number = 7; sent = letter []; to = record listener { mode = Auto }; ack = None }))
    ≡ 7 ∷ []
autos_end = refl

-- ---- what no run leads to

-- a message that is neither there nor ended, one that is both, and one that is there twice
losses_are_noticed : (IsKept (record last_book { living = [] }) (1 ∷ []) → ⊥) × (IsKept last_book (1 ∷ 2 ∷ []) → ⊥)
    × (IsKept (record last_book { living = message 2 [] Ready ∷ message 2 [] Ready ∷ [] }) (1 ∷ []) → ⊥)
losses_are_noticed = (
  λ h. let e = h 2 in omega arith,
  λ h. let e = h 2 in omega arith,
  λ h. let e = h 2 in omega arith,
)

-- messages out of order, a delivery number that is out twice, and a message that is out to nobody
disorders_are_noticed :
    (IsOrderly (record last_book { living = message 2 [] Ready ∷ message 1 [] Ready ∷ [] }) → ⊥)
    × (IsOrderly (record both_out
    { living = message 1 [] (Out 1 (codes "0") 1) ∷ message 2 [] (Out 1 (codes "0") 1) ∷ [] }) → ⊥)
    × (IsOrderly (record one_left { subscriptions = [] }) → ⊥)
disorders_are_noticed = (
  λ h. let e = h.rising.1.0 in omega arith,
  λ h. let e = h.once 1 in omega arith,
  λ h. let e = h.there.0 in absurd cc,
)
