-- Along a run messages stay what they were put as, in whatever holds of a SEND with its number.
use Rattle.std.proofs.Common.{◌≡◌, ℕ, ◌+◌, Bool, true, false, not, cond, List, [], ◌∷◌, ◌++◌, map, length, subst, sym}
use Rattle.std.proofs.Common.{Option, Some, None, Ok}
use Rattle.std.specs.Prelude.{filter, if◌then◌else◌}
use Rattle.std.specs.List.{AllByRecursion}
use Rattle.broker_book.specs.declared.parts.Accepted.{Accepted}
use Rattle.broker_book.specs.declared.parts.Subscription.{Subscription}
use Rattle.broker_book.specs.Books.{Book, QueuedMessage, Fate, Ready, empty_book, out_to, out_of}
use Rattle.broker_book.specs.Steps.{Handed, Deal, left_of, acked, nacked, holder, covered, ready_if}
use Rattle.broker_book.specs.Runs.{BookEvent, Puts, Hands, Acks, Nacks, Subscribes, Releases, Ends, Takes, BookStep}
use Rattle.broker_book.specs.Runs.{Run}
use Rattle.broker_book.specs.Runs.{put_by, put_in}
use Rattle.broker_book.specs.Runs.{handed_by, handed_in}
use Rattle.broker_book.specs.Laws.{numbered, AllPass, as_accepted}
use Rattle.broker_book.proofs.Numbers.{put_is, numbered-append, event_counts}

module _ (P : Accepted → Type 0) where
  -- each of these has it
  abbrev Each : List Accepted → Type 0
  Each accepted = AllByRecursion P accepted

  pass-append : (xs ys : List Accepted) → Each xs → Each ys → Each (xs ++ ys)
  pass-append [] ys h k = k
  pass-append (x ∷ xs) ys h k = (h.0, pass-append xs ys h.1 k)

  pass_split : (xs ys : List Accepted) → Each (xs ++ ys) → Each xs × Each ys
  pass_split [] ys h = (tt, h)
  pass_split (x ∷ xs) ys h = let k = pass_split xs ys h.1 in ((h.0, k.0), k.1)

  -- the living messages pass
  abbrev Pass : List QueuedMessage → Type 0
  Pass ms = Each (map as_accepted ms)

  living-append : (xs ys : List QueuedMessage) → Pass xs → Pass ys → Pass (xs ++ ys)
  living-append [] ys h k = k
  living-append (x ∷ xs) ys h k = (h.0, living-append xs ys h.1 k)

  filter_pass : (b : Bool) (m : QueuedMessage) (rest : List QueuedMessage) → P (as_accepted m) → Pass rest
      → Pass (cond b (m ∷ rest) rest)
  filter_pass true m rest h k = (h, k)
  filter_pass false m rest h k = k

  living-filter : (q : QueuedMessage → Bool) (ms : List QueuedMessage) → Pass ms → Pass (filter q ms)
  living-filter q [] h = h
  living-filter q (m ∷ ms) h = filter_pass (q m) m (filter q ms) h.0 (living-filter q ms h.1)

  ready_pass : (b : Bool) (m : QueuedMessage) → P (as_accepted m)
      → P (as_accepted (if b then record m { fate = Ready } else m))
  ready_pass true m h = h
  ready_pass false m h = h

  living-ready : (test : Fate → Bool) (ms : List QueuedMessage) → Pass ms → Pass (map (ready_if test) ms)
  living-ready test [] h = h
  living-ready test (m ∷ ms) h = (ready_pass (test m.fate) m h.0, living-ready test ms h.1)

  -- a message that goes out passes, and so do those that are left
  living_dealt : (front back : List QueuedMessage) (m : QueuedMessage) (s : Subscription) (ack : Option ℕ)
      → Pass (front ++ m ∷ back)
      → P (as_accepted m) × Pass (front ++ (left_of m s ack ++ back))
  living_dealt [] back m s None h = h
  living_dealt [] back m s (Some n) h = (h.0, h)
  living_dealt (x ∷ front) back m s ack h = let k = living_dealt front back m s ack h.1 in (k.0, (h.0, k.1))

  ack_passes : (old new : Book) (number : ℕ) (o : Option Subscription) → acked old number o ≡ Ok new → Pass old.living
      → Pass new.living
  ack_passes old new number None h k = absurd cc
  ack_passes old new number (Some s) h k =
      let left = λ (m : QueuedMessage). not (covered s number m.fate) in
      let e : record old { living = filter left old.living } ≡ new = cc in
      rw (← e) (living-filter left old.living k)

  nack_passes : (old new : Book) (number : ℕ) (o : Option Subscription) → nacked old number o ≡ Ok new → Pass old.living
      → Pass new.living
  nack_passes old new number None h k = absurd cc
  nack_passes old new number (Some s) h k =
      let e : record old { living = map (ready_if (covered s number)) old.living } ≡ new = cc in
      rw (← e) (living-ready (covered s number) old.living k)

  deal_passes : (old new : Book) (d : Handed) → Deal old d new → Pass old.living
      → Pass new.living × Each (record { number = d.number; sent = d.sent } ∷ [])
  deal_passes old new d h k =
      let dealt = living_dealt h.front h.back h.message d.to d.ack (subst (λ l. Pass l) h.found k) in
      let same : as_accepted h.message ≡ record { number = d.number; sent = d.sent }
      = sym (λ i. record { number = h.number i; sent = h.sent i }) in
      (rw h.changed dealt.1, (subst (λ a. P a) same dealt.0, tt))

  event_passes : (old new : Book) (e : BookEvent) → BookStep old e new → Pass old.living
      → Each (numbered old.last (put_by e))
      → Pass new.living × Each (handed_by e)
  event_passes old new (Puts full sent) h k now = rw (put_is full old sent new h) (living-append old.living _ k now, tt)
  event_passes old new (Hands d) h k now = deal_passes old new d h k
  event_passes old new (Acks session number numbers) h k now =
      (ack_passes old new number (holder old session number) h.0 k, tt)
  event_passes old new (Nacks session number) h k now = (nack_passes old new number (holder old session number) h k, tt)
  event_passes old new (Subscribes s) h k now = (rw h.1 k, tt)
  event_passes old new (Releases session id) h k now = (rw h (living-ready (out_to session id) old.living k), tt)
  event_passes old new (Ends session) h k now = (rw h (living-ready (out_of session) old.living k), tt)
  event_passes old new (Takes accepted) h k now = (rw h.1 k, tt)

  pub run_passes : (events : List BookEvent) (old new : Book) → Run old events new → Pass old.living
      → Each (numbered old.last (put_in events)) → Pass new.living × Each (handed_in events)
  run_passes [] old new h k now = (rw h k, tt)
  run_passes (e ∷ events) old new h k now =
      let split = pass_split (numbered old.last (put_by e)) (numbered (old.last + length (put_by e)) (put_in events))
      (subst (λ l. Each l) (numbered-append old.last (put_by e) (put_in events)) now) in
      let first = event_passes old h.0 e h.1 k split.0 in
      let last = (event_counts old h.0 e h.1).1 in
      let rest = run_passes events h.0 new h.2 first.0 (rw last split.1) in
      (rest.0, pass-append (handed_by e) (handed_in events) first.1 rest.1)

-- what holds of each SEND with its number holds of each message that lives or was delivered
pub each_as_put : (p : Accepted → Bool) (events : List BookEvent) (b : Book) → Run empty_book events b
    → AllPass p (numbered 0 (put_in events)) → AllPass p (map as_accepted b.living) × AllPass p (handed_in events)
each_as_put p events b h now = run_passes (λ a. p a ≡ true) events empty_book b h tt now
