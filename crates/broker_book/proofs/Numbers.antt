-- Along a run the accepted SENDs are the ones that were put, with their numbers.
use Rattle.std.proofs.Common.{◌≡◌, ℕ, suc, ◌+◌, Bool, true, false, List, [], ◌∷◌, ◌++◌, length, refl, sym, ap, ◌∙◌}
use Rattle.std.proofs.Common.{arith}
use Rattle.std.proofs.Common.{Option, Some, None, Result, Ok, Err, append_assoc}
use Rattle.std.proofs.lemmas.List.{append-nil, length-append}
use Rattle.std.specs.Prelude.{if◌then◌else◌, not, filter, map}
use Rattle.broker_book.specs.declared.fault.QueueFault.{QueueFault}
use Rattle.broker_book.specs.declared.fault.QueueFault.TheVariants.{QueueFull, TooMany}
use Rattle.broker_book.specs.declared.parts.Sent.{Sent}
use Rattle.broker_book.specs.declared.parts.Subscription.{Subscription}
use Rattle.broker_book.specs.declared.parts.Accepted.{Accepted}
use Rattle.broker_book.specs.Books.{Book, QueuedMessage, empty_book}
use Rattle.broker_book.specs.Steps.{put_of, with_message, acked, nacked, holder, covered, ready_if}
use Rattle.broker_book.specs.Runs.{BookEvent, Puts, Hands, Acks, Nacks, Subscribes, Releases, Ends, Takes, BookStep}
use Rattle.broker_book.specs.Runs.{Run}
use Rattle.broker_book.specs.Runs.{put_by, put_in}
use Rattle.broker_book.specs.Runs.{taken_by, taken_in}
use Rattle.broker_book.specs.Laws.{numbered}

-- ---- what a step's answer says of the new book

put_cases : (full room : Bool) (x new : Book)
    → ◌≡◌ {A = Result Book QueueFault} (if full then (if room then Ok x else Err TooMany) else Err QueueFull) (Ok new)
    → new ≡ x
put_cases true true x new h = cc
put_cases true false x new h = absurd cc
put_cases false room x new h = absurd cc

-- a SEND that was accepted has its message
pub put_is : (full : ℕ) (old : Book) (sent : Sent) (new : Book) → put_of full old sent ≡ Ok new
    → new ≡ with_message old sent
put_is full old sent new h = put_cases _ _ (with_message old sent) new h

-- an ACK changes the living messages alone
pub acked_is : (old : Book) (number : ℕ) (o : Option Subscription) (new : Book) → acked old number o ≡ Ok new
    → new ≡ record old { living = new.living }
acked_is old number None new h = absurd cc
acked_is old number (Some s) new h =
    let e : record old { living = filter (λ (m : QueuedMessage). not (covered s number m.fate)) old.living } ≡ new =
    cc in
    rw (← e) refl

-- and so does a NACK
pub nacked_is : (old : Book) (number : ℕ) (o : Option Subscription) (new : Book) → nacked old number o ≡ Ok new
    → new ≡ record old { living = new.living }
nacked_is old number None new h = absurd cc
nacked_is old number (Some s) new h =
    let e : record old { living = map (ready_if (covered s number)) old.living } ≡ new = cc in
    rw (← e) refl

-- ---- numbers

pub numbered-append : (last : ℕ) (xs ys : List Sent)
    → numbered last (xs ++ ys) ≡ numbered last xs ++ numbered (last + length xs) ys
numbered-append last [] ys = let e : last + 0 ≡ last = omega arith in rw e refl
numbered-append last (x ∷ xs) ys =
    let e : last + suc (length xs) ≡ last + 1 + length xs = omega arith in
    rw e (ap (λ (l : List Accepted). record { number = last + 1; sent = x } ∷ l) (numbered-append (last + 1) xs ys))

-- what an event took and left is what was there and what it put
abbrev pub Counts : Book → BookEvent → Book → Type 0
Counts old e new = (taken_by e ++ new.accepted ≡ old.accepted ++ numbered old.last (put_by e))
    × (new.last ≡ old.last + length (put_by e))

unchanged : (old new : Book) → new.accepted ≡ old.accepted → new.last ≡ old.last
    → (new.accepted ≡ old.accepted ++ []) × (new.last ≡ old.last + 0)
unchanged old new a l = (a ∙ sym (append-nil old.accepted), omega arith)

pub event_counts : (old new : Book) (e : BookEvent) → BookStep old e new → Counts old e new
event_counts old new (Puts full sent) h = rw (put_is full old sent new h) (refl, refl)
event_counts old new (Hands d) h =
    unchanged old new (ap (λ (b : Book). b.accepted) h.changed) (ap (λ (b : Book). b.last) h.changed)
event_counts old new (Acks session number numbers) h =
    let e = acked_is old number (holder old session number) new h.0 in
    unchanged old new (ap (λ (b : Book). b.accepted) e) (ap (λ (b : Book). b.last) e)
event_counts old new (Nacks session number) h =
    let e = nacked_is old number (holder old session number) new h in
    unchanged old new (ap (λ (b : Book). b.accepted) e) (ap (λ (b : Book). b.last) e)
event_counts old new (Subscribes s) h =
    unchanged old new (ap (λ (b : Book). b.accepted) h.1) (ap (λ (b : Book). b.last) h.1)
event_counts old new (Releases session id) h =
    unchanged old new (ap (λ (b : Book). b.accepted) h) (ap (λ (b : Book). b.last) h)
event_counts old new (Ends session) h =
    unchanged old new (ap (λ (b : Book). b.accepted) h) (ap (λ (b : Book). b.last) h)
event_counts old new (Takes accepted) h =
    (rw (h.0, h.1) refl, ap (λ (b : Book). b.last) h.1 ∙ omega arith)

-- ---- runs

run_counts : (events : List BookEvent) (old new : Book) → Run old events new
    → (taken_in events ++ new.accepted ≡ old.accepted ++ numbered old.last (put_in events))
    × (new.last ≡ old.last + length (put_in events))
run_counts [] old new h = unchanged old new (ap (λ (b : Book). b.accepted) h) (ap (λ (b : Book). b.last) h)
run_counts (e ∷ events) old new h =
    let mid = h.0 in
    let first = event_counts old mid e h.1 in
    let rest = run_counts events mid new h.2 in
    let last : mid.last + length (put_in events) ≡ old.last + length (put_by e ++ put_in events)
    = omega (arith, first.1, length-append (put_by e) (put_in events)) in (
      append_assoc (taken_by e) (taken_in events) new.accepted
          ∙ ap (λ (l : List Accepted). taken_by e ++ l) rest.0
          ∙ sym (append_assoc (taken_by e) mid.accepted (numbered mid.last (put_in events)))
          ∙ ap (λ (l : List Accepted). l ++ numbered mid.last (put_in events)) first.0
          ∙ append_assoc old.accepted (numbered old.last (put_by e)) (numbered mid.last (put_in events))
          ∙ ap (λ (k : ℕ). old.accepted ++ (numbered old.last (put_by e) ++ numbered k (put_in events))) first.1
          ∙ ap (λ (l : List Accepted). old.accepted ++ l) (sym (numbered-append old.last (put_by e) (put_in events))),
      rest.1 ∙ last,
    )

-- the SENDs that were accepted are those that were put, in order, numbered from 1
pub each_accepted_once : (events : List BookEvent) (b : Book) → Run empty_book events b
    → (taken_in events ++ b.accepted ≡ numbered 0 (put_in events)) × (b.last ≡ length (put_in events))
each_accepted_once events b h =
    let all = run_counts events empty_book b h in (all.0, omega (arith, all.1))
