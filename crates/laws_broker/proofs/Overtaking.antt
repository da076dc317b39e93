-- No message overtakes an earlier one of its queue.
use Rattle.std.proofs.Common.{◌≡◌, ℕ, ◌+◌, ◌-◌, ◌<◌, ◌≤◌, Bool, true, false, not, cond, List, [], ◌∷◌, ◌++◌, map}
use Rattle.std.proofs.Common.{length, refl, sym, ap}
use Rattle.std.proofs.Common.{◌∙◌}
use Rattle.std.proofs.Common.{subst, arith, Option, Some, None, Ok, append_assoc, append-nil, suc, zero}
use Rattle.std.proofs.lemmas.Bool.{and_parts, and_from, or_left, or_right, eqb-true, eq-eqb}
use Rattle.std.proofs.lemmas.Bool.Decides.{nat_tests}
use Rattle.std.specs.Prelude.{filter, find, ◌==◌, ◌&&◌, ◌||◌, if◌then◌else◌, nat_le}
use Rattle.std.specs.List.{list_any, slice_get, AllByRecursion}
use Rattle.std.specs.Str.{bytes_eq}
use Rattle.broker_book.specs.Books.{Book, QueuedMessage, Fate, Ready, Out, empty_book, is_ready, is_ready_fate, is_due}
use Rattle.broker_book.specs.Books.{has_credit}
use Rattle.broker_book.specs.Books.{may_take}
use Rattle.broker_book.specs.Books.{out_to, out_of}
use Rattle.broker_book.specs.Laws.{RiseTo, IsOrderly, as_accepted, numbered}
use Rattle.broker_book.specs.Runs.{BookEvent, Puts, Hands, Acks, Nacks, Subscribes, Releases, Ends, Takes, BookStep}
use Rattle.broker_book.specs.Runs.{Run}
use Rattle.broker_book.specs.Runs.{put_by, put_in}
use Rattle.broker_book.specs.Steps.{Handed, Deal, left_of, acked, nacked, holder, covered, ready_if}
use Rattle.broker_book.specs.declared.parts.Accepted.{Accepted}
use Rattle.broker_book.specs.declared.parts.Sent.{Sent}
use Rattle.broker_book.specs.declared.parts.Subscription.{Subscription}
use Rattle.broker_book.proofs.Numbers.{each_accepted_once, numbered-append, put_is}
use Rattle.broker_book.proofs.Orderly.{books_orderly}
use Rattle.laws_broker.specs.Runs.{StandsIn, hands_by, hands_in, was_handed}
use Rattle.broker_book.proofs.AsPut.{run_passes}
use Rattle.laws_broker.proofs.Standing.{numbered_stand}

-- ---- lists with one that passes

or_more : (b r q : Bool) → (b || r) ≡ true → (r ≡ true → q ≡ true) → (b || q) ≡ true
or_more true r q h f = refl
or_more false r q h f = f h

any-append : {X : Type 0} (p : X → Bool) (xs ys : List X) → list_any p xs ≡ true → list_any p (xs ++ ys) ≡ true
any-append p [] ys h = absurd cc
any-append p (x ∷ xs) ys h = or_more (p x) (list_any p xs) (list_any p (xs ++ ys)) h (any-append p xs ys)

any_last : {X : Type 0} (p : X → Bool) (xs : List X) (x : X) → p x ≡ true → list_any p (xs ++ x ∷ []) ≡ true
any_last p [] x h = or_left (p x) false h
any_last p (y ∷ xs) x h = or_right (p y) (list_any p (xs ++ x ∷ [])) (any_last p xs x h)

any_kept : {X : Type 0} (p : X → Bool) (x : X) (kept : List X) (a b r : Bool) → p x ≡ a → (a ≡ true → b ≡ true)
    → (a || r) ≡ true
    → (r ≡ true → list_any p kept ≡ true) → list_any p (cond b (x ∷ kept) kept) ≡ true
any_kept p x kept true true r e k h f = or_left (p x) (list_any p kept) e
any_kept p x kept true false r e k h f = let z = k refl in absurd cc
any_kept p x kept false true r e k h f = or_right (p x) (list_any p kept) (f h)
any_kept p x kept false false r e k h f = f h

any-filter : {X : Type 0} (p q : X → Bool) (xs : List X) → ((x : X) → p x ≡ true → q x ≡ true) → list_any p xs ≡ true
    → list_any p (filter q xs) ≡ true
any-filter p q [] k h = h
any-filter p q (x ∷ xs) k h = any_kept p x (filter q xs) (p x) (q x) (list_any p xs) refl (k x) h (any-filter p q xs k)

either_way : (a b c d : Bool) → (a ≡ true → c ≡ true) → (b ≡ true → d ≡ true) → (a || b) ≡ true → (c || d) ≡ true
either_way true b c d f g h = or_left c d (f refl)
either_way false b c d f g h = or_right c d (g h)

any-map : {X : Type 0} (p : X → Bool) (f : X → X) (xs : List X) → ((x : X) → p x ≡ true → p (f x) ≡ true)
    → list_any p xs ≡ true
    → list_any p (map f xs) ≡ true
any-map p f [] k h = h
any-map p f (x ∷ xs) k h =
    either_way (p x) (list_any p xs) (p (f x)) (list_any p (map f xs)) (k x) (any-map p f xs k) h

found_any : {X : Type 0} (p : X → Bool) (x : X) (xs : List X) (y : X) (b : Bool)
    → (find p xs ≡ Some y → list_any p xs ≡ true)
    → cond b (Some x) (find p xs) ≡ Some y → (b || list_any p xs) ≡ true
found_any p x xs y true k h = refl
found_any p x xs y false k h = k h

find-any : {X : Type 0} (p : X → Bool) (xs : List X) (y : X) → find p xs ≡ Some y → list_any p xs ≡ true
find-any p [] y h = absurd cc
find-any p (x ∷ xs) y h = found_any p x xs y (p x) (find-any p xs y) h

-- ---- what waits to be handed out

-- whether a message has this number and is ready
abbrev is_waiting : ℕ → QueuedMessage → Bool
is_waiting n m = m.number == n && is_ready m

-- each message was handed out, or waits
abbrev AllWait : List Handed → Book → Type 0
AllWait handed b = (n : ℕ) → 1 ≤ n → n ≤ b.last → (was_handed handed n || list_any (is_waiting n) b.living) ≡ true

uncovered : (s : Subscription) (k : ℕ) (f : Fate) → is_ready_fate f ≡ true → not (covered s k f) ≡ true
uncovered s k Ready h = refl
uncovered s k (Out session id number) h = absurd cc

waiting_uncovered : (s : Subscription) (k n : ℕ) (m : QueuedMessage) → is_waiting n m ≡ true
    → not (covered s k m.fate) ≡ true
waiting_uncovered s k n m h = uncovered s k m.fate (and_parts (m.number == n) (is_ready m) h).1

ready_waits : (b : Bool) (n : ℕ) (m : QueuedMessage) → is_waiting n m ≡ true
    → is_waiting n (if b then record m { fate = Ready } else m) ≡ true
ready_waits true n m h = and_from (m.number == n) true (and_parts (m.number == n) (is_ready m) h).0 refl
ready_waits false n m h = h

-- the living are others, and of those that waited each still does
still_wait : (handed : List Handed) (old new : Book) → new.last ≡ old.last
    → ((n : ℕ) → list_any (is_waiting n) old.living ≡ true → list_any (is_waiting n) new.living ≡ true)
    → AllWait handed old
    → AllWait handed new
still_wait handed old new e k h n low high =
    or_more (was_handed handed n) (list_any (is_waiting n) old.living) (list_any (is_waiting n) new.living)
    (h n low (omega arith)) (k n)

put_wait : (handed : List Handed) (old : Book) (m : QueuedMessage) (n : ℕ) (b : Bool) → nat_le n old.last ≡ b
    → m.number ≡ old.last + 1
    → is_ready m ≡ true → AllWait handed old → 1 ≤ n → n ≤ old.last + 1
    → (was_handed handed n || list_any (is_waiting n) (old.living ++ m ∷ [])) ≡ true
put_wait handed old m n true e number ready h low high =
    or_more (was_handed handed n) (list_any (is_waiting n) old.living) (list_any (is_waiting n) (old.living ++ m ∷ []))
    (h n low (grind (arith, nat_tests))) (any-append (is_waiting n) old.living (m ∷ []))
put_wait handed old m n false e number ready h low high =
    let k : m.number ≡ n = grind (arith, nat_tests) in
    or_right (was_handed handed n) (list_any (is_waiting n) (old.living ++ m ∷ []))
    (any_last (is_waiting n) old.living m (and_from (m.number == n) (is_ready m) (eq-eqb m.number n k) ready))

-- a message of another number goes out
any_dealt : (n : ℕ) (front back : List QueuedMessage) (m : QueuedMessage) (s : Subscription) (ack : Option ℕ)
    → (m.number == n) ≡ false
    → list_any (is_waiting n) (front ++ m ∷ back) ≡ true
    → list_any (is_waiting n) (front ++ (left_of m s ack ++ back)) ≡ true
any_dealt n [] back m s None e h = rw e at h
any_dealt n [] back m s (Some k) e h =
    or_right (is_waiting n (record m { fate = Out s.session s.id k })) (list_any (is_waiting n) back) (rw e at h)
any_dealt n (x ∷ front) back m s ack e h =
    or_more (is_waiting n x) (list_any (is_waiting n) (front ++ m ∷ back))
    (list_any (is_waiting n) (front ++ (left_of m s ack ++ back))) h
    (any_dealt n front back m s ack e)

deal_waits : (handed : List Handed) (old new : Book) (d : Handed) → Deal old d new → AllWait handed old → (n : ℕ)
    → 1 ≤ n → n ≤ new.last
    → (b : Bool) → (d.number == n) ≡ b → (was_handed (handed ++ d ∷ []) n || list_any (is_waiting n) new.living) ≡ true
deal_waits handed old new d h k n low high true e =
    or_left (was_handed (handed ++ d ∷ []) n) (list_any (is_waiting n) new.living)
    (any_last (λ (x : Handed). x.number == n) handed d e)
deal_waits handed old new d h k n low high false e =
    let other : (h.message.number == n) ≡ false = ap (λ (x : ℕ). x == n) (sym h.number) ∙ e in
    let last : new.last ≡ old.last = ap (λ (b : Book). b.last) h.changed in
    let before = h.front ++ h.message ∷ h.back in
    let behind = h.front ++ (left_of h.message d.to d.ack ++ h.back) in
    let is : new.living ≡ behind = ap (λ (b : Book). b.living) h.changed in
    either_way (was_handed handed n) (list_any (is_waiting n) old.living) (was_handed (handed ++ d ∷ []) n)
    (list_any (is_waiting n) new.living) (any-append (λ (x : Handed). x.number == n) handed (d ∷ []))
    (λ w. ap (list_any (is_waiting n)) is
    ∙ any_dealt n h.front h.back h.message d.to d.ack other (ap (list_any (is_waiting n)) (sym h.found) ∙ w))
    (k n low (omega (arith, last, high)))

ack_waits : (handed : List Handed) (old new : Book) (number : ℕ) (o : Option Subscription) → acked old number o ≡ Ok new
    → AllWait handed old → AllWait handed new
ack_waits handed old new number None h k = absurd cc
ack_waits handed old new number (Some s) h k =
    let left = λ (m : QueuedMessage). not (covered s number m.fate) in
    let e : record old { living = filter left old.living } ≡ new = cc in
    rw (← e) (still_wait handed old (record old { living = filter left old.living }) refl
    (λ n. any-filter (is_waiting n) left old.living (waiting_uncovered s number n)) k)

ready_wait : (handed : List Handed) (old new : Book) (test : Fate → Bool) → new.last ≡ old.last
    → new.living ≡ map (ready_if test) old.living → AllWait handed old → AllWait handed new
ready_wait handed old new test e l k =
    still_wait handed old new e (λ n h. ap (list_any (is_waiting n)) l
    ∙ any-map (is_waiting n) (ready_if test) old.living (λ m. ready_waits (test m.fate) n m) h) k

nack_waits : (handed : List Handed) (old new : Book) (number : ℕ) (o : Option Subscription)
    → nacked old number o ≡ Ok new
    → AllWait handed old → AllWait handed new
nack_waits handed old new number None h k = absurd cc
nack_waits handed old new number (Some s) h k =
    let e : record old { living = map (ready_if (covered s number)) old.living } ≡ new = cc in
    ready_wait handed old new (covered s number) (ap (λ (b : Book). b.last) (sym e))
    (ap (λ (b : Book). b.living) (sym e)) k

-- nothing is handed out
none_more : (handed : List Handed) (b : Book) → AllWait handed b → AllWait (handed ++ []) b
none_more handed b h = subst (λ l. AllWait l b) (sym (append-nil handed)) h

event_waits : (handed : List Handed) (old new : Book) (e : BookEvent) → BookStep old e new → AllWait handed old
    → AllWait (handed ++ hands_by e) new
event_waits handed old new (Puts full sent) h k =
    none_more handed new (rw (put_is full old sent new h)
    (λ n low high. put_wait handed old (record { number = old.last + 1; sent = sent; fate = Ready }) n
    (nat_le n old.last) refl refl refl k
    low high))
event_waits handed old new (Hands d) h k = λ n low high. deal_waits handed old new d h k n low high (d.number == n) refl
event_waits handed old new (Acks session number numbers) h k =
    none_more handed new (ack_waits handed old new number (holder old session number) h.0 k)
event_waits handed old new (Nacks session number) h k =
    none_more handed new (nack_waits handed old new number (holder old session number) h k)
event_waits handed old new (Subscribes s) h k = none_more handed new (rw h.1 k)
event_waits handed old new (Releases session id) h k =
    none_more handed new
    (ready_wait handed old new (out_to session id) (ap (λ (b : Book). b.last) h) (ap (λ (b : Book). b.living) h) k)
event_waits handed old new (Ends session) h k =
    none_more handed new
    (ready_wait handed old new (out_of session) (ap (λ (b : Book). b.last) h) (ap (λ (b : Book). b.living) h) k)
event_waits handed old new (Takes accepted) h k = none_more handed new (rw h.1 k)

run_waits : (handed : List Handed) (events : List BookEvent) (old new : Book) → Run old events new → AllWait handed old
    → AllWait (handed ++ hands_in events) new
run_waits handed [] old new h k = none_more handed new (rw h k)
run_waits handed (e ∷ events) old new h k =
    subst (λ l. AllWait l new) (append_assoc handed (hands_by e) (hands_in events))
    (run_waits (handed ++ hands_by e) events h.0 new h.2 (event_waits handed old h.0 e h.1 k))

start_waits : AllWait [] empty_book
start_waits n low high = absurd (omega arith)

-- ---- the run up to where a message is handed out

pub record Parted (old : Book) (events : List BookEvent) (before : List Handed) (d : Handed) : Type 0 where
  pub front : List BookEvent
  pub mid : Book
  pub after : Book
  pub more : List Sent
  pub run : Run old front mid
  pub deal : Deal mid d after
  pub handed : hands_in front ≡ before
  pub put : put_in events ≡ put_in front ++ more

-- an event that hands nothing out
further : (old mid : Book) (e : BookEvent) (events : List BookEvent) (before : List Handed) (d : Handed)
    → BookStep old e mid
    → hands_by e ≡ []
    → Parted mid events before d → Parted old (e ∷ events) before d
further old mid e events before d h n p = record {
  front = e ∷ p.front;
  mid = p.mid;
  after = p.after;
  more = p.more;
  run = (mid, h, p.run);
  deal = p.deal;
  handed = ap (λ l. l ++ hands_in p.front) n ∙ p.handed;
  put = ap (λ l. put_by e ++ l) p.put ∙ sym (append_assoc (put_by e) (put_in p.front) p.more);
}

parted : (events : List BookEvent) (old new : Book) → Run old events new → (before behind : List Handed) (d : Handed)
    → hands_in events ≡ before ++ d ∷ behind → Parted old events before d
parted [] old new h [] behind d e = absurd cc
parted [] old new h (x ∷ before) behind d e = absurd cc
parted (Hands x ∷ events) old new h [] behind d e =
    let k : x ≡ d = cc in
    record {
      front = [];
      mid = old;
      after = h.0;
      more = put_in events;
      run = refl;
      deal = subst (λ y. Deal old y h.0) k h.1;
      handed = refl;
      put = refl;
    }
parted (Hands x ∷ events) old new h (y ∷ before) behind d e =
    let k : x ≡ y = cc in
    let l : hands_in events ≡ before ++ d ∷ behind = cc in
    let p = parted events h.0 new h.2 before behind d l in
    record {
      front = Hands x ∷ p.front;
      mid = p.mid;
      after = p.after;
      more = p.more;
      run = (h.0, h.1, p.run);
      deal = p.deal;
      handed = (λ i. k i ∷ p.handed i);
      put = p.put;
    }
parted (Puts full sent ∷ events) old new h before behind d e =
    further old h.0 (Puts full sent) events before d h.1 refl (parted events h.0 new h.2 before behind d e)
parted (Acks session number numbers ∷ events) old new h before behind d e =
    further old h.0 (Acks session number numbers) events before d h.1 refl (parted events h.0 new h.2 before behind d e)
parted (Nacks session number ∷ events) old new h before behind d e =
    further old h.0 (Nacks session number) events before d h.1 refl (parted events h.0 new h.2 before behind d e)
parted (Subscribes s ∷ events) old new h before behind d e =
    further old h.0 (Subscribes s) events before d h.1 refl (parted events h.0 new h.2 before behind d e)
parted (Releases session id ∷ events) old new h before behind d e =
    further old h.0 (Releases session id) events before d h.1 refl (parted events h.0 new h.2 before behind d e)
parted (Ends session ∷ events) old new h before behind d e =
    further old h.0 (Ends session) events before d h.1 refl (parted events h.0 new h.2 before behind d e)
parted (Takes accepted ∷ events) old new h before behind d e =
    further old h.0 (Takes accepted) events before d h.1 refl (parted events h.0 new h.2 before behind d e)

-- ---- what waits before a message that goes out

none_above : (n low last : ℕ) (ms : List QueuedMessage) → RiseTo low last ms → n ≤ low
    → list_any (is_waiting n) ms ≡ false
none_above n low last [] r h = refl
none_above n low last (m ∷ ms) r h =
    let above = r.0 in
    let e : (m.number == n) ≡ false = grind (arith, nat_tests) in
    rw e (none_above n m.number last ms r.1 (omega arith))

in_front : (n low last : ℕ) (front back : List QueuedMessage) (m : QueuedMessage) → RiseTo low last (front ++ m ∷ back)
    → n < m.number
    → list_any (is_waiting n) (front ++ m ∷ back) ≡ true → list_any (is_waiting n) front ≡ true
in_front n low last [] back m r less h =
    let e : (m.number == n) ≡ false = grind (arith, nat_tests) in
    let k : list_any (is_waiting n) back ≡ true = rw e at h in
    absurd (let z = none_above n m.number last back r.1 (omega arith) in cc)
in_front n low last (x ∷ front) back m r less h =
    or_more (is_waiting n x) (list_any (is_waiting n) (front ++ m ∷ back)) (list_any (is_waiting n) front) h
    (in_front n x.number last front back m r.1 less)

number_below : (low last : ℕ) (front back : List QueuedMessage) (m : QueuedMessage)
    → RiseTo low last (front ++ m ∷ back) → m.number ≤ last
number_below low last [] [] m r = r.1
number_below low last [] (x ∷ back) m r =
    let k = number_below m.number last [] back x r.1 in let l = r.1.0 in omega arith
number_below low last (x ∷ front) back m r = number_below x.number last front back m r.1

-- one of these messages has the number, is ready, isn't due, and is the accepted SEND of its number
pub record Waits (accepted : List Accepted) (b : Book) (n : ℕ) : Type 0 where
  pub message : QueuedMessage
  pub number : message.number ≡ n
  pub ready : is_ready message ≡ true
  pub not_due : is_due b message ≡ false
  pub stands : StandsIn accepted (as_accepted message)

waits_here : (accepted : List Accepted) (b : Book) (n : ℕ) (m : QueuedMessage) (ms : List QueuedMessage) (w : Bool)
    → is_waiting n m ≡ w
    → (w || list_any (is_waiting n) ms) ≡ true → is_due b m ≡ false → StandsIn accepted (as_accepted m)
    → (list_any (is_waiting n) ms ≡ true → Waits accepted b n) → Waits accepted b n
waits_here accepted b n m ms true e h due stands rest =
    let k = and_parts (m.number == n) (is_ready m) e in
    record { message = m; number = eqb-true m.number n k.0; ready = k.1; not_due = due; stands = stands }
waits_here accepted b n m ms false e h due stands rest = rest h

neither : (a b : Bool) → (a || b) ≡ false → (a ≡ false) × (b ≡ false)
neither true b e = absurd cc
neither false b e = (refl, e)

waits_in : (accepted : List Accepted) (b : Book) (n : ℕ) (front back : List QueuedMessage)
    → list_any (is_waiting n) front ≡ true
    → list_any (is_due b) front ≡ false → AllByRecursion (StandsIn accepted) (map as_accepted (front ++ back))
    → Waits accepted b n
waits_in accepted b n [] back h due stand = absurd cc
waits_in accepted b n (m ∷ front) back h due stand =
    let k = neither (is_due b m) (list_any (is_due b) front) due in
    waits_here accepted b n m front (is_waiting n m) refl h k.0 stand.0 (λ j. waits_in accepted b n front back j k.1
    stand.1)

-- ---- so none overtakes

-- a ready message of the same queue as one that can go out can too
would_go : (b : Book) (m x : QueuedMessage) → is_ready x ≡ true → x.sent.destination ≡ m.sent.destination
    → list_any (may_take b m) b.subscriptions ≡ true → is_due b x ≡ true
would_go b m x ready e may =
    and_from (is_ready x) (list_any (may_take b x) b.subscriptions) ready
    (ap (λ (l : List ℕ). list_any (λ s. bytes_eq s.destination l && has_credit b s) b.subscriptions) e ∙ may)

-- an item of a list that goes on
got_before : {X : Type 0} (xs ys : List X) (i : ℕ) → i < length xs → slice_get (xs ++ ys) i ≡ slice_get xs i
got_before [] ys i h = absurd (omega arith)
got_before (x ∷ xs) ys zero h = refl
got_before (x ∷ xs) ys (suc i) h = got_before xs ys i (omega arith)

-- the number of an item
numbered_number : (last : ℕ) (ss : List Sent) (i : ℕ) (a : Accepted) → slice_get (numbered last ss) i ≡ Some a
    → a.number ≡ last + i + 1
numbered_number last [] i a h = absurd cc
numbered_number last (s ∷ ss) zero a h =
    let k : record { number = last + 1; sent = s } ≡ a = cc in
    let l : last + 1 ≡ a.number = ap (λ (x : Accepted). x.number) k in omega arith
numbered_number last (s ∷ ss) (suc i) a h = let k = numbered_number (last + 1) ss i a h in omega arith

numbered_length : (last : ℕ) (ss : List Sent) → length (numbered last ss) ≡ length ss
numbered_length last [] = refl
numbered_length last (s ∷ ss) = let k = numbered_length (last + 1) ss in omega arith

-- where it was not handed out it waits, in front of the message, and so would have gone before it
waits_not : (accepted : List Accepted) (old new : Book) (d : Handed) (a : Accepted) → Deal old d new → IsOrderly old
    → AllByRecursion (StandsIn accepted) (map as_accepted old.living) → StandsIn accepted a → a.number < d.number
    → a.sent.destination ≡ d.sent.destination → list_any (is_waiting a.number) old.living ≡ true → ⊥
waits_not accepted old new d a h o stand stands less same w =
    let n = a.number in
    let rising : RiseTo 0 old.last (h.front ++ h.message ∷ h.back) =
    subst (λ l. RiseTo 0 old.last l) h.found o.rising in
    let below : n < h.message.number = let e = h.number in omega arith in
    let found : list_any (is_waiting n) (h.front ++ h.message ∷ h.back) ≡ true =
    ap (list_any (is_waiting n)) (sym h.found) ∙ w in
    let front = in_front n 0 old.last h.front h.back h.message rising below found in
    let stood = subst (λ l. AllByRecursion (StandsIn accepted) (map as_accepted l)) h.found stand in
    let m = waits_in accepted old n h.front (h.message ∷ h.back) front h.first stood in
    let at_its : slice_get accepted (a.number - 1) ≡ Some (as_accepted m.message)
    = ap (λ k. slice_get accepted (k - 1)) (sym m.number) ∙ m.stands in
    let one : as_accepted m.message ≡ a = let z = stands in cc in
    let queue : m.message.sent.destination ≡ h.message.sent.destination
    = ap (λ (x : Accepted). x.sent.destination) one ∙ same ∙ ap (λ (x : Sent). x.destination) h.sent in
    let due = would_go old h.message m.message m.ready queue (find-any (may_take old h.message) old.subscriptions d.to
    h.oldest) in
    let not_due = m.not_due in
    (let z : true ≡ false = sym due ∙ not_due in absurd cc)

either_handed : (a b : Bool) → (a || b) ≡ true → (b ≡ true → ⊥) → a ≡ true
either_handed true b h never = refl
either_handed false b h never = absurd (never h)

-- along a run from the empty book
pub none_overtake : (events : List BookEvent) (b : Book) → Run empty_book events b
    → (before behind : List Handed) (d : Handed)
    → hands_in events ≡ before ++ d ∷ behind → (a : Accepted) → StandsIn (numbered 0 (put_in events)) a
    → a.number < d.number
    → a.sent.destination ≡ d.sent.destination → was_handed before a.number ≡ true
none_overtake events b run before behind d e a stands less same =
    let p = parted events empty_book b run before behind d e in
    let h = p.deal in
    let puts = put_in p.front in
    let o = books_orderly p.front p.mid p.run in
    let counts = each_accepted_once p.front p.mid p.run in
    let all : numbered 0 (put_in events) ≡ numbered 0 puts ++ numbered (0 + length puts) p.more
    = ap (λ l. numbered 0 l) p.put ∙ numbered-append 0 puts p.more in
    let number = numbered_number 0 (put_in events) (a.number - 1) a stands in
    let low : 1 ≤ a.number = omega (arith, number) in
    let top =
    number_below 0 p.mid.last h.front h.back h.message (subst (λ l. RiseTo 0 p.mid.last l) h.found o.rising) in
    let same_number = h.number in
    let high : a.number ≤ p.mid.last = omega (arith, top, same_number) in
    let long = numbered_length 0 puts in
    let count = counts.1 in
    let within : a.number - 1 < length (numbered 0 puts) = omega (arith, long, count, high, low) in
    let stood : StandsIn (numbered 0 puts) a
    = sym (got_before (numbered 0 puts) (numbered (0 + length puts) p.more) (a.number - 1) within)
    ∙ ap (λ l. slice_get l (a.number - 1)) (sym all) ∙ stands in
    let living =
    (run_passes (StandsIn (numbered 0 puts)) p.front empty_book p.mid p.run tt (numbered_stand [] 0 puts refl)).0 in
    let waits = run_waits [] p.front empty_book p.mid p.run start_waits a.number low high in
    let done : was_handed (hands_in p.front) a.number ≡ true
    = either_handed (was_handed (hands_in p.front) a.number) (list_any (is_waiting a.number) p.mid.living) waits
    (waits_not (numbered 0 puts) p.mid p.after d a h o living stood less same) in
    ap (λ l. was_handed l a.number) (sym p.handed) ∙ done
