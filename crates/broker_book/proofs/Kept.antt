-- Along a run each number stands for one living message, or was ended once.
use Rattle.std.proofs.Common.{◌≡◌, ℕ, ◌+◌, ◌≤◌, Bool, true, false, not, cond, List, [], ◌∷◌, ◌++◌, map, refl, sym, ap}
use Rattle.std.proofs.Common.{◌∙◌, subst, arith}
use Rattle.std.proofs.Common.{Option, Some, None, Ok, append_assoc}
use Rattle.std.proofs.lemmas.List.{append-nil}
use Rattle.std.proofs.lemmas.Bool.Decides.{nat_tests}
use Rattle.std.specs.Prelude.{count_by, filter, ◌==◌, nat_le, nat_lt, ◌&&◌, if◌then◌else◌}
use Rattle.std.specs.List.{list_any}
use Rattle.broker_book.specs.declared.parts.Subscription.{Subscription}
use Rattle.broker_book.specs.Books.{Book, QueuedMessage, Fate, Ready, Out, empty_book, out_to, out_of, is_auto}
use Rattle.broker_book.specs.Steps.{Handed, Deal, left_of, acked, nacked, holder, covered, ready_if, subscribed}
use Rattle.broker_book.specs.Steps.{released, ended}
use Rattle.broker_book.specs.Runs.{BookEvent, Puts, Hands, Acks, Nacks, Subscribes, Releases, Ends, Takes, BookStep}
use Rattle.broker_book.specs.Runs.{Run}
use Rattle.broker_book.specs.Runs.{ended_by, ended_in}
use Rattle.broker_book.specs.Runs.{numbers_covered}
use Rattle.broker_book.specs.Laws.{is_numbered, IsKept}
use Rattle.broker_book.proofs.Counts.{count-cons, count-append, count-parts, count-map, any-count}
use Rattle.broker_book.proofs.Numbers.{put_is}

-- the living messages of a number
abbrev here : ℕ → List QueuedMessage → ℕ
here n ms = count_by (is_numbered n) ms

-- how often a number was ended
abbrev gone : ℕ → List ℕ → ℕ
gone n numbers = count_by (λ (e : ℕ). e == n) numbers

-- how often it is to be somewhere
abbrev due : ℕ → ℕ → ℕ
due n last = if nat_le 1 n && nat_le n last then 1 else 0

-- what an event adds to the last number, it adds to the living and the ended
abbrev Balances : Book → Book → List ℕ → Type 0
Balances old new numbers =
    (n : ℕ) → here n new.living + gone n numbers + due n old.last ≡ here n old.living + due n new.last

due-more : (n last : ℕ) → cond (last + 1 == n) 1 0 + due n last ≡ due n (last + 1)
due-more n last = grind (arith, nat_tests)

-- ---- one event

same_living : (old new : Book) → ((n : ℕ) → here n new.living ≡ here n old.living) → new.last ≡ old.last
    → Balances old new []
same_living old new h l n =
    let e : due n new.last ≡ due n old.last = ap (λ (k : ℕ). due n k) l in omega (arith, h n)

ready_number : (b : Bool) (m : QueuedMessage) → (if b then record m { fate = Ready } else m).number ≡ m.number
ready_number true m = refl
ready_number false m = refl

ready_here : (test : Fate → Bool) (n : ℕ) (ms : List QueuedMessage) → here n (map (ready_if test) ms) ≡ here n ms
ready_here test n ms =
    count-map (is_numbered n) (ready_if test) ms
    ∙ (λ i. count_by (λ (m : QueuedMessage). ready_number (test m.fate) m i == n) ms)

put_balances : (old : Book) (m : QueuedMessage) (n : ℕ) → m.number ≡ old.last + 1
    → here n (old.living ++ m ∷ []) + gone n [] + due n old.last ≡ here n old.living + due n (old.last + 1)
put_balances old m n e =
    let c = count-cons (is_numbered n) m [] in
    let a = count-append (is_numbered n) old.living (m ∷ []) in
    let d : cond (m.number == n) 1 0 + due n old.last ≡ due n (old.last + 1) = rw e (due-more n old.last) in
    omega arith

-- a message that goes out is still there, or ended
deal_here : (n : ℕ) (front back : List QueuedMessage) (m : QueuedMessage) (s : Subscription) (number given : ℕ)
    (b : Bool) (ack : Option ℕ)
    → number ≡ m.number → ack ≡ (if b then None else Some given)
    → here n (front ++ (left_of m s ack ++ back)) + gone n (if b then number ∷ [] else []) ≡ here n (front ++ m ∷ back)
deal_here n front back m s number given true ack e a = rw (e, a) (
    let w = count-append (is_numbered n) front (m ∷ back) in
    let v = count-append (is_numbered n) front back in
    let c = count-cons (is_numbered n) m back in
    let g = count-cons (λ (k : ℕ). k == n) m.number [] in
    omega arith)
deal_here n front back m s number given false ack e a = rw a (
    let w = count-append (is_numbered n) front (m ∷ back) in
    let v = count-append (is_numbered n) front (record m { fate = Out s.session s.id given } ∷ back) in
    let c = count-cons (is_numbered n) m back in
    let d = count-cons (is_numbered n) (record m { fate = Out s.session s.id given }) back in
    omega arith)

deal_balances : (old new : Book) (d : Handed) → Deal old d new → Balances old new (ended_by (Hands d))
deal_balances old new d h n = rw h.changed (
    let here_is =
    deal_here n h.front h.back h.message d.to d.number (old.given + 1) (is_auto d.to.mode) d.ack h.number h.ack in
    let found : here n old.living ≡ here n (h.front ++ h.message ∷ h.back) =
    ap (λ (l : List QueuedMessage). here n l) h.found in
    omega (arith, here_is, found))

ack_balances : (old new : Book) (number : ℕ) (o : Option Subscription) → acked old number o ≡ Ok new
    → Balances old new (numbers_covered old number o)
ack_balances old new number None h n = absurd cc
ack_balances old new number (Some s) h n =
    let e : record old { living = filter (λ (m : QueuedMessage). not (covered s number m.fate)) old.living } ≡ new =
    cc in
    rw (← e) (
    let parts = count-parts (is_numbered n) (λ (m : QueuedMessage). covered s number m.fate) old.living in
    let reached = filter (λ (m : QueuedMessage). covered s number m.fate) old.living in
    let answered = count-map (λ (k : ℕ). k == n) (λ (m : QueuedMessage). m.number) reached in
    omega (arith, parts, answered))

nack_balances : (old new : Book) (number : ℕ) (o : Option Subscription) → nacked old number o ≡ Ok new
    → Balances old new []
nack_balances old new number None h n = absurd cc
nack_balances old new number (Some s) h n =
    let e : record old { living = map (ready_if (covered s number)) old.living } ≡ new = cc in
    rw (← e) (same_living old (record old { living = map (ready_if (covered s number)) old.living })
    (λ k. ready_here (covered s number) k old.living) refl n)

event_balances : (old new : Book) (e : BookEvent) → BookStep old e new → Balances old new (ended_by e)
event_balances old new (Puts full sent) h = rw (put_is full old sent new h)
    (λ n. put_balances old (record { number = old.last + 1; sent = sent; fate = Ready }) n refl)
event_balances old new (Hands d) h = deal_balances old new d h
event_balances old new (Acks session number numbers) h =
    rw h.1 (ack_balances old new number (holder old session number) h.0)
event_balances old new (Nacks session number) h = nack_balances old new number (holder old session number) h
event_balances old new (Subscribes s) h = rw h.1 (same_living old (subscribed old s) (λ n. refl) refl)
event_balances old new (Releases session id) h = rw h
    (same_living old (released old session id) (λ n. ready_here (out_to session id) n old.living) refl)
event_balances old new (Ends session) h = rw h
    (same_living old (ended old session) (λ n. ready_here (out_of session) n old.living) refl)
event_balances old new (Takes accepted) h = rw h.1 (same_living old (record old { accepted = [] }) (λ n. refl) refl)

-- ---- runs

kept_more : (old new : Book) (before now : List ℕ) → Balances old new now → IsKept old before
    → IsKept new (before ++ now)
kept_more old new before now h k n = omega (arith, h n, k n, count-append (λ (e : ℕ). e == n) before now)

run_kept : (events : List BookEvent) (old new : Book) (before : List ℕ) → Run old events new → IsKept old before
    → IsKept new (before ++ ended_in events)
run_kept [] old new before h k = rw h (subst (λ l. IsKept old l) (sym (append-nil before)) k)
run_kept (e ∷ events) old new before h k =
    let now = kept_more old h.0 before (ended_by e) (event_balances old h.0 e h.1) k in
    subst (λ l. IsKept new l) (append_assoc before (ended_by e) (ended_in events))
    (run_kept events h.0 new (before ++ ended_by e) h.2 now)

start_kept : IsKept empty_book []
start_kept n = grind (arith, nat_tests)

-- along a run from the empty book no message is lost, and none is there twice
pub messages_kept : (events : List BookEvent) (b : Book) → Run empty_book events b → IsKept b (ended_in events)
messages_kept events b h = run_kept events empty_book b [] h start_kept

-- ---- in plain words

either_one : (a b n last : ℕ) → 1 ≤ n → n ≤ last → a + b ≡ due n last → nat_lt 0 a ≡ not (nat_lt 0 b)
either_one a b n last low high h = grind (arith, nat_tests)

-- each number that was given is that of a living message or of an ended one, and not of both
pub nothing_lost : (events : List BookEvent) (b : Book) → Run empty_book events b → (n : ℕ) → 1 ≤ n → n ≤ b.last
    → list_any (is_numbered n) b.living ≡ not (list_any (λ e. e == n) (ended_in events))
nothing_lost events b h n low high =
    any-count (is_numbered n) b.living
    ∙ either_one _ _ n b.last low high (messages_kept events b h n)
    ∙ ap not (sym (any-count (λ (e : ℕ). e == n) (ended_in events)))
