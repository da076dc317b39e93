-- Each message that is handed out was sent.
use Rattle.std.proofs.Common.{◌≡◌, ℕ, suc, zero, ◌+◌, ◌≤◌, Bool, true, false, cond, List, [], ◌∷◌, map, refl, sym, ap}
use Rattle.std.proofs.Common.{◌∙◌, arith}
use Rattle.std.proofs.Common.{Some}
use Rattle.std.proofs.lemmas.Bool.{and_parts, and_from}
use Rattle.std.proofs.lemmas.Bool.Decides.{nat_tests}
use Rattle.std.proofs.lemmas.Slice.Eq.{bytes_eq-Decides}
use Rattle.std.specs.Prelude.{count_by, ◌&&◌, ◌||◌, nat_lt}
use Rattle.std.specs.List.{AllByRecursion, Contains, list_any, slice_get}
use Rattle.std.specs.Str.{bytes_eq}
use Rattle.stomp_frame.specs.Frames.{Header}
use Rattle.broker_book.specs.Steps.{Handed}
use Rattle.broker_book.specs.declared.parts.Accepted.{Accepted}
use Rattle.broker_book.specs.declared.parts.Sent.{Sent}
use Rattle.broker_book.proofs.Counts.{any-count, count-cons}
use Rattle.broker_core.specs.Calls.{empty}
use Rattle.laws_broker.specs.Deeds.{BrokerDeed, Brings, Acknowledges, Returns, MessagesWereSent, asked_in, brings}
use Rattle.laws_broker.specs.Lives.{accepted_in, dealt_in}
use Rattle.laws_broker.specs.Runs.{StandsIn, brought}
use Rattle.laws_broker.proofs.Accounts.{were_accepted, were_sent}

-- ---- whether two SENDs bring the same

abbrev same_headers : List Header → List Header → Bool
same_headers [] [] = true
same_headers [] (b ∷ ys) = false
same_headers (a ∷ xs) [] = false
same_headers (a ∷ xs) (b ∷ ys) = (bytes_eq a.name b.name && bytes_eq a.value b.value) && same_headers xs ys

abbrev same_sent : Sent → Sent → Bool
same_sent a b = (bytes_eq a.destination b.destination && bytes_eq a.body b.body) && same_headers a.headers b.headers

headers_same : (xs ys : List Header) → same_headers xs ys ≡ true → xs ≡ ys
headers_same [] [] h = refl
headers_same [] (b ∷ ys) h = absurd cc
headers_same (a ∷ xs) [] h = absurd cc
headers_same (a ∷ xs) (b ∷ ys) h =
    let k = and_parts (bytes_eq a.name b.name && bytes_eq a.value b.value) (same_headers xs ys) h in
    let l = and_parts (bytes_eq a.name b.name) (bytes_eq a.value b.value) k.0 in
    let name : a.name ≡ b.name = (bytes_eq-Decides a.name b.name).0 l.0 in
    let value : a.value ≡ b.value = (bytes_eq-Decides a.value b.value).0 l.1 in
    let rest = headers_same xs ys k.1 in
    λ i. record { name = name i; value = value i } ∷ rest i

same_headers_self : (xs : List Header) → same_headers xs xs ≡ true
same_headers_self [] = refl
same_headers_self (a ∷ xs) =
    and_from (bytes_eq a.name a.name && bytes_eq a.value a.value) (same_headers xs xs)
    (and_from (bytes_eq a.name a.name) (bytes_eq a.value a.value) ((bytes_eq-Decides a.name a.name).1 refl)
    ((bytes_eq-Decides a.value a.value).1 refl))
    (same_headers_self xs)

sent_same : (a b : Sent) → same_sent a b ≡ true → b ≡ a
sent_same a b h =
    let k = and_parts (bytes_eq a.destination b.destination && bytes_eq a.body b.body)
    (same_headers a.headers b.headers) h in
    let l = and_parts (bytes_eq a.destination b.destination) (bytes_eq a.body b.body) k.0 in
    let destination : b.destination ≡ a.destination = sym ((bytes_eq-Decides a.destination b.destination).0 l.0) in
    let body : b.body ≡ a.body = sym ((bytes_eq-Decides a.body b.body).0 l.1) in
    let headers : b.headers ≡ a.headers = sym (headers_same a.headers b.headers k.1) in
    λ i. record { destination = destination i; headers = headers i; body = body i }

same_sent_self : (a : Sent) → same_sent a a ≡ true
same_sent_self a =
    and_from (bytes_eq a.destination a.destination && bytes_eq a.body a.body) (same_headers a.headers a.headers)
    (and_from (bytes_eq a.destination a.destination) (bytes_eq a.body a.body)
    ((bytes_eq-Decides a.destination a.destination).1 refl)
    ((bytes_eq-Decides a.body a.body).1 refl))
    (same_headers_self a.headers)

-- ---- one that is counted is there

deed_same : (s : Sent) (d : BrokerDeed) → brings (same_sent s) d ≡ true → d ≡ Brings s
deed_same s (Brings t) h = ap Brings (sent_same s t h)
deed_same s (Acknowledges session number) h = absurd cc
deed_same s (Returns session number) h = absurd cc

contained_step : (s : Sent) (x : BrokerDeed) (xs : List BrokerDeed) (b : Bool) → brings (same_sent s) x ≡ b
    → (list_any (brings (same_sent s)) xs ≡ true → Contains xs (Brings s))
    → (b || list_any (brings (same_sent s)) xs) ≡ true
    → Contains (x ∷ xs) (Brings s)
contained_step s x xs true e ih h = (0, omega arith, deed_same s x e)
contained_step s x xs false e ih h = let k = ih h in (suc k.0, (let l = k.1 in omega arith), k.2)

contained : (s : Sent) (xs : List BrokerDeed) → list_any (brings (same_sent s)) xs ≡ true → Contains xs (Brings s)
contained s [] h = absurd cc
contained s (x ∷ xs) h = contained_step s x xs (brings (same_sent s) x) refl (contained s xs) h

one_more : (b : Bool) (n : ℕ) → b ≡ true → 1 ≤ cond b 1 0 + n
one_more true n e = omega arith
one_more false n e = absurd cc

counted : (p : Accepted → Bool) (xs : List Accepted) (i : ℕ) (a : Accepted) → slice_get xs i ≡ Some a → p a ≡ true
    → 1 ≤ count_by p xs
counted p [] i a h e = absurd cc
counted p (x ∷ xs) zero a h e =
    let k : x ≡ a = cc in
    let c = count-cons p x xs in
    let one = one_more (p x) (count_by p xs) (ap p k ∙ e) in
    omega (arith, c, one)
counted p (x ∷ xs) (suc i) a h e = let c = count-cons p x xs in let k = counted p xs i a h e in omega (arith, c, k)

some_counted : (n : ℕ) → 1 ≤ n → nat_lt 0 n ≡ true
some_counted n h = grind (arith, nat_tests)

-- ---- each message

each_sent : (accepted : List Accepted) (asked : List BrokerDeed)
    → ((p : Sent → Bool) → count_by (λ (a : Accepted). p a.sent) accepted ≤ count_by (brings p) asked)
    → (ds : List Handed) → AllByRecursion (StandsIn accepted) (map brought ds)
    → AllByRecursion (λ (d : Handed). Contains asked (Brings d.sent)) ds
each_sent accepted asked less [] h = tt
each_sent accepted asked less (d ∷ ds) h =
    let test = same_sent d.sent in
    let k = counted (λ (a : Accepted). test a.sent) accepted _ (brought d) h.0 (same_sent_self d.sent) in
    let l = less test in
    let any : list_any (brings test) asked ≡ true
    = any-count (brings test) asked ∙ some_counted (count_by (brings test) asked) (omega (arith, k, l)) in
    (contained d.sent asked any, each_sent accepted asked less ds h.1)

pub messages_sent : MessagesWereSent
messages_sent full calls b h =
    each_sent (accepted_in calls b) (asked_in calls) (were_sent full calls b h) (dealt_in full empty calls b h)
    (were_accepted full calls b h).0
