-- A server's session takes what a client writes.
use Rattle.std.proofs.Common.{◌≡◌, ℕ, ◌<◌, ◌≤◌, ◌^◌, Bool, true, false, ◌||◌, List, [], ◌∷◌, ◌++◌, length, codes}
use Rattle.std.proofs.Common.{decimal, Option, Some}
use Rattle.std.proofs.Common.{None, Ok, refl, ap, subst, ◌∙◌, arith}
use Rattle.std.specs.Prelude.{nat_lt, is_none, is_ok, if◌then◌else◌, filter, IsOk, Result}
use Rattle.std.specs.List.{AllByRecursion}
use Rattle.std.specs.Str.{bytes_eq}
use Rattle.std.proofs.lemmas.Bool.Decides.{nat_tests}
use Rattle.std.proofs.lemmas.List.{append-nil}
use Rattle.std.proofs.lemmas.List.Elements.{filter-append}
use Rattle.base.specs.declared.limits.TheConstants.{MAX_BODY}
use Rattle.stomp_frame.specs.declared.command.Command.TheVariants.{Ack, Nack}
use Rattle.stomp_frame.specs.Calls.{DecoderCall, LeadsFromNew, fed, given}
use Rattle.stomp_frame.specs.Decoding.{Held}
use Rattle.stomp_frame.specs.Frames.{Header, Content, header, value_of, with_header}
use Rattle.stomp_session.specs.declared.fault.SessionFault.{SessionFault}
use Rattle.stomp_session.specs.declared.request.Request.{Request}
use Rattle.stomp_session.specs.Headers.{is_own, own_headers}
use Rattle.stomp_session.specs.Replies.{IsGivenIfAny}
use Rattle.stomp_session.specs.Requests.{refusal_of, request_unless, request_of, asked}
use Rattle.stomp_wire.specs.Travel.{Travels}
use Rattle.stomp_client.specs.Frames.{connect_frame, in_transaction, answer_frame}
use Rattle.stomp_client.specs.Frames.{with_receipt, text_or_empty}
use Rattle.stomp_client.specs.Served.{answers_of, IsTakeable, IsAnswerable, IsClients, subscribes, sends}
use Rattle.stomp_client.specs.Served.{sends_with_receipt, acks, nacks}
use Rattle.stomp_client.specs.Served.{begins, commits, aborts, disconnects}
use Rattle.stomp_client.specs.Written.{Wrote}
use Rattle.stomp_client.proofs.Headers.{short_number}
use Rattle.stomp_client.proofs.Writing.{awaited}

-- ---- one header more

not_found : (name : List ℕ) (hs more : List Header) → value_of name hs ≡ None
    → value_of name (hs ++ more) ≡ value_of name more
not_found name [] more e = refl
not_found name (h ∷ hs) more e = by_test (bytes_eq h.name name) (not_found name hs more) e
  where
    by_test : (b : Bool) → (value_of name hs ≡ None → value_of name (hs ++ more) ≡ value_of name more)
        → (if b then Some h.value else value_of name hs) ≡ None
        → (if b then Some h.value else value_of name (hs ++ more)) ≡ value_of name more
    by_test true others it = absurd cc
    by_test false others it = others it

still_there : (name : List ℕ) (hs more : List Header) → is_none (value_of name hs) ≡ false
    → is_none (value_of name (hs ++ more)) ≡ false
still_there name [] more e = absurd cc
still_there name (h ∷ hs) more e = by_test (bytes_eq h.name name) (still_there name hs more) e
  where
    by_test : (b : Bool) → (is_none (value_of name hs) ≡ false → is_none (value_of name (hs ++ more)) ≡ false)
        → is_none (if b then Some h.value else value_of name hs) ≡ false
        → is_none (if b then Some h.value else value_of name (hs ++ more)) ≡ false
    by_test true others it = refl
    by_test false others it = others it

-- ---- what isn't too long

not_above : (n m : ℕ) → m ≤ n → nat_lt n m ≡ false
not_above n m h = grind (arith, nat_tests)

number_fits : (n : ℕ) → n < 2 ^ 64 → nat_lt 128 (length (decimal n)) ≡ false
number_fits n small = not_above 128 (length (decimal n)) (short_number n small).short

-- ---- each frame

sent_alone : (f : Content) → IsTakeable f → refusal_of true f ≡ None
sent_alone f is = rw (
  is.plain.command,
  is.destination,
  is.plain.receipt,
  is.plain.transaction,
  not_above 28 (length (own_headers f)) is.own,
) refl

-- with a receipt or a transaction it has as many headers of its own
no_more_own : (f : Content) (h : Header) → is_own h ≡ false → own_headers (with_header f h) ≡ own_headers f
no_more_own f h used =
    filter-append is_own f.headers (h ∷ []) ∙ ap (λ hs. own_headers f ++ hs) (none used) ∙ append-nil (own_headers f)
  where
    none : is_own h ≡ false → filter is_own (h ∷ []) ≡ []
    none e = rw e refl

sent_in_transaction : (f : Content) (n : ℕ) → IsTakeable f → n < 2 ^ 64
    → refusal_of true (in_transaction (Some n) f) ≡ None
sent_in_transaction f n is small =
    let t : Header = header (codes "transaction") (decimal n) in
    let receipt : value_of (codes "receipt") (f.headers ++ t ∷ []) ≡ None =
    not_found (codes "receipt") f.headers (t ∷ []) is.plain.receipt in
    let transaction : value_of (codes "transaction") (f.headers ++ t ∷ []) ≡ Some (decimal n) =
    not_found (codes "transaction") f.headers (t ∷ []) is.plain.transaction in
    let destination : is_none (value_of (codes "destination") (f.headers ++ t ∷ [])) ≡ false =
    still_there (codes "destination") f.headers (t ∷ []) is.destination in
    let own : nat_lt 28 (length (filter is_own (f.headers ++ t ∷ []))) ≡ false =
    ap (λ (hs : List Header). nat_lt 28 (length hs)) (no_more_own f t refl)
    ∙ not_above 28 (length (own_headers f)) is.own in
    rw (is.plain.command, destination, receipt, transaction, number_fits n small, own) refl

sent_with_receipt : (f : Content) (n : ℕ) → IsTakeable f → n < 2 ^ 64 → refusal_of true (with_receipt n f) ≡ None
sent_with_receipt f n is small =
    let r : Header = header (codes "receipt") (decimal n) in
    let receipt : value_of (codes "receipt") (f.headers ++ r ∷ []) ≡ Some (decimal n) =
    not_found (codes "receipt") f.headers (r ∷ []) is.plain.receipt in
    let transaction : value_of (codes "transaction") (f.headers ++ r ∷ []) ≡ None =
    not_found (codes "transaction") f.headers (r ∷ []) is.plain.transaction in
    let destination : is_none (value_of (codes "destination") (f.headers ++ r ∷ [])) ≡ false =
    still_there (codes "destination") f.headers (r ∷ []) is.destination in
    let own : nat_lt 28 (length (filter is_own (f.headers ++ r ∷ []))) ≡ false =
    ap (λ (hs : List Header). nat_lt 28 (length hs)) (no_more_own f r refl)
    ∙ not_above 28 (length (own_headers f)) is.own in
    rw (is.plain.command, destination, receipt, transaction, number_fits n small, own) refl

sent_taken : (f : Content) (transaction : Option ℕ) → IsTakeable f → IsGivenIfAny transaction
    → refusal_of true (in_transaction transaction f) ≡ None
sent_taken f None is given = sent_alone f is
sent_taken f (Some n) is given = sent_in_transaction f n is given

ack_taken : (m : Content) (transaction : Option ℕ) → IsAnswerable m → IsGivenIfAny transaction
    → refusal_of true (answer_frame Ack m transaction) ≡ None
ack_taken m None is given = rw (not_above 128 (length (text_or_empty (value_of (codes "ack") m.headers))) is) refl
ack_taken m (Some n) is given =
    rw (not_above 128 (length (text_or_empty (value_of (codes "ack") m.headers))) is, number_fits n given) refl

nack_taken : (m : Content) (transaction : Option ℕ) → IsAnswerable m → IsGivenIfAny transaction
    → refusal_of true (answer_frame Nack m transaction) ≡ None
nack_taken m None is given = rw (not_above 128 (length (text_or_empty (value_of (codes "ack") m.headers))) is) refl
nack_taken m (Some n) is given =
    rw (not_above 128 (length (text_or_empty (value_of (codes "ack") m.headers))) is, number_fits n given) refl

-- no frame of a client is refused
unrefused : (f : Content) → IsClients f → refusal_of true f ≡ None
unrefused f (subscribes destination e) = rw e refl
unrefused f (sends message transaction is given e) = ap (refusal_of true) e ∙ sent_taken message transaction is given
unrefused f (sends_with_receipt message number is given e) =
    ap (refusal_of true) e ∙ sent_with_receipt message number is given
unrefused f (acks message transaction is given e) = ap (refusal_of true) e ∙ ack_taken message transaction is given
unrefused f (nacks message transaction is given e) = ap (refusal_of true) e ∙ nack_taken message transaction is given
unrefused f (begins number given e) = ap (refusal_of true) e ∙ rw (number_fits number given) refl
unrefused f (commits number given e) = ap (refusal_of true) e ∙ rw (number_fits number given) refl
unrefused f (aborts number given e) = ap (refusal_of true) e ∙ rw (number_fits number given) refl
unrefused f (disconnects e) = rw e refl

-- a server's session accepts each frame of a client, once connected
pub each_is_taken : (f : Content) → IsClients f → request_of true f ≡ Ok (asked f)
each_is_taken f is = ap (λ (r : Option SessionFault). request_unless r f) (unrefused f is)

-- a server's session accepts the client's CONNECT
pub connect_is_taken : request_of false connect_frame ≡ Ok (asked connect_frame)
connect_is_taken = refl

-- ---- all of them

ok_at : (r : Result Request SessionFault) (x : Request) → r ≡ Ok x → IsOk r
ok_at r x e = rw e refl

others_taken : (fs : List Content) → AllByRecursion IsClients fs → AllByRecursion (λ r. IsOk r) (answers_of true fs)
others_taken [] all = tt
others_taken (f ∷ fs) all = (ok_at (request_of true f) (asked f) (each_is_taken f all.0), others_taken fs all.1)

-- a server's session accepts CONNECT and all frames after it
pub all_are_taken : (fs : List Content) → AllByRecursion IsClients fs
    → AllByRecursion (λ r. IsOk r) (answers_of false (connect_frame ∷ fs))
all_are_taken fs all = (refl, others_taken fs all)

-- so are the first of them
first_taken : (fs gs : List Content) (connected : Bool) → AllByRecursion (λ r. IsOk r) (answers_of connected (fs ++ gs))
    → AllByRecursion (λ r. IsOk r) (answers_of connected fs)
first_taken [] gs connected all = tt
first_taken (f ∷ fs) gs connected all = (all.0, first_taken fs gs (connected || is_ok (request_of connected f)) all.1)

-- a server's session accepts all frames of a client, however their text was cut on the way
pub given_are_taken : (fs : List Content) (gone out received waiting carried : List ℕ) (calls : List DecoderCall)
    (held : Held)
    → AllByRecursion IsClients fs
    → Wrote (connect_frame ∷ fs) gone out → Travels gone received (Some waiting) (Some carried)
    → LeadsFromNew MAX_BODY calls held
    → fed calls ≡ received
    → AllByRecursion (λ r. IsOk r) (answers_of false (given calls))
given_are_taken fs gone out received waiting carried calls held all wrote travels happened e =
    let found = awaited (connect_frame ∷ fs) gone out received waiting carried calls held wrote travels happened e in
    let A : List Content → Type 0 = λ l. AllByRecursion (λ r. IsOk r) (answers_of false l) in
    first_taken (given calls) found.0 false (subst A found.1 (all_are_taken fs all))
