-- What was compared is the same.
use Rattle.std.proofs.Common.{suc, ◌≢◌, ◌<◌, length, get_or, drop, drop-cons}
use Rattle.std.proofs.Common.{◌≡◌, ℕ, Bool, true, false, List, [], ◌∷◌, Option, Some, None, refl, sym, ap, ◌∙◌}
use Rattle.std.specs.Prelude.{◌&&◌, if◌then◌else◌}
use Rattle.std.specs.Str.{bytes_eq}
use Rattle.std.proofs.lemmas.Slice.Eq.{bytes_eq-Decides}
use Rattle.stomp_frame.specs.Frames.{Header, header}
use Rattle.broker_book.specs.declared.parts.Sent.{Sent}
use Rattle.broker_book.specs.declared.parts.Accepted.{Accepted}
use Rattle.schedule_mail.specs.Accepted.{same_header, same_headers, same_sent, again_of, IsAgain}

both : (a b : Bool) → (a && b) ≡ true → (a ≡ true) × (b ≡ true)
both true true e = (refl, refl)
both true false e = cc
both false b e = cc

no_both : (a : Bool) → (a && false) ≡ false
no_both true = refl
no_both false = refl

text_same : (a b : List ℕ) → bytes_eq a b ≡ true → a ≡ b
text_same a b = (bytes_eq-Decides a b).0

text_refl : (a : List ℕ) → bytes_eq a a ≡ true
text_refl a = (bytes_eq-Decides a a).1 refl

header_same : (a b : Header) → same_header a b ≡ true → a ≡ b
header_same a b e =
    let t = both (bytes_eq a.name b.name) (bytes_eq a.value b.value) e in
    let n = text_same a.name b.name t.0 in
    let v = text_same a.value b.value t.1 in
    ap (λ name. header name a.value) n ∙ ap (λ value. header b.name value) v

header_refl : (a : Header) → same_header a a ≡ true
header_refl a = rw (text_refl a.name, text_refl a.value) refl

headers_same : (a b : List Header) → same_headers a b ≡ true → a ≡ b
headers_same [] [] e = refl
headers_same [] (y ∷ ys) e = cc
headers_same (x ∷ xs) [] e = cc
headers_same (x ∷ xs) (y ∷ ys) e =
    let t = both (same_header x y) (same_headers xs ys) e in
    let h = header_same x y t.0 in
    let hs = headers_same xs ys t.1 in
    cc

headers_refl : (a : List Header) → same_headers a a ≡ true
headers_refl [] = refl
headers_refl (x ∷ xs) = rw (header_refl x, headers_refl xs) refl

-- what brought the same is the same
sent_same : (a b : Sent) → same_sent a b ≡ true → a ≡ b
sent_same a b e =
    let t = both (bytes_eq a.destination b.destination) (same_headers a.headers b.headers && bytes_eq a.body b.body) e
    in
    let u = both (same_headers a.headers b.headers) (bytes_eq a.body b.body) t.1 in
    let d = text_same a.destination b.destination t.0 in
    let h = headers_same a.headers b.headers u.0 in
    let o = text_same a.body b.body u.1 in
    ap (λ x. record a { destination = x }) d ∙ ap (λ x. record a { destination = b.destination; headers = x }) h
    ∙ ap (λ x. record b { body = x }) o

sent_refl : (a : Sent) → same_sent a a ≡ true
sent_refl a = rw (text_refl a.destination, headers_refl a.headers, text_refl a.body) refl

found_if : (t : Bool) (m n : ℕ) → (if t then Some n else None) ≡ Some m → (t ≡ true) × (n ≡ m)
found_if true m n e = let k : n ≡ m = cc in (refl, k)
found_if false m n e = cc

-- the SEND alone was accepted, as the message of the number that is told
pub again_is : (sent : Sent) (accepted : List Accepted) (m : ℕ) → again_of sent accepted ≡ Some m
    → IsAgain sent m accepted
again_is sent [] m e = cc
again_is sent (a ∷ []) m e =
    let t = found_if (same_sent a.sent sent) m a.number e in
    let s = sent_same a.sent sent t.0 in
    ap (λ x. record a { sent = x } ∷ []) s ∙ ap (λ n. record { number = n; sent = sent } ∷ []) t.1
again_is sent (a ∷ b ∷ rest) m e = cc

-- and where none is told it wasn't
pub again_none : (sent : Sent) (accepted : List Accepted) (m : ℕ) → again_of sent accepted ≡ None
    → IsAgain sent m accepted → ⊥
again_none sent accepted m e i =
    let k : again_of sent (record { number = m; sent = sent } ∷ []) ≡ Some m = rw (sent_refl sent) refl in
    let l : again_of sent accepted ≡ Some m = ap (again_of sent) i ∙ k in
    cc

-- ---- a comparison from the front

-- lists of different lengths differ
pub headers_long : (a b : List Header) → length a ≢ length b → same_headers a b ≡ false
headers_long [] [] h = absurd (h refl)
headers_long [] (y ∷ ys) h = refl
headers_long (x ∷ xs) [] h = refl
headers_long (x ∷ xs) (y ∷ ys) h = rw (headers_long xs ys (λ e. h (ap suc e))) (no_both (same_header x y))

-- the next two, and those behind them
pub headers_step : (a b : List Header) (i : ℕ) (x y : Header) → i < length a → i < length b → x ≡ get_or a i x
    → y ≡ get_or b i y
    → same_headers (drop i a) (drop i b) ≡ (same_header x y && same_headers (drop (suc i) a) (drop (suc i) b))
headers_step a b i x y k l p q =
    ap (λ t. same_headers t (drop i b)) (drop-cons a i x k ∙ ap (λ z. z ∷ drop (suc i) a) (sym p))
    ∙ ap (same_headers (x ∷ drop (suc i) a)) (drop-cons b i y l ∙ ap (λ z. z ∷ drop (suc i) b) (sym q))

-- ---- what a session was told

-- it is the text that was compared
pub told_is : (out x y known : List ℕ) → true ≡ bytes_eq out x → x ≡ y → y ≡ known → out ≡ known
told_is out x y known e p q = text_same out x (sym e) ∙ p ∙ q

-- it isn't
pub told_is_not : (out x y known : List ℕ) → false ≡ bytes_eq out x → x ≡ y → y ≡ known → out ≡ known → ⊥
told_is_not out x y known e p q h =
    let k : out ≡ x = h ∙ sym q ∙ sym p in
    let t : bytes_eq out x ≡ true = (bytes_eq-Decides out x).1 k in
    absurd (cc)
