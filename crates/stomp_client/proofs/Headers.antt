-- Headers that a client's frames take.
use Rattle.std.proofs.Common.{◌≡◌, ℕ, ◌<◌, ◌≤◌, ◌^◌, Bool, true, false, ◌||◌, ◌&&◌, not, List, [], ◌∷◌, length, codes}
use Rattle.std.proofs.Common.{decimal, Some, None}
use Rattle.std.proofs.Common.{refl, sym, ap, subst, ◌∙◌, arith, inl, inr}
use Rattle.std.specs.Prelude.{nat_lt, nat_le, ◌==◌, if◌then◌else◌}
use Rattle.std.specs.List.{AllByRecursion}
use Rattle.std.specs.Str.{bytes_eq, all_ascii_digits}
use Rattle.std.specs.Char.{is_ascii_digit}
use Rattle.std.proofs.lemmas.Bool.{cases_Bool, ltb-true, leb-true, lt-ltb}
use Rattle.std.proofs.lemmas.Bool.Decides.{nat_tests}
use Rattle.std.proofs.lemmas.Fmt.{length-decimal-le, digits_decimal}
use Rattle.std.proofs.lemmas.Slice.Eq.{bytes_eq-Decides}
use Rattle.std.proofs.lemmas.Str.Parse.{numerals_by_value, tells_all_ascii_digits}
use Rattle.text.proofs.Digits.{both_true}
use Rattle.stomp_frame.specs.declared.command.Command.{Command}
use Rattle.stomp_frame.specs.declared.command.Command.TheVariants.{Message, Connect}
use Rattle.stomp_frame.specs.declared.fault.FrameFault.TheVariants.{BadLine, LineTooLong, TooManyHeaders}
use Rattle.stomp_frame.specs.Commands.{is_exempt}
use Rattle.stomp_frame.specs.Frames.{Header, header, frame, Content, escape, written, has, is_bad, gives_length}
use Rattle.stomp_frame.specs.Frames.{line_of, value_of, IsOwn}
use Rattle.stomp_frame.specs.Building.{header_refused}
use Rattle.stomp_frame.proofs.Escapes.{line_doubles, line_length, owned_alike}
use Rattle.stomp_client.specs.Frames.{IsShort}
use Rattle.stomp_client.specs.Parts.Names.{is_name}

not_true : (b : Bool) → not b ≡ true → b ≡ false
not_true true e = absurd cc
not_true false e = refl

not_above : (n m : ℕ) → m ≤ n → nat_lt n m ≡ false
not_above n m h = grind (arith, nat_tests)

not_zero : (n : ℕ) → 0 < n → (n == 0) ≡ false
not_zero n h = grind (arith, nat_tests)

-- where no test refuses, nothing is refused
none_refuses : (a b c d : Bool) → a ≡ false → b ≡ false → c ≡ false → d ≡ true
    → (if a || b then Some BadLine else if c then Some LineTooLong else if d then None else Some TooManyHeaders) ≡ None
none_refuses a b c d p q r s = rw (p, q, r, s) refl

-- a header that a frame can own, and for which there is room, isn't refused
pub own_unrefused : (f : Content) (h : Header) → is_bad f.command h ≡ false → gives_length h ≡ false
    → length (line_of f.command h) ≤ 1024
    → length f.headers < 32 → header_refused f h ≡ None
own_unrefused f h good own short room =
    none_refuses (is_bad f.command h) (gives_length h) (nat_lt 1024 (length (line_of f.command h)))
    (nat_lt (length f.headers) 32)
    good own (not_above 1024 (length (line_of f.command h)) short) (lt-ltb (length f.headers) 32 room)

-- where escapes are written, a name and a value without NUL can stand on a line
plain_good : (c : Command) (h : Header) → is_exempt c ≡ false → 0 < length h.name → has 0 h.name ≡ false
    → has 0 h.value ≡ false
    → is_bad c h ≡ false
plain_good c h escapes some plain value_plain = rw (not_zero (length h.name) some, plain, value_plain, escapes) refl

-- a short value under a name isn't refused
pub short_unrefused : (f : Content) (name value : List ℕ) → is_exempt f.command ≡ false → length f.headers < 32
    → is_name name ≡ true
    → IsShort value
    → header_refused f (header name value) ≡ None
short_unrefused f name value escapes room named is =
    let h = header name value in
    let last = both_true (nat_lt 0 (length name) && nat_le (length name) 128 && not (has 0 name))
    (not (bytes_eq name (codes "content-length"))) named in
    let plain = both_true (nat_lt 0 (length name) && nat_le (length name) 128) (not (has 0 name)) last.0 in
    let sizes = both_true (nat_lt 0 (length name)) (nat_le (length name) 128) plain.0 in
    let some : 0 < length name = ltb-true 0 (length name) sizes.0 in
    let small : length name ≤ 128 = leb-true (length name) 128 sizes.1 in
    own_unrefused f h (plain_good f.command h escapes some (not_true (has 0 name) plain.1) is.plain)
    (not_true (bytes_eq name (codes "content-length")) last.1)
    (omega (arith, line_doubles f.command h, small, is.short)) room

-- ---- numbers

neither : (a b : Bool) → a ≡ false → b ≡ false → (a || b) ≡ false
neither a b p q = rw (p, q) refl

digit_plain : (o : ℕ) → is_ascii_digit o ≡ true → (o == 0) ≡ false
digit_plain o is =
    not_zero o (let range = both_true (nat_le 48 o) (nat_le o 57) is in omega (arith, leb-true 48 o range.0))

digits_plain : (ds : List ℕ) → all_ascii_digits ds ≡ true → has 0 ds ≡ false
digits_plain [] all = refl
digits_plain (d ∷ ds) all =
    let parts = both_true (is_ascii_digit d) (all_ascii_digits ds) all in
    neither (d == 0) (has 0 ds) (digit_plain d parts.0) (digits_plain ds parts.1)

-- a number is a short value
pub short_number : (n : ℕ) → n < 2 ^ 64 → IsShort (decimal n)
short_number n small = record {
  plain = digits_plain (decimal n) (digits_decimal (numerals_by_value _ tells_all_ascii_digits) n small);
  short = omega (arith, length-decimal-le 20 n (omega arith) (omega (arith, small)) small);
}

-- ---- what a MESSAGE has

own_step : (c : Command) (name v : List ℕ) (h : Header) (hs : List Header) (b : Bool) → bytes_eq h.name name ≡ b
    → IsOwn c h
    → (value_of name hs ≡ Some v → IsOwn c (header name v)) → (if b then Some h.value else value_of name hs) ≡ Some v
    → IsOwn c (header name v)
own_step c name v h hs true e own others found =
    let its : h.value ≡ v = cc in
    subst (IsOwn c) (ap (λ (n : List ℕ). header n h.value) ((bytes_eq-Decides h.name name).0 e) ∙ ap (header name) its)
    own
own_step c name v h hs false e own others found = others found

-- the first value of a name, as a header of the frame
found_own : (c : Command) (name v : List ℕ) (hs : List Header) → AllByRecursion (IsOwn c) hs → value_of name hs ≡ Some v
    → IsOwn c (header name v)
found_own c name v [] all e = absurd cc
found_own c name v (h ∷ hs) all e =
    own_step c name v h hs (bytes_eq h.name name) refl all.0 (found_own c name v hs all.1) e

-- its value has no NUL
value_plain : (c : Command) (name v : List ℕ) → is_bad c (header name v) ≡ false → has 0 v ≡ false
value_plain c name v good = elim (cases_Bool (has 0 v)) [
  | inl nul ↦ let bad : is_bad c (header name v) ≡ true =
      grind (arith, nul) in let no : true ≡ false = sym bad ∙ good in absurd cc
  | inr plain ↦ plain
]

id_short : length (escape (codes "id")) ≤ length (escape (codes "ack"))
unfolding escape
id_short = omega arith

shorter : (c : Command) (v : List ℕ) → is_exempt c ≡ false → length (line_of c (header (codes "ack") v)) ≤ 1024
    → length (line_of c (header (codes "id") v)) ≤ 1024
shorter c v escapes short =
    let id : length (written c (codes "id")) ≤ length (written c (codes "ack")) = rw escapes id_short in
    omega (arith, short, line_length c (codes "ack") v, line_length c (codes "id") v, id)

-- what a MESSAGE has as its ack can be the id of an answer: its line is shorter
pub id_unrefused : (c : Command) (v : List ℕ) (hs : List Header) → is_exempt c ≡ false
    → AllByRecursion (IsOwn Message) hs
    → value_of (codes "ack") hs ≡ Some v
    → header_refused (frame c [] []) (header (codes "id") v) ≡ None
id_unrefused c v hs escapes all found =
    let own = found_own Message (codes "ack") v hs all found in
    let f : Content = frame c [] [] in
    let same : is_exempt Message ≡ is_exempt c = sym escapes in
    let alike = owned_alike Message c (header (codes "ack") v) same own in
    own_unrefused f (header (codes "id") v)
    (plain_good c (header (codes "id") v) escapes (omega arith) refl (value_plain Message (codes "ack") v
    own.header.good)) refl
    (shorter c v escapes alike.header.short) (omega arith)

-- ---- CONNECT

-- CONNECT takes its `accept-version`
pub version_unrefused : header_refused (frame Connect [] []) (header (codes "accept-version") (codes "1.2")) ≡ None
unfolding line_of
version_unrefused = refl

-- CONNECT takes its `host` after another header
pub host_unrefused : (h : Header) → header_refused (frame Connect (h ∷ []) []) (header (codes "host") (codes "outbox"))
    ≡ None
unfolding line_of
host_unrefused h = refl
