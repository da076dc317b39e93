-- Frames that can be written: a test of their headers tells it.
use Rattle.std.proofs.Common.{◌≡◌, ◌+◌, ◌<◌, ◌&&◌, List, [], ◌∷◌, length, Bool, true, false, refl, arith}
use Rattle.std.proofs.lemmas.Bool.{ltb-true}
use Rattle.std.specs.List.{AllByRecursion, list_all}
use Rattle.std.specs.Prelude.{nat_lt, not}
use Rattle.std.specs.Str.{is_utf8}
use Rattle.base.specs.declared.limits.TheConstants.{MAX_BODY, MAX_HEADERS}
use Rattle.stomp_frame.specs.Commands.{body_limit}
use Rattle.stomp_frame.specs.Frames.{Content, Header, IsFrame, IsOwn, is_bad, gives_length, line_of}
use Rattle.stomp_frame.specs.declared.command.Command.{Command}

-- whether a line can hold a header, which isn't a content-length
abbrev pub fits : Command → Header → Bool
fits c h = not (is_bad c h) && (is_utf8 h.name && (is_utf8 h.value && (nat_lt (length (line_of c h)) 1025
    && not (gives_length h))))

parts : (a b : Bool) → (a && b) ≡ true → (a ≡ true) × (b ≡ true)
parts true b both = (refl, both)
parts false b both = let no : false ≡ true = both in absurd (cc)

denied : (b : Bool) → not b ≡ true → b ≡ false
denied false h = refl
denied true h = let no : false ≡ true = h in absurd (cc)

owned : (c : Command) (h : Header) → fits c h ≡ true → IsOwn c h
owned c h all =
    let one = parts (not (is_bad c h)) _ all in
    let two = parts (is_utf8 h.name) _ one.1 in
    let three = parts (is_utf8 h.value) _ two.1 in
    let four = parts (nat_lt (length (line_of c h)) 1025) _ three.1 in
    let short : length (line_of c h) < 1025 = ltb-true (length (line_of c h)) 1025 four.0 in
    record {
      header = record { good = denied (is_bad c h) one.0; name = two.0; value = three.0; short = omega (arith, short) };
      own = denied (gives_length h) four.1;
    }

all_owned : (c : Command) (hs : List Header) → list_all (fits c) hs ≡ true → AllByRecursion (IsOwn c) hs
all_owned c [] all = tt
all_owned c (h ∷ hs) all =
    let both = parts (fits c h) (list_all (fits c) hs) all in (owned c h both.0, all_owned c hs both.1)

-- whether a frame can be written
abbrev pub is_writable : Content → Bool
is_writable f = list_all (fits f.command) f.headers
    && (nat_lt (length f.headers) (MAX_HEADERS + 1) && nat_lt (length f.body) (body_limit MAX_BODY f.command + 1))

pub framed : (f : Content) → is_writable f ≡ true → IsFrame MAX_BODY f
framed f all =
    let one = parts (list_all (fits f.command) f.headers) _ all in
    let two = parts (nat_lt (length f.headers) (MAX_HEADERS + 1)) _ one.1 in
    let count : length f.headers < MAX_HEADERS + 1 = ltb-true (length f.headers) (MAX_HEADERS + 1) two.0 in
    let body : length f.body < body_limit MAX_BODY f.command + 1 =
    ltb-true (length f.body) (body_limit MAX_BODY f.command + 1) two.1 in
    record { headers = all_owned f.command f.headers one.0; count = omega (arith, count); body = omega (arith, body) }
