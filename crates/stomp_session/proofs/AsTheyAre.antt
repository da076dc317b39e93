-- A MESSAGE of which nothing is escaped is written as its texts are.
use Rattle.std.proofs.Common.{◌≡◌, ℕ, ◌<◌, ◌≤◌, true, ◌&&◌, List, [], ◌∷◌, ◌++◌, length}
use Rattle.std.proofs.Common.{codes, Option, Some, None, refl, sym, ap, ap₂, ◌∙◌, append_assoc, arith}
use Rattle.std.specs.Prelude.{is_none}
use Rattle.std.specs.List.{list_all}
use Rattle.std.specs.Char.{is_ascii_digit}
use Rattle.std.specs.Fmt.{decimal}
use Rattle.std.specs.Str.{all_ascii_digits}
use Rattle.std.proofs.lemmas.Bool.{ne_eqb}
use Rattle.std.proofs.lemmas.Bool.Decides.{nat_tests}
use Rattle.std.proofs.lemmas.Fmt.{digits_decimal}
use Rattle.std.proofs.lemmas.Grind.{flat_map-append}
use Rattle.std.proofs.lemmas.List.{append-nil}
use Rattle.std.proofs.lemmas.Str.Parse.{numerals_by_value, tells_all_ascii_digits}
use Rattle.stomp_frame.specs.declared.command.Command.TheVariants.{Message}
use Rattle.stomp_frame.specs.Commands.{word}
use Rattle.stomp_frame.specs.Frames.{Header, header, letter_of, line_of, with_lf, canonical}
use Rattle.stomp_frame.specs.Inner.Writing.{is_as_is, lines_of, start_of}
use Rattle.stomp_frame.proofs.Escapes.{escaped_as_is, line_as_is}
use Rattle.stomp_frame.proofs.Heads.{canonical_parts}
use Rattle.stomp_frame.proofs.Scans.{and_left, and_right, and_both}
use Rattle.stomp_session.specs.Replies.{Delivered, IsGiven, IsGivenIfAny, ack_headers, leading_headers, message_frame}
use Rattle.stomp_session.specs.Parts.Plain.{ack_text, is_plain_header, is_plain_message}

-- ---- digits

digit_facts : (o : ℕ) → is_ascii_digit o ≡ true → (48 ≤ o) × (o < 58)
digit_facts o e = (grind (arith, nat_tests), grind (arith, nat_tests))

digit_as_is : (o : ℕ) → is_ascii_digit o ≡ true → is_none (letter_of o) ≡ true
digit_as_is o e =
    let is = digit_facts o e in
    rw (
      ne_eqb o 13 (λ z. omega (arith, z, is)),
      ne_eqb o 10 (λ z. omega (arith, z, is)),
      ne_eqb o 58 (λ z. omega (arith, z, is)),
      ne_eqb o 92 (λ z. omega (arith, z, is)),
    ) refl

digits_as_is : (digits : List ℕ) → all_ascii_digits digits ≡ true → is_as_is digits ≡ true
digits_as_is [] all = refl
digits_as_is (d ∷ digits) all = and_both (is_none (letter_of d)) (is_as_is digits)
    (digit_as_is d (and_left (is_ascii_digit d) (all_ascii_digits digits) all))
    (digits_as_is digits (and_right (is_ascii_digit d) (all_ascii_digits digits) all))

decimal_as_is : (n : ℕ) → IsGiven n → is_as_is (decimal n) ≡ true
decimal_as_is n small = digits_as_is (decimal n)
    (digits_decimal (numerals_by_value _ tells_all_ascii_digits) n small)

-- ---- lines

line_is : (name value : List ℕ) → is_as_is name ≡ true → is_as_is value ≡ true
    → with_lf (line_of Message (header name value)) ≡ (name ++ 58 ∷ value) ++ 10 ∷ []
line_is name value p q = line_as_is Message name value (escaped_as_is Message name p) (escaped_as_is Message value q)

line_then : (name value rest : List ℕ) → is_as_is name ≡ true → is_as_is value ≡ true
    → with_lf (line_of Message (header name value)) ++ rest ≡ name ++ 58 ∷ (value ++ 10 ∷ rest)
line_then name value rest p q = ap (λ (x : List ℕ). x ++ rest) (line_is name value p q)
    ∙ append_assoc (name ++ 58 ∷ value) (10 ∷ []) rest
    ∙ append_assoc name (58 ∷ value) (10 ∷ rest)

acks_are : (ack : Option ℕ) → IsGivenIfAny ack → ack_text ack ++ 10 ∷ [] ≡ 10 ∷ lines_of Message (ack_headers ack)
acks_are None given = refl
acks_are (Some number) given = rw (line_is (codes "ack") (decimal number) refl (decimal_as_is number given))
    (ap (λ (x : List ℕ). codes "\nack:" ++ x) (sym (append-nil (decimal number ++ 10 ∷ []))))

-- the texts and the headers of such a delivery
plain_texts : (d : Delivered) → is_plain_message d ≡ true → (is_as_is d.destination && is_as_is d.subscription) ≡ true
plain_texts d plain =
    and_left (is_as_is d.destination && is_as_is d.subscription) (list_all is_plain_header d.headers) plain

pub plain_headers : (d : Delivered) → is_plain_message d ≡ true → list_all is_plain_header d.headers ≡ true
plain_headers d plain =
    and_right (is_as_is d.destination && is_as_is d.subscription) (list_all is_plain_header d.headers) plain

start_is : (body : List ℕ) → IsGiven (length body)
    → start_of Message body ≡ (codes "MESSAGE\ncontent-length:" ++ decimal (length body)) ++ 10 ∷ []
start_is body long = ap (λ (x : List ℕ). with_lf (word Message) ++ x)
    (line_is (codes "content-length") (decimal (length body)) refl (decimal_as_is (length body) long))

-- what stands behind the first name
rest_of : Delivered → List ℕ
rest_of d = codes "destination:" ++ (d.destination ++ (codes "\nmessage-id:" ++ (decimal d.number
    ++ (codes "\nsubscription:" ++ (d.subscription ++ (ack_text d.ack ++ 10 ∷ []))))))

leading_are : (d : Delivered) → is_plain_message d ≡ true → IsGiven d.number → IsGivenIfAny d.ack
    → lines_of Message (leading_headers d) ≡ rest_of d
unfolding rest_of
leading_are d plain number ack =
    let texts = plain_texts d plain in
    line_then (codes "destination") d.destination _ refl
    (and_left (is_as_is d.destination) (is_as_is d.subscription) texts)
    ∙ ap (λ (x : List ℕ). codes "destination:" ++ (d.destination ++ 10 ∷ x))
    (line_then (codes "message-id") (decimal d.number) _ refl (decimal_as_is d.number number)
    ∙ ap (λ (x : List ℕ). codes "message-id:" ++ (decimal d.number ++ 10 ∷ x))
    (line_then (codes "subscription") d.subscription _ refl
    (and_right (is_as_is d.destination) (is_as_is d.subscription) texts)
    ∙ ap (λ (x : List ℕ). codes "subscription:" ++ (d.subscription ++ x)) (sym (acks_are d.ack ack))))

flat : (a b c d e f g h i j k : List ℕ)
    → ((((((((((a ++ b) ++ c) ++ d) ++ e) ++ f) ++ g) ++ h) ++ i) ++ j) ++ k)
    ≡ a ++ (b ++ (c ++ (d ++ (e ++ (f ++ (g ++ (h ++ (i ++ (j ++ k)))))))))
flat a b c d e f g h i j k = simp append_assoc

-- the lines written before a MESSAGE's own headers are those of its frame
pub head_is : (front : List ℕ) (d : Delivered) → is_plain_message d ≡ true → IsGiven (length d.body) → IsGiven d.number
    → IsGivenIfAny d.ack
    → ((((((((((front ++ codes "MESSAGE\ncontent-length:") ++ decimal (length d.body)) ++ codes "\ndestination:")
    ++ d.destination) ++ codes "\nmessage-id:") ++ decimal d.number) ++ codes "\nsubscription:") ++ d.subscription)
    ++ ack_text d.ack) ++ 10 ∷ [])
    ≡ front ++ (start_of Message d.body ++ lines_of Message (leading_headers d))
unfolding rest_of
head_is front d plain long number ack =
    let word = codes "MESSAGE\ncontent-length:" in
    let digits = decimal (length d.body) in
    flat front word digits (codes "\ndestination:") d.destination (codes "\nmessage-id:") (decimal d.number)
    (codes "\nsubscription:") d.subscription (ack_text d.ack) (10 ∷ [])
    ∙ ap (λ (x : List ℕ). front ++ x)
    (sym (ap₂ (λ (x y : List ℕ). x ++ y) (start_is d.body long) (leading_are d plain number ack)
    ∙ append_assoc (word ++ digits) (10 ∷ []) (rest_of d)
    ∙ append_assoc word digits (10 ∷ rest_of d)))

flat_whole : (a b c d e : List ℕ) → ((((a ++ (b ++ c)) ++ d) ++ 10 ∷ []) ++ e) ++ 0 ∷ []
    ≡ a ++ ((((b ++ (c ++ d)) ++ 10 ∷ []) ++ e) ++ 0 ∷ [])
flat_whole a b c d e = simp append_assoc

-- the parts are the whole
pub message_is : (front : List ℕ) (d : Delivered)
    → ((((front ++ (start_of Message d.body ++ lines_of Message (leading_headers d))) ++ lines_of Message d.headers)
    ++ 10 ∷ []) ++ d.body) ++ 0 ∷ []
    ≡ front ++ canonical (message_frame d)
message_is front d =
    let line = λ (h : Header). with_lf (line_of Message h) in
    let start = start_of Message d.body in
    flat_whole front start (lines_of Message (leading_headers d)) (lines_of Message d.headers) d.body
    ∙ ap (λ (x : List ℕ). front ++ x)
    (ap (λ (x : List ℕ). (((start ++ x) ++ 10 ∷ []) ++ d.body) ++ 0 ∷ [])
    (sym (flat_map-append line (leading_headers d) d.headers))
    ∙ sym (canonical_parts (message_frame d)))

-- a header's line
pub header_is : (front : List ℕ) (h : Header) → is_plain_header h ≡ true
    → (((front ++ h.name) ++ 58 ∷ []) ++ h.value) ++ 10 ∷ [] ≡ front ++ with_lf (line_of Message h)
header_is front h plain =
    rw (line_is h.name h.value (and_left (is_as_is h.name) (is_as_is h.value) plain)
    (and_right (is_as_is h.name) (is_as_is h.value) plain)) (simp append_assoc)
