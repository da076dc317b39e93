-- Which headers the frames of a server can own.
use Rattle.std.proofs.Common.{◌≡◌, ℕ, ◌+◌, ◌≤◌, Bool, true, false, cond, ◌||◌, ltb, List, [], ◌∷◌, ◌++◌, length}
use Rattle.std.proofs.Common.{decimal, refl, ◌∙◌, arith}
use Rattle.std.specs.Prelude.{◌==◌, filter}
use Rattle.std.specs.List.{AllByRecursion, list_all}
use Rattle.std.specs.Char.{is_ascii_digit}
use Rattle.std.specs.Str.{is_utf8, all_ascii_digits, IsAscii}
use Rattle.std.proofs.lemmas.Bool.{ltb-true}
use Rattle.std.proofs.lemmas.Bool.Decides.{nat_tests}
use Rattle.std.proofs.lemmas.List.{length-append}
use Rattle.std.proofs.lemmas.List.Folds.{list_any-append}
use Rattle.std.proofs.lemmas.Fmt.{length-decimal-le, digits_decimal, IsAscii-decimal}
use Rattle.std.proofs.lemmas.Str.{IsUtf8-append, IsUtf8-from_ascii, IsUtf8-from_is_utf8, is_utf8-from_IsUtf8}
use Rattle.std.proofs.lemmas.Str.Ascii.{IsAscii-cons, IsAscii-nil}
use Rattle.std.proofs.lemmas.Str.Parse.{numerals_by_value, tells_all_ascii_digits}
use Rattle.stomp_frame.specs.declared.command.Command.{Command}
use Rattle.stomp_frame.specs.Commands.{is_exempt}
use Rattle.stomp_frame.specs.Frames.{header, has, is_bad, gives_length, IsOwn}
use Rattle.stomp_frame.proofs.Escapes.{line_doubles}
use Rattle.stomp_frame.proofs.Scans.{and_left, and_right}
use Rattle.stomp_session.specs.Replies.{IsEchoed, IsGiven}

-- ---- texts

-- octets of ASCII
ascii : (text : List ℕ) → list_all (λ o. ltb o 128) text ≡ true → IsAscii text
ascii [] all = IsAscii-nil
ascii (o ∷ text) all =
    let others = list_all (λ o. ltb o 128) text in
    IsAscii-cons o text (ltb-true o 128 (and_left (ltb o 128) others all))
    (ascii text (and_right (ltb o 128) others all))

pub utf8 : (text : List ℕ) → list_all (λ o. ltb o 128) text ≡ true → is_utf8 text ≡ true
utf8 text all = is_utf8-from_IsUtf8 text (IsUtf8-from_ascii text (ascii text all))

utf8_both : (a b : List ℕ) → is_utf8 a ≡ true → is_utf8 b ≡ true → is_utf8 (a ++ b) ≡ true
utf8_both a b p q = is_utf8-from_IsUtf8 (a ++ b) (IsUtf8-append a b (IsUtf8-from_is_utf8 a p) (IsUtf8-from_is_utf8 b q))

plain_both : (a b : List ℕ) → has 0 a ≡ false → has 0 b ≡ false → has 0 (a ++ b) ≡ false
plain_both a b p q = list_any-append (λ o. o == 0) a b ∙ rw (p, q) refl

not_nul : (o : ℕ) → is_ascii_digit o ≡ true → (o == 0) ≡ false
not_nul o is = grind (arith, nat_tests)

digits_plain : (digits : List ℕ) → all_ascii_digits digits ≡ true → has 0 digits ≡ false
digits_plain [] all = refl
digits_plain (d ∷ digits) all =
    let first = and_left (is_ascii_digit d) (all_ascii_digits digits) all in
    let others = and_right (is_ascii_digit d) (all_ascii_digits digits) all in
    rw (not_nul d first, digits_plain digits others) refl

-- a number in decimal can be told
pub told_number : (n : ℕ) → IsGiven n → IsEchoed (decimal n)
told_number n small = record {
  plain = digits_plain (decimal n) (digits_decimal (numerals_by_value _ tells_all_ascii_digits) n small);
  utf8 = is_utf8-from_IsUtf8 (decimal n) (IsUtf8-from_ascii (decimal n) (IsAscii-decimal n small));
  short = omega (arith, length-decimal-le 20 n (omega arith) (omega (arith, small)) small);
}

-- ---- headers

-- A header of a name of ASCII and a value, in a frame of that command.
pub record IsTellable (c : Command) (name value : List ℕ) : Type 0 where
  pub good : is_bad c (header name value) ≡ false
  pub ascii : list_all (λ o. ltb o 128) name ≡ true
  pub own : gives_length (header name value) ≡ false
  pub utf8 : is_utf8 value ≡ true
  pub short : length name + length value ≤ 256

pub owned : (c : Command) (name value : List ℕ) → IsTellable c name value → IsOwn c (header name value)
owned c name value is = record {
  header = record {
    good = is.good;
    name = utf8 name is.ascii;
    value = is.utf8;
    short = omega (arith, line_doubles c (header name value), is.short);
  };
  own = is.own;
}

-- the same of a value that may be echoed, where a value may hold any octet but NUL
pub echo_owned : (c : Command) (name value : List ℕ) → is_exempt c ≡ false → (length name == 0 || has 0 name) ≡ false
    → list_all (λ o. ltb o 128) name ≡ true → gives_length (header name value) ≡ false → length name ≤ 128
    → IsEchoed value
    → IsOwn c (header name value)
echo_owned c name value escapes named letters other short echoed = owned c name value (record {
  good = rw (named, echoed.plain, escapes) refl;
  ascii = letters;
  own = other;
  utf8 = echoed.utf8;
  short = omega (arith, short, echoed.short);
})

-- ---- a number, a space and a name
pub record IsMessage (text : List ℕ) : Type 0 where
  pub plain : has 0 text ≡ false
  pub utf8 : is_utf8 text ≡ true
  pub short : length text ≤ 149

pub told_message : (n : ℕ) (name : List ℕ) → IsGiven n → IsEchoed name → IsMessage (decimal n ++ 32 ∷ name)
told_message n name small echoed =
    let number = told_number n small in
    let digits = length-decimal-le 20 n (omega arith) (omega (arith, small)) small in
    record {
      plain = plain_both (decimal n) (32 ∷ name) number.plain echoed.plain;
      utf8 = utf8_both (decimal n) (32 ∷ name) number.utf8 (utf8_both (32 ∷ []) name (utf8 (32 ∷ []) refl) echoed.utf8);
      short = omega (arith, length-append (decimal n) (32 ∷ name), digits, echoed.short);
    }

-- ---- lists of headers

pub all_append : {A : Type 0} (P : A → Type 0) (xs ys : List A) → AllByRecursion P xs → AllByRecursion P ys
    → AllByRecursion P (xs ++ ys)
all_append P [] ys none others = others
all_append P (x ∷ xs) ys each others = (each.0, all_append P xs ys each.1 others)

pub all_filter : {A : Type 0} (P : A → Type 0) (test : A → Bool) (xs : List A) → AllByRecursion P xs
    → AllByRecursion P (filter test xs)
all_filter P test [] none = tt
all_filter P test (x ∷ xs) each = kept (test x) (all_filter P test xs each.1)
  where
    kept : (b : Bool) → AllByRecursion P (filter test xs)
        → AllByRecursion P (cond b (x ∷ filter test xs) (filter test xs))
    kept true rest = (each.0, rest)
    kept false rest = rest
