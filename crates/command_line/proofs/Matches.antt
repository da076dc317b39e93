-- What is read of the matches of words.
use Rattle.std.proofs.Common.{◌≡◌, ℕ, ◌^◌, Bool, true, false, ◌&&◌, List, [], ◌∷◌, Option, Some, None, length, refl, sym, ap, ◌∙◌, lt-ltb, ltb-true}
use Rattle.std.specs.Prelude.{Result, Ok, Err, codes, nat_lt, option_and_then, option_map, unwrap_or}
use Rattle.std.specs.Borrow.{Bor}
use Rattle.std.specs.Char.{digit_value}
use Rattle.std.specs.List.{list_all}
use Rattle.std.specs.Result.{result_ok}
use Rattle.std.specs.Str.Parse.{AllDigits, ParsesUnsigned, digits_value, without_leading_plus}
use Rattle.clap.proofs.WalkLemmas.{both, first_value-rows, one_text-rows}
use Rattle.clap.specs.Matches.{ReadsOne, first_value, one_text}
use Rattle.clap.specs.ValueTests.{is_numeral}
use Rattle.clap.specs.Walk.{rows_of}
use Rattle.clap.specs.Words.{Text, first_of}
use Rattle.clap.specs.declared.parser.matches.Found.{Found}
use Rattle.command_line.specs.Matches.{IsFlag, number_in, number_of}

-- a flag is read as the matches have it
pub flag_is : (f : Found) (id : Text) (flag : Bool) → (one_text f id ≡ Some (codes "true") → flag ≡ true)
    → (one_text f id ≡ Some (codes "false") → flag ≡ false) → IsFlag id (rows_of f) flag
flag_is f id flag on off = (λ is. on (one_text-rows f id ∙ is), λ is. off (one_text-rows f id ∙ is))

-- a text is read as the matches have it, and another one where they have none
pub text_is : (f : Found) (id : Text) (read : Option (Bor Text)) (other : Bor Text)
    → option_map (λ s. s.now) read ≡ first_value f id
    → (unwrap_or read other).now ≡ unwrap_or (first_of id (rows_of f)) other.now
text_is f id read other told = go read ∙ ap (λ o. unwrap_or o other.now) (told ∙ first_value-rows f id)
  where
    go : (r : Option (Bor Text)) → (unwrap_or r other).now ≡ unwrap_or (option_map (λ s. s.now) r) other.now
    go None = refl
    go (Some s) = refl

-- ---- numbers

digits_pass : (ds : List ℕ) → AllDigits 10 ds → list_all (λ d. nat_lt (digit_value d) 10) ds ≡ true
digits_pass [] h = refl
digits_pass (d ∷ ds) h = rw (lt-ltb (digit_value d) 10 h.0) (digits_pass ds h.1)

digits_from : (ds : List ℕ) → list_all (λ d. nat_lt (digit_value d) 10) ds ≡ true → AllDigits 10 ds
digits_from [] e = tt
digits_from (d ∷ ds) e = let parts = both _ _ e in (ltb-true _ _ parts.0, digits_from ds parts.1)

-- a text is read as the number that it writes, if it writes one
reading_is : {E : Type 0} (bits : ℕ) (text : Text) (r : Result ℕ E) → ParsesUnsigned bits 10 text r
    → result_ok r ≡ number_in bits text
reading_is bits text (Ok n) h =
    let ds = without_leading_plus text in
    rw (lt-ltb 0 (length ds) h.0.0.0, digits_pass ds h.0.0.1, lt-ltb (digits_value 10 ds) (2 ^ bits) h.0.1)
    (ap (λ m. Some m) h.1)
reading_is bits text (Err e) h = go (is_numeral ds && nat_lt (digits_value 10 ds) (2 ^ bits)) refl
  where
    ds : List ℕ
    ds = without_leading_plus text

    go : (b : Bool) → (is_numeral ds && nat_lt (digits_value 10 ds) (2 ^ bits)) ≡ b → None ≡ number_in bits text
    go false t = rw t refl
    go true t =
        let outer = both _ _ t in
        let inner = both _ _ outer.0 in
        absurd (h ((ltb-true _ _ inner.0, digits_from ds inner.1), ltb-true _ _ outer.1))

text_reads : {E : Type 0} (gives : Text → Result ℕ E → Type 0) (bits : ℕ) (text : Text) (read : Option ℕ)
    → ((r : Result ℕ E) → gives text r → ParsesUnsigned bits 10 text r) → ReadsOne gives text read
    → read ≡ number_in bits text
text_reads {E} gives bits text (Some n) parses h = reading_is {E = E} bits text (Ok n) (parses (Ok n) h)
text_reads {E} gives bits text None parses h = reading_is {E = E} bits text (Err h.0) (parses (Err h.0) h.1)

-- a number is read as the matches have it, where a type reads texts as those of so many bits
pub number_is : {E : Type 0} (gives : Text → Result ℕ E → Type 0) (bits : ℕ) (f : Found) (id : Text) (read : Option ℕ)
    → ((text : Text) (r : Result ℕ E) → gives text r → ParsesUnsigned bits 10 text r)
    → (one_text f id ≡ None → read ≡ None)
    → ((text : Text) → one_text f id ≡ Some text → ReadsOne gives text read) → read ≡ number_of bits id (rows_of f)
number_is {E} gives bits f id read parses none value =
    go (one_text f id) refl ∙ ap (option_and_then (number_in bits)) (one_text-rows f id)
  where
    go : (o : Option Text) → one_text f id ≡ o → read ≡ option_and_then (number_in bits) o
    go None is = none is
    go (Some text) is = text_reads gives bits text read (parses text) (value text is)
