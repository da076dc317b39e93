-- Which octets are text.
use Rattle.std.proofs.Common.{◌≡◌, ℕ, List, true, false}
use Rattle.std.specs.Str.{is_utf8, IsUtf8}
use Rattle.std.proofs.lemmas.Str.{IsUtf8-from_is_utf8, is_utf8-from_IsUtf8}
use Rattle.std.proofs.lemmas.Bool.{false_from_ne_true}

pub utf8_yes : (text : List ℕ) → IsUtf8 text → is_utf8 text ≡ true
utf8_yes = is_utf8-from_IsUtf8

pub utf8_no : (text : List ℕ) → (IsUtf8 text → ⊥) → is_utf8 text ≡ false
utf8_no text other = false_from_ne_true _ (λ text_is. other (IsUtf8-from_is_utf8 text text_is))
