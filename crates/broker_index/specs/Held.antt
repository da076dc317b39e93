-- What messages are counted as together, and how many of them are out.
use Rattle.std.specs.Prelude.{◌≡◌, ◌%◌, ◌^◌, ℕ, true, List, Option, Some, None}
use Rattle.std.specs.List.{sum_by}
use Rattle.broker_book.specs.Books.{Fate, Ready, Out}
use Rattle.broker_book.specs.Sizes.{sent_octets}
use Rattle.broker_index.specs.Index.{Kept}
use Rattle.broker_index.specs.Slots.{is_rising}

-- what kept messages are counted as together
abbrev pub kept_octets : List Kept → ℕ
kept_octets kept = sum_by (λ k. sent_octets k.sent) kept

-- 1 for a message of this fate that is out, else 0
abbrev pub out_weight : Option Fate → ℕ
out_weight None = 0
out_weight (Some Ready) = 0
out_weight (Some (Out session id number)) = 1

-- how many kept messages are out
abbrev pub kept_out : List Kept → ℕ
kept_out kept = sum_by (λ k. out_weight k.fate) kept

-- what a message weighs, nothing where there is none
abbrev pub found_weight : (Kept → ℕ) → Option Kept → ℕ
found_weight weight None = 0
found_weight weight (Some k) = weight k

-- what a message is counted as, none where there is none
abbrev pub octets_found : Option Kept → ℕ
octets_found found = found_weight (λ k. sent_octets k.sent) found

-- 1 where there is a message and it is out, else 0
abbrev pub out_found : Option Kept → ℕ
out_found found = found_weight (λ k. out_weight k.fate) found

-- Their numbers rise, and this is what they are counted as and how many of them are out, modulo 2^64.
pub record AreHeld (kept : List Kept) (octets out : ℕ) : Type 0 where
  pub rising : is_rising (λ (k : Kept). k.number) kept ≡ true
  pub counted : octets ≡ kept_octets kept % 2 ^ 64
  pub delivered : out ≡ kept_out kept % 2 ^ 64
