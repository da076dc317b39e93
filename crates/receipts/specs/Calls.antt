-- What happens to receipts, call by call.
use Rattle.std.specs.Prelude.{◌≡◌, ℕ, ◌-◌, ◌<◌, List, [], ◌∷◌, Option, Some, None, slice_get}
use Rattle.receipts.specs.Books.{ReceiptBook, open_under, opened, closed}

-- a tag was opened, or a number was closed and this was given
pub data Call (T : Type 0) : Type 0 where
  Opened : T → Call T
  Closed : ℕ → Option T → Call T

module _ {T : Type 0} where
  -- the calls lead from the one book to the other
  abbrev pub Leads : ReceiptBook T → List (Call T) → ReceiptBook T → Type 0
  Leads old [] new = new ≡ old
  Leads old (Opened tag ∷ calls) new = Leads (opened tag old) calls new
  Leads old (Closed number answer ∷ calls) new = (answer ≡ open_under number old) × Leads (closed number old) calls new

  -- the tags that were opened, in order
  abbrev pub opened_tags : List (Call T) → List T
  opened_tags [] = []
  opened_tags (Opened tag ∷ calls) = tag ∷ opened_tags calls
  opened_tags (Closed number answer ∷ calls) = opened_tags calls

  -- the tags that were given, with their numbers
  abbrev pub given : List (Call T) → List (ℕ × T)
  given [] = []
  given (Opened tag ∷ calls) = given calls
  given (Closed number None ∷ calls) = given calls
  given (Closed number (Some tag) ∷ calls) = (number, tag) ∷ given calls

  -- each of these is the tag that was opened under its number
  abbrev pub AreOpened : List T → List (ℕ × T) → Type 0
  AreOpened tags [] = Unit {0}
  AreOpened tags (entry ∷ entries) =
      (0 < entry.0) × (slice_get tags (entry.0 - 1) ≡ Some entry.1) × AreOpened tags entries
