-- The receipts of a connection.
use Rattle.std.specs.Prelude.{◌≡◌, ℕ, ◌≤◌, ◌<◌, ◌+◌, ◌^◌, ◌-◌, List, [], ◌∷◌, ◌++◌, Option, Result, Ok, Err}
use Rattle.std.specs.Map.{lookup, remove_entry}
use Rattle.std.specs.BTreeMap.{is_at}
use Rattle.std.specs.Ordering.{nat_cmp}
use Rattle.receipts.specs.declared.fault.ReceiptFault.{ReceiptFault}
use Rattle.receipts.specs.declared.fault.ReceiptFault.TheVariants.{Memory, NumbersUsed}

-- the last number given, and the open tags with their numbers
pub record ReceiptBook (T : Type 0) : Type 0 where
  pub last : ℕ
  pub tags : List (ℕ × T)

-- the numbers rise, above the first and up to the last
abbrev pub Rise : {T : Type 0} → (above last : ℕ) → List (ℕ × T) → Type 0
Rise above last [] = above ≤ last
Rise above last (entry ∷ entries) = (above < entry.0) × Rise entry.0 last entries

-- the numbers of open tags rise, from 1 up to the last one given
pub record IsBook {T : Type 0} (book : ReceiptBook T) : Type 0 where
  pub numbered : Rise 0 book.last book.tags

-- no number was given
abbrev pub new_book : {T : Type 0} → ReceiptBook T
new_book = record { last = 0; tags = [] }

-- the tag that is open under a number
abbrev pub open_under : {T : Type 0} → ℕ → ReceiptBook T → Option T
open_under number book = lookup (is_at (nat_cmp number)) book.tags

-- a tag is open under the next number
abbrev pub opened : {T : Type 0} → T → ReceiptBook T → ReceiptBook T
opened tag book = record { last = book.last + 1; tags = book.tags ++ (book.last + 1, tag) ∷ [] }

-- a number is open no more
abbrev pub closed : {T : Type 0} → ℕ → ReceiptBook T → ReceiptBook T
closed number book = record book { tags = remove_entry (is_at (nat_cmp number)) book.tags }

-- What opening a receipt for a tag does and answers.
abbrev pub Opens : {T : Type 0} → T → ReceiptBook T → ReceiptBook T → Result ℕ ReceiptFault → Type 0
Opens tag old new (Ok number) = (number ≡ old.last + 1) × (new ≡ opened tag old)
Opens tag old new (Err NumbersUsed) = (old.last ≡ 2 ^ 64 - 1) × (new ≡ old)
Opens tag old new (Err Memory) = (old.last < 2 ^ 64 - 1) × (new ≡ old)
