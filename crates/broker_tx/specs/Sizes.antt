-- What open transactions are counted as.
use Rattle.std.specs.Prelude.{ℕ, List}
use Rattle.std.specs.List.{sum_by}
use Rattle.broker_book.specs.Sizes.{action_octets}
use Rattle.broker_tx.specs.Transactions.{Transaction}

-- what the actions of a transaction are counted as together
abbrev pub transaction_octets : Transaction → ℕ
transaction_octets t = sum_by action_octets t.actions

-- the same of all that are open
abbrev pub open_octets : List Transaction → ℕ
open_octets ts = sum_by transaction_octets ts
