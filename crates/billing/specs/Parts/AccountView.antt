-- An account as contracts see it, and what holds of its fields.
use Rattle.trade.specs.Accounts.{AccountState}
use Rattle.trade.specs.Sound.{IsAccountSound}
use Rattle.billing.specs.declared.account.Account.TheInside.{Inside}

-- its numbers and its lines
abbrev pub account_in : Inside → AccountState
account_in a = record { limit = a.limit; billed = a.billed; held = a.held; lines = a.lines }

-- it is sound
abbrev pub IsWhole : Inside → Type 0
IsWhole a = IsAccountSound (account_in a)
