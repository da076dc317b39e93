-- What a session's open transactions are counted as.
use Rattle.std.specs.Prelude.{ℕ, Option, Some, None}
use Rattle.broker_tx.specs.Sizes.{open_octets}
use Rattle.broker_core.specs.declared.session.Session.{Session}

-- what the actions that they keep are counted as together; none where there is no session
abbrev pub kept_in : Option Session → ℕ
kept_in None = 0
kept_in (Some s) = open_octets s.transactions
