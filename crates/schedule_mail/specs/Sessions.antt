-- Which sessions a broker has.
use Rattle.std.specs.Prelude.{◌≡◌, ◌≢◌, ℕ, Bool, true, is_some}
use Rattle.broker_core.specs.Serving.{Server, session_of}

-- whether a broker has a session of this number
abbrev pub has_session : ℕ → Server → Bool
has_session n b = is_some (session_of n b)

-- the same sessions are there
abbrev pub KeepsSessions : Server → Server → Type 0
KeepsSessions old new = (n : ℕ) → has_session n new ≡ has_session n old

-- the same but one are
abbrev pub KeepsOthers : ℕ → Server → Server → Type 0
KeepsOthers own old new = (n : ℕ) → n ≢ own → has_session n new ≡ has_session n old
