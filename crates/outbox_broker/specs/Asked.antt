-- What the words of the command line ask for.
use Rattle.std.specs.Prelude.{◌≡◌, ℕ, ◌==◌, if◌then◌else◌, List, codes, Option, Some, None, unwrap_or, option_and_then}
use Rattle.command_line.specs.Matches.{IsFlag, number_of}
use Rattle.clap.specs.Words.{Row, first_of}
use Rattle.outbox_broker.specs.declared.words.Settings.{Settings}

-- a number, where it isn't 0
abbrev pub unless_zero : ℕ → Option ℕ
unless_zero n = if n == 0 then None else Some n

-- The matches of the words ask for these settings: each stands behind the words of its name, and no other's.
pub record AreSettings (rows : List Row) (s : Settings) : Type 0 where
  pub port : s.port ≡ unwrap_or (number_of 16 (codes "port") rows) 0
  pub address : s.address.now ≡ unwrap_or (first_of (codes "listen") rows) (codes "127.0.0.1")
  pub until_input_ends : IsFlag (codes "until-input-ends") rows s.until_input_ends
  pub log : s.log.now ≡ unwrap_or (first_of (codes "log") rows) (codes "error")
  pub figures : s.figures ≡ option_and_then unless_zero (number_of 16 (codes "figures") rows)
  pub idle : s.idle ≡ option_and_then unless_zero (number_of 16 (codes "idle") rows)
  pub memory : s.memory ≡ option_and_then unless_zero (number_of 64 (codes "memory") rows)
