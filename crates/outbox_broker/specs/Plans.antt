-- What is done, by the settings.
use Rattle.std.specs.Prelude.{◌≡◌, ℕ, ◌*◌, if◌then◌else◌, List, codes, Option, Some, None, option_map, Result, Ok, Err}
use Rattle.std.specs.Duration.{as_nanos}
use Rattle.std.specs.Net.Grammar.{IsIpText}
use Rattle.std.specs.Net.ToAddrs.{IsHostAndPort}
use Rattle.std.specs.Str.{bytes_eq}
use Rattle.std.specs.declared.net.ip_addr.IpAddr.{IpAddr}
use Rattle.log.specs.declared.level.LevelFilter.{LevelFilter}
use Rattle.log.specs.declared.level.LevelFilter.TheVariants as level
use Rattle.outbox_broker.specs.declared.plan.Plan.{Plan}
use Rattle.outbox_broker.specs.declared.plan.PlanFault.{PlanFault}
use Rattle.outbox_broker.specs.declared.plan.PlanFault.TheVariants.{Address, Level}
use Rattle.outbox_broker.specs.declared.words.Settings.{Settings}

-- the level of a word
abbrev pub level_of : List ℕ → Option LevelFilter
level_of word =
    if bytes_eq word (codes "off") then Some level.Off
    else if bytes_eq word (codes "error") then Some level.Error
    else if bytes_eq word (codes "warn") then Some level.Warn
    else if bytes_eq word (codes "info") then Some level.Info
    else if bytes_eq word (codes "debug") then Some level.Debug
    else None

-- seconds, in nanoseconds
abbrev pub nanos_of : ℕ → ℕ
nanos_of seconds = seconds * 1_000_000_000

-- What is done is what the settings say.
pub record IsPlanOf (s : Settings) (p : Plan) : Type 0 where
  pub address : IsHostAndPort s.address.now s.port p.address
  pub level : level_of s.log.now ≡ Some p.level
  pub idle : option_map as_nanos p.options.idle ≡ option_map nanos_of s.idle
  pub figures : option_map as_nanos p.options.figures ≡ option_map nanos_of s.figures
  pub memory : p.options.memory ≡ s.memory
  pub until_input_ends : p.until_input_ends ≡ s.until_input_ends

-- What the settings come to: a plan, or the text of an address that is none, or that of a level that is none.
abbrev pub PlanAnswer : Settings → Result Plan PlanFault → Type 0
PlanAnswer s (Ok p) = IsPlanOf s p
PlanAnswer s (Err (Address text)) = (text.now ≡ s.address.now) × ((ip : IpAddr) → ¬ (IsIpText s.address.now ip))
PlanAnswer s (Err (Level text)) = (text.now ≡ s.log.now) × (level_of s.log.now ≡ None)
