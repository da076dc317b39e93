-- The reactions of an account.
use Rattle.std.specs.Prelude.{ℕ, ◌+◌, ◌-◌, nat_le, nat_lt, List, [], Result, Ok, Err, if◌then◌else◌}
use Rattle.base.specs.declared.limits.TheConstants.{MAX_NUMBER}
use Rattle.trade.specs.declared.commands.AccountCommand.{AccountCommand}
use Rattle.trade.specs.declared.commands.AccountCommand.TheVariants.{SetLimit}
use Rattle.activities.specs.declared.handler.Refusal.{Refusal}
use Rattle.activities.specs.declared.handler.Refusal.TheVariants.{OutOfRange, BelowUse}
use Rattle.activities.specs.declared.outs.Out.{Out}
use Rattle.trade.specs.Holding.{Holding, on_line_message}
use Rattle.trade.specs.Lines.{Line}
use Rattle.activities.specs.Reaction.{Reactions}

-- an account: its limit, how much of it is billed and held, and its lines
pub record AccountState : Type 0 where
  pub limit : ℕ
  pub billed : ℕ
  pub held : ℕ
  pub lines : List Line

-- the limit is set: to 2^40 at most, and not below what is billed and held
abbrev pub on_account_command : AccountState → AccountCommand → Result (AccountState × List Out) Refusal
on_account_command x (SetLimit n) =
    if nat_lt MAX_NUMBER n
    then Err OutOfRange
    else (if nat_lt n (x.billed + x.held) then Err BelowUse else Ok (record x { limit = n }, []))

-- what the limit leaves can be held; what is finished is billed
abbrev pub account_holding : Holding AccountState
account_holding = record {
  lines = λ x. x.lines;
  with_lines = λ x lines. record x { lines = lines };
  fits = λ x n. nat_le (x.billed + x.held + n) x.limit;
  hold = λ x n. record x { held = x.held + n };
  finish = λ x n. record x { held = x.held - n; billed = x.billed + n };
  free = λ x n. record x { held = x.held - n };
}

-- accounts: none is billed or held at first, and the limit is 0
abbrev pub account_reactions : Reactions AccountState AccountCommand
account_reactions = record {
  opening = record { limit = 0; billed = 0; held = 0; lines = [] };
  on_command = on_account_command;
  on_message = on_line_message account_holding;
}
