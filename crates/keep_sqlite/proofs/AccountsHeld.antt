-- Accounts stand in the tables of billing.
use Rattle.std.proofs.Common.{◌≡◌, refl, inl, inr, true, arith}
use Rattle.base.specs.declared.entity.Kind.{Kind}
use Rattle.base.specs.declared.entity.Kind.TheVariants as kind
use Rattle.trade.specs.Words.{account_line_word}
use Rattle.sql_bodies.proofs.LineRows.{account_lines_back}
use Rattle.sql_rows.specs.Schema.{billing, accounts, account_lines}
use Rattle.keep_sqlite.specs.Accounts.{accounts as filing, account_rows, is_account}
use Rattle.keep_sqlite.proofs.Holders.{AreHeld}
use Rattle.keep_sqlite.proofs.Keys.{one_of_text}
use Rattle.keep_sqlite.proofs.StepRows.{order_text}

of_kind : (k : Kind) → is_account k ≡ true → k ≡ kind.Account
of_kind kind.Account is = refl
of_kind kind.Order is = absurd cc
of_kind kind.Stock is = absurd cc

-- accounts are kept as heads and lines, so what the proofs say of all holders is so of them
pub accounts_held : AreHeld filing account_rows kind.Account account_line_word
accounts_held = record {
  tells = λ db. refl;
  is = refl;
  only = of_kind;
  back = account_lines_back;
  one_head = λ db sound up. one_of_text billing db accounts sound (inr (inr (inr (inr (inr (inl refl)))))) refl refl
      up.1.1.1.1.1.0;
  lines_rise = λ db up. up.1.1.1.1.1.1.0;
  order_text = λ db sound. order_text billing db account_lines _ _ _ refl refl sound
      (inr (inr (inr (inr (inr (inr (inl refl)))))));
  apart = record {
    heads_left = λ old new left. left.1.1.1.1.1.0 (λ e. omega (arith, e));
    lines_left = λ old new left. left.1.1.1.1.1.1.0 (λ e. omega (arith, e));
  };
}
