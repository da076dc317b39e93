-- Stocks stand in the tables of warehouse.
use Rattle.std.proofs.Common.{◌≡◌, refl, inl, inr, true, arith}
use Rattle.base.specs.declared.entity.Kind.{Kind}
use Rattle.base.specs.declared.entity.Kind.TheVariants as kind
use Rattle.trade.specs.Words.{stock_line_word}
use Rattle.sql_bodies.proofs.LineRows.{stock_lines_back}
use Rattle.sql_rows.specs.Schema.{warehouse, stocks, stock_lines}
use Rattle.keep_sqlite.specs.Stocks.{stocks as filing, stock_rows, is_stock}
use Rattle.keep_sqlite.proofs.Holders.{AreHeld}
use Rattle.keep_sqlite.proofs.Keys.{one_of_text}
use Rattle.keep_sqlite.proofs.StepRows.{order_text}

of_kind : (k : Kind) → is_stock k ≡ true → k ≡ kind.Stock
of_kind kind.Stock is = refl
of_kind kind.Order is = absurd cc
of_kind kind.Account is = absurd cc

-- stocks are kept as heads and lines, so what the proofs say of all holders is so of them
pub stocks_held : AreHeld filing stock_rows kind.Stock stock_line_word
stocks_held = record {
  tells = λ db. refl;
  is = refl;
  only = of_kind;
  back = stock_lines_back;
  one_head = λ db sound up. one_of_text warehouse db stocks sound (inr (inr (inr (inr (inr (inl refl)))))) refl refl
      up.1.1.1.1.1.0;
  lines_rise = λ db up. up.1.1.1.1.1.1.0;
  order_text = λ db sound. order_text warehouse db stock_lines _ _ _ refl refl sound
      (inr (inr (inr (inr (inr (inr (inl refl)))))));
  apart = record {
    heads_left = λ old new left. left.1.1.1.1.1.0 (λ e. omega (arith, e));
    lines_left = λ old new left. left.1.1.1.1.1.1.0 (λ e. omega (arith, e));
  };
}
