-- How an order stood in version 1's rows of purchasing: in one row, with its one stock.
use Rattle.std.specs.Prelude.{[], ◌∷◌, Option, option_map}
use Rattle.sqlite.specs.declared.types.Value.{Value}
use Rattle.trade.specs.Orders.{OrderState}
use Rattle.keep_sqlite.specs.Orders.{order_told, stock_told}

-- the order of these values: the key of its stock, how much it was asked for, the key of its account, the amount, the
-- word of its status, and those of the stock's phase and of the account's
abbrev pub first_order_told : Value → Value → Value → Value → Value → Value → Value → Option OrderState
first_order_told stock n account amount status stock_phase account_phase =
    order_told account amount status account_phase (option_map (λ p. p ∷ []) (stock_told stock n stock_phase))
