-- Whether these can be the partners of an order.
use Rattle.std.specs.Prelude.{Bool, true, false, ◌&&◌, not, nat_lt, nat_le, suc, List, [], ◌∷◌, length, map}
use Rattle.std.specs.List.{list_any}
use Rattle.base.specs.Entity.{Entity}
use Rattle.base.specs.Order.{same_entity}
use Rattle.base.specs.declared.entity.Kind.{Kind}
use Rattle.base.specs.declared.entity.Kind.TheVariants.{Stock, Account}
use Rattle.base.specs.declared.limits.TheConstants.{MAX_LINES}
use Rattle.trade.specs.Orders.{Partner}

-- whom they are
abbrev pub names : List Partner → List Entity
names ps = map (λ (p : Partner). p.entity) ps

-- whether the entity is one of these
abbrev pub stands_in : Entity → List Entity → Bool
stands_in e es = list_any (same_entity e) es

-- whether a kind is that of stocks, or of accounts
abbrev pub is_stock : Kind → Bool
is_stock Stock = true
is_stock _ = false

abbrev pub is_account : Kind → Bool
is_account Account = true
is_account _ = false

-- whether they are stocks, each once, and then one account
abbrev pub are_stocks_then_account : List Entity → Bool
are_stocks_then_account [] = false
are_stocks_then_account (e ∷ []) = is_account e.kind
are_stocks_then_account (e ∷ f ∷ es) = is_stock e.kind && not (stands_in e (f ∷ es)) && are_stocks_then_account (f ∷ es)

-- whether they are one to eight stocks, each once, and then one account
abbrev pub are_partners : List Entity → Bool
are_partners es = nat_lt 1 (length es) && nat_le (length es) (suc MAX_LINES) && are_stocks_then_account es
