-- The partners of an order, by the columns of its rows: one has its account, and those with a number from 1 have its
-- stocks.
use Rattle.std.specs.Prelude.{◌≡◌, true, ℕ, suc, ◌==◌, List, [], ◌∷◌, ◌++◌, length, Option, Some, None, if◌then◌else◌}
use Rattle.std.specs.Prelude.{MatchOption}
use Rattle.std.specs.Option.{option_map, option_and_then}
use Rattle.std.specs.Ordering.{nat_cmp, match_ordering}
use Rattle.base.specs.Entity.{is_key}
use Rattle.base.specs.Number.{IsNumber}
use Rattle.base.specs.declared.entity.Kind.{Kind}
use Rattle.base.specs.declared.entity.Kind.TheVariants.{Stock, Account}
use Rattle.envelope.specs.Reading.{as_number}
use Rattle.activities.specs.Words.{phase_word}
use Rattle.trade.specs.Orders.{Partner, OrderState}
use Rattle.trade.specs.Sound.{IsOrderSound}
use Rattle.trade.specs.declared.status.Status.{Status}
use Rattle.sql_bodies.specs.Reading.{as_key}
use Rattle.sql_bodies.specs.Steps.{steps}
use Rattle.sql_bodies.specs.Words.{phase_in}

-- the partner of this kind with this key, number and word
abbrev pub partner_in : Kind → List ℕ → ℕ → List ℕ → Option Partner
partner_in kind key number word =
    option_and_then (λ k. option_and_then (λ n. option_map
    (λ p. record { entity = record { kind = kind; key = k }; n = n; phase = p }) (phase_in word))
    (as_number number))
    (as_key key)

-- ---- stocks, from rows in order

-- the stocks with one more behind them, where its row has the next number
abbrev pub stocks_with : ℕ → Option Partner → List Partner → Option (List Partner)
stocks_with number found ps = if number == suc (length ps) then option_map (λ p. ps ++ p ∷ []) found else None

-- ---- stocks, from rows in any order

-- the numbered stocks with one more, in its place, where its number is another
abbrev pub placed : ℕ → Partner → List (ℕ × Partner) → Option (List (ℕ × Partner))
placed number p [] = Some ((number, p) ∷ [])
placed number p (q ∷ qs) = match_ordering (nat_cmp number q.0)
    (Some ((number, p) ∷ q ∷ qs))
    None
    (option_map (λ rest. q ∷ rest) (placed number p qs))

abbrev pub placed_with : ℕ → Option Partner → List (ℕ × Partner) → Option (List (ℕ × Partner))
placed_with number None qs = None
placed_with number (Some p) qs = placed number p qs

-- the stocks, where their numbers go up one by one
abbrev pub in_line : ℕ → List (ℕ × Partner) → Option (List Partner)
in_line number [] = Some []
in_line number (q ∷ qs) = if q.0 == number then option_map (λ ps. q.1 ∷ ps) (in_line (suc number) qs) else None

-- the stocks whose rows these are, by their numbers and by what is read of them, in whatever order
abbrev pub stocks_in : {R : Type 0} → (R → ℕ) → (R → Option Partner) → List R → Option (List Partner)
stocks_in number found rows =
    option_and_then (in_line 1) (steps (λ r. placed_with (number r) (found r)) rows [])

-- stocks with their numbers, and what is read of what is written of one: its key, its number, and the word of its phase
abbrev pub numbered : ℕ → List Partner → List (ℕ × Partner)
numbered number [] = []
numbered number (p ∷ ps) = (number, p) ∷ numbered (suc number) ps

abbrev pub stock_row : ℕ × Partner → Option Partner
stock_row q = partner_in Stock q.1.entity.key q.1.n (phase_word q.1.phase)

abbrev pub account_row : Partner → Option Partner
account_row p = partner_in Account p.entity.key p.n (phase_word p.phase)

-- what holds of each stock of an order: it is a stock, its key is a key, and its number is from 1 to 2^40
abbrev pub IsStock : Partner → Type 0
IsStock p = (p.entity.kind ≡ Stock) × (is_key p.entity.key ≡ true) × IsNumber p.n

-- and of its account
abbrev pub IsAccount : Partner → Type 0
IsAccount p = (p.entity.kind ≡ Account) × (is_key p.entity.key ≡ true) × IsNumber p.n

-- ---- an order

-- the order of a status, its stocks and its account, where these can be read
abbrev pub order_from : Option Status → Option (List Partner) → Option Partner → Option OrderState
order_from status stocks account = option_and_then (λ s. option_and_then (λ ps. option_map
    (λ p. record { status = s; partners = ps ++ p ∷ [] }) account) stocks) status

-- what reading an order may answer: the order, if its partners are one to eight stocks, each once, and one account; or
-- that there is none
abbrev pub IsOrderRead : Option OrderState → Option OrderState → Type 0
IsOrderRead None found = found ≡ None
IsOrderRead (Some o) found = MatchOption found (¬ IsOrderSound (Some o)) (λ s. (s ≡ o) × IsOrderSound (Some o))
