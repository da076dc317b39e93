-- Examples: what is sound, and what isn't.
use Rattle.std.proofs.Common.{◌≡◌, ◌<◌, ℕ, List, [], ◌∷◌, refl, ap, arith, get_or}
use Rattle.std.specs.List.Sorted.{IsStrictlySortedBy}
use Rattle.std.specs.Prelude.{codes, Some}
use Rattle.base.specs.Entity.{Entity, order_of, stock_of, account_of}
use Rattle.base.specs.Order.{same_entity}
use Rattle.trade.specs.declared.commands.StockCommand.TheVariants.{Receive}
use Rattle.activities.specs.declared.input.Input.TheVariants.{FromSeat}
use Rattle.trade.specs.declared.line_phase.LinePhase.{LinePhase}
use Rattle.activities.specs.declared.phase.Phase.{Phase}
use Rattle.trade.specs.declared.status.Status.TheVariants.{Open}
use Rattle.trade.specs.Accounts.{AccountState}
use Rattle.trade.specs.Lines.{Line}
use Rattle.activities.specs.Invariant.{IsInvariant}
use Rattle.trade.specs.Sound.{AreStocksThenAccount, ArePartners, IsOrderSound, AreLinesSound, IsStockSound}
use Rattle.trade.specs.Sound.{IsAccountSound}
use Rattle.trade.specs.Stocks.{StockState, stock_reactions}
use Rattle.trade.proofs.LineLists.{lines_sound-none}

abbrev o1 : Entity
o1 = order_of (codes "o1")

abbrev o2 : Entity
o2 = order_of (codes "o2")

abbrev bolts : Entity
bolts = stock_of (codes "bolts")

abbrev nuts : Entity
nuts = stock_of (codes "nuts")

abbrev acme : Entity
acme = account_of (codes "acme")

abbrev line : Entity → ℕ → LinePhase → Line
line order n phase = record { order = order; n = n; phase = phase }

-- ---- orders

-- an order asks stocks, of which each differs from those behind it, and then one account
stocks_and_then_an_account : AreStocksThenAccount (bolts ∷ acme ∷ []) × AreStocksThenAccount (bolts ∷ nuts ∷ acme ∷ [])
    × IsOrderSound (Some (record {
      status = Open;
      partners = record { entity = bolts; n = 3; phase = Phase.Requested } ∷ record
          { entity = acme; n = 500; phase = Phase.Tentative }
          ∷ [];
    }))
stocks_and_then_an_account = (
  (refl, (λ e. apart e, tt), refl),
  (refl, (λ e. others e, (λ e. apart e, tt)), (refl, (λ e. apart_too e, tt), refl)),
  record { in_order = (refl, (λ e. apart e, tt), refl); some = omega arith; few = omega arith },
)
  where
    first : Entity → ℕ
    first e = get_or e.key 0 0

    apart : bolts ≡ acme → ⊥
    apart e = omega (arith, ap first e)

    apart_too : nuts ≡ acme → ⊥
    apart_too e = omega (arith, ap first e)

    others : bolts ≡ nuts → ⊥
    others e = omega (arith, ap first e)

-- it asks a stock at least and eight at most, none twice, an account at the end and nowhere else, and no order
other_partners :
    (AreStocksThenAccount [] → ⊥)
    × (AreStocksThenAccount (bolts ∷ []) → ⊥)
    × (AreStocksThenAccount (acme ∷ bolts ∷ []) → ⊥)
    × (AreStocksThenAccount (bolts ∷ acme ∷ acme ∷ []) → ⊥)
    × (AreStocksThenAccount (bolts ∷ bolts ∷ acme ∷ []) → ⊥)
    × (AreStocksThenAccount (bolts ∷ nuts ∷ bolts ∷ acme ∷ []) → ⊥)
    × (AreStocksThenAccount (o1 ∷ acme ∷ []) → ⊥)
    × (IsOrderSound (Some (record {
      status = Open;
      partners =
          record { entity = bolts; n = 3; phase = Phase.Requested } ∷ [];
    })) → ⊥)
    × (IsOrderSound (Some (record {
      status = Open;
      partners =
          record { entity = acme; n = 500; phase = Phase.Requested } ∷ [];
    })) → ⊥)
    × (ArePartners (stock_of (codes "1") ∷ stock_of (codes "2") ∷ stock_of (codes "3") ∷ stock_of (codes "4") ∷ stock_of
    (codes "5")
    ∷ stock_of (codes "6") ∷ stock_of (codes "7") ∷ stock_of (codes "8") ∷ stock_of (codes "9") ∷ acme ∷ []) → ⊥)
other_partners = (
  λ h. h,
  λ h. absurd (cc),
  λ h. let e = h.0 in absurd (cc),
  λ h. let e = h.2.0 in absurd (cc),
  λ h. h.1.0 refl,
  λ h. h.1.1.0 refl,
  λ h. let e = h.0 in absurd (cc),
  λ h. let e = h.some in omega (arith, e),
  λ h. let e = h.some in omega (arith, e),
  λ h. let e = h.few in omega (arith, e),
)

-- ---- stocks and accounts

-- lines of two orders
abbrev both : List Line
both = line o1 3 LinePhase.Held ∷ line o2 6 LinePhase.Done ∷ []

both_sound : AreLinesSound both
unfolding same_entity IsStrictlySortedBy
both_sound = record { of_orders = (refl, (refl, tt)); one_each = (refl, (refl, tt)); in_order = ((refl, tt), (tt, tt)) }

-- an order has one line; a stock has none; lines stand in order of the orders' keys
lines_are_unsound :
    (AreLinesSound (line o1 3 LinePhase.Refused ∷ line o1 6 LinePhase.Released ∷ []) → ⊥)
    × (AreLinesSound (line nuts 3 LinePhase.Held ∷ []) → ⊥)
    × (AreLinesSound (line o2 6 LinePhase.Done ∷ line o1 3 LinePhase.Held ∷ []) → ⊥)
unfolding same_entity IsStrictlySortedBy
lines_are_unsound = (
  λ h. let e = h.one_each.0 in absurd (cc),
  λ h. let e = h.of_orders.0 in absurd (cc),
  λ h. let e = h.in_order.0.0 in absurd (cc),
)

abbrev stock : ℕ → ℕ → ℕ → ℕ → List Line → StockState
stock on_hand held shipped received ls =
    record { on_hand = on_hand; held = held; shipped = shipped; received = received; lines = ls }

abbrev account : ℕ → ℕ → ℕ → List Line → AccountState
account limit billed held ls = record { limit = limit; billed = billed; held = held; lines = ls }

-- all that ever came in may be there, and be 2^40; all of the limit may be used
these_are_sound : IsStockSound (stock 1099511627770 3 6 1099511627776 both) × IsAccountSound (account 9 6 3 both)
    × IsAccountSound (account 1099511627776 0 0 [])
these_are_sound = (
  record {
    conserved = refl;
    bounded = omega arith;
    covered = omega arith;
    held = refl;
    shipped = refl;
    lines = both_sound;
  },
  record { bounded = omega arith; covered = omega arith; held = refl; billed = refl; lines = both_sound },
  record { bounded = omega arith; covered = omega arith; held = refl; billed = refl; lines = lines_sound-none },
)

-- a bolt is gone; more is held than is there; more is held, or shipped, than the lines say; more came in than ever may;
-- lines aren't in order
stocks_are_unsound :
    (IsStockSound (stock 9 0 0 10 []) → ⊥)
    × (IsStockSound (stock 2 3 0 2 (line o1 3 LinePhase.Held ∷ [])) → ⊥)
    × (IsStockSound (stock 9 3 1 10 (line o1 1 LinePhase.Done ∷ [])) → ⊥)
    × (IsStockSound (stock 9 0 1 10 []) → ⊥)
    × (IsStockSound (stock 1099511627777 0 0 1099511627777 []) → ⊥)
    × (IsStockSound (stock 10 3 6 16 (line o2 6 LinePhase.Done ∷ line o1 3 LinePhase.Held ∷ [])) → ⊥)
unfolding IsStrictlySortedBy
stocks_are_unsound = (
  λ h. let e = h.conserved in omega arith,
  λ h. let e = h.covered in omega arith,
  λ h. let e = h.held in omega arith,
  λ h. let e = h.shipped in omega arith,
  λ h. let e = h.bounded in omega arith,
  λ h. let e = h.lines.in_order.0.0 in absurd (cc),
)

-- the limit leaves too little for what is billed and held together; more is held, or billed, than the lines say; the
-- limit is too great; an order has two lines
accounts_are_unsound :
    (IsAccountSound (account 5 3 3 (line o1 3 LinePhase.Done ∷ line o2 3 LinePhase.Held ∷ [])) → ⊥)
    × (IsAccountSound (account 5 0 3 []) → ⊥)
    × (IsAccountSound (account 5 3 0 []) → ⊥)
    × (IsAccountSound (account 1099511627777 0 0 []) → ⊥)
    × (IsAccountSound (account 5 0 0 (line o1 1 LinePhase.Refused ∷ line o1 1 LinePhase.Released ∷ [])) → ⊥)
unfolding same_entity
accounts_are_unsound = (
  λ h. let e = h.covered in omega arith,
  λ h. let e = h.held in omega arith,
  λ h. let e = h.billed in omega arith,
  λ h. let e = h.bounded in omega arith,
  λ h. let e = h.lines.one_each.0 in absurd (cc),
)

-- ---- invariants

-- that nothing came in holds at first and is ended; that something did doesn't hold at first
no_invariants : (IsInvariant stock_reactions (λ x. x.received ≡ 0) → ⊥)
    × (IsInvariant stock_reactions (λ x. 0 < x.received) → ⊥)
no_invariants = (
  λ h. let later : 10 ≡ 0 = h.kept (stock 0 0 0 0 []) (FromSeat 0 (Receive 10)) refl in omega arith,
  λ h. let at_first : 0 < 0 = h.opening in omega arith,
)
