-- What always holds of an order, of a stock and of an account.
use Rattle.std.proofs.Common.{◌≡◌, ℕ, ◌+◌, ◌≤◌, ◌≢◌, List, [], ◌∷◌, Bool, true, false, refl, ap, arith, sym, Option}
use Rattle.std.proofs.Common.{Some, None}
use Rattle.std.proofs.Common.{subst}
use Rattle.std.specs.Prelude.{map, suc, length, ◌<◌, if◌then◌else◌, nat_le, nat_lt, ◌==◌, ◌&&◌, ◌||◌, IfOk}
use Rattle.std.proofs.lemmas.Bool.Decides.{nat_tests}
use Rattle.std.proofs.lemmas.Slice.Eq.{bytes_eq-Decides}
use Rattle.std.specs.List.{AllByRecursion}
use Rattle.std.specs.Str.{bytes_eq}
use Rattle.base.specs.Entity.{Entity, stock_of}
use Rattle.base.specs.Order.{same_entity}
use Rattle.base.specs.declared.entity.Kind.TheVariants.{Order, Stock, Account}
use Rattle.base.specs.Number.{is_number}
use Rattle.envelope.specs.declared.message.Message.{Message}
use Rattle.envelope.specs.declared.message.Message.TheVariants.{Request, Tentative, Refused, Confirm, Cancel}
use Rattle.trade.specs.declared.commands.AccountCommand.{AccountCommand}
use Rattle.trade.specs.declared.commands.AccountCommand.TheVariants.{SetLimit}
use Rattle.trade.specs.declared.commands.OrderCommand.{OrderCommand}
use Rattle.trade.specs.declared.commands.OrderCommand.TheVariants.{Place, CancelOrder}
use Rattle.trade.specs.declared.commands.StockCommand.{StockCommand}
use Rattle.trade.specs.declared.commands.StockCommand.TheVariants.{Receive}
use Rattle.activities.specs.declared.input.Input.{Input}
use Rattle.trade.specs.declared.items.Item.{Item}
use Rattle.activities.specs.declared.input.Input.TheVariants.{FromSeat, FromEntity}
use Rattle.trade.specs.declared.line_phase.LinePhase.{LinePhase}
use Rattle.trade.specs.declared.line_phase.LinePhase.TheVariants.{Held, Done, Released}
use Rattle.activities.specs.declared.phase.Phase.{Phase}
use Rattle.trade.specs.Accounts.{AccountState, account_reactions, account_holding}
use Rattle.trade.specs.Holding.{held_for, refused_to, finished_for, freed_for, held_by}
use Rattle.trade.specs.Items.{has_stock, are_apart, are_lines, are_numbers}
use Rattle.trade.specs.Lines.{line_of, share_of}
use Rattle.trade.specs.Orders.{Partner, OrderState, is_open, awaits, with_phase, all_tentative, all_in, partners_of}
use Rattle.trade.specs.Orders.{tentative_from}
use Rattle.trade.specs.Orders.{refused_by, on_order_message, order_reactions}
use Rattle.activities.specs.Reaction.{react}
use Rattle.activities.specs.Invariant.{IsInvariant}
use Rattle.trade.specs.Sound.{AreStocksThenAccount, ArePartners, IsOrderSound, IsStockSound, IsAccountSound}
use Rattle.trade.specs.Stocks.{StockState, stock_reactions, stock_holding}
use Rattle.trade.proofs.Holdings.{KeepsHolding, message_kept, left}
use Rattle.trade.proofs.LineLists.{sum_by-with, lines_sound-none, lines_sound-with, lines_sound-with_phase}

-- ---- orders

abbrev pub entities : List Partner → List Entity
entities ps = map (λ (p : Partner). p.entity) ps

pub entities-with_phase : (e : Entity) (phase : Phase) (ps : List Partner)
    → entities (with_phase e phase ps) ≡ entities ps
entities-with_phase e phase [] = refl
entities-with_phase e phase (p ∷ ps) = by_case (same_entity e p.entity) (entities-with_phase e phase ps)
  where
    by_case : (t : Bool) → entities (with_phase e phase ps) ≡ entities ps
        → entities (if t then record p { phase = phase } ∷ ps else p ∷ with_phase e phase ps) ≡ p.entity ∷ entities ps
    by_case true rest = refl
    by_case false rest = ap (λ es. p.entity ∷ es) rest

pub entities-all_in : (phase : Phase) (ps : List Partner) → entities (all_in phase ps) ≡ entities ps
entities-all_in phase [] = refl
entities-all_in phase (p ∷ ps) = ap (λ es. p.entity ∷ es) (entities-all_in phase ps)

-- other phases, the same partners
as_before : (ps later : List Partner) → entities later ≡ entities ps → ArePartners (entities ps)
    → ArePartners (entities later)
as_before ps later e h = subst ArePartners (sym e) h

-- a stock that stands in none of these items is no partner of theirs
another : (stock : List ℕ) (is : List Item) (account : List ℕ) (amount : ℕ) → has_stock stock is ≡ false
    → AllByRecursion (λ other. stock_of stock ≢ other) (entities (partners_of is account amount))
another stock [] account amount h = (λ e. let kinds : Stock ≡ Account = ap (λ o. o.kind) e in absurd (cc), tt)
another stock (i ∷ is) account amount h =
    let neither : (bytes_eq i.stock stock ≡ false) × (has_stock stock is ≡ false) = grind arith in (
      λ e. let same : bytes_eq i.stock stock ≡ true =
          (bytes_eq-Decides i.stock stock).1 (sym (ap (λ o. o.key) e)) in absurd (cc),
      another stock is account amount neither.1,
    )

new_partners : (is : List Item) (account : List ℕ) (amount : ℕ) → are_apart is ≡ true
    → AreStocksThenAccount (entities (partners_of is account amount))
new_partners [] account amount h = refl
new_partners (i ∷ []) account amount h = (refl, another i.stock [] account amount refl, refl)
new_partners (i ∷ j ∷ is) account amount h =
    let both : (has_stock i.stock (j ∷ is) ≡ false) × (are_apart (j ∷ is) ≡ true) = grind arith in
    (refl, another i.stock (j ∷ is) account amount both.0, new_partners (j ∷ is) account amount both.1)

-- one partner for each item, and the account
partners-length : (is : List Item) (account : List ℕ) (amount : ℕ)
    → length (entities (partners_of is account amount)) ≡ suc (length is)
partners-length [] account amount = refl
partners-length (i ∷ is) account amount = ap suc (partners-length is account amount)

pub new_sound : (is : List Item) (account : List ℕ) (amount : ℕ) → are_lines is ≡ true
    → ArePartners (entities (partners_of is account amount))
new_sound is account amount h =
    let some : 0 < length is = grind (arith, nat_tests) in
    let few : length is ≤ 8 = grind (arith, nat_tests) in
    let apart : are_apart is ≡ true = grind (arith, nat_tests) in
    let size = partners-length is account amount in
    record { in_order = new_partners is account amount apart; some = omega arith; few = omega arith }

pub all_sound : (phase : Phase) (ps : List Partner) → ArePartners (entities ps)
    → ArePartners (entities (all_in phase ps))
all_sound phase ps h = as_before ps (all_in phase ps) (entities-all_in phase ps) h

pub phase_sound : (e : Entity) (phase : Phase) (ps : List Partner) → ArePartners (entities ps)
    → ArePartners (entities (with_phase e phase ps))
phase_sound e phase ps h = as_before ps (with_phase e phase ps) (entities-with_phase e phase ps) h

order_command : (x : Option OrderState) (seat : ℕ) (c : OrderCommand) → IsOrderSound x
    → IfOk (react order_reactions x (FromSeat seat c)) (λ done. IsOrderSound done.0)
order_command None seat (Place is account amount) h =
    by_case (are_lines is) (are_numbers is && is_number amount) refl refl
  where
    by_case : (t u : Bool) → are_lines is ≡ t → (are_numbers is && is_number amount) ≡ u
        → IfOk (react order_reactions None (FromSeat seat (Place is account amount))) (λ done. IsOrderSound done.0)
    by_case false u e f = rw e tt
    by_case true false e f = rw (e, f) tt
    by_case true true e f = rw (e, f) (new_sound is account amount e)
order_command None seat CancelOrder h = tt
order_command (Some o) seat (Place is account amount) h = tt
order_command (Some o) seat CancelOrder h = by_case (is_open o.status) refl
  where
    by_case : (t : Bool) → is_open o.status ≡ t
        → IfOk (react order_reactions (Some o) (FromSeat seat CancelOrder)) (λ done. IsOrderSound done.0)
    by_case true e = rw e (all_sound Phase.Cancelled o.partners h)
    by_case false e = rw e tt

order_tentative : (o : OrderState) (s : Entity) → IsOrderSound (Some o) → IsOrderSound (tentative_from o s).0
order_tentative o s h = by_case (all_tentative (with_phase s Phase.Tentative o.partners)) refl
  where
    by_case : (t : Bool) → all_tentative (with_phase s Phase.Tentative o.partners) ≡ t
        → IsOrderSound (tentative_from o s).0
    by_case true e = rw e (all_sound Phase.Confirmed o.partners h)
    by_case false e = rw e (phase_sound s Phase.Tentative o.partners h)

order_message : (x : Option OrderState) (s : Entity) (m : Message) → IsOrderSound x
    → IsOrderSound (on_order_message x s m).0
order_message None s m h = tt
order_message (Some o) s Tentative h = by_case (is_open o.status && awaits s o.partners)
  where
    by_case : (t : Bool) → IsOrderSound (if t then tentative_from o s else (Some o, [])).0
    by_case true = order_tentative o s h
    by_case false = h
order_message (Some o) s Refused h = by_case (is_open o.status && awaits s o.partners)
  where
    by_case : (t : Bool) → IsOrderSound (if t then refused_by o s else (Some o, [])).0
    by_case true =
        phase_sound s Phase.Refused (all_in Phase.Cancelled o.partners) (all_sound Phase.Cancelled o.partners h)
    by_case false = h
order_message (Some o) s (Request n) h = h
order_message (Some o) s Confirm h = h
order_message (Some o) s Cancel h = h

order_kept : (x : Option OrderState) (input : Input OrderCommand) → IsOrderSound x
    → IfOk (react order_reactions x input) (λ done. IsOrderSound done.0)
order_kept x (FromSeat seat c) h = order_command x seat c h
order_kept x (FromEntity s number m) h = order_message x s m h

-- whatever an order takes in, it stays sound
pub orders-invariant : IsInvariant order_reactions IsOrderSound
orders-invariant = record { opening = tt; kept = order_kept }

-- ---- stocks

stock_holds : (x : StockState) (s : Entity) (n : ℕ) → s.kind ≡ Order → line_of s x.lines ≡ None
    → nat_le (x.held + n) x.on_hand ≡ true → IsStockSound x → IsStockSound (held_for stock_holding x s n)
stock_holds x s n kind none e h =
    let fits : x.held + n ≤ x.on_hand = grind (arith, nat_tests) in
    let a = sum_by-with (share_of Held) (record { order = s; n = n; phase = Held }) x.lines in
    let b = sum_by-with (share_of Done) (record { order = s; n = n; phase = Held }) x.lines in
    record {
      conserved = h.conserved;
      bounded = h.bounded;
      covered = fits;
      held = omega arith;
      shipped = omega arith;
      lines = lines_sound-with (record { order = s; n = n; phase = Held }) x.lines kind none h.lines;
    }

stock_refuses : (x : StockState) (s : Entity) (n : ℕ) → s.kind ≡ Order → line_of s x.lines ≡ None → IsStockSound x
    → IsStockSound (refused_to stock_holding x s n)
stock_refuses x s n kind none h =
    let a = sum_by-with (share_of Held) (record { order = s; n = n; phase = LinePhase.Refused }) x.lines in
    let b = sum_by-with (share_of Done) (record { order = s; n = n; phase = LinePhase.Refused }) x.lines in
    record {
      conserved = h.conserved;
      bounded = h.bounded;
      covered = h.covered;
      held = omega arith;
      shipped = omega arith;
      lines = lines_sound-with (record { order = s; n = n; phase = LinePhase.Refused }) x.lines kind none h.lines;
    }

stock_finishes : (x : StockState) (s : Entity) (n : ℕ) → held_by (line_of s x.lines) ≡ Some n → IsStockSound x
    → IsStockSound (finished_for stock_holding x s n)
stock_finishes x s n at h =
    let m = left Done s n x.lines at refl in
    record {
      conserved = omega arith;
      bounded = h.bounded;
      covered = omega arith;
      held = omega arith;
      shipped = omega arith;
      lines = lines_sound-with_phase s Done x.lines h.lines;
    }

stock_frees : (x : StockState) (s : Entity) (n : ℕ) → held_by (line_of s x.lines) ≡ Some n → IsStockSound x
    → IsStockSound (freed_for stock_holding x s n)
stock_frees x s n at h =
    let m = left Released s n x.lines at refl in
    record {
      conserved = h.conserved;
      bounded = h.bounded;
      covered = omega arith;
      held = omega arith;
      shipped = omega arith;
      lines = lines_sound-with_phase s Released x.lines h.lines;
    }

pub stocks_keep : KeepsHolding stock_holding IsStockSound
stocks_keep = record { holds = stock_holds; refuses = stock_refuses; finishes = stock_finishes; frees = stock_frees }

stock_kept : (x : StockState) (input : Input StockCommand) → IsStockSound x
    → IfOk (react stock_reactions x input) (λ done. IsStockSound done.0)
stock_kept x (FromEntity s number m) h = message_kept stock_holding IsStockSound stocks_keep x s m h
stock_kept x (FromSeat seat (Receive n)) h = by_case (n == 0 || nat_lt 1099511627776 (x.received + n)) refl
  where
    by_case : (t : Bool) → (n == 0 || nat_lt 1099511627776 (x.received + n)) ≡ t
        → IfOk (react stock_reactions x (FromSeat seat (Receive n))) (λ done. IsStockSound done.0)
    by_case true e = rw e tt
    by_case false e =
        let fits : x.received + n ≤ 1099511627776 = grind (arith, nat_tests) in
        let whole = h.conserved in
        let there = h.covered in
        rw e (record {
          conserved = omega arith;
          bounded = fits;
          covered = omega arith;
          held = h.held;
          shipped = h.shipped;
          lines = h.lines;
        })

-- whatever a stock takes in, it stays sound
pub stocks-invariant : IsInvariant stock_reactions IsStockSound
stocks-invariant = record {
  opening = record {
    conserved = refl;
    bounded = omega arith;
    covered = omega arith;
    held = refl;
    shipped = refl;
    lines = lines_sound-none;
  };
  kept = stock_kept;
}

-- ---- accounts

account_holds : (x : AccountState) (s : Entity) (n : ℕ) → s.kind ≡ Order → line_of s x.lines ≡ None
    → nat_le (x.billed + x.held + n) x.limit ≡ true → IsAccountSound x → IsAccountSound (held_for account_holding x s n)
account_holds x s n kind none e h =
    let fits : x.billed + x.held + n ≤ x.limit = grind (arith, nat_tests) in
    let a = sum_by-with (share_of Held) (record { order = s; n = n; phase = Held }) x.lines in
    let b = sum_by-with (share_of Done) (record { order = s; n = n; phase = Held }) x.lines in
    record {
      bounded = h.bounded;
      covered = omega arith;
      held = omega arith;
      billed = omega arith;
      lines = lines_sound-with (record { order = s; n = n; phase = Held }) x.lines kind none h.lines;
    }

account_refuses : (x : AccountState) (s : Entity) (n : ℕ) → s.kind ≡ Order → line_of s x.lines ≡ None → IsAccountSound x
    → IsAccountSound (refused_to account_holding x s n)
account_refuses x s n kind none h =
    let a = sum_by-with (share_of Held) (record { order = s; n = n; phase = LinePhase.Refused }) x.lines in
    let b = sum_by-with (share_of Done) (record { order = s; n = n; phase = LinePhase.Refused }) x.lines in
    record {
      bounded = h.bounded;
      covered = h.covered;
      held = omega arith;
      billed = omega arith;
      lines = lines_sound-with (record { order = s; n = n; phase = LinePhase.Refused }) x.lines kind none h.lines;
    }

account_finishes : (x : AccountState) (s : Entity) (n : ℕ) → held_by (line_of s x.lines) ≡ Some n → IsAccountSound x
    → IsAccountSound (finished_for account_holding x s n)
account_finishes x s n at h =
    let m = left Done s n x.lines at refl in
    record {
      bounded = h.bounded;
      covered = omega arith;
      held = omega arith;
      billed = omega arith;
      lines = lines_sound-with_phase s Done x.lines h.lines;
    }

account_frees : (x : AccountState) (s : Entity) (n : ℕ) → held_by (line_of s x.lines) ≡ Some n → IsAccountSound x
    → IsAccountSound (freed_for account_holding x s n)
account_frees x s n at h =
    let m = left Released s n x.lines at refl in
    record {
      bounded = h.bounded;
      covered = omega arith;
      held = omega arith;
      billed = omega arith;
      lines = lines_sound-with_phase s Released x.lines h.lines;
    }

pub accounts_keep : KeepsHolding account_holding IsAccountSound
accounts_keep =
    record { holds = account_holds; refuses = account_refuses; finishes = account_finishes; frees = account_frees }

account_kept : (x : AccountState) (input : Input AccountCommand) → IsAccountSound x
    → IfOk (react account_reactions x input) (λ done. IsAccountSound done.0)
account_kept x (FromEntity s number m) h = message_kept account_holding IsAccountSound accounts_keep x s m h
account_kept x (FromSeat seat (SetLimit n)) h =
    by_case (nat_lt 1099511627776 n) (nat_lt n (x.billed + x.held)) refl refl
  where
    by_case : (t u : Bool) → nat_lt 1099511627776 n ≡ t → nat_lt n (x.billed + x.held) ≡ u
        → IfOk (react account_reactions x (FromSeat seat (SetLimit n))) (λ done. IsAccountSound done.0)
    by_case true u e f = rw e tt
    by_case false true e f = rw (e, f) tt
    by_case false false e f =
        let fits : x.billed + x.held ≤ n = grind (arith, nat_tests) in
        let small : n ≤ 1099511627776 = grind (arith, nat_tests) in
        rw (e, f) (record { bounded = small; covered = fits; held = h.held; billed = h.billed; lines = h.lines })

-- whatever an account takes in, it stays sound
pub accounts-invariant : IsInvariant account_reactions IsAccountSound
accounts-invariant = record {
  opening =
      record { bounded = omega arith; covered = omega arith; held = refl; billed = refl; lines = lines_sound-none };
  kept = account_kept;
}
