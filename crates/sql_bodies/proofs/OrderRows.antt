-- What is written of an order's rows is read as that order, in whatever order they come.
use Rattle.std.proofs.Common.{◌≡◌, ℕ, suc, ◌+◌, ◌<◌, ◌==◌, List, [], ◌∷◌, ◌++◌, length, Bool, true, false, cond}
use Rattle.std.proofs.Common.{Option, Some, None}
use Rattle.std.proofs.Common.{refl, sym, ap, ◌∙◌, arith, append_assoc, append-nil, eq-eqb, eqb-true, subst}
use Rattle.std.proofs.Common.{length-append, take, get_or, zero}
use Rattle.std.specs.Option.{option_map, option_and_then}
use Rattle.std.specs.List.Sorted.{IsPermutation}
use Rattle.std.specs.Ordering.{nat_cmp, MatchOrdering}
use Rattle.std.specs.declared.cmp.Ordering.{Ordering}
use Rattle.std.specs.declared.cmp.Ordering.TheVariants.{Less, Equal, Greater}
use Rattle.std.specs.Cmp.{nat_cmp_is, ranks}
use Rattle.std.proofs.lemmas.List.Sorted.{IsPermutation-refl}
use Rattle.std.specs.List.{AllByRecursion}
use Rattle.std.proofs.lemmas.Option.{cond_some, option_and_then_some, same_Some}
use Rattle.base.specs.Entity.{is_key}
use Rattle.base.specs.Number.{IsNumber}
use Rattle.base.specs.declared.entity.Kind.TheVariants.{Stock, Account}
use Rattle.std.specs.Prelude.{map}
use Rattle.activities.specs.Words.{phase_word}
use Rattle.trade.specs.Orders.{Partner}
use Rattle.trade.specs.Sound.{AreStocksThenAccount}
use Rattle.trade.specs.Words.{status_word}
use Rattle.trade.specs.declared.status.Status.{Status}
use Rattle.sql_bodies.specs.OrderRows.{partner_in, stocks_with, placed, placed_with, in_line, stocks_in, numbered}
use Rattle.sql_bodies.specs.OrderRows.{stock_row, account_row, IsStock, IsAccount, order_from}
use Rattle.sql_bodies.specs.Words.{status_in}
use Rattle.sql_bodies.specs.Steps.{steps}
use Rattle.sql_bodies.proofs.Words.{status_back, phase_back, as_number_is}
use Rattle.sql_bodies.proofs.Steps.{steps_shuffled}

pub partner_back : (p : Partner) → is_key p.entity.key ≡ true → IsNumber p.n
    → partner_in p.entity.kind p.entity.key p.n (phase_word p.phase) ≡ Some p
partner_back p key number = rw (key, as_number_is p.n number, phase_back p.phase) refl

-- ---- what two numbers tell

less_is : (n m : ℕ) → nat_cmp n m ≡ Less → n < m
less_is n m e = subst (λ c. MatchOrdering c (n < m) (n ≡ m) (m < n)) e (ranks n m)

equal_is : (n m : ℕ) → nat_cmp n m ≡ Equal → n ≡ m
equal_is n m e = subst (λ c. MatchOrdering c (n < m) (n ≡ m) (m < n)) e (ranks n m)

greater_is : (n m : ℕ) → nat_cmp n m ≡ Greater → m < n
greater_is n m e = subst (λ c. MatchOrdering c (n < m) (n ≡ m) (m < n)) e (ranks n m)

turned : (n m : ℕ) → nat_cmp n m ≡ Less → nat_cmp m n ≡ Greater
turned n m e = sym (nat_cmp_is m n Greater (less_is n m e))

same : (n : ℕ) → nat_cmp n n ≡ Equal
same n = sym (nat_cmp_is n n Equal refl)

-- ---- two stocks

abbrev Rows : Type 0
Rows = List (ℕ × Partner)

-- one behind the first row
behind : (n : ℕ) (p : Partner) (k : ℕ × Partner) → nat_cmp n k.0 ≡ Greater → (o : Option Rows)
    → option_and_then (placed n p) (option_map (λ r. k ∷ r) o)
    ≡ option_map (λ r. k ∷ r) (option_and_then (placed n p) o)
behind n p k e None = refl
behind n p k e (Some ks) = rw e refl

-- one before it
in_front : (n : ℕ) (p : Partner) (k : ℕ × Partner) → nat_cmp n k.0 ≡ Less → (o : Option Rows)
    → option_map (λ r. (n, p) ∷ r) (option_map (λ r. k ∷ r) o)
    ≡ option_and_then (placed n p) (option_map (λ r. k ∷ r) o)
in_front n p k e None = refl
in_front n p k e (Some ks) = rw e refl

-- one with its number
met : (n : ℕ) (p : Partner) (k : ℕ × Partner) → nat_cmp n k.0 ≡ Equal → (o : Option Rows)
    → None ≡ option_and_then (placed n p) (option_map (λ r. k ∷ r) o)
met n p k e None = refl
met n p k e (Some ks) = rw e refl

-- a number is placed once
placed_twice : (n : ℕ) (p q : Partner) (ks : Rows) → option_and_then (placed n q) (placed n p ks) ≡ None
placed_twice n p q [] = rw (same n) refl
placed_twice n p q (k ∷ ks) = by_case (nat_cmp n k.0) refl (placed_twice n p q ks)
  where
    by_case : (c : Ordering) → nat_cmp n k.0 ≡ c → option_and_then (placed n q) (placed n p ks) ≡ None
        → option_and_then (placed n q) (placed n p (k ∷ ks)) ≡ None
    by_case Less e rest = simp (e, same n)
    by_case Equal e rest = simp e
    by_case Greater e rest = rw e (behind n q k e (placed n p ks) ∙ ap (option_map (λ r. k ∷ r)) rest)

-- two numbers are placed in either order
placed_both : (n m : ℕ) (p q : Partner) → nat_cmp n m ≡ Less → (ks : Rows)
    → option_and_then (placed m q) (placed n p ks) ≡ option_and_then (placed n p) (placed m q ks)
placed_both n m p q less [] = simp (less, turned n m less)
placed_both n m p q less (k ∷ ks) =
    by_case (nat_cmp n k.0) (nat_cmp m k.0) refl refl (placed_both n m p q less ks)
  where
    by_case : (c d : Ordering) → nat_cmp n k.0 ≡ c → nat_cmp m k.0 ≡ d
        → option_and_then (placed m q) (placed n p ks) ≡ option_and_then (placed n p) (placed m q ks)
        → option_and_then (placed m q) (placed n p (k ∷ ks)) ≡ option_and_then (placed n p) (placed m q (k ∷ ks))
    by_case Less Less e f rest = simp (e, f, less, turned n m less)
    by_case Less Equal e f rest = simp (e, f, turned n m less)
    by_case Less Greater e f rest = rw (e, f, turned n m less) (in_front n p k e (placed m q ks))
    by_case Equal Greater e f rest = rw (e, f) (met n p k e (placed m q ks))
    by_case Greater Greater e f rest = rw (e, f) (behind m q k f (placed n p ks)
        ∙ ap (option_map (λ r. k ∷ r)) rest ∙ sym (behind n p k e (placed m q ks)))
    by_case Equal Less e f rest = absurd (omega (arith, less_is n m less, equal_is n k.0 e, less_is m k.0 f))
    by_case Equal Equal e f rest = absurd (omega (arith, less_is n m less, equal_is n k.0 e, equal_is m k.0 f))
    by_case Greater Less e f rest = absurd (omega (arith, less_is n m less, greater_is n k.0 e, less_is m k.0 f))
    by_case Greater Equal e f rest = absurd (omega (arith, less_is n m less, greater_is n k.0 e, equal_is m k.0 f))

none_then : (n : ℕ) (o : Option Rows) → option_and_then (placed_with n None) o ≡ None
none_then n None = refl
none_then n (Some ks) = refl

-- ---- rows in any order

module _ {R : Type 0} (number : R → ℕ) (found : R → Option Partner) where
  abbrev step : R → Rows → Option Rows
  step r ks = placed_with (number r) (found r) ks

  exchanged : (r s : R) (ks : Rows) → option_and_then (step s) (step r ks) ≡ option_and_then (step r) (step s ks)
  exchanged r s ks = by_case (found r) (found s)
    where
      by_number : (p q : Partner) (c : Ordering) → nat_cmp (number r) (number s) ≡ c
          → option_and_then (placed (number s) q) (placed (number r) p ks)
          ≡ option_and_then (placed (number r) p) (placed (number s) q ks)
      by_number p q Less e = placed_both (number r) (number s) p q e ks
      by_number p q Equal e = let one = equal_is (number r) (number s) e in
          rw one (placed_twice (number s) p q ks ∙ sym (placed_twice (number s) q p ks))
      by_number p q Greater e = sym (placed_both (number s) (number r) q p
          (sym (nat_cmp_is (number s) (number r) Less (greater_is (number r) (number s) e))) ks)

      by_case : (x y : Option Partner) → option_and_then (placed_with (number s) y) (placed_with (number r) x ks)
          ≡ option_and_then (placed_with (number r) x) (placed_with (number s) y ks)
      by_case None None = refl
      by_case None (Some q) = sym (none_then (number r) (placed (number s) q ks))
      by_case (Some p) None = none_then (number s) (placed (number r) p ks)
      by_case (Some p) (Some q) = by_number p q (nat_cmp (number r) (number s)) refl

  -- the stocks are the same, in whatever order their rows come
  pub stocks_shuffled : (xs ys : List R) → IsPermutation xs ys → stocks_in number found ys ≡ stocks_in number found xs
  stocks_shuffled xs ys shuffled = ap (option_and_then (in_line 1)) (steps_shuffled step exchanged xs ys [] shuffled)

-- ---- rows in order

in_line-numbered : (n : ℕ) (ps : List Partner) → in_line n (numbered n ps) ≡ Some ps
in_line-numbered n [] = refl
in_line-numbered n (p ∷ ps) = rw (eq-eqb n n refl, in_line-numbered (suc n) ps) refl

-- the next number is placed behind the others
placed_last : (at n : ℕ) (p : Partner) (ps : List Partner) → at ≡ n + length ps
    → placed at p (numbered n ps) ≡ Some (numbered n (ps ++ p ∷ []))
placed_last at n p [] e = let is : at ≡ n = omega (arith, e) in rw is refl
placed_last at n p (q ∷ qs) e =
    let after : nat_cmp at n ≡ Greater = sym (nat_cmp_is at n Greater (omega (arith, e))) in
    rw (after, placed_last at (suc n) p qs (omega (arith, e))) refl

neither : (b : Bool) (qs : List Partner) → cond b None None ≡ Some qs → ⊥
neither true qs e = cc
neither false qs e = cc

step_in_order : (n : ℕ) (found : Option Partner) (ps qs : List Partner) → stocks_with n found ps ≡ Some qs
    → placed_with n found (numbered 1 ps) ≡ Some (numbered 1 qs)
step_in_order n None ps qs e = absurd (neither (n == suc (length ps)) qs e)
step_in_order n (Some p) ps qs e =
    let is = cond_some (n == suc (length ps)) (ps ++ p ∷ []) qs e in
    placed_last n 1 p ps (omega (arith, eqb-true n (suc (length ps)) is.0)) ∙ ap (λ xs. Some (numbered 1 xs)) is.1

module _ {R : Type 0} (number : R → ℕ) (found : R → Option Partner) where
  all_in_order : (rows : List R) (ps qs : List Partner)
      → steps (λ r. stocks_with (number r) (found r)) rows ps ≡ Some qs
      → steps (λ r. placed_with (number r) (found r)) rows (numbered 1 ps) ≡ Some (numbered 1 qs)
  all_in_order [] ps qs e = ap (λ xs. Some (numbered 1 xs)) (same_Some ps qs e)
  all_in_order (r ∷ rows) ps qs e = option_and_then_some
      (steps (λ r. stocks_with (number r) (found r)) rows) (stocks_with (number r) (found r) ps) qs e
      (λ made is rest. rw (step_in_order (number r) (found r) ps made is) (all_in_order rows made qs rest))

  -- rows that were read in order tell the stocks that these rows tell in any order
  pub stocks_read : (xs ys : List R) (ps : List Partner) → IsPermutation xs ys
      → steps (λ r. stocks_with (number r) (found r)) ys [] ≡ Some ps → stocks_in number found xs ≡ Some ps
  stocks_read xs ys ps shuffled e = sym (stocks_shuffled number found xs ys shuffled)
      ∙ ap (option_and_then (in_line 1)) (all_in_order ys [] ps e)
      ∙ in_line-numbered 1 ps

-- ---- what was written

stock_back : (n : ℕ) (p : Partner) → IsStock p → stock_row (n, p) ≡ Some p
stock_back n p is = ap (λ kind. partner_in kind p.entity.key p.n (phase_word p.phase)) (sym is.0)
    ∙ partner_back p is.1 is.2

written_in_order : (ps acc : List Partner) → AllByRecursion IsStock ps
    → steps (λ (q : ℕ × Partner). stocks_with q.0 (stock_row q)) (numbered (suc (length acc)) ps) acc ≡ Some (acc ++ ps)
written_in_order [] acc all = ap Some (sym (append-nil acc))
written_in_order (p ∷ ps) acc all =
    let longer : length (acc ++ p ∷ []) ≡ suc (length acc) = length-append acc (p ∷ []) ∙ omega arith in
    rw (eq-eqb (suc (length acc)) (suc (length acc)) refl, stock_back (suc (length acc)) p all.0)
    (ap (λ n. steps (λ (q : ℕ × Partner). stocks_with q.0 (stock_row q)) (numbered (suc n) ps) (acc ++ p ∷ []))
    (sym longer)
    ∙ written_in_order ps (acc ++ p ∷ []) all.1 ∙ ap Some (append_assoc acc (p ∷ []) ps))

-- the stocks of an order are read as they are written
pub stocks_back : (ps : List Partner) → AllByRecursion IsStock ps
    → stocks_in (λ q. q.0) stock_row (numbered 1 ps) ≡ Some ps
stocks_back ps all = stocks_read (λ q. q.0) stock_row (numbered 1 ps) (numbered 1 ps) ps
    (IsPermutation-refl (numbered 1 ps))
    (written_in_order ps [] all)

-- an order is read as it is written
pub order_back : (s : Status) (ps : List Partner) (account : Partner) → AllByRecursion IsStock ps → IsAccount account
    → order_from (status_in (status_word s)) (stocks_in (λ q. q.0) stock_row (numbered 1 ps)) (account_row account)
    ≡ Some (record { status = s; partners = ps ++ account ∷ [] })
order_back s ps account all is =
    let told : account_row account ≡ Some account =
    ap (λ kind. partner_in kind account.entity.key account.n (phase_word account.phase)) (sym is.0)
    ∙ partner_back account is.1 is.2 in
    ap (λ found. order_from found (stocks_in (λ q. q.0) stock_row (numbered 1 ps)) (account_row account))
    (status_back s)
    ∙ ap (λ found. order_from (Some s) found (account_row account)) (stocks_back ps all)
    ∙ ap (λ found. order_from (Some s) (Some ps) found) told

-- the partners of a sound order: all but the last are stocks, and the last is an account
pub record AreSplit (n : ℕ) (ps : List Partner) (d : Partner) : Type 0 where
  pub whole : ps ≡ take n ps ++ get_or ps n d ∷ []
  pub stocks : AllByRecursion (λ p. p.entity.kind ≡ Stock) (take n ps)
  pub account : (get_or ps n d).entity.kind ≡ Account

pub are_split : (n : ℕ) (ps : List Partner) (d : Partner) → length ps ≡ suc n
    → AreStocksThenAccount (map (λ (p : Partner). p.entity) ps) → AreSplit n ps d
are_split n [] d e is = absurd is
are_split zero (p ∷ []) d e is = record { whole = refl; stocks = tt; account = is }
are_split (suc n) (p ∷ []) d e is = absurd (omega (arith, e))
are_split zero (p ∷ q ∷ ps) d e is = absurd (omega (arith, e))
are_split (suc n) (p ∷ q ∷ ps) d e is =
    let rest = are_split n (q ∷ ps) d (omega (arith, e)) is.2 in
    record { whole = ap (λ xs. p ∷ xs) rest.whole; stocks = (is.0, rest.stocks); account = rest.account }
