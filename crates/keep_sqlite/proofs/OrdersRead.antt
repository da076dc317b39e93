-- What answers tell of an order.
use Rattle.std.proofs.Common.{◌≡◌, List, [], ◌∷◌, filter, Option, Some, None, MatchOption, Result, Ok, Err, IfOk}
use Rattle.std.proofs.Common.{refl, sym, ap, ◌∙◌, inl, inr, take, get_or, length, ◌<◌, ◌+◌, ◌++◌, ℕ, pos, slice_get}
use Rattle.std.specs.Option.{option_and_then}
use Rattle.std.proofs.lemmas.List.{take_more}
use Rattle.sqlite.specs.declared.types.Value.{Value}
use Rattle.sqlite.specs.declared.types.Value.TheVariants.{Int, Text}
use Rattle.sqlite_value.specs.Order.{Row, column}
use Rattle.base.specs.declared.entity.Kind.TheVariants as kind
use Rattle.trade.specs.Orders.{OrderState, Partner}
use Rattle.trade.specs.declared.status.Status.{Status}
use Rattle.sql_bodies.specs.OrderRows.{order_from, stocks_in, partner_in, IsOrderRead}
use Rattle.sql_bodies.specs.Words.{status_in}
use Rattle.sql_bodies.proofs.OrderRows.{stocks_read}
use Rattle.sql_rows.specs.Tables.{has_key, text_key, AreInOrder, by_text, by_pair}
use Rattle.keep_sqlite.specs.Orders.{line_at, stock_at, order_told, order_at, with_shown, shown_stocks, shown_order}
use Rattle.keep_sqlite.proofs.Lookup.{IsOne}
use Rattle.keep_sqlite.proofs.Reading.{shown_row}
use Rattle.keep_sqlite.proofs.Steps.{steps_map, steps_more}

-- one more line is read
pub one_more_line : (lines : List Row) (at : ℕ) (row : Row) (stocks more : List Partner) → at < length lines
    → row ≡ get_or lines at row → shown_stocks (take at lines) ≡ Some stocks → with_shown row stocks ≡ Some more
    → shown_stocks (take (at + 1) lines) ≡ Some more
one_more_line lines at row stocks more in_range is so_far told =
    ap shown_stocks (take_more lines at row in_range ∙ ap (λ r. take at lines ++ r ∷ []) (sym is))
    ∙ steps_more with_shown (take at lines) row []
    ∙ ap (option_and_then (with_shown row)) so_far
    ∙ told

-- ---- an order

-- as both SELECTs show a row
abbrev show : Row → Row
show x = column x 2 ∷ column x 3 ∷ column x 4 ∷ column x 5 ∷ []

-- stocks that are shown in order are those that the rows tell in any order
stocks_are : (lines items : List Row) (stocks : List Partner) → AreInOrder by_pair None show lines items
    → shown_stocks items ≡ Some stocks → stocks_in line_at stock_at lines ≡ Some stocks
stocks_are lines items stocks a is = stocks_read line_at stock_at lines a.all stocks a.same
    (sym (steps_map show _ a.all []) ∙ ap shown_stocks (sym a.shown) ∙ is)

-- what was read of a head, where it is an order
order_read : (found : Option OrderState) (o : OrderState) → IsOrderRead found (Some o) → found ≡ Some o
order_read None o is = absurd (cc)
order_read (Some told) o is = ap Some (sym is.0)

-- the columns of a head, read, and the stocks are the order that its rows are
pub head_told : (a n s p : Value) (account status phase a2 s2 p2 : List ℕ) (amount : ℕ) (stocks : List Partner)
    (found : Option OrderState) (o : OrderState) → a ≡ Text account → n ≡ Int (pos amount) → s ≡ Text status
    → p ≡ Text phase → a2 ≡ account → s2 ≡ status → p2 ≡ phase → found ≡ Some o
    → IsOrderRead (order_from (status_in s2) (Some stocks) (partner_in kind.Account a2 amount p2)) found
    → order_told a n s p (Some stocks) ≡ Some o
head_told a n s p account status phase a2 s2 p2 amount stocks found o ia ik is ip ea es ep e read =
    rw (ia, ik, is, ip) (order_read _ o (rw (ea, es, ep, e) at read))

-- of the first head
pub first_told : (heads lines : List Row) (head : Row) (stocks : List Partner) (o : OrderState)
    → slice_get heads 0 ≡ Some head → shown_stocks lines ≡ Some stocks
    → order_told (column head 0) (column head 1) (column head 2) (column head 3) (Some stocks) ≡ Some o
    → shown_order heads lines ≡ Some o
first_told [] lines head stocks o first read told = absurd (cc)
first_told (h ∷ heads) lines head stocks o first read told =
    let same : h ≡ head = cc in rw (same, read) told

had_stocks : (status : Option Status) (stocks : Option (List Partner)) (account : Option Partner) (o : OrderState)
    → order_from status stocks account ≡ Some o → (ps : List Partner) × (stocks ≡ Some ps)
had_stocks None stocks account o e = absurd (cc)
had_stocks (Some s) None account o e = absurd (cc)
had_stocks (Some s) (Some ps) account o e = (ps, refl)

module _ (key : List ℕ) (heads lines later : List Row) (one : IsOne (has_key (text_key key)) heads)
    (same : later ≡ lines) (head_items line_items : List Row)
    (of_heads : AreInOrder by_text None show (filter (has_key (text_key key)) heads) head_items)
    (of_lines : AreInOrder by_pair None show (filter (has_key (text_key key)) later) line_items) where
  no_order : head_items ≡ [] → None ≡ order_at kind.Order key heads lines
  no_order empty = elim (shown_row (has_key (text_key key)) heads one by_text show head_items of_heads) [
    | inl none ↦ rw none.1 refl
    | inr some ↦ absurd (let e = sym empty ∙ some.2 in cc)
  ]

  one_order : (o : OrderState) → shown_order head_items line_items ≡ Some o
      → Some o ≡ order_at kind.Order key heads lines
  one_order o is = elim (shown_row (has_key (text_key key)) heads one by_text show head_items of_heads) [
    | inl none ↦ absurd (let e = ap (λ l. shown_order l line_items) (sym none.0) ∙ is in cc)
    | inr some ↦
        let x = some.0 in
        let told : order_told (column x 2) (column x 3) (column x 4) (column x 5) (shown_stocks line_items) ≡ Some o =
        ap (λ l. shown_order l line_items) (sym some.2) ∙ is in
        let stocks = had_stocks _ (shown_stocks line_items) _ o told in
        let here = rw same at of_lines in
        let all = stocks_are (filter (has_key (text_key key)) lines) line_items stocks.0 here stocks.1 in
        rw some.3 (sym (ap (order_told (column x 2) (column x 3) (column x 4) (column x 5)) (all ∙ sym stocks.1)
        ∙ told))
  ]

  pub order_is : {E : Type 0} (r : Result (Option OrderState) E)
      → IfOk r (λ order. MatchOption order (head_items ≡ []) (λ o. shown_order head_items line_items ≡ Some o))
      → IfOk r (λ order. order ≡ order_at kind.Order key heads lines)
  order_is (Ok None) told = no_order told
  order_is (Ok (Some o)) told = one_order o told
  order_is (Err e) told = tt
