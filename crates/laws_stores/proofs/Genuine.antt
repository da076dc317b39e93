-- What is true in the journal of one service, whatever a stop leaves of it, is genuine.
use Rattle.std.proofs.Common.{◌≡◌, ◌≤◌, arith, sym, subst, Some, length}
use Rattle.base.specs.declared.entity.Kind.TheVariants.{Order, Stock, Account}
use Rattle.envelope.specs.declared.message.Envelope.{Envelope}
use Rattle.envelope.specs.declared.message.Envelope.TheVariants.{Letter, Settle}
use Rattle.activities.specs.Journal.{AreOf}
use Rattle.activities.specs.Numbered.{nth}
use Rattle.trade.specs.Orders.{order_reactions}
use Rattle.trade.specs.Stocks.{stock_reactions}
use Rattle.trade.specs.Accounts.{account_reactions}
use Rattle.activities.proofs.Sameness.{either}
use Rattle.laws_journals.specs.Envelopes.{IsAuthentic}
use Rattle.laws_journals.specs.Journals.{sent_by, letters_by}
use Rattle.endpoint.specs.Matches.{AllMatch}
use Rattle.laws_stores.specs.Good.{journals_of, IsGenuine}
use Rattle.laws_stores.specs.Sight.{AllTables, Sight, OrderTables, StockTables, AccountTables}
use Rattle.laws_stores.specs.Sight.{orders_service, stocks_service, accounts_service}
use Rattle.laws_stores.specs.Writing.{IsTrueIn}
use Rattle.laws_stores.proofs.Writing.{sender-kind, receiver-kind}

orders_true : (t : AllTables) → AreOf Order t.purchasing.journal → (e : Envelope)
    → IsTrueIn order_reactions t.purchasing.journal e
    → IsAuthentic (journals_of t) e
orders_true t all (Letter l) h = subst (λ kind. nth (sent_by (journals_of t) kind l.pair) l.number ≡ Some l.message)
    (sym (sender-kind order_reactions Order t.purchasing.journal l.pair l.number l.message all h)) h
orders_true t all (Settle p n) h = either (receiver-kind Order t.purchasing.journal p all)
    (λ none. omega (arith, none, h))
    (λ same. subst (λ kind. n ≤ length (letters_by (journals_of t) kind p)) (sym same) h)

stocks_true : (t : AllTables) → AreOf Stock t.warehouse.journal → (e : Envelope)
    → IsTrueIn stock_reactions t.warehouse.journal e
    → IsAuthentic (journals_of t) e
stocks_true t all (Letter l) h = subst (λ kind. nth (sent_by (journals_of t) kind l.pair) l.number ≡ Some l.message)
    (sym (sender-kind stock_reactions Stock t.warehouse.journal l.pair l.number l.message all h)) h
stocks_true t all (Settle p n) h = either (receiver-kind Stock t.warehouse.journal p all)
    (λ none. omega (arith, none, h))
    (λ same. subst (λ kind. n ≤ length (letters_by (journals_of t) kind p)) (sym same) h)

accounts_true : (t : AllTables) → AreOf Account t.billing.journal → (e : Envelope)
    → IsTrueIn account_reactions t.billing.journal e
    → IsAuthentic (journals_of t) e
accounts_true t all (Letter l) h = subst (λ kind. nth (sent_by (journals_of t) kind l.pair) l.number ≡ Some l.message)
    (sym (sender-kind account_reactions Account t.billing.journal l.pair l.number l.message all h)) h
accounts_true t all (Settle p n) h = either (receiver-kind Account t.billing.journal p all)
    (λ none. omega (arith, none, h))
    (λ same. subst (λ kind. n ≤ length (letters_by (journals_of t) kind p)) (sym same) h)

module _ (s : Sight) (e : Envelope) where
  pub orders_genuine : AllMatch orders_service s.purchasing.may_leave
      → ((t : OrderTables) → s.purchasing.may_leave t → IsTrueIn order_reactions t.journal e) → IsGenuine s e
  orders_genuine match all t may =
      orders_true t (match t.purchasing may.purchasing).legal.kinds e (all t.purchasing may.purchasing)

  pub stocks_genuine : AllMatch stocks_service s.warehouse.may_leave
      → ((t : StockTables) → s.warehouse.may_leave t → IsTrueIn stock_reactions t.journal e) → IsGenuine s e
  stocks_genuine match all t may =
      stocks_true t (match t.warehouse may.warehouse).legal.kinds e (all t.warehouse may.warehouse)

  pub accounts_genuine : AllMatch accounts_service s.billing.may_leave
      → ((t : AccountTables) → s.billing.may_leave t → IsTrueIn account_reactions t.journal e) → IsGenuine s e
  accounts_genuine match all t may =
      accounts_true t (match t.billing may.billing).legal.kinds e (all t.billing may.billing)
