-- Lives go on; and where what was read had been written, three services are lawful, in whatever way their lives overlap.
use Rattle.std.proofs.Common.{◌≡◌, ◌⊎◌, ◌≤◌, ℕ, suc, List, [], ◌∷◌, ◌++◌, inl, inr, refl, sym, ◌∙◌, subst, arith}
use Rattle.std.proofs.Common.{Some, None, true, length, length-append, append_assoc}
use Rattle.std.specs.Prelude.{Contains}
use Rattle.std.specs.List.{AllByRecursion}
use Rattle.std.proofs.lemmas.List.{append-nil}
use Rattle.std.proofs.lemmas.List.Elements.{Contains-append_left, Contains-append_right, Contains-append_cases}
use Rattle.base.specs.Entity.{Entity}
use Rattle.base.specs.declared.entity.Kind.{Kind}
use Rattle.base.specs.declared.entity.Kind.TheVariants.{Order, Stock, Account}
use Rattle.base.specs.declared.limits.TheConstants.{HELD_WINDOW}
use Rattle.base.specs.declared.pair.Pair.{Pair}
use Rattle.envelope.specs.declared.message.Message.{Message}
use Rattle.envelope.specs.declared.message.Envelope.{Envelope}
use Rattle.envelope.specs.declared.message.Envelope.TheVariants.{Letter, Settle}
use Rattle.trade.specs.Orders.{order_reactions}
use Rattle.trade.specs.Stocks.{stock_reactions}
use Rattle.trade.specs.Accounts.{account_reactions}
use Rattle.activities.specs.declared.input.Input.{Input}
use Rattle.activities.specs.declared.input.Input.TheVariants.{FromSeat, FromEntity}
use Rattle.activities.specs.declared.input.JournalRow.{JournalRow}
use Rattle.activities.specs.Journal.{part, letters_of, InOrder}
use Rattle.activities.specs.Numbered.{nth, numbered, IsPrefixOf}
use Rattle.activities.specs.Reaction.{Reactions, letters_from}
use Rattle.activities.specs.Service.{Service}
use Rattle.activities.proofs.Journals.{sent_of-grows, handled_of-grows}
use Rattle.activities.proofs.Prefixes.{nth-prefix, numbered_prefix-next}
use Rattle.activities.proofs.Sameness.{either, same_entity-tells}
use Rattle.keep.specs.Seen.{Seen}
use Rattle.keep.specs.Tables.{Tables, empty}
use Rattle.endpoint.specs.Matches.{TablesMatchJournal}
use Rattle.endpoint.proofs.Opening.{empty-matches}
use Rattle.laws_journals.specs.Agreement.{states_in, AreSound}
use Rattle.laws_journals.specs.Envelopes.{IsAuthentic, SettledAreHandled}
use Rattle.laws_journals.specs.Growth.{IsFrom}
use Rattle.laws_journals.specs.Journals.{letters_by, sent_in, handled_in, AreLawful}
use Rattle.laws_journals.proofs.Agreement.{sound}
use Rattle.laws_stores.specs.Good.{journals_of, settled_by, settled_in, IsHeldIn}
use Rattle.laws_stores.specs.Sight.{AllTables, Sight, MayLeave, OrderTables, StockTables, AccountTables}
use Rattle.laws_stores.specs.Sight.{orders_service, stocks_service, accounts_service}
use Rattle.laws_stores.specs.Writing.{IsTrueIn}
use Rattle.laws_stores.proofs.Genuine.{orders_genuine, stocks_genuine, accounts_genuine}
use Rattle.laws_services.specs.Lives.{TakeIn, AreSettledBy, Post, both_lives, HasLived, WasThere, Lives, HaveLived}

-- a store in memory: a stop leaves its tables and no others
abbrev pub only : {T : Type 0} → T → Seen T
only t = record { tables = t; may_leave = λ x. x ≡ t; failures = 0; usable = true; doubt = 0; armed = None }

-- ---- what rows take in

from_more : {C : Type 0} (known more : Envelope → Type 0) (e : Entity) (input : Input C)
    → ((x : Envelope) → known x → more x) → IsFrom known e input → IsFrom more e input
from_more known more e (FromSeat seat c) all h = tt
from_more known more e (FromEntity s n m) all h = all _ h

takes-more : {C : Type 0} (known more : Envelope → Type 0) (rows : List (JournalRow C))
    → ((x : Envelope) → known x → more x) → TakeIn known rows → TakeIn more rows
takes-more known more [] all h = tt
takes-more known more (row ∷ rows) all h =
    (from_more known more row.entity row.input all h.0, takes-more known more rows all h.1)

takes-both : {C : Type 0} (known : Envelope → Type 0) (xs ys : List (JournalRow C)) → TakeIn known xs → TakeIn known ys
    → TakeIn known (xs ++ ys)
takes-both known [] ys h k = k
takes-both known (x ∷ xs) ys h k = (h.0, takes-both known xs ys h.1 k)

-- a letter of the pair is known by its number and message
abbrev IsKnownOn : (Envelope → Type 0) → Pair → ℕ × Message → Type 0
IsKnownOn known p x = known (Letter (record { pair = p; number = x.0; message = x.1 }))

letters_of_input : {C : Type 0} (known : Envelope → Type 0) (p : Pair) (input : Input C) (rest : List (Input C))
    → IsFrom known p.to input → AllByRecursion (IsKnownOn known p) (letters_from p.from rest)
    → AllByRecursion (IsKnownOn known p) (letters_from p.from (input ∷ rest))
letters_of_input known p (FromSeat seat c) rest h k = k
letters_of_input known p (FromEntity s n m) rest h k = either (same_entity-tells p.from s)
    (λ e. rw e.0 (
      subst (λ (from : Entity). IsKnownOn known (record { from = from; to = p.to }) (n, m)) (sym e.1) h,
      k,
    ))
    (λ e. rw e.0 k)

-- each letter of a pair that rows take in is one of those that they may
letters_are : {C : Type 0} (known : Envelope → Type 0) (p : Pair) (rows : List (JournalRow C)) → TakeIn known rows
    → AllByRecursion (IsKnownOn known p) (letters_of rows p)
letters_are known p [] h = tt
letters_are known p (row ∷ rows) h = either (same_entity-tells p.to row.entity)
    (λ e. rw e.0
    (letters_of_input known p row.input (part p.to rows)
    (subst (λ (x : Entity). IsFrom known x row.input) (sym e.1) h.0) (letters_are known p rows h.1)))
    (λ e. rw e.0 (letters_are known p rows h.1))

-- letters in order, each with what was sent under its number, are a beginning of all that was sent
begins_from : (ms : List Message) (done rest : List (ℕ × Message)) → IsPrefixOf done (numbered 0 ms)
    → InOrder (length done) rest → AllByRecursion (λ (x : ℕ × Message). nth ms x.0 ≡ Some x.1) rest
    → IsPrefixOf (done ++ rest) (numbered 0 ms)
begins_from ms done [] begins order all = subst (λ xs. IsPrefixOf xs (numbered 0 ms)) (sym (append-nil done)) begins
begins_from ms done (x ∷ rest) begins order all =
    let sent : nth ms (suc (length done)) ≡ Some x.1 = subst (λ (n : ℕ). nth ms n ≡ Some x.1) order.0 all.0 in
    let same : (suc (length done), x.1) ≡ x = λ i. (sym order.0 i, x.1) in
    let next : IsPrefixOf (done ++ x ∷ []) (numbered 0 ms)
    = subst (λ (y : ℕ × Message). IsPrefixOf (done ++ y ∷ []) (numbered 0 ms)) same
    (numbered_prefix-next done ms x.1 begins sent) in
    let count : suc (length done) ≡ length (done ++ x ∷ []) = let l = length-append done (x ∷ []) in omega (arith, l) in
    subst (λ xs. IsPrefixOf xs (numbered 0 ms)) (append_assoc done (x ∷ []) rest)
    (begins_from ms (done ++ x ∷ []) rest next (subst (λ (n : ℕ). InOrder n rest) count order.1) all.1)

-- ---- one service

true-later : {S C : Type 0} (reactions : Reactions S C) (rows more : List (JournalRow C)) (e : Envelope)
    → IsTrueIn reactions rows e → IsTrueIn reactions (rows ++ more) e
true-later reactions rows more (Letter l) h =
    nth-prefix l.number l.message _ _ (sent_of-grows reactions rows more l.pair) h
true-later reactions rows more (Settle p n) h = let grows = handled_of-grows rows more p in omega (arith, h, grows)

none_is_held : (e : Envelope) → IsHeldIn (λ p n. None) e → ⊥
none_is_held (Letter l) h = cc
none_is_held (Settle p n) h = h

pub none_is_there : (e : Envelope) → Contains [] e → ⊥
none_is_there e h = let least = h.1 in omega (arith, least)

pub new_has_lived : {S C : Type 0} (service : Service S C)
    → HasLived service (record { read = []; written = [] }) empty
new_has_lived service = record {
  matches = empty-matches HELD_WINDOW service;
  took = tt;
  holds = λ e h. absurd (none_is_held e h);
  marks = λ p. inl refl;
  wrote = λ e h. absurd (none_is_there e h);
}

module _ {S C : Type 0} (service : Service S C) (earlier later : Post) (found t : Tables S C)
    (was : HasLived service earlier found) (life : Lives service later found t) where
  abbrev Reads : Envelope → Type 0
  Reads = Contains (earlier.read ++ later.read)

  read_before : (e : Envelope) → Contains earlier.read e → Reads e
  read_before e h = Contains-append_left earlier.read later.read e h

  read_then : (e : Envelope) → Contains later.read e → Reads e
  read_then e h = Contains-append_right earlier.read later.read e h

  was_read : (e : Envelope) → WasThere later found e → Reads e
  was_read e h = either h (read_then e) (λ held. read_before e (was.holds e held))

  mark_stays : (p : Pair) → t.settled p ≡ found.settled p
      → (t.settled p ≡ 0) ⊎ AreSettledBy (earlier.read ++ later.read) p (t.settled p)
  mark_stays p same = either (was.marks p)
      (λ none. inl (same ∙ none))
      (λ by. let upto = by.2 in inr (by.0, read_before (Settle p by.0) by.1, omega (arith, same, upto)))

  pub lived_on : HasLived service (both_lives earlier later) t
  lived_on = record {
    matches = life.matches;
    took = subst (TakeIn Reads) (sym life.goes_on)
        (takes-both Reads found.journal life.rows
        (takes-more (Contains earlier.read) Reads found.journal read_before was.took)
        (takes-more (WasThere later found) Reads life.rows was_read life.took));
    holds = λ e h. was_read e (life.holds e h);
    marks = λ p. either (life.marks p) (mark_stays p)
        (λ by. inr (by.0, read_then (Settle p by.0) by.1, by.2));
    wrote = λ e h. either (Contains-append_cases earlier.written later.written e h)
        (λ before. subst (λ rows. IsTrueIn service.reactions rows e) (sym life.goes_on)
        (true-later service.reactions found.journal life.rows e (was.wrote e before)))
        (life.wrote e);
  }

-- ---- three services

module _ (t : AllTables) (h : HaveLived t) where
  abbrev sight : Sight
  sight = record { purchasing = only t.purchasing; warehouse = only t.warehouse; billing = only t.billing }

  here : MayLeave sight t
  here = record { purchasing = refl; warehouse = refl; billing = refl }

  abbrev Is : Envelope → Type 0
  Is = IsAuthentic (journals_of t)

  orders_wrote : (e : Envelope) → Contains h.orders.written e → Is e
  orders_wrote e w = orders_genuine sight e
      (λ u same. subst (TablesMatchJournal orders_service) (sym same) h.purchasing.matches)
      (λ u same. subst (λ (v : OrderTables). IsTrueIn order_reactions v.journal e) (sym same) (h.purchasing.wrote e w))
      t here

  stocks_wrote : (e : Envelope) → Contains h.stocks.written e → Is e
  stocks_wrote e w = stocks_genuine sight e
      (λ u same. subst (TablesMatchJournal stocks_service) (sym same) h.warehouse.matches)
      (λ u same. subst (λ (v : StockTables). IsTrueIn stock_reactions v.journal e) (sym same) (h.warehouse.wrote e w))
      t here

  accounts_wrote : (e : Envelope) → Contains h.accounts.written e → Is e
  accounts_wrote e w = accounts_genuine sight e
      (λ u same. subst (TablesMatchJournal accounts_service) (sym same) h.billing.matches)
      (λ u same. subst (λ (v : AccountTables). IsTrueIn account_reactions v.journal e) (sym same) (h.billing.wrote e w))
      t here

  -- all that was handed on is authentic
  read_is : (e : Envelope) → Contains (h.orders.read ++ h.stocks.read ++ h.accounts.read) e → Is e
  read_is e r = either
      (Contains-append_cases (h.orders.written ++ h.stocks.written) h.accounts.written e (h.handed_on e r))
      (λ two. either (Contains-append_cases h.orders.written h.stocks.written e two) (orders_wrote e) (stocks_wrote e))
      (accounts_wrote e)

  two_read : (e : Envelope) → Contains (h.orders.read ++ h.stocks.read) e → Is e
  two_read e r = read_is e (Contains-append_left (h.orders.read ++ h.stocks.read) h.accounts.read e r)

  orders_read : (e : Envelope) → Contains h.orders.read e → Is e
  orders_read e r = two_read e (Contains-append_left h.orders.read h.stocks.read e r)

  stocks_read : (e : Envelope) → Contains h.stocks.read e → Is e
  stocks_read e r = two_read e (Contains-append_right h.orders.read h.stocks.read e r)

  accounts_read : (e : Envelope) → Contains h.accounts.read e → Is e
  accounts_read e r = read_is e (Contains-append_right (h.orders.read ++ h.stocks.read) h.accounts.read e r)

  -- what rows take in begins what was sent on the pair
  begins : {C : Type 0} (read : List Envelope) (rows : List (JournalRow C)) (p : Pair)
      → ((e : Envelope) → Contains read e → Is e) → TakeIn (Contains read) rows → InOrder 0 (letters_of rows p)
      → IsPrefixOf (letters_of rows p) (numbered 0 (sent_in (journals_of t) p))
  begins read rows p are took order = begins_from (sent_in (journals_of t) p) [] (letters_of rows p)
      (numbered 0 (sent_in (journals_of t) p), refl) order
      (letters_are Is p rows (takes-more (Contains read) Is rows are took))

  prefixes : (k : Kind) (p : Pair)
      → IsPrefixOf (letters_by (journals_of t) k p) (numbered 0 (sent_in (journals_of t) p))
  prefixes Order p = begins h.orders.read t.purchasing.journal p orders_read h.purchasing.took
      (h.purchasing.matches.legal.in_order p.from p.to)
  prefixes Stock p = begins h.stocks.read t.warehouse.journal p stocks_read h.warehouse.took
      (h.warehouse.matches.legal.in_order p.from p.to)
  prefixes Account p = begins h.accounts.read t.billing.journal p accounts_read h.billing.took
      (h.billing.matches.legal.in_order p.from p.to)

  pub lived_lawful : AreLawful (journals_of t)
  lived_lawful = record {
    legal = record {
      orders = h.purchasing.matches.legal;
      stocks = h.warehouse.matches.legal;
      accounts = h.billing.matches.legal;
    };
    prefixes = λ p. prefixes p.to.kind p;
  }

  mark_is : (read : List Envelope) (mark : ℕ) (p : Pair) → ((e : Envelope) → Contains read e → Is e)
      → (mark ≡ 0) ⊎ AreSettledBy read p mark → mark ≤ handled_in (journals_of t) p
  mark_is read mark p are h = either h
      (λ none. omega (arith, none))
      (λ by. let so : by.0 ≤ handled_in (journals_of t) p = are (Settle p by.0) by.1 in
      let upto = by.2 in
      omega (arith, so, upto))

  marks : (k : Kind) (p : Pair) → settled_by t k p ≤ handled_in (journals_of t) p
  marks Order p = mark_is h.orders.read (t.purchasing.settled p) p orders_read (h.purchasing.marks p)
  marks Stock p = mark_is h.stocks.read (t.warehouse.settled p) p stocks_read (h.warehouse.marks p)
  marks Account p = mark_is h.accounts.read (t.billing.settled p) p accounts_read (h.billing.marks p)

  pub lived_settled : SettledAreHandled (journals_of t) (settled_in t)
  lived_settled p = marks p.from.kind p

  pub lived_agree : AreSound (states_in (journals_of t))
  lived_agree = sound (journals_of t) lived_lawful.prefixes
