-- One more row of one service, and one mark raised, keep the journals lawful, the marks behind the handling, and every
-- envelope authentic.
use Rattle.std.proofs.Common.{◌≡◌, ℕ, suc, ◌≤◌, Bool, true, false, List, [], ◌∷◌, ◌++◌, ◌⊎◌, refl, arith, sym, inl, inr}
use Rattle.std.proofs.Common.{Some, length}
use Rattle.std.proofs.Common.{subst}
use Rattle.base.specs.Entity.{Entity}
use Rattle.base.proofs.Entities.{same_pair-Decides}
use Rattle.base.specs.Order.{same_pair}
use Rattle.base.specs.declared.entity.Kind.{Kind}
use Rattle.base.specs.declared.entity.Kind.TheVariants.{Order, Stock, Account}
use Rattle.base.specs.declared.pair.Pair.{Pair}
use Rattle.envelope.specs.declared.message.Message.{Message}
use Rattle.envelope.specs.declared.message.Envelope.{Envelope}
use Rattle.envelope.specs.declared.message.Envelope.TheVariants.{Letter, Settle}
use Rattle.trade.specs.declared.commands.OrderCommand.{OrderCommand}
use Rattle.trade.specs.declared.commands.StockCommand.{StockCommand}
use Rattle.trade.specs.declared.commands.AccountCommand.{AccountCommand}
use Rattle.activities.specs.declared.input.Input.{Input}
use Rattle.activities.specs.declared.input.Input.TheVariants.{FromSeat, FromEntity}
use Rattle.activities.specs.declared.input.JournalRow.{JournalRow}
use Rattle.activities.specs.Journal.{letters_of, handled_of}
use Rattle.activities.specs.Follow.{HasNextNumber}
use Rattle.activities.specs.Numbered.{nth, IsPrefixOf}
use Rattle.trade.specs.Orders.{order_reactions}
use Rattle.trade.specs.Stocks.{stock_reactions}
use Rattle.trade.specs.Accounts.{account_reactions}
use Rattle.activities.proofs.Sameness.{either}
use Rattle.activities.proofs.Prefixes.{prefix-same, prefix_trans, numbered-prefix, numbered_prefix-next, nth-prefix}
use Rattle.activities.proofs.Journals.{sent_of-grows, handled_of-grows, letters_of-command, letters_of-cases}
use Rattle.activities.proofs.Legal.{legal-more}
use Rattle.laws_journals.specs.Journals.{Journals, sent_by, sent_in, letters_by, letters_in, handled_in, AreLegal}
use Rattle.laws_journals.specs.Journals.{HandlesPrefixes, AreLawful}
use Rattle.laws_journals.specs.Envelopes.{IsAuthentic, SettledAreHandled, Raises}
use Rattle.laws_journals.specs.Growth.{IsFrom, AddsRowFrom, AddsRow, AddsOrder, AddsStock, AddsAccount, Grows}

-- each pair handled nothing more, or the next message that its sender's journal sends
abbrev pub HandlesNext : Journals → Pair → List (ℕ × Message) → List (ℕ × Message) → Type 0
HandlesNext js pair before later =
    (later ≡ before) ⊎ ((m : Message) × (later ≡ before ++ (suc (length before), m) ∷ [])
    × (nth (sent_in js pair) (suc (length before)) ≡ Some m))

-- a step of the three journals: what was sent goes on where it ended
pub record Follows (js later : Journals) : Type 0 where
  pub sent : (pair : Pair) → IsPrefixOf (sent_in js pair) (sent_in later pair)
  pub handled : (pair : Pair) → HandlesNext js pair (letters_in js pair) (letters_in later pair)

-- ---- rows of letters that are known to be authentic

from-known : {C : Type 0} (known more : Envelope → Type 0) (e : Entity) (input : Input C)
    → ((x : Envelope) → known x → more x)
    → IsFrom known e input → IsFrom more e input
from-known known more e (FromSeat seat c) all h = tt
from-known known more e (FromEntity s n m) all h = all _ h

pub adds-known : (known more : Envelope → Type 0) (js later : Journals) → ((x : Envelope) → known x → more x)
    → AddsRowFrom known js later
    → AddsRowFrom more js later
adds-known known more js later all (AddsOrder row may from e) =
    AddsOrder row may (from-known known more row.entity row.input all from) e
adds-known known more js later all (AddsStock row may from e) =
    AddsStock row may (from-known known more row.entity row.input all from) e
adds-known known more js later all (AddsAccount row may from e) =
    AddsAccount row may (from-known known more row.entity row.input all from) e

-- ---- one row

abbrev pair_of : Entity → Entity → Pair
pair_of s r = record { from = s; to = r }

row_handles : {C : Type 0} (js : Journals) (rows : List (JournalRow C)) (e : Entity) (input : Input C)
    → HasNextNumber rows e input
    → IsFrom (IsAuthentic js) e input
    → (pair : Pair) → HandlesNext js pair (letters_of rows pair) (letters_of
    (rows ++ record { entity = e; input = input } ∷ []) pair)
row_handles js rows e (FromSeat seat c) next genuine pair = inl (letters_of-command rows e seat c pair)
row_handles js rows e (FromEntity from n m) next genuine pair =
    either (letters_of-cases rows (pair_of from e) n m pair) inl (λ h. inr (own h.0 h.1 h.2))
  where
    own : pair.from ≡ from → pair.to ≡ e
        → letters_of (rows ++ record { entity = e; input = FromEntity from n m } ∷ []) pair ≡ letters_of rows pair
        ++ (n, m) ∷ []
        → (k : Message) × (letters_of (rows ++ record { entity = e; input = FromEntity from n m } ∷ []) pair
        ≡ letters_of rows pair
        ++ (suc (handled_of rows pair), k) ∷ []) × (nth (sent_in js pair) (suc (handled_of rows pair)) ≡ Some k)
    own f t letters =
        let same : pair_of from e ≡ pair = λ i. record { from = sym f i; to = sym t i } in
        let number : n ≡ suc (handled_of rows pair) = subst (λ p. n ≡ suc (handled_of rows p)) same next in
        let here : nth (sent_in js pair) n ≡ Some m = subst (λ p. nth (sent_in js p) n ≡ Some m) same genuine in
        (m, rw (← number) letters, subst (λ (k : ℕ). nth (sent_in js pair) k ≡ Some m) number here)

adds-follows : (js later : Journals) → AddsRow js later → Follows js later
adds-follows js later (AddsOrder row may genuine e) =
    rw e (record { sent = λ pair. sent pair.from.kind pair; handled = λ pair. handled pair.to.kind pair })
  where
    sent : (k : Kind) (pair : Pair) → IsPrefixOf (sent_by js k pair) (sent_by
        (record js { orders = js.orders ++ row ∷ [] }) k pair)
    sent Order pair = sent_of-grows order_reactions js.orders (row ∷ []) pair
    sent Stock pair = prefix-same _ _ refl
    sent Account pair = prefix-same _ _ refl

    handled : (k : Kind) (pair : Pair)
        → HandlesNext js pair (letters_by js k pair) (letters_by (record js { orders = js.orders ++ row ∷ [] }) k pair)
    handled Order pair = row_handles js js.orders row.entity row.input may.next genuine pair
    handled Stock pair = inl refl
    handled Account pair = inl refl
adds-follows js later (AddsStock row may genuine e) =
    rw e (record { sent = λ pair. sent pair.from.kind pair; handled = λ pair. handled pair.to.kind pair })
  where
    sent : (k : Kind) (pair : Pair) → IsPrefixOf (sent_by js k pair) (sent_by
        (record js { stocks = js.stocks ++ row ∷ [] }) k pair)
    sent Order pair = prefix-same _ _ refl
    sent Stock pair = sent_of-grows stock_reactions js.stocks (row ∷ []) pair
    sent Account pair = prefix-same _ _ refl

    handled : (k : Kind) (pair : Pair)
        → HandlesNext js pair (letters_by js k pair) (letters_by (record js { stocks = js.stocks ++ row ∷ [] }) k pair)
    handled Order pair = inl refl
    handled Stock pair = row_handles js js.stocks row.entity row.input may.next genuine pair
    handled Account pair = inl refl
adds-follows js later (AddsAccount row may genuine e) =
    rw e (record { sent = λ pair. sent pair.from.kind pair; handled = λ pair. handled pair.to.kind pair })
  where
    sent : (k : Kind) (pair : Pair) → IsPrefixOf (sent_by js k pair) (sent_by
        (record js { accounts = js.accounts ++ row ∷ [] }) k pair)
    sent Order pair = prefix-same _ _ refl
    sent Stock pair = prefix-same _ _ refl
    sent Account pair = sent_of-grows account_reactions js.accounts (row ∷ []) pair

    handled : (k : Kind) (pair : Pair)
        → HandlesNext js pair (letters_by js k pair) (letters_by (record js { accounts = js.accounts ++ row ∷ [] }) k
        pair)
    handled Order pair = inl refl
    handled Stock pair = inl refl
    handled Account pair = row_handles js js.accounts row.entity row.input may.next genuine pair

legal-later : (js later : Journals) → AddsRow js later → AreLegal js → AreLegal later
legal-later js later (AddsOrder row may genuine e) h =
    rw e (record {
      orders = legal-more order_reactions Order js.orders row h.orders may;
      stocks = h.stocks;
      accounts = h.accounts;
    })
legal-later js later (AddsStock row may genuine e) h =
    rw e (record {
      orders = h.orders;
      stocks = legal-more stock_reactions Stock js.stocks row h.stocks may;
      accounts = h.accounts;
    })
legal-later js later (AddsAccount row may genuine e) h =
    rw e (record {
      orders = h.orders;
      stocks = h.stocks;
      accounts = legal-more account_reactions Account js.accounts row h.accounts may;
    })

-- ---- what follows

prefixes-later : (js later : Journals) → Follows js later → HandlesPrefixes js → HandlesPrefixes later
prefixes-later js later f h pair = prefix_trans _ _ _
    (either (f.handled pair)
    (λ e. rw e (h pair))
    (λ e. rw e.1 (numbered_prefix-next (letters_in js pair) (sent_in js pair) e.0 (h pair) e.2)))
    (numbered-prefix 0 (sent_in js pair) (sent_in later pair) (f.sent pair))

pub lawful-later : (js later : Journals) → AddsRow js later → AreLawful js → AreLawful later
lawful-later js later adds h = record {
  legal = legal-later js later adds h.legal;
  prefixes =
      prefixes-later js later (adds-follows js later adds) h.prefixes;
}

orders_grow : (js : Journals) (more : List (JournalRow OrderCommand))
    → Grows js (record js { orders = js.orders ++ more })
orders_grow js more = record { sent = λ pair. sent pair.from.kind pair; handled = λ pair. handled pair.to.kind pair }
  where
    sent : (k : Kind) (pair : Pair) → IsPrefixOf (sent_by js k pair) (sent_by (record js { orders = js.orders ++ more })
        k pair)
    sent Order pair = sent_of-grows order_reactions js.orders more pair
    sent Stock pair = prefix-same _ _ refl
    sent Account pair = prefix-same _ _ refl

    handled : (k : Kind) (pair : Pair)
        → length (letters_by js k pair) ≤ length (letters_by (record js { orders = js.orders ++ more }) k pair)
    handled Order pair = handled_of-grows js.orders more pair
    handled Stock pair = omega arith
    handled Account pair = omega arith

stocks_grow : (js : Journals) (more : List (JournalRow StockCommand))
    → Grows js (record js { stocks = js.stocks ++ more })
stocks_grow js more = record { sent = λ pair. sent pair.from.kind pair; handled = λ pair. handled pair.to.kind pair }
  where
    sent : (k : Kind) (pair : Pair) → IsPrefixOf (sent_by js k pair) (sent_by (record js { stocks = js.stocks ++ more })
        k pair)
    sent Order pair = prefix-same _ _ refl
    sent Stock pair = sent_of-grows stock_reactions js.stocks more pair
    sent Account pair = prefix-same _ _ refl

    handled : (k : Kind) (pair : Pair)
        → length (letters_by js k pair) ≤ length (letters_by (record js { stocks = js.stocks ++ more }) k pair)
    handled Order pair = omega arith
    handled Stock pair = handled_of-grows js.stocks more pair
    handled Account pair = omega arith

accounts_grow : (js : Journals) (more : List (JournalRow AccountCommand))
    → Grows js (record js { accounts = js.accounts ++ more })
accounts_grow js more = record { sent = λ pair. sent pair.from.kind pair; handled = λ pair. handled pair.to.kind pair }
  where
    sent : (k : Kind) (pair : Pair) → IsPrefixOf (sent_by js k pair) (sent_by
        (record js { accounts = js.accounts ++ more }) k pair)
    sent Order pair = prefix-same _ _ refl
    sent Stock pair = prefix-same _ _ refl
    sent Account pair = sent_of-grows account_reactions js.accounts more pair

    handled : (k : Kind) (pair : Pair)
        → length (letters_by js k pair) ≤ length (letters_by (record js { accounts = js.accounts ++ more }) k pair)
    handled Order pair = omega arith
    handled Stock pair = omega arith
    handled Account pair = handled_of-grows js.accounts more pair

-- whatever letters are known
pub grows-from : (known : Envelope → Type 0) (js later : Journals) → AddsRowFrom known js later → Grows js later
grows-from known js later (AddsOrder row may from e) = rw e (orders_grow js (row ∷ []))
grows-from known js later (AddsStock row may from e) = rw e (stocks_grow js (row ∷ []))
grows-from known js later (AddsAccount row may from e) = rw e (accounts_grow js (row ∷ []))

pub grows : (js later : Journals) → AddsRow js later → Grows js later
grows js later adds = grows-from (IsAuthentic js) js later adds

pub grows-same : (js : Journals) → Grows js js
grows-same js = record { sent = λ pair. prefix-same _ _ refl; handled = λ pair. omega arith }

pub grows_trans : (a b c : Journals) → Grows a b → Grows b c → Grows a c
grows_trans a b c g h = record {
  sent = λ pair. prefix_trans _ _ _ (g.sent pair) (h.sent pair);
  handled = λ pair. let x = g.handled pair in let y = h.handled pair in omega arith;
}

-- what is authentic stays so
pub authentic-later : (js later : Journals) → Grows js later → (e : Envelope) → IsAuthentic js e → IsAuthentic later e
authentic-later js later g (Letter l) h =
    nth-prefix l.number l.message (sent_in js l.pair) (sent_in later l.pair) (g.sent l.pair) h
authentic-later js later g (Settle pair count) h = let l = g.handled pair in omega arith

-- and marks stay behind
pub settled-later : (js later : Journals) → Grows js later → (settled : Pair → ℕ) → SettledAreHandled js settled
    → SettledAreHandled later settled
settled-later js later g settled h pair = let l = g.handled pair in let k = h pair in omega arith

-- also where one is raised to what was handled
pub raised-handled : (js : Journals) (pair : Pair) (count : ℕ) (settled later : Pair → ℕ)
    → IsAuthentic js (Settle pair count)
    → Raises pair count settled later → SettledAreHandled js settled → SettledAreHandled js later
raised-handled js pair count settled later a raises h other = by_case (same_pair other pair) refl
  where
    by_case : (b : Bool) → same_pair other pair ≡ b → later other ≤ handled_in js other
    by_case true e =
        let same : other ≡ pair = (same_pair-Decides other pair).0 e in
        let own = raises.own in
        let old = h pair in
        rw same (omega arith)
    by_case false e =
        let is = raises.others other (λ same. let t : same_pair other pair ≡ true =
        (same_pair-Decides other pair).1 same in cc) in
        let old = h other in
        omega arith

-- and none is taken back
pub raised-up : (pair other : Pair) (count : ℕ) (settled later : Pair → ℕ) → Raises pair count settled later
    → settled other ≤ later other
raised-up pair other count settled later raises = by_case (same_pair other pair) refl
  where
    by_case : (b : Bool) → same_pair other pair ≡ b → settled other ≤ later other
    by_case true e =
        let same : other ≡ pair = (same_pair-Decides other pair).0 e in
        let own = raises.own in
        rw same (omega arith)
    by_case false e =
        let is = raises.others other (λ same. let t : same_pair other pair ≡ true =
        (same_pair-Decides other pair).1 same in cc) in
        omega arith
