-- Partners agree where each receiver handled a beginning of what was sent to it.
use Rattle.std.proofs.Common.{◌≡◌, ℕ, zero, suc, ◌<◌, length, arith, List, [], ◌∷◌, ◌⊎◌, refl, Option, Some, None, inl}
use Rattle.std.proofs.Common.{inr, subst, sym}
use Rattle.std.specs.Prelude.{IsNone, map, slice_index_or}
use Rattle.base.specs.declared.entity.Kind.{Kind}
use Rattle.base.specs.declared.entity.Kind.TheVariants.{Order, Stock, Account}
use Rattle.envelope.specs.declared.message.Message.{Message}
use Rattle.envelope.specs.declared.message.Message.TheVariants.{Request, Tentative, Confirm, Cancel}
use Rattle.trade.specs.declared.line_phase.LinePhase.{LinePhase}
use Rattle.trade.specs.declared.line_phase.LinePhase.TheVariants.{Held, Done, Released}
use Rattle.base.specs.Entity.{Entity}
use Rattle.base.specs.declared.pair.Pair.{Pair}
use Rattle.activities.specs.Reaction.{course, messages_to, letters_from}
use Rattle.activities.specs.Journal.{part}
use Rattle.activities.specs.Numbered.{numbered}
use Rattle.trade.specs.Lines.{Line}
use Rattle.trade.specs.Orders.{Partner, OrderState, order_reactions}
use Rattle.laws_journals.specs.Journals.{Journals, sent_by, sent_in, letters_by, letters_in, HandlesPrefixes}
use Rattle.laws_journals.specs.Agreement.{states_in, line_by, line_at, IsShippedOrBilled, IsHeldOrDone}
use Rattle.laws_journals.specs.Agreement.{IsReleasedOrRefused, IsAmong, IsPartner, IsConfirmed, IsAskedFor, IsAsAsked}
use Rattle.laws_journals.specs.Agreement.{PartnersAgree, RefusedAreLeftAlone, AreSound}
use Rattle.laws_journals.proofs.Partners.{Heard, Told, ByPhase, ByLine, heard-left, stock_line-tells}
use Rattle.laws_journals.proofs.Partners.{account_line-tells}
use Rattle.laws_journals.proofs.Orders.{ByOrder, order_tells, told-asked, confirming, Agreed, agreed, left_alone}
use Rattle.trade.specs.Stocks.{stock_reactions}
use Rattle.trade.specs.Accounts.{account_reactions}
use Rattle.trade.specs.Sound.{AreStocksThenAccount, IsOrderSound, IsStockSound, IsAccountSound}
use Rattle.activities.proofs.Invariants.{invariant-always}
use Rattle.trade.proofs.Sound.{orders-invariant, stocks-invariant, accounts-invariant}

-- a sender and a receiver
abbrev from_to : Entity → Entity → Pair
from_to s r = record { from = s; to = r }

-- what was heard was told

heard-numbered : (m : Message) (n : ℕ) (ms : List Message) → Heard m (numbered n ms) → Told m ms
heard-numbered m n [] h = h
heard-numbered m n (x ∷ ms) (inl e) = inl e
heard-numbered m n (x ∷ ms) (inr h) = inr (heard-numbered m (suc n) ms h)

told-in : (js : Journals) → HandlesPrefixes js → (m : Message) (s r : Entity) → Heard m (letters_in js (from_to s r))
    → Told m (sent_in js (from_to s r))
told-in js prefixes m s r h =
    let p = prefixes (from_to s r) in
    heard-numbered m 0 (sent_in js (from_to s r)) (subst (Heard m) p.1 (heard-left m (letters_in js (from_to s r)) p.0
    h))

-- the line of a stock or an account tells what that heard of the order and told it
line_tells : (js : Journals) (k : Kind) (at o : Entity) (l : Option Line) → line_by (states_in js) o k at ≡ l
    → (k ≡ Order → l ≡ None → ⊥)
    → ByLine l (letters_by js k (from_to o at)) (sent_by js k (from_to at o))
line_tells js Order at o l e some = absurd (some refl (sym e))
line_tells js Stock at o l e some = rw e at (stock_line-tells o (part at js.stocks))
line_tells js Account at o l e some = rw e at (account_line-tells o (part at js.accounts))

-- there is one at a stock or an account alone
some_line_tells : (js : Journals) (at o : Entity) (l : Line) → line_at (states_in js) o at ≡ Some l
    → ByLine (Some l) (letters_in js (from_to o at)) (sent_in js (from_to at o))
some_line_tells js at o l e = line_tells js at.kind at o (Some l) e (λ k none. cc)

-- what an order sends and handles stands in the journal of orders
order_sent : (js : Journals) (o : Entity) → o.kind ≡ Order → (r : Entity)
    → sent_in js (from_to o r) ≡ messages_to r (course order_reactions (part o js.orders)).1
order_sent js o k r = rw k refl

order_handled : (js : Journals) (o : Entity) → o.kind ≡ Order → (s : Entity)
    → letters_in js (from_to s o) ≡ letters_from s (part o js.orders)
order_handled js o k s = rw k refl

-- what a journal's order has told its partners
order_told : (js : Journals) (o : Entity)
    → ByOrder ((states_in js).orders o) (part o js.orders) (course order_reactions (part o js.orders)).1
order_told js o = order_tells (part o js.orders)

pub order_sound : (js : Journals) (e : Entity) → IsOrderSound ((states_in js).orders e)
order_sound js e = invariant-always order_reactions IsOrderSound orders-invariant (part e js.orders)

-- an order has no order among its partners
no_order_among : (e : Entity) (ps : List Partner) → AreStocksThenAccount (map (λ (p : Partner). p.entity) ps)
    → IsAmong e ps → e.kind ≡ Order → ⊥
no_order_among e [] kinds among is = among
no_order_among e (p ∷ []) kinds (inl same) is = let other : p.entity.kind ≡ Account = kinds in absurd (cc)
no_order_among e (p ∷ []) kinds (inr among) is = among
no_order_among e (p ∷ q ∷ ps) kinds (inl same) is = let other : p.entity.kind ≡ Stock = kinds.0 in absurd (cc)
no_order_among e (p ∷ q ∷ ps) kinds (inr among) is = no_order_among e (q ∷ ps) kinds.2 among is

no_order : (order : Option OrderState) → IsOrderSound order → (e : Entity) → IsPartner order e → e.kind ≡ Order → ⊥
no_order None sound e partner is = partner
no_order (Some o) sound e partner is = no_order_among e o.partners sound.in_order partner is

module _ (js : Journals) (prefixes : HandlesPrefixes js) (o : Entity) (k : o.kind ≡ Order) where
  -- what is shipped or billed is so for a confirmed order
  shipped_by : (at : Entity) (l : Option Line) → line_at (states_in js) o at ≡ l → IsShippedOrBilled l
      → IsConfirmed ((states_in js).orders o)
  shipped_by at None e done = absurd done
  shipped_by at (Some l) e done =
      let heard : Heard Confirm (letters_in js (from_to o at)) =
      (let w : ByPhase l.phase (letters_in js (from_to o at)) (sent_in js (from_to at o)) =
      (some_line_tells js at o l e).1 in
      rw done at w) in
      confirming ((states_in js).orders o) (part o js.orders) (course order_reactions (part o js.orders)).1 at
      (order_told js o) (rw (order_sent js o k at) at (told-in js prefixes Confirm o at heard))

  -- a partner of a confirmed order holds, or has shipped or billed
  held_by_all : IsConfirmed ((states_in js).orders o) → (q : Entity) → IsPartner ((states_in js).orders o) q
      → (l : Option Line) → line_at (states_in js) o q ≡ l → IsHeldOrDone l
  held_by_all is q partner l e = by_line l tells
    where
      all : Agreed ((states_in js).orders o) (part o js.orders) (course order_reactions (part o js.orders)).1
      all = agreed ((states_in js).orders o) (part o js.orders) _ (order_told js o) is

      agrees : Told Tentative (sent_in js (from_to q o))
      agrees = told-in js prefixes Tentative q o (rw (order_handled js o k q) (all.heard q partner))

      tells : ByLine l (letters_in js (from_to o q)) (sent_in js (from_to q o))
      tells = line_tells js q.kind q o l e
          (λ order none. no_order ((states_in js).orders o) (order_sound js o) q partner order)

      by_phase : (p : LinePhase) → ByPhase p (letters_in js (from_to o q)) (sent_in js (from_to q o))
          → (p ≡ Held) ⊎ (p ≡ Done)
      by_phase Held h = inl refl
      by_phase Done h = inr refl
      by_phase Released h =
          absurd (all.never q (rw (order_sent js o k q) at (told-in js prefixes Cancel o q h)))
      by_phase LinePhase.Refused h = absurd (h agrees)

      by_line : (m : Option Line) → ByLine m (letters_in js (from_to o q)) (sent_in js (from_to q o)) → IsHeldOrDone m
      by_line None h = h agrees
      by_line (Some m) h = by_phase m.phase h.1

  -- a line is for what was asked
  as_asked : (at : Entity) (l : Option Line) → line_at (states_in js) o at ≡ l
      → IsAsAsked ((states_in js).orders o) at l
  as_asked at None e = tt
  as_asked at (Some l) e =
      told-asked ((states_in js).orders o) (part o js.orders) _ at l (order_told js o)
      (rw (order_sent js o k at) at (told-in js prefixes (Request l.n) o at (some_line_tells js at o l e).0))

-- what is among the messages was told
told_at : (m : Message) (ms : List Message) (k : ℕ) → k < length ms → slice_index_or ms k m ≡ m → Told m ms
told_at m [] k h e = absurd (omega arith)
told_at m (x ∷ ms) zero h e = inl e
told_at m (x ∷ ms) (suc k) h e = inr (told_at m ms k (omega arith) e)

-- what was asked for something is a partner
asked_partner : (order : Option OrderState) (at : Entity) (l : Option Line) → IsAsAsked order at l
    → (IsPartner order at → ⊥) → IsNone l
asked_partner order at None h not = refl
asked_partner None at (Some l) h not = absurd h
asked_partner (Some o) at (Some l) h not = absurd (not (asked_among at l.n o.partners h))
  where
    asked_among : (e : Entity) (n : ℕ) (ps : List Partner) → IsAskedFor e n ps → IsAmong e ps
    asked_among e n [] h = h
    asked_among e n (p ∷ ps) (inl h) = inl h.0
    asked_among e n (p ∷ ps) (inr h) = inr (asked_among e n ps h)

-- what is held, shipped or billed isn't given back
not_both : (l : Option Line) → IsHeldOrDone l → IsReleasedOrRefused l → ⊥
not_both None h given = h
not_both (Some l) (inl h) (inl given) = absurd (cc)
not_both (Some l) (inl h) (inr given) = absurd (cc)
not_both (Some l) (inr h) (inl given) = absurd (cc)
not_both (Some l) (inr h) (inr given) = absurd (cc)

pub partners_agree : (js : Journals) → HandlesPrefixes js → (o : Entity) → o.kind ≡ Order
    → PartnersAgree ((states_in js).orders o) (line_at (states_in js) o)
partners_agree js prefixes o k = record {
  confirmed = holds;
  only_confirmed = shipped;
  one_way = λ p q _ partner done given. not_both (line_at (states_in js) o q) (holds (shipped p done) q partner) given;
  nowhere_else = λ at not. asked_partner ((states_in js).orders o) at (line_at (states_in js) o at) (asked at) not;
  as_asked = asked;
}
  where
    holds : IsConfirmed ((states_in js).orders o) → (p : Entity) → IsPartner ((states_in js).orders o) p
        → IsHeldOrDone (line_at (states_in js) o p)
    holds is p partner = held_by_all js prefixes o k is p partner (line_at (states_in js) o p) refl

    shipped : (at : Entity) → IsShippedOrBilled (line_at (states_in js) o at) → IsConfirmed ((states_in js).orders o)
    shipped at done = shipped_by js prefixes o k at (line_at (states_in js) o at) refl done

    asked : (at : Entity) → IsAsAsked ((states_in js).orders o) at (line_at (states_in js) o at)
    asked at = as_asked js prefixes o k at (line_at (states_in js) o at) refl

pub refused_left : (js : Journals) (o : Entity) → o.kind ≡ Order
    → RefusedAreLeftAlone ((states_in js).orders o) (λ p. sent_in js (from_to o p))
refused_left js o k p refused there =
    let told : Told Cancel (sent_in js (from_to o p)) =
    told_at Cancel (sent_in js (from_to o p)) there.0 there.1 there.2 in
    left_alone ((states_in js).orders o) (part o js.orders) (course order_reactions (part o js.orders)).1 p
    (order_tells (part o js.orders)) refused (rw (order_sent js o k p) at told)

-- ---- soundness

pub stock_sound : (js : Journals) (e : Entity) → IsStockSound ((states_in js).stocks e)
stock_sound js e = invariant-always stock_reactions IsStockSound stocks-invariant (part e js.stocks)

pub account_sound : (js : Journals) (e : Entity) → IsAccountSound ((states_in js).accounts e)
account_sound js e = invariant-always account_reactions IsAccountSound accounts-invariant (part e js.accounts)

pub sound : (js : Journals) → HandlesPrefixes js → AreSound (states_in js)
sound js prefixes = record {
  agree = partners_agree js prefixes;
  orders = order_sound js;
  stocks = stock_sound js;
  accounts = account_sound js;
}
