-- What is known of the partners of an order.
use Rattle.std.proofs.Common.{◌≡◌, ◌≢◌, ℕ, zero, suc, ◌<◌, ◌≤◌, ◌++◌, List, [], ◌∷◌, Bool, true, false, length, get_or}
use Rattle.std.proofs.Common.{set, take, drop}
use Rattle.std.proofs.Common.{refl, ap, arith, sym, ◌∙◌, subst, Option, None}
use Rattle.std.proofs.Math.ListN.{drop_of_length-le}
use Rattle.std.proofs.Math.Seq.{take-length}
use Rattle.std.proofs.lemmas.List.{append-nil}
use Rattle.std.specs.Prelude.{map, nat_lt, nat_le, ◌&&◌, not, filter, if◌then◌else◌}
use Rattle.std.specs.List.{AllByRecursion}
use Rattle.std.proofs.lemmas.Bool.Decides.{nat_tests}
use Rattle.base.specs.Entity.{Entity}
use Rattle.base.specs.Number.{is_number}
use Rattle.base.specs.Order.{same_entity}
use Rattle.base.specs.declared.entity.Kind.{Kind}
use Rattle.base.specs.declared.entity.Kind.TheVariants.{Order, Stock, Account}
use Rattle.base.proofs.Entities.{same_entity-Decides}
use Rattle.envelope.specs.declared.message.Message.{Message}
use Rattle.activities.specs.declared.outs.Out.{Out}
use Rattle.activities.specs.declared.phase.Phase.{Phase}
use Rattle.trade.specs.declared.commands.OrderCommand.TheVariants.{Place}
use Rattle.trade.specs.declared.items.Item.{Item}
use Rattle.activities.specs.Applied.{IsSending}
use Rattle.trade.specs.Items.{are_lines, are_numbers}
use Rattle.trade.specs.Orders.{Partner, OrderState, all_tentative, with_phase, all_in, to_all, to_others, requests}
use Rattle.trade.specs.Orders.{partners_of}
use Rattle.trade.specs.Orders.{on_order_command}
use Rattle.trade.specs.Sound.{AreStocksThenAccount, ArePartners}
use Rattle.trade.proofs.Sound.{entities-with_phase, entities-all_in}
use Rattle.activities.proofs.Sameness.{either, same_entity-tells}
use Rattle.purchasing.specs.Parts.Partners.{names, stands_in, is_stock, is_account, are_stocks_then_account}
use Rattle.purchasing.specs.Parts.Partners.{are_partners}

-- whether all are tentative: with this one's phase set to it, until it is found
abbrev pub waits : Bool → Entity → List Partner → Bool
waits true s ps = all_tentative ps
waits false s ps = all_tentative (with_phase s Phase.Tentative ps)

-- ---- the test for partners

all_three : (a b c : Bool) → (a && b && c) ≡ true → (a ≡ true) × (b ≡ true) × (c ≡ true)
all_three true true c h = (refl, refl, h)
all_three true false c h = absurd (cc)
all_three false b c h = absurd (cc)

three : (a b c : Bool) → a ≡ true → b ≡ true → c ≡ true → (a && b && c) ≡ true
three a b c h k l = rw (h, k, l) refl

isnt : (a : Bool) → not a ≡ true → a ≡ false
isnt true h = absurd (cc)
isnt false h = refl

apart : (e : Entity) (es : List Entity) → stands_in e es ≡ false → AllByRecursion (λ other. e ≢ other) es
apart e [] h = tt
apart e (o ∷ os) h =
    let both : (same_entity e o ≡ false) × (stands_in e os ≡ false) = grind arith in
    (λ same. let t : same_entity e o ≡ true = (same_entity-Decides e o).1 same in absurd (cc), apart e os both.1)

stands_nowhere : (e : Entity) (es : List Entity) → AllByRecursion (λ other. e ≢ other) es → stands_in e es ≡ false
stands_nowhere e [] h = refl
stands_nowhere e (o ∷ os) h =
    either (same_entity-tells e o) (λ k. absurd (h.0 k.1)) (λ k. rw k.0 (stands_nowhere e os h.1))

stock_is : (k : Kind) → is_stock k ≡ true → k ≡ Stock
stock_is Order h = absurd (cc)
stock_is Stock h = refl
stock_is Account h = absurd (cc)

account_is : (k : Kind) → is_account k ≡ true → k ≡ Account
account_is Order h = absurd (cc)
account_is Stock h = absurd (cc)
account_is Account h = refl

in_order : (es : List Entity) → are_stocks_then_account es ≡ true → AreStocksThenAccount es
in_order [] h = absurd (cc)
in_order (e ∷ []) h = account_is e.kind h
in_order (e ∷ f ∷ es) h =
    let all = all_three (is_stock e.kind) (not (stands_in e (f ∷ es))) (are_stocks_then_account (f ∷ es)) h in
    (stock_is e.kind all.0, apart e (f ∷ es) (isnt (stands_in e (f ∷ es)) all.1), in_order (f ∷ es) all.2)

tested : (es : List Entity) → AreStocksThenAccount es → are_stocks_then_account es ≡ true
tested [] h = absurd h
tested (e ∷ []) h = rw h refl
tested (e ∷ f ∷ es) h = three (is_stock e.kind) (not (stands_in e (f ∷ es))) (are_stocks_then_account (f ∷ es))
    (ap is_stock h.0) (ap not (stands_nowhere e (f ∷ es) h.1)) (tested (f ∷ es) h.2)

-- the test finds what partners are: stocks, each once, and then an account
pub partners_are : (es : List Entity) → are_partners es ≡ true → ArePartners es
partners_are es h =
    let all = all_three (nat_lt 1 (length es)) (nat_le (length es) 9) (are_stocks_then_account es) h in
    let some : 1 < length es = let t = all.0 in grind (arith, nat_tests) in
    let few : length es ≤ 9 = let t = all.1 in grind (arith, nat_tests) in
    record { in_order = in_order es all.2; some = some; few = few }

-- what the test refuses are no partners
pub partners_are_not : (es : List Entity) → are_partners es ≡ false → ArePartners es → ⊥
partners_are_not es h is =
    let order = tested es is.in_order in
    let some : nat_lt 1 (length es) ≡ true = let s = is.some in grind (arith, nat_tests) in
    let few : nat_le (length es) 9 ≡ true = let s = is.few in grind (arith, nat_tests) in
    let all : are_partners es ≡ true =
    three (nat_lt 1 (length es)) (nat_le (length es) 9) (are_stocks_then_account es) some few order in
    absurd (cc)

-- ---- one partner's phase

-- the phase of an entity is set at its first place
pub with_phase-at : (e : Entity) (phase : Phase) (ps : List Partner) (at : ℕ) (b d : Partner)
    → stands_in e (names (take at ps)) ≡ false
    → at < length ps → same_entity e (get_or ps at b).entity ≡ true
    → with_phase e phase ps ≡ set ps at (record (get_or ps at d) { phase = phase })
with_phase-at e phase [] at b d h lt same = absurd (omega arith)
with_phase-at e phase (p ∷ ps) zero b d h lt same = rw same refl
with_phase-at e phase (p ∷ ps) (suc at) b d h lt same =
    let both : (same_entity e p.entity ≡ false) × (stands_in e (names (take at ps)) ≡ false) = grind arith in
    rw both.0 (ap (λ qs. p ∷ qs) (with_phase-at e phase ps at b d both.1 (omega arith) same))

-- the phase of an entity that isn't there changes nothing
pub with_phase-none : (e : Entity) (phase : Phase) (ps : List Partner) → stands_in e (names ps) ≡ false
    → with_phase e phase ps ≡ ps
with_phase-none e phase [] h = refl
with_phase-none e phase (p ∷ ps) h =
    let both : (same_entity e p.entity ≡ false) × (stands_in e (names ps) ≡ false) = grind arith in
    rw both.0 (ap (λ qs. p ∷ qs) (with_phase-none e phase ps both.1))

-- a partner that isn't the entity leaves it not found so far
pub not_before : (e : Entity) (ps : List Partner) (at : ℕ) (d : Partner) → stands_in e (names (take at ps)) ≡ false
    → at < length ps → same_entity e (get_or ps at d).entity ≡ false → stands_in e (names (take (suc at) ps)) ≡ false
not_before e [] at d h lt other = absurd (omega arith)
not_before e (p ∷ ps) zero d h lt other = rw other refl
not_before e (p ∷ ps) (suc at) d h lt other =
    let both : (same_entity e p.entity ≡ false) × (stands_in e (names (take at ps)) ≡ false) = grind arith in
    rw both.0 (not_before e ps at d both.1 (omega arith) other)

-- ---- all of them

-- with one more phase set, one more partner is in the phase
pub all_in-next : (phase : Phase) (ps : List Partner) (at : ℕ) (d : Partner) → at < length ps
    → set (all_in phase (take at ps) ++ drop at ps) at
    (record (get_or (all_in phase (take at ps) ++ drop at ps) at d) { phase = phase })
    ≡ all_in phase (take (suc at) ps) ++ drop (suc at) ps
all_in-next phase [] at d lt = absurd (omega arith)
all_in-next phase (p ∷ ps) zero d lt = refl
all_in-next phase (p ∷ ps) (suc at) d lt =
    ap (λ qs. (record p { phase = phase }) ∷ qs) (all_in-next phase ps at d (omega arith))

-- what the first and the others are told, where the first is the sender or isn't
abbrev Told : Entity → Message → Partner → List Partner → Bool → List Out
Told s m p ps t = to_all m (if not t then p ∷ filter (λ (q : Partner). not (same_entity s q.entity)) ps
    else filter (λ (q : Partner). not (same_entity s q.entity)) ps)

-- one that isn't the sender is told something
pub others-some : (s : Entity) (m : Message) (ps : List Partner) (at : ℕ) (d : Partner) → at < length ps
    → same_entity s (get_or ps at d).entity ≡ false → to_others s m ps ≢ []
others-some s m [] at d lt other = absurd (omega arith)
others-some s m (p ∷ ps) zero d lt other = told (same_entity s p.entity) other
  where
    told : (t : Bool) → t ≡ false → Told s m p ps t ≢ []
    told true e = absurd (cc)
    told false e = λ none. absurd (cc)
others-some s m (p ∷ ps) (suc at) d lt other =
    told (same_entity s p.entity) (others-some s m ps at d (omega arith) other)
  where
    told : (t : Bool) → to_others s m ps ≢ [] → Told s m p ps t ≢ []
    told true h = h
    told false h = λ none. absurd (cc)

-- ---- what is written back

length-names : (ps : List Partner) → length (names ps) ≡ length ps
length-names [] = refl
length-names (p ∷ ps) = ap suc (length-names ps)

written : (old new : List Partner) (n : ℕ) → n ≡ length old → length new ≡ length old
    → take n (new ++ drop (length new) old) ≡ new
written old new n e k =
    let none : drop (length new) old ≡ [] = drop_of_length-le old (omega arith) in
    rw none (rw append-nil (rw (e ∙ sym k) (take-length new)))

kept : (old new : List Partner) (n : ℕ) → names new ≡ names old → n ≡ length old → ArePartners (names old)
    → ArePartners (names (take n (new ++ drop (length new) old)))
kept old new n e k h =
    let size : length new ≡ length old = sym (length-names new) ∙ ap length e ∙ length-names old in
    subst (λ ps. ArePartners (names ps)) (sym (written old new n k size)) (subst ArePartners (sym e) h)

-- to set all phases leaves who the partners are
pub all_kept : (phase : Phase) (old new : List Partner) (n : ℕ) → new ≡ all_in phase old → n ≡ length old
    → ArePartners (names old)
    → ArePartners (names (take n (new ++ drop (length new) old)))
all_kept phase old new n e k h = kept old new n (ap names e ∙ entities-all_in phase old) k h

-- to set one phase leaves who the partners are
pub phase_kept : (s : Entity) (phase : Phase) (old new : List Partner) (n : ℕ) → new ≡ with_phase s phase old
    → n ≡ length old
    → ArePartners (names old) → ArePartners (names (take n (new ++ drop (length new) old)))
phase_kept s phase old new n e k h = kept old new n (ap names e ∙ entities-with_phase s phase old) k h

-- ---- placing

requests-some : (is : List Item) (account : List ℕ) (amount : ℕ) → requests (partners_of is account amount) ≢ []
requests-some [] account amount = λ e. absurd (cc)
requests-some (i ∷ is) account amount = λ e. absurd (cc)

-- an order that is placed sends messages to its partners
pub placing_sends : (x : Option OrderState) (is : List Item) (account : List ℕ) (amount : ℕ) → x ≡ None
    → are_lines is ≡ true
    → are_numbers is ≡ true → is_number amount ≡ true → IsSending (on_order_command x (Place is account amount))
placing_sends x is account amount e h k l = rw (e, h, k, l) (requests-some is account amount)
