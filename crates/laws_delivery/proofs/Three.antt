-- The three services of the trade are two among others: each run of the three is one of purchasing and warehouse.
use Rattle.std.proofs.Common.{Bool, ◌≡◌, ℕ, ◌≤◌, ◌<◌, List, [], ◌∷◌, Some, IsSome, length}
use Rattle.std.proofs.Common.{sym, ◌∙◌, ap, subst}
use Rattle.std.specs.Prelude.{map}
use Rattle.std.proofs.Math.Logic.{∥∥₁_elim}
use Rattle.base.specs.declared.entity.Kind.{Kind}
use Rattle.base.specs.declared.pair.Pair.{Pair}
use Rattle.envelope.specs.declared.message.Message.{Message}
use Rattle.envelope.specs.declared.message.Envelope.{Envelope}
use Rattle.envelope.specs.declared.message.Envelope.TheVariants as envelope
use Rattle.activities.specs.Numbered.{nth, numbered, IsPrefixOf}
use Rattle.keep.specs.Seen.{Seen, IsSound}
use Rattle.endpoint.specs.Matches.{AllMatch}
use Rattle.laws_journals.specs.Journals.{sent_in, sent_by, letters_in, letters_by}
use Rattle.laws_journals.specs.Envelopes.{IsAuthentic}
use Rattle.laws_stores.specs.Good.{journals_of, settled_in, settled_by, letters_held_by}
use Rattle.laws_stores.specs.Sight.{AllTables, MayLeave, AreClean, AreMatching, OrderTables, StockTables, AccountTables}
use Rattle.laws_stores.specs.Sight.{orders_service, stocks_service, accounts_service}
use Rattle.laws_services.specs.Good.{AreGoodServices, IsRun}
use Rattle.laws_services.specs.Services.{Services, sight_of}
use Rattle.laws_services.specs.Steps.{StepOfOne, AtPurchasing, AtWarehouse, AtBilling, IsPathOfSteps}
use Rattle.laws_services.proofs.Stepping.{step_clean, step_matching}
use Rattle.laws_delivery.specs.Good.{IsGoodFromTo, AreGood, IsRunAmong}
use Rattle.laws_delivery.specs.Shown.{Shown, pair_of, IsFromTo, IsTrueOf}
use Rattle.laws_delivery.specs.Two.{Two, Side, Left, Right, kind_of, shown_by}
use Rattle.laws_delivery.specs.Two.{StepAmong, AtLeft, AtRight, AtOthers, IsPathAmong}
use Rattle.laws_delivery.proofs.Propositions.{good-prop}
use Rattle.laws_delivery.proofs.Third.{third_elsewhere}

-- ---- what two of the three show is what is said of the three

module _ (pairs : Pair → Bool) (t : AllTables) where
  abbrev Theirs : Side → Shown
  Theirs side = shown_by orders_service stocks_service t.purchasing t.warehouse side

  abbrev KindOf : Side → Kind
  KindOf side = kind_of orders_service stocks_service side

  sent_is : (side : Side) (p : Pair) → p.from.kind ≡ KindOf side → sent_in (journals_of t) p ≡ (Theirs side).sent p
  sent_is Left p same = ap (λ k. sent_by (journals_of t) k p) same
  sent_is Right p same = ap (λ k. sent_by (journals_of t) k p) same

  letters_is : (side : Side) (p : Pair) → p.to.kind ≡ KindOf side
      → letters_in (journals_of t) p ≡ (Theirs side).letters p
  letters_is Left p same = ap (λ k. letters_by (journals_of t) k p) same
  letters_is Right p same = ap (λ k. letters_by (journals_of t) k p) same

  settled_is : (side : Side) (p : Pair) → p.from.kind ≡ KindOf side → settled_in t p ≡ (Theirs side).settled p
  settled_is Left p same = ap (λ k. settled_by t k p) same
  settled_is Right p same = ap (λ k. settled_by t k p) same

  held_is : (side : Side) (p : Pair) (n : ℕ) → p.to.kind ≡ KindOf side
      → letters_held_by t p.to.kind p n ≡ (Theirs side).held p n
  held_is Left p n same = ap (λ k. letters_held_by t k p n) same
  held_is Right p n same = ap (λ k. letters_held_by t k p n) same

  true_is : (from to : Side) (e : Envelope) → IsFromTo pairs (KindOf from) (KindOf to) (pair_of e)
      → IsAuthentic (journals_of t) e
      → IsTrueOf (Theirs from) (Theirs to) e
  true_is from to (envelope.Letter l) of h =
      subst (λ sent. nth sent l.number ≡ Some l.message) (sent_is from l.pair of.0) h
  true_is from to (envelope.Settle p n) of h =
      subst (λ (letters : List (ℕ × Message)). n ≤ length letters) (letters_is to p of.1) h

-- ---- each run of the three is one of two

module _ {KO KS KA : Type 0} (orders : KO → Seen OrderTables) (stocks : KS → Seen StockTables)
    (accounts : KA → Seen AccountTables) (pairs : Pair → Bool) where
  abbrev pub two_of : Services KO KS KA → Two KO KS
  two_of w = record { left = w.purchasing; right = w.warehouse; traffic = w.traffic }

  pub three_are_two : (a b : Services KO KS KA) → (accounts b.billing).doubt ≡ 0
      → AllMatch accounts_service (accounts a.billing).may_leave
      → IsSound (accounts b.billing) → StepOfOne orders stocks accounts a b
      → StepAmong orders stocks orders_service stocks_service pairs (two_of a) (two_of b)
  three_are_two a b clean match sound (AtPurchasing s w c) = AtLeft s w
  three_are_two a b clean match sound (AtWarehouse s p c) = AtRight s p
  three_are_two a b clean match sound (AtBilling s p w) = AtOthers (third_elsewhere accounts accounts_service
      orders_service stocks_service pairs a.billing b.billing (two_of a) (two_of b) sound (record {
        step = s;
        left = p;
        right = w;
        clean = clean;
        matching = match;
        not_one = λ same. absurd (cc);
        not_other = λ same. absurd (cc);
      }))

  three_good_at : (w : Services KO KS KA) → AreGoodServices orders stocks accounts w → (t : AllTables)
      → MayLeave (sight_of orders stocks accounts w) t → (from to : Side)
      → IsGoodFromTo pairs w.traffic (KindOf pairs t from) (KindOf pairs t to) (Theirs pairs t from) (Theirs pairs t to)
  three_good_at w good t may from to = record {
    delivers = record {
      handled = λ p of.
          subst (λ sent. IsPrefixOf ((Theirs pairs t to).letters p) (numbered 0 sent)) (sent_is pairs t from p of.0)
          (subst (λ letters. IsPrefixOf letters (numbered 0 (sent_in (journals_of t) p))) (letters_is pairs t to p of.1)
          ((good.services.lawful t may).prefixes p));
      held = λ p of n m h. true_is pairs t from to (envelope.Letter (record { pair = p; number = n; message = m })) of
          (good.services.held t may p.to.kind (envelope.Letter (record { pair = p; number = n; message = m }))
          (held_is pairs t to p n of.1 ∙ h) t may);
      settled = λ p of. subst (λ mark. mark ≤ length ((Theirs pairs t to).letters p)) (settled_is pairs t from p of.0)
          (subst (λ (letters : List (ℕ × Message)). settled_in t p ≤ length letters) (letters_is pairs t to p of.1)
          (good.services.settled t may p));
    };
    written = λ e of h. true_is pairs t from to e of (good.written e h t may);
    taken = λ l of h. λ later. subst (λ o. IsSome o) (held_is pairs t to l.pair l.number of.1)
        (good.taken l h t may
        (subst (λ (letters : List (ℕ × Message)). length letters < l.number)
        (sym (letters_is pairs t to l.pair of.1)) later));
  }

  three_good : (w : Services KO KS KA) → (accounts w.billing).doubt ≡ 0 → IsSound (accounts w.billing)
      → AreGoodServices orders stocks accounts w
      → AreGood orders stocks orders_service stocks_service pairs (two_of w)
  three_good w clean sound good x left y right from to = ∥∥₁_elim (sound.leaves clean)
      (good-prop pairs w.traffic (kind_of orders_service stocks_service from) (kind_of orders_service stocks_service to)
      (shown_by orders_service stocks_service x y from) (shown_by orders_service stocks_service x y to))
      (λ b. three_good_at w good (record { purchasing = x; warehouse = y; billing = b.0 })
      (record { purchasing = left; warehouse = right; billing = b.1 }) from to)

  abbrev Clean : Services KO KS KA → Type 0
  Clean w = AreClean (sight_of orders stocks accounts w)

  abbrev Matching : Services KO KS KA → Type 0
  Matching w = AreMatching (sight_of orders stocks accounts w)

  path_clean : (path : List (Services KO KS KA)) (a b : Services KO KS KA)
      → IsPathOfSteps orders stocks accounts a path b → Clean b
      → Clean a
  path_clean [] a b same clean = subst Clean same clean
  path_clean (next ∷ path) a b h clean =
      step_clean orders stocks accounts a next h.0 (path_clean path next b h.1 clean)

  three_path : ((k : KA) → IsSound (accounts k)) → (path : List (Services KO KS KA)) (a b : Services KO KS KA)
      → IsPathOfSteps orders stocks accounts a path b → Clean b → Matching a
      → IsPathAmong orders stocks orders_service stocks_service pairs (two_of a) (map two_of path) (two_of b)
  three_path sound [] a b same clean match = ap two_of same
  three_path sound (next ∷ path) a b h clean match =
      let now = path_clean path next b h.1 clean in (
        three_are_two a next now.2 match.2 (sound next.billing) h.0,
        three_path sound path next b h.1 clean (step_matching orders stocks accounts a next h.0 now match),
      )

  -- so the law of two among others holds of purchasing and warehouse, with no premise more than the law of the three has
  pub three_run : ((k : KA) → IsSound (accounts k)) → (a b : Services KO KS KA) → IsRun orders stocks accounts a b
      → IsRunAmong orders stocks orders_service stocks_service pairs (two_of a) (two_of b)
  three_run sound a b run =
      let clean = path_clean run.path a b run.steps run.clean in
      record {
        path = map two_of run.path;
        steps = three_path sound run.path a b run.steps run.clean run.matching;
        apart = λ same. absurd (cc);
        matching = (run.matching.0, run.matching.1);
        good = three_good a clean.2 (sound a.billing) run.good;
        clean = (run.clean.0, run.clean.1);
      }
