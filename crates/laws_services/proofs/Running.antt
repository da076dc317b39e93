-- Any steps leave three services good.
use Rattle.std.proofs.Common.{◌≡◌, List, [], ◌∷◌, sym, subst, arith}
use Rattle.std.specs.Prelude.{Contains}
use Rattle.base.specs.declared.limits.TheConstants.{HELD_WINDOW}
use Rattle.base.specs.declared.pair.Pair.{Pair}
use Rattle.keep.specs.Seen.{Seen}
use Rattle.endpoint.specs.Matches.{TablesMatchJournal}
use Rattle.endpoint.proofs.Opening.{empty-matches}
use Rattle.laws_journals.specs.Journals.{sent_in, letters_in}
use Rattle.laws_network.proofs.Arriving.{no_more}
use Rattle.laws_stores.specs.Good.{journals_of, letters_held_by}
use Rattle.laws_stores.specs.Sight.{AllTables, MayLeave, AreClean, AreMatching, OrderTables, StockTables, AccountTables}
use Rattle.laws_stores.specs.Sight.{orders_service, stocks_service, accounts_service}
use Rattle.laws_stores.proofs.Beginning.{empty_good}
use Rattle.laws_services.specs.Good.{AreGoodServices, IsRun, AllTaken, HoldsNoNext, AllHandled}
use Rattle.laws_services.specs.Steps.{IsPathOfSteps}
use Rattle.laws_services.specs.Services.{Services, sight_of, DidNothing}
use Rattle.laws_services.proofs.Stepping.{step_clean, step_matching, step_good}

no_item : {A : Type 0} (xs : List A) (x : A) → xs ≡ [] → Contains xs x → ⊥
no_item {A} xs x none h =
    let there = subst (λ (ys : List A). Contains ys x) none h in
    let least = there.1 in
    omega (arith, least)

module _ {KO KS KA : Type 0} (orders : KO → Seen OrderTables) (stocks : KS → Seen StockTables)
    (accounts : KA → Seen AccountTables) where
  abbrev Clean : Services KO KS KA → Type 0
  Clean w = AreClean (sight_of orders stocks accounts w)

  abbrev Matching : Services KO KS KA → Type 0
  Matching w = AreMatching (sight_of orders stocks accounts w)

  abbrev Good : Services KO KS KA → Type 0
  Good w = AreGoodServices orders stocks accounts w

  -- ---- the beginning

  module _ (w : Services KO KS KA) (new : DidNothing orders stocks accounts w) where
    pub new_matching : Matching w
    new_matching = (
      λ t may. subst (TablesMatchJournal orders_service) (sym (new.purchasing t may))
          (empty-matches HELD_WINDOW orders_service),
      λ t may. subst (TablesMatchJournal stocks_service) (sym (new.warehouse t may))
          (empty-matches HELD_WINDOW stocks_service),
      λ t may. subst (TablesMatchJournal accounts_service) (sym (new.billing t may))
          (empty-matches HELD_WINDOW accounts_service),
    )

    pub new_good : Good w
    new_good = record {
      services = empty_good (sight_of orders stocks accounts w) (λ t may. λ i. record {
        purchasing = new.purchasing t.purchasing may.purchasing i;
        warehouse = new.warehouse t.warehouse may.warehouse i;
        billing = new.billing t.billing may.billing i;
      });
      written = λ e h. absurd (no_item w.traffic.written e new.written h);
      taken = λ l h. absurd (no_item w.traffic.taken l new.taken h);
    }

  -- ---- many steps

  path_clean : (path : List (Services KO KS KA)) (a b : Services KO KS KA) → IsPathOfSteps orders stocks accounts a path b → Clean b
      → Clean a
  path_clean [] a b same clean = subst Clean same clean
  path_clean (next ∷ path) a b h clean =
      step_clean orders stocks accounts a next h.0 (path_clean path next b h.1 clean)

  path_matching : (path : List (Services KO KS KA)) (a b : Services KO KS KA) → IsPathOfSteps orders stocks accounts a path b
      → Clean b → Matching a
      → Matching b
  path_matching [] a b same clean match = subst Matching (sym same) match
  path_matching (next ∷ path) a b h clean match = path_matching path next b h.1 clean
      (step_matching orders stocks accounts a next h.0 (path_clean path next b h.1 clean) match)

  path_good : (path : List (Services KO KS KA)) (a b : Services KO KS KA) → IsPathOfSteps orders stocks accounts a path b → Clean b
      → Matching a
      → Good a → Good b
  path_good [] a b same clean match good = subst Good (sym same) good
  path_good (next ∷ path) a b h clean match good =
      let now = path_clean path next b h.1 clean in
      path_good path next b h.1 clean (step_matching orders stocks accounts a next h.0 now match)
      (step_good orders stocks accounts a next h.0 now match good)

  module _ (a b : Services KO KS KA) (run : IsRun orders stocks accounts a b) where
    pub run_clean : Clean a
    run_clean = path_clean run.path a b run.steps run.clean

    pub run_matching : Matching b
    run_matching = path_matching run.path a b run.steps run.clean run.matching

    pub run_good : Good b
    run_good = path_good run.path a b run.steps run.clean run.matching run.good

    -- ---- where all was taken and none waits, all was handled

    pub run_handled : (t : AllTables) → MayLeave (sight_of orders stocks accounts b) t → (p : Pair)
        → AllTaken b.traffic t p → HoldsNoNext t p → AllHandled t p
    run_handled t may p all none =
        let prefix = (run_good.services.lawful t may).prefixes p in
        let settled = run_good.services.settled t may p in
        no_more (letters_in (journals_of t) p) prefix.0 (sent_in (journals_of t) p) (letters_held_by t p.to.kind p)
        prefix.1
        (λ n m sent later. run_good.taken (record { pair = p; number = n; message = m })
        (all n m sent (omega (arith, settled, later))) t may later)
        none
