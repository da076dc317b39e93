-- What was found at the partners of an order so far.
use Rattle.std.proofs.Common.{ℕ, zero, suc, ◌≡◌, ◌++◌, List, [], ◌∷◌, take, length, Bool, true, false, map, inl}
use Rattle.std.proofs.Common.{Some, refl, sym, ◌∙◌}
use Rattle.std.proofs.Common.{ap, subst}
use Rattle.std.specs.Prelude.{Option, Ok, Err, slice_get, ◌&&◌}
use Rattle.std.specs.List.{list_all}
use Rattle.base.specs.Entity.{Entity}
use Rattle.keep.specs.Seen.{Seen}
use Rattle.trade.specs.declared.line_phase.LinePhase.{LinePhase}
use Rattle.trade.specs.declared.status.Status.{Status}
use Rattle.trade.specs.Orders.{Partner}
use Rattle.laws_stores.specs.Sight.{StockTables, AccountTables}
use Rattle.schedule_audit.specs.Agree.{phase_by, fits, all_fit}
use Rattle.schedule_audit.specs.Looks.{StandsFor, Rests, LooksAtPartners}
use Rattle.schedule_audit.specs.declared.fault.AuditFault.{AuditFault}
use Rattle.schedule_audit.specs.declared.fault.AuditFault.TheVariants.{Purchasing, Warehouse, Billing}
use Rattle.schedule_audit.proofs.Resting.{rests_on, fails_on, rests_clean, rests_stands}

each_more : {A B : Type 0} (p : B → Bool) (f : A → B) (xs : List A) (x : A)
    → list_all p (map f (xs ++ x ∷ [])) ≡ (list_all p (map f xs) && p (f x))
each_more p f [] x = elim (p (f x)) as (λ b. (b && true) ≡ (true && b)) [ true ↦ refl | false ↦ refl ]
each_more p f (y ∷ ys) x = ap (λ b. p (f y) && b) (each_more p f ys x)
    ∙ (elim (p (f y)) as (λ b. (b && (list_all p (map f ys) && p (f x))) ≡ ((b && list_all p (map f ys)) && p (f x)))
    [ true ↦ refl | false ↦ refl ])

-- the beginning of a list with one more
pub one_longer : {A : Type 0} (xs : List A) (i : ℕ) (x : A) → slice_get xs i ≡ Some x
    → take (suc i) xs ≡ take i xs ++ x ∷ []
one_longer [] i x e = absurd cc
one_longer (y ∷ ys) zero x e = let same : y ≡ x = cc in ap (λ v. v ∷ []) same
one_longer (y ∷ ys) (suc i) x e = ap (λ l. y ∷ l) (one_longer ys i x e)

pub take_whole : {A : Type 0} (xs : List A) (i : ℕ) → i ≡ length xs → take i xs ≡ xs
take_whole [] i e = rw e
take_whole (y ∷ ys) i e = rw e (ap (λ l. y ∷ l) (take_whole ys (length ys) refl))

module _ {KS KA : Type 0} (stocks : KS → Seen StockTables) (accounts : KA → Seen AccountTables) where
  -- at these partners of an order in this status, which are those before the next one
  pub record SoFar (order : Entity) (status : Status) (partners : List Partner) (agree : Bool) (s t : KS) (a b : KA)
      : Type 0 where
    pub warehouse : Rests stocks s t
    pub billing : Rests accounts a b
    pub told : (stocks t).doubt ≡ 0 → (accounts b).doubt ≡ 0 → (y : StockTables) (z : AccountTables)
        → StandsFor stocks s y
        → StandsFor accounts a z → agree ≡ all_fit y z order status partners

  pub none_yet : (order : Entity) (status : Status) (s : KS) (a : KA) → SoFar order status [] true s s a a
  none_yet order status s a = record { warehouse = inl refl; billing = inl refl; told = λ _ _ _ _ _ _. refl }

  -- one more
  one_more : (order : Entity) (status : Status) (partners : List Partner) (p : Partner) (phase : Option LinePhase)
      (agree : Bool) (s t u : KS) (a b c : KA) → SoFar order status partners agree s t a b
      → LooksAtPartners stocks accounts (λ x y (found : Option LinePhase). found
      ≡ phase_by x y order p.entity.kind p.entity)
      (Ok phase) t u b c
      → SoFar order status (partners ++ p ∷ []) (agree && fits status phase) s u a c
  one_more order status partners p phase agree s t u a b c far look = record {
    warehouse = rests_on stocks s t u far.warehouse look.0;
    billing = rests_on accounts a b c far.billing look.1;
    told = λ cs ca y z ys za. more y z
        (far.told (rests_clean stocks t u look.0 cs) (rests_clean accounts b c look.1 ca) y z ys za)
        (look.2 cs ca y z (rests_stands stocks s t y far.warehouse (rests_clean stocks t u look.0 cs) ys)
        (rests_stands accounts a b z far.billing (rests_clean accounts b c look.1 ca) za));
  } where
    more : (y : StockTables) (z : AccountTables) → agree ≡ all_fit y z order status partners
        → phase ≡ phase_by y z order p.entity.kind p.entity
        → (agree && fits status phase) ≡ all_fit y z order status (partners ++ p ∷ [])
    more y z e found = ap (λ x. x && fits status phase) e
        ∙ ap (λ x. all_fit y z order status partners && fits status x) found
        ∙ sym (each_more (fits status) (λ (q : Partner). phase_by y z order q.entity.kind q.entity) partners p)

  -- a read that wasn't done ends it
  pub stopped : {R : Type 0} (gives : StockTables → AccountTables → R → Type 0) {Q : Type 0} (wants : StockTables
      → AccountTables → Q → Type 0)
      (order : Entity) (status : Status) (partners : List Partner) (agree : Bool) (fault : AuditFault) (s t u : KS)
      (a b c : KA)
      → SoFar order status partners agree s t a b → LooksAtPartners stocks accounts gives (Err fault) t u b c
      → LooksAtPartners stocks accounts wants (Err fault) s u a c
  stopped gives wants order status partners agree (Purchasing fault) s t u a b c far look = absurd look
  stopped gives wants order status partners agree (Warehouse fault) s t u a b c far look =
      (fails_on stocks s t u fault far.warehouse look.0, rests_on accounts a b c far.billing look.1)
  stopped gives wants order status partners agree (Billing fault) s t u a b c far look =
      (rests_on stocks s t u far.warehouse look.0, fails_on accounts a b c fault far.billing look.1)

  -- the partner at this place
  pub next_one : (order : Entity) (status : Status) (partners : List Partner) (i j : ℕ) (p : Partner) (e : Entity)
      (phase : Option LinePhase) (agree fits_now : Bool) (s t u : KS) (a b c : KA) → j ≡ suc i
      → slice_get partners i ≡ Some p
      → e ≡ p.entity → fits_now ≡ fits status phase
      → SoFar order status (take i partners) agree s t a b
      → LooksAtPartners stocks accounts (λ x y (found : Option LinePhase). found ≡ phase_by x y order e.kind e)
      (Ok phase) t u b c
      → SoFar order status (take j partners) (agree && fits_now) s u a c
  next_one order status partners i j p e phase agree fits_now s t u a b c next at name fit far look =
      let longer : take j partners ≡ take i partners ++ p ∷ [] =
      ap (λ n. take n partners) next ∙ one_longer partners i p at in
      let there = subst (λ n. LooksAtPartners stocks accounts (λ x y (found : Option LinePhase). found
      ≡ phase_by x y order n.kind n)
      (Ok phase) t u b c) name look in
      rw (longer, fit) (one_more order status (take i partners) p phase agree s t u a b c far there)

  -- all were looked at
  pub finished : (order : Entity) (status : Status) (partners : List Partner) (i : ℕ) (agree : Bool) (s t : KS)
      (a b : KA) → i ≡ length partners → SoFar order status (take i partners) agree s t a b
      → LooksAtPartners stocks accounts (λ x y (all : Bool). all ≡ all_fit x y order status partners) (Ok agree) s t a b
  finished order status partners i agree s t a b all far = (
    far.warehouse,
    far.billing,
    λ cs ca y z ys za. far.told cs ca y z ys za ∙ ap (all_fit y z order status) (take_whole partners i all),
  )
