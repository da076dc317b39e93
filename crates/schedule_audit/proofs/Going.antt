-- What was found at the rows of purchasing's journal so far.
use Rattle.std.proofs.Common.{ℕ, zero, suc, ◌≡◌, ◌<◌, ◌++◌, List, [], ◌∷◌, take, length, get_or, Bool, true, false}
use Rattle.std.proofs.Common.{◌&&◌, inl, refl, sym}
use Rattle.std.proofs.Common.{◌∙◌}
use Rattle.std.proofs.Common.{ap, subst, arith}
use Rattle.std.specs.Prelude.{Result, Ok, Err}
use Rattle.std.specs.List.{list_all}
use Rattle.keep.specs.Seen.{Seen}
use Rattle.activities.specs.declared.input.JournalRow.{JournalRow}
use Rattle.trade.specs.declared.commands.OrderCommand.{OrderCommand}
use Rattle.laws_stores.specs.Sight.{OrderTables, StockTables, AccountTables}
use Rattle.schedule_audit.specs.Agree.{row_agrees, rows_agree, partners_agree}
use Rattle.schedule_audit.specs.Looks.{StandsFor, Rests, Looks}
use Rattle.schedule_audit.specs.declared.fault.AuditFault.{AuditFault}
use Rattle.schedule_audit.specs.declared.fault.AuditFault.TheVariants.{Purchasing, Warehouse, Billing}
use Rattle.schedule_audit.proofs.Resting.{rests_on, fails_on, rests_clean, rests_stands}
use Rattle.schedule_audit.proofs.Tallying.{take_whole}

with_more : (a b c : Bool) → (a && b) ≡ true → (b ≡ true → c ≡ true) → (a && c) ≡ true
with_more true b c e then = then e
with_more false b c e then = absurd cc

all_more : {A : Type 0} (p : A → Bool) (xs : List A) (x : A) → list_all p xs ≡ true → p x ≡ true
    → list_all p (xs ++ x ∷ []) ≡ true
all_more p [] x all is = ap (λ b. b && true) is
all_more p (y ∷ ys) x all is =
    with_more (p y) (list_all p ys) (list_all p (ys ++ x ∷ [])) all (λ rest. all_more p ys x rest is)

not_all : {A : Type 0} (p : A → Bool) (xs : List A) (i : ℕ) (x d : A) → i < length xs → get_or xs i d ≡ x → p x ≡ false
    → list_all p xs ≡ false
not_all p [] i x d within at not_x = absurd (omega arith)
not_all p (y ∷ ys) zero x d within at not_x = ap (λ b. b && list_all p ys) (ap p at ∙ not_x)
not_all p (y ∷ ys) (suc i) x d within at not_x = ap (λ b. p y && b) (not_all p ys i x d (omega arith) at not_x)
    ∙ (elim (p y) as (λ b. (b && false) ≡ false) [ true ↦ refl | false ↦ refl ])

-- the first rows are all, where they are fewer than were asked for
pub fewer_are_all : {A : Type 0} (xs : List A) (n : ℕ) → length (take n xs) < n → take n xs ≡ xs
fewer_are_all [] zero few = absurd (omega arith)
fewer_are_all [] (suc n) few = refl
fewer_are_all (x ∷ xs) zero few = absurd (omega arith)
fewer_are_all (x ∷ xs) (suc n) few = ap (λ l. x ∷ l) (fewer_are_all xs n (omega (arith, few)))

pub few_rows : {A : Type 0} (rows xs : List A) (n : ℕ) → rows ≡ take n xs → length rows < n → rows ≡ xs
few_rows rows xs n is few = is ∙ fewer_are_all xs n (subst (λ l. length l < n) is few)

module _ {KO KS KA : Type 0} (orders : KO → Seen OrderTables) (stocks : KS → Seen StockTables)
    (accounts : KA → Seen AccountTables) where
  -- the partners agree of each order that has one of these rows, which are those before the next one
  pub record FarIn (rows : List (JournalRow OrderCommand)) (o p : KO) (s t : KS) (a b : KA) : Type 0 where
    pub purchasing : Rests orders o p
    pub warehouse : Rests stocks s t
    pub billing : Rests accounts a b
    pub agree : (orders p).doubt ≡ 0 → (stocks t).doubt ≡ 0 → (accounts b).doubt ≡ 0
        → (x : OrderTables) (y : StockTables) (z : AccountTables) → StandsFor orders o x → StandsFor stocks s y
        → StandsFor accounts a z
        → rows_agree x y z rows ≡ true

  pub none_gone : (o : KO) (s : KS) (a : KA) → FarIn [] o o s s a a
  none_gone o s a =
      record { purchasing = inl refl; warehouse = inl refl; billing = inl refl; agree = λ _ _ _ _ _ _ _ _ _. refl }

  -- what is read of a row, in what stands for the tables at first
  of_row : (row : JournalRow OrderCommand) (rows : List (JournalRow OrderCommand)) (agrees : Bool) (o p q : KO)
      (s t u : KS) (a b c : KA)
      → FarIn rows o p s t a b
      → Looks orders stocks accounts (λ x y z (found : Bool). found ≡ row_agrees x y z row) (Ok agrees) p q t u b c
      → (orders q).doubt ≡ 0 → (stocks u).doubt ≡ 0 → (accounts c).doubt ≡ 0
      → (x : OrderTables) (y : StockTables) (z : AccountTables) → StandsFor orders o x → StandsFor stocks s y
      → StandsFor accounts a z
      → row_agrees x y z row ≡ agrees
  of_row row rows agrees o p q s t u a b c far look co cs ca x y z xo ys za = sym (look.3 co cs ca x y z
      (rests_stands orders o p x far.purchasing (rests_clean orders p q look.0 co) xo)
      (rests_stands stocks s t y far.warehouse (rests_clean stocks t u look.1 cs) ys)
      (rests_stands accounts a b z far.billing (rests_clean accounts b c look.2 ca) za))

  -- one more
  pub one_further : (row : JournalRow OrderCommand) (rows : List (JournalRow OrderCommand)) (agrees : Bool) (o p q : KO)
      (s t u : KS)
      (a b c : KA) → FarIn rows o p s t a b
      → Looks orders stocks accounts (λ x y z (found : Bool). found ≡ row_agrees x y z row) (Ok agrees) p q t u b c
      → agrees ≡ true → FarIn (rows ++ row ∷ []) o q s u a c
  one_further row rows agrees o p q s t u a b c far look is = record {
    purchasing = rests_on orders o p q far.purchasing look.0;
    warehouse = rests_on stocks s t u far.warehouse look.1;
    billing = rests_on accounts a b c far.billing look.2;
    agree = λ co cs ca x y z xo ys za. all_more (row_agrees x y z) rows row
        (far.agree (rests_clean orders p q look.0 co) (rests_clean stocks t u look.1 cs)
        (rests_clean accounts b c look.2 ca)
        x y z xo ys za)
        (of_row row rows agrees o p q s t u a b c far look co cs ca x y z xo ys za ∙ is);
  }

  -- the row where they don't agree
  pub disagrees : (row d : JournalRow OrderCommand) (rows before : List (JournalRow OrderCommand)) (i : ℕ)
      (agrees : Bool) (o p q : KO)
      (s t u : KS) (a b c : KA) → FarIn before o p s t a b
      → Looks orders stocks accounts (λ x y z (found : Bool). found ≡ row_agrees x y z row) (Ok agrees) p q t u b c
      → agrees ≡ false → i < length rows → get_or rows i d ≡ row
      → Looks orders stocks accounts (λ x y z (found : Bool). found ≡ rows_agree x y z rows) (Ok false) o q s u a c
  disagrees row d rows before i agrees o p q s t u a b c far look is within at = (
    rests_on orders o p q far.purchasing look.0,
    rests_on stocks s t u far.warehouse look.1,
    rests_on accounts a b c far.billing look.2,
    λ co cs ca x y z xo ys za. sym (not_all (row_agrees x y z) rows i row d within at
        (of_row row before agrees o p q s t u a b c far look co cs ca x y z xo ys za ∙ is)),
  )

  -- a read that wasn't done ends it
  pub stopped_at : {R : Type 0} (gives : OrderTables → StockTables → AccountTables → R → Type 0) {Q : Type 0}
      (wants : OrderTables → StockTables → AccountTables → Q → Type 0) (rows : List (JournalRow OrderCommand))
      (fault : AuditFault)
      (o p q : KO) (s t u : KS) (a b c : KA)
      → FarIn rows o p s t a b → Looks orders stocks accounts gives (Err fault) p q t u b c
      → Looks orders stocks accounts wants (Err fault) o q s u a c
  stopped_at gives wants rows (Purchasing fault) o p q s t u a b c far look = (
    fails_on orders o p q fault far.purchasing look.0,
    rests_on stocks s t u far.warehouse look.1,
    rests_on accounts a b c
        far.billing look.2,
  )
  stopped_at gives wants rows (Warehouse fault) o p q s t u a b c far look = (
    rests_on orders o p q far.purchasing look.0,
    fails_on stocks s t u fault far.warehouse look.1,
    rests_on accounts a b c
        far.billing look.2,
  )
  stopped_at gives wants rows (Billing fault) o p q s t u a b c far look = (
    rests_on orders o p q far.purchasing look.0,
    rests_on stocks s t u far.warehouse look.1,
    fails_on accounts a b c fault
        far.billing look.2,
  )

  -- all rows were looked at
  pub all_gone : (rows : List (JournalRow OrderCommand)) (i : ℕ) (o p : KO) (s t : KS) (a b : KA) → i ≡ length rows
      → FarIn (take i rows) o p s t a b
      → Looks orders stocks accounts (λ x y z (found : Bool). found ≡ rows_agree x y z rows) (Ok true) o p s t a b
  all_gone rows i o p s t a b all far = (
    far.purchasing,
    far.warehouse,
    far.billing,
    λ co cs ca x y z xo ys za. sym (far.agree co cs ca x y z xo ys za)
        ∙ ap (λ rs. rows_agree x y z rs) (take_whole rows i all),
  )

  -- the rows are all of purchasing's journal, which was read before
  pub of_journal : (rows : List (JournalRow OrderCommand)) (result : Result Bool AuditFault) (o p q : KO) (s t : KS)
      (a b : KA)
      → Rests orders o p → (orders o).usable ≡ true → ((orders p).doubt ≡ 0 → rows ≡ (orders o).tables.journal)
      → Looks orders stocks accounts (λ x y z (found : Bool). found ≡ rows_agree x y z rows) result p q s t a b
      → Looks orders stocks accounts (λ x y z (found : Bool). found ≡ partners_agree x y z) result o q s t a b
  of_journal rows (Ok found) o p q s t a b rest usable whole look = (
    rests_on orders o p q rest look.0,
    look.1,
    look.2,
    λ co cs ca x y z xo ys za.
        let clean = rests_clean orders p q look.0 co in
        look.3 co cs ca x y z (rests_stands orders o p x rest clean xo) ys za
        ∙ ap (λ rs. rows_agree x y z rs) (whole clean ∙ ap (λ (t : OrderTables). t.journal) (sym (xo usable))),
  )
  of_journal rows (Err (Purchasing fault)) o p q s t a b rest usable whole look =
      (fails_on orders o p q fault rest look.0, look.1, look.2)
  of_journal rows (Err (Warehouse fault)) o p q s t a b rest usable whole look =
      (rests_on orders o p q rest look.0, look.1, look.2)
  of_journal rows (Err (Billing fault)) o p q s t a b rest usable whole look =
      (rests_on orders o p q rest look.0, look.1, look.2)
