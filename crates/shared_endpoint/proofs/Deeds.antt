-- What a deed of one token leaves of what another knows.
use Rattle.std.proofs.Common.{◌≡◌, ◌≢◌, ℕ, suc, ◌+◌, ◌≤◌, ◌==◌, max, Bool, true, false, List}
use Rattle.std.proofs.Common.{[], ◌∷◌, ◌++◌, length, inl, refl, sym, ap, ◌∙◌, subst, arith, append-nil}
use Rattle.std.specs.Prelude.{if◌then◌else◌}
use Rattle.std.proofs.lemmas.Bool.Decides.{nat_tests}
use Rattle.base.specs.Entity.{Entity}
use Rattle.base.specs.Order.{same_pair}
use Rattle.base.specs.declared.pair.Pair.{Pair}
use Rattle.base.proofs.Entities.{same_pair-Decides}
use Rattle.activities.specs.declared.input.Input.{Input}
use Rattle.activities.specs.declared.input.Input.TheVariants.{FromSeat, FromEntity}
use Rattle.activities.specs.declared.input.JournalRow.{JournalRow}
use Rattle.activities.specs.Service.{Service}
use Rattle.keep.specs.Tables.{Tables, Messages, set_mark}
use Rattle.endpoint.specs.Deeds.{Kept, Deed, Nothing, TakesIn, Holds, Settles, Did, held_after}
use Rattle.shared_endpoint.specs.Token.{hand_number, is_of, rows_of}
use Rattle.told_lock.specs.Rule.{Every}
use Rattle.shared_endpoint.specs.History.{Stands, IsDeedOf, DidAll, CameAll}
use Rattle.shared_endpoint.specs.Lore.{stands_same, stands_join}

-- a test on numbers, of one number and of another
one_of_two : (s n m : ℕ) → (s == n) ≡ true → m ≢ n → (s == m) ≡ false
one_of_two s n m e apart = grind (arith, nat_tests)

pub of_one : {C : Type 0} (n m : ℕ) (input : Input C) → is_of n input ≡ true → m ≢ n → is_of m input ≡ false
of_one n m (FromSeat seat command) e apart = one_of_two seat n m e apart
of_one n m (FromEntity sender number message) e apart = one_of_two hand_number n m e apart

-- one row more, of another token
pub rows_of_other : {C : Type 0} (n pos : ℕ) (rows : List (JournalRow C)) (row : JournalRow C)
    → is_of n row.input ≡ false
    → rows_of n pos (rows ++ row ∷ []) ≡ rows_of n pos rows
rows_of_other n pos [] row other = ap (λ b. if b then (pos, row) ∷ [] else []) other
rows_of_other n pos (r ∷ rs) row other =
    ap (λ xs. if is_of n r.input then (pos, r) ∷ xs else xs) (rows_of_other n (suc pos) rs row other)

-- and of this one
pub rows_of_own : {C : Type 0} (n pos : ℕ) (rows : List (JournalRow C)) (row : JournalRow C) → is_of n row.input ≡ true
    → rows_of n pos (rows ++ row ∷ []) ≡ rows_of n pos rows ++ (pos + length rows, row) ∷ []
rows_of_own n pos [] row mine = ap (λ b. if b then (pos, row) ∷ [] else []) mine ∙ ap (λ p. (p, row) ∷ []) (omega arith)
rows_of_own n pos (r ∷ rs) row mine = by_test (is_of n r.input) (rows_of_own n (suc pos) rs row mine)
  where
    by_test : (b : Bool) → rows_of n (suc pos) (rs ++ row ∷ []) ≡ rows_of n (suc pos) rs ++
        (suc pos + length rs, row) ∷ []
        → (if b then (pos, r) ∷ rows_of n (suc pos) (rs ++ row ∷ []) else rows_of n (suc pos) (rs ++ row ∷ []))
        ≡ (if b then (pos, r) ∷ rows_of n (suc pos) rs else rows_of n (suc pos) rs) ++ (pos + suc (length rs), row) ∷ []
    by_test true ih = ap (λ xs. (pos, r) ∷ xs) ih
        ∙ ap (λ p. ((pos, r) ∷ rows_of n (suc pos) rs) ++ (p, row) ∷ []) (omega arith)
    by_test false ih = ih ∙ ap (λ p. rows_of n (suc pos) rs ++ (p, row) ∷ []) (omega arith)

-- a mark that is raised is no mark that is lower
pub rises : (p q : Pair) (n : ℕ) (marks : Pair → ℕ) → marks q ≤ set_mark p (max (marks p) n) marks q
rises p q n marks = by_test (same_pair p q) (same_pair-Decides p q).0
  where
    bound : (a b n : ℕ) → a ≡ b → b ≤ max a n
    bound a b n e = omega arith

    same : (a : ℕ) → a ≤ a
    same a = omega arith

    by_test : (b : Bool) → (b ≡ true → p ≡ q) → marks q ≤ (if b then max (marks p) n else marks q)
    by_test true f = bound (marks p) (marks q) n (ap marks (f refl))
    by_test false f = same (marks q)

-- a deed as a list: nothing is none
abbrev pub as_list : {C : Type 0} → Deed C → List (Deed C)
as_list Nothing = []
as_list (TakesIn row) = TakesIn row ∷ []
as_list (Holds l) = Holds l ∷ []
as_list (Settles p n) = Settles p n ∷ []

pub list_is_short : {C : Type 0} (d : Deed C) → length (as_list d) ≤ 1
list_is_short Nothing = omega arith
list_is_short (TakesIn row) = omega arith
list_is_short (Holds l) = omega arith
list_is_short (Settles p n) = omega arith

pub every_listed : {C : Type 0} (P : Deed C → Type 0) (d : Deed C) → P d → Every P (as_list d)
every_listed P Nothing h = tt
every_listed P (TakesIn row) h = (h, tt)
every_listed P (Holds l) h = (h, tt)
every_listed P (Settles p n) h = (h, tt)

module _ {S C : Type 0} (service : Service S C) where
  pub did_listed : (x y : Kept C) (d : Deed C) → Did service x d y → DidAll service x (as_list d) y
  did_listed x y Nothing did = did
  did_listed x y (TakesIn row) did = (y, did, refl)
  did_listed x y (Holds l) did = (y, did, refl)
  did_listed x y (Settles p n) did = (y, did, refl)

  -- a content that might be left before comes of itself, by no deed
  pub came_of_none : (Allowed : List (Deed C) → Type 0) (old : Tables S C → Type 0) (now : Tables S C) → Allowed []
      → old now → CameAll service Allowed old now
  came_of_none Allowed old now allowed was = record {
    before = now;
    deeds = [];
    was = was;
    one_call = inl (omega arith);
    may = allowed;
    did = refl;
  }

  same_held : (n m : ℕ) (e : Entity) (input : Input C) (held : Messages) → is_of n input ≡ true → m ≢ n
      → m ≡ hand_number → held_after e input held ≡ held
  same_held n m e (FromSeat seat command) held mine apart is = refl
  same_held n m e (FromEntity sender number message) held mine apart is = absurd (apart (is ∙ test hand_number n mine))
    where
      test : (a b : ℕ) → (a == b) ≡ true → a ≡ b
      test a b e = grind (arith, nat_tests)

  -- another's deed
  pub deed_of_other : (n m : ℕ) (x y : Kept C) (d : Deed C) → IsDeedOf n d → m ≢ n → Did service x d y → Stands m x y
  deed_of_other n m x y Nothing of apart did = subst (Stands m x) (sym did) (stands_same m x)
  deed_of_other n m x y (TakesIn row) of apart did = record {
    begins = (row ∷ [], sym did.0.appended);
    rows = ap (λ (xs : List (JournalRow C)). rows_of m 1 xs) did.0.appended
        ∙ rows_of_other m 1 x.journal row (of_one n m row.input of apart);
    marks = λ p. let e : y.settled p ≡ x.settled p = ap (λ (f : Pair → ℕ). f p) did.1 in omega arith;
    held = λ is. (did.1, did.2 ∙ same_held n m row.entity row.input x.held of apart is);
  }
  deed_of_other n m x y (Holds l) of apart did = subst (Stands m x) (sym did.2) (record {
    begins = ([], append-nil x.journal);
    rows = refl;
    marks = (stands_same m x).marks;
    held = λ is. absurd (apart (is ∙ sym of));
  })
  deed_of_other n m x y (Settles p k) of apart did = subst (Stands m x) (sym did.2) (record {
    begins = ([], append-nil x.journal);
    rows = refl;
    marks = λ q. rises p q k x.settled;
    held = λ is. absurd (apart (is ∙ sym of));
  })

  -- another's deeds
  pub deeds_of_other : (n m : ℕ) (x y : Kept C) (ds : List (Deed C)) → Every (IsDeedOf n) ds → m ≢ n
      → DidAll service x ds y → Stands m x y
  deeds_of_other n m x y [] of apart did = subst (Stands m x) (sym did) (stands_same m x)
  deeds_of_other n m x y (d ∷ ds) of apart did = stands_join m x did.0 y
      (deed_of_other n m x did.0 d of.0 apart did.1) (deeds_of_other n m did.0 y ds of.1 apart did.2)

  -- no deeds
  pub no_deeds : (m : ℕ) (x y : Kept C) (ds : List (Deed C)) → ds ≡ [] → DidAll service x ds y → Stands m x y
  no_deeds m x y ds none did = subst (Stands m x) (sym (subst (λ k. DidAll service x k y) none did)) (stands_same m x)
