-- What comes out of the lock is one history.
use Rattle.std.proofs.Common.{◌≡◌, ℕ, suc, ◌<◌, Bool, true, false, true≢false, List, [], ◌∷◌, inl, inr, ⊎_elim}
use Rattle.std.proofs.Common.{refl, ◌≤◌}
use Rattle.std.proofs.Common.{sym, ap, ◌∙◌, subst, arith}
use Rattle.std.specs.Prelude.{if◌then◌else◌}
use Rattle.base.specs.declared.limits.TheConstants.{SEATS}
use Rattle.activities.specs.Journal.{AreSeated, IsSeated}
use Rattle.activities.specs.Service.{Service}
use Rattle.activities.specs.declared.input.Input.{Input}
use Rattle.activities.specs.declared.input.Input.TheVariants.{FromSeat, FromEntity}
use Rattle.activities.specs.declared.input.JournalRow.{JournalRow}
use Rattle.keep.specs.Seen.{Seen, IsSound}
use Rattle.keep.specs.Tables.{Tables}
use Rattle.endpoint.specs.Deeds.{kept}
use Rattle.endpoint.specs.Matches.{AllMatch}
use Rattle.told_lock.specs.declared.view.ToldToken.{ToldToken}
use Rattle.told_lock.specs.Rule.{Every, IsTold}
use Rattle.told_lock.proofs.Views.{every_map}
use Rattle.shared_endpoint.specs.Token.{hand_number, scout_number, is_of, rows_of}
use Rattle.shared_endpoint.specs.History.{DidAll, IsLater, Since, EverSince, Broke, EndsAs, Stands, Grows}
use Rattle.shared_endpoint.specs.Keys.{Any}
use Rattle.shared_endpoint.specs.Lore.{zero_below}
use Rattle.shared_endpoint.specs.Promises.{IsGood, Continues, AllListed, IsLeft, ClosesToOneHistory}
use Rattle.shared_endpoint.proofs.Stepping.{same_number}

every_two : {X : Type 0} (P Q R : X → Type 0) (xs : List X) → ((x : X) → P x → Q x → R x) → Every P xs → Every Q xs
    → Every R xs
every_two P Q R [] f p q = tt
every_two P Q R (x ∷ xs) f p q = (f x p.0 q.0, every_two P Q R xs f p.1 q.1)

-- where one of them is so, and each is so
any_with : {X : Type 0} (P Q R : X → Type 0) (xs : List X) → ((x : X) → P x → Q x → R x) → Every P xs → Any Q xs
    → Any R xs
any_with P Q R [] f p q = absurd q
any_with P Q R (x ∷ xs) f p (inl q) = inl (f x p.0 q)
any_with P Q R (x ∷ xs) f p (inr q) = inr (any_with P Q R xs f p.1 q)

-- what each has, one has
of_any : {X : Type 0} (P Q : X → Type 0) (xs : List X) → Every P xs → Any Q xs → (x : X) × P x
of_any P Q [] p q = absurd q
of_any P Q (x ∷ xs) p q = (x, p.0)

module _ {C : Type 0} where
  -- a token takes in such inputs
  owner : (input : Input C) → IsSeated input → (n : ℕ) × (n < suc scout_number) × (is_of n input ≡ true)
  owner (FromSeat seat command) below = (seat, below_all below, same_number seat)
    where
      below_all : seat < SEATS → seat < suc scout_number
      below_all lt = omega arith
  owner (FromEntity sender number message) below = (hand_number, omega arith, refl)

  abbrev IsIn : List (ℕ × JournalRow C) → ℕ × JournalRow C → Type 0
  IsIn list item = Any (λ x. x ≡ item) list

  first_in : (b : Bool) (item : ℕ × JournalRow C) (list : List (ℕ × JournalRow C)) → b ≡ true
      → IsIn (if b then item ∷ list else list) item
  first_in true item list is = inl refl
  first_in false item list is = absurd (true≢false (sym is))

  rest_in : (b : Bool) (x item : ℕ × JournalRow C) (list : List (ℕ × JournalRow C)) → IsIn list item
      → IsIn (if b then x ∷ list else list) item
  rest_in true x item list h = inr h
  rest_in false x item list h = h

module _ {E S C : Type 0} (seen : E → Seen (Tables S C)) (service : Service S C) (sound : (e : E) → IsSound (seen e))
  where
    -- all of these rows are listed, where each list of the whole journal is a token's
    all_listed : (tokens : List (ToldToken E)) (journal rows : List (JournalRow C)) (pos : ℕ) → AreSeated rows
        → ((n : ℕ) (item : ℕ × JournalRow C) → IsIn (rows_of n pos rows) item → IsIn (rows_of n 1 journal) item)
        → Every (λ k. rows_of k.number 1 journal ≡ rows_of k.number 1 (seen k.seen).tables.journal) tokens
        → ((n : ℕ) → n < suc scout_number → Any (λ k. k.number ≡ n) tokens)
        → AllListed seen service tokens pos rows
    all_listed tokens journal [] pos seated within lists all = tt
    all_listed tokens journal (row ∷ rows) pos seated within lists all =
        let o = owner row.input seated.0 in
        let item : ℕ × JournalRow C = (pos, row) in
        let here : IsIn (rows_of o.0 1 journal) item =
        within o.0 item (first_in (is_of o.0 row.input) item (rows_of o.0 (suc pos) rows) o.2) in (
          any_with (λ k. rows_of k.number 1 journal ≡ rows_of k.number 1 (seen k.seen).tables.journal)
              (λ k. k.number ≡ o.0)
              (λ k. Any (λ x. x ≡ item) (rows_of k.number 1 (seen k.seen).tables.journal)) tokens
              (λ k same is. subst (λ (list : List (ℕ × JournalRow C)). IsIn list item) same
              (subst (λ m. IsIn (rows_of m 1 journal) item) (sym is) here))
              lists (all o.0 o.1),
          all_listed tokens journal rows (suc pos) seated.1
              (λ n x h. within n x (rest_in (is_of n row.input) (pos, row) x (rows_of n (suc pos) rows) h)) lists all,
        )

    pub closes_to_one : ClosesToOneHistory seen service
    closes_to_one tokens witnessed e c goods clean = record {
      tables = tables;
      continues = continues;
      borne_out = every_map (λ y. EverSince seen service y c.good)
          (λ y. AllMatch service (seen y).may_leave → Grows (seen y).tables tables) witnessed
          (λ y h m. (h.clean clean0 m).1) c.borne_out;
      no_others = all_listed tokens tables.journal tables.journal 1 (all_match tables stays).legal.seated (λ n x h. h)
          (every_two (λ k. Continues seen service k.number k tables) (λ k. IsGood seen service k)
          (λ k. rows_of k.number 1 tables.journal ≡ rows_of k.number 1 (seen k.seen).tables.journal) tokens
          (λ k one good. one.stands.rows) continues goods)
          c.all;
      failures = every_two (IsTold (Since seen service) (IsLater seen) (EndsAs seen service) e c.good)
          (λ k. IsGood seen service k) (λ k. (seen k.last).failures ≤ (seen e).failures) tokens
          (λ k told good. told.last.failures) c.told goods;
      left = ⊎_elim served broke c.ends;
    }
      where
        tables : Tables S C
        tables = (seen c.good).tables

        no_doubt : EndsAs seen service c.good e → (seen c.good).doubt ≡ 0
        no_doubt (inl same) = ap (λ (k : E). (seen k).doubt) (sym same) ∙ clean
        no_doubt (inr b) = zero_below (seen c.good).doubt (seen e).doubt b.doubt clean

        clean0 : (seen c.good).doubt ≡ 0
        clean0 = no_doubt c.ends

        Holds : ToldToken E → Type 0
        Holds k = ((seen c.good).usable ≡ true) × AllMatch service (seen c.good).may_leave
            × Stands k.number (kept (seen k.seen).tables) (kept tables)

        each : Every Holds tokens
        each = every_two (IsTold (Since seen service) (IsLater seen) (EndsAs seen service) e c.good)
            (λ k. IsGood seen service k) Holds tokens
            (λ k told good.
            let known = told.since.clean clean0 good.matches in
            (told.since.usable good.usable, known.0, known.1))
            c.told goods

        one : (k : ToldToken E) × Holds k
        one = of_any Holds (λ k. k.number ≡ 0) tokens each (c.all 0 (omega arith))

        usable : (seen c.good).usable ≡ true
        usable = one.1.0

        all_match : AllMatch service (seen c.good).may_leave
        all_match = one.1.1

        stays : (seen c.good).may_leave tables
        stays = (sound c.good).stays clean0 usable

        continues : Every (λ k. Continues seen service k.number k tables) tokens
        continues = every_two Holds (λ k. IsGood seen service k) (λ k. Continues seen service k.number k tables) tokens
            (λ k h good. record { matches = all_match tables stays; stands = h.2 }) each goods

        served : e ≡ c.good → (t : Tables S C) → (seen e).may_leave t → IsLeft seen service tables e t
        served same t left =
            let was : (seen c.good).may_leave t = subst (λ (k : E). (seen k).may_leave t) same left in
            let is : t ≡ tables = (sound c.good).only_now clean0 usable t was in
            record {
              matches = all_match t was;
              deeds = [];
              one_call = inl (omega arith);
              did = ap (λ (k : Tables S C). kept k) is;
              none = λ _. refl;
            }

        broke : Broke seen service c.good e → (t : Tables S C) → (seen e).may_leave t → IsLeft seen service tables e t
        broke b t left =
            let h = b.clean clean all_match in
            let came = h.1 t left in
            let is : came.before ≡ tables = (sound c.good).only_now clean0 usable came.before came.was in
            record {
              matches = h.0 t left;
              deeds = came.deeds;
              one_call = came.one_call;
              did = subst (λ (k : Tables S C). DidAll service (kept k) came.deeds (kept t)) is came.did;
              none = λ up. absurd (true≢false (sym up ∙ b.now));
            }
