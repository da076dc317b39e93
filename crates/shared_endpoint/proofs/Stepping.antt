-- From what each call of an endpoint tells to one step of a token.
use Rattle.std.proofs.Common.{◌≡◌, ℕ, ◌≤◌, ◌==◌, true, false, true≢false, Option, Some, None}
use Rattle.std.proofs.Common.{Result, Ok, Err, inl, ⊎_elim, refl, sym, ap, ◌∙◌, subst, arith}
use Rattle.std.specs.Prelude.{⊤}
use Rattle.std.proofs.lemmas.Bool.Decides.{nat_tests}
use Rattle.base.specs.Entity.{Entity}
use Rattle.base.specs.declared.limits.TheConstants.{HELD_WINDOW}
use Rattle.base.specs.declared.entity.Kind.{Kind}
use Rattle.base.specs.declared.pair.Pair.{Pair}
use Rattle.envelope.specs.declared.message.Letter.{Letter}
use Rattle.activities.specs.Service.{Service}
use Rattle.activities.specs.declared.input.JournalRow.{JournalRow}
use Rattle.keep.specs.Law.{IsCall}
use Rattle.keep.specs.Seen.{Seen}
use Rattle.keep.specs.Tables.{Tables}
use Rattle.endpoint.specs.declared.answer.Committed.{Committed}
use Rattle.endpoint.specs.declared.answer.Ingested.{Ingested}
use Rattle.endpoint.specs.declared.answer.Ingested.TheVariants as ingested
use Rattle.endpoint.specs.declared.fault.EndFault.{EndFault}
use Rattle.endpoint.specs.declared.fault.EndFault.TheVariants.{NotMine, Business, TooEarly, StoreFailed, Memory}
use Rattle.endpoint.specs.declared.fault.EndFault.TheVariants.{Unusable, NumberLimit}
use Rattle.endpoint.specs.declared.fault.EndFault.TheVariants.{NotSent}
use Rattle.endpoint.specs.Arrivals.{IngestMay, DrainMay, SettleMay}
use Rattle.endpoint.specs.Calls.{ComesBy, StillMatches, Stays, Commits, DoesDeed, Counts, Views}
use Rattle.endpoint.specs.Deeds.{Kept, kept, Deed, Nothing, TakesIn, CommitMay}
use Rattle.endpoint.specs.Faults.{end_of}
use Rattle.keep.proofs.Arms.{stays_armed}
use Rattle.shared_endpoint.specs.Token.{hand_number, is_of}
use Rattle.shared_endpoint.specs.History.{IsDeedOf, IsUsed, Steps, fault_in, tells}
use Rattle.shared_endpoint.proofs.Deeds.{as_list, list_is_short, every_listed, did_listed, came_of_none}

-- where memory was refused or the endpoint wasn't usable, nothing was done
abbrev pub IsQuiet : {R C : Type 0} → Result R EndFault → Deed C → Type 0
IsQuiet (Err Memory) deed = deed ≡ Nothing
IsQuiet (Err Unusable) deed = deed ≡ Nothing
IsQuiet (Err StoreFailed) deed = ⊤
IsQuiet (Err NotMine) deed = ⊤
IsQuiet (Err (Business r)) deed = ⊤
IsQuiet (Err TooEarly) deed = ⊤
IsQuiet (Err NumberLimit) deed = ⊤
IsQuiet (Err NotSent) deed = ⊤
IsQuiet (Ok r) deed = ⊤

-- whose deed an answer tells
abbrev pub Says : {R C : Type 0} → ℕ → Result R EndFault → (Kept C → Deed C → Type 0) → Type 0
Says {C = C} n result allowed = (x : Kept C) (deed : Deed C) → allowed x deed → IsDeedOf n deed × IsQuiet result deed

-- a number equals itself
pub same_number : (n : ℕ) → (n == n) ≡ true
same_number n = grind (arith, nat_tests)

nothing_of : {C : Type 0} (n : ℕ) (deed : Deed C) → deed ≡ Nothing → IsDeedOf n deed
nothing_of n deed e = subst (IsDeedOf n) (sym e) tt

module _ {E S C : Type 0} (seen : E → Seen (Tables S C)) (service : Service S C) (d e : E) where
  pub use_of : {R : Type 0} (May : EndFault → Type 0) (result : Result R EndFault) → IsCall seen d e May (end_of result)
      → IsUsed seen d e (fault_in result)
  use_of May (Ok r) h = h
  use_of May (Err StoreFailed) h = h
  use_of May (Err Memory) h = h
  use_of May (Err Unusable) h = h
  use_of May (Err NotMine) h = h.0
  use_of May (Err (Business r)) h = h.0
  use_of May (Err TooEarly) h = h.0
  use_of May (Err NumberLimit) h = h.0
  use_of May (Err NotSent) h = h.0

  quiet : {R : Type 0} (May : EndFault → Type 0) (result : Result R EndFault) (deed : Deed C)
      → IsCall seen d e May (end_of result) → IsQuiet result deed
      → tells (fault_in result) ≡ false → (seen e).usable ≡ true → deed ≡ Nothing
  quiet May (Ok r) deed h q unsaid up = absurd (true≢false unsaid)
  quiet May (Err StoreFailed) deed h q unsaid up = absurd (true≢false (sym up ∙ h.1))
  quiet May (Err Memory) deed h q unsaid up = q
  quiet May (Err Unusable) deed h q unsaid up = q
  quiet May (Err NotMine) deed h q unsaid up = absurd (true≢false unsaid)
  quiet May (Err (Business r)) deed h q unsaid up = absurd (true≢false unsaid)
  quiet May (Err TooEarly) deed h q unsaid up = absurd (true≢false unsaid)
  quiet May (Err NumberLimit) deed h q unsaid up = absurd (true≢false unsaid)
  quiet May (Err NotSent) deed h q unsaid up = absurd (true≢false unsaid)

  steps_of : (n : ℕ) {R : Type 0} (May : EndFault → Type 0) (result : Result R EndFault)
      (allowed : Kept C → Deed C → Type 0) → (seen d).doubt ≤ (seen e).doubt
      → IsCall seen d e May (end_of result) → Says n result allowed → ComesBy seen d e service allowed
      → StillMatches seen d e service → Steps seen service n d e (fault_in result)
  steps_of n May result allowed doubt call says comes matches = record {
    doubt = doubt;
    used = use_of May result call;
    deeds = λ z a t l.
        let came = comes z a t l in
        let s = says (kept came.before) came.deed came.may in
        record {
          before = came.before;
          deeds = as_list came.deed;
          was = came.was;
          one_call = inl (list_is_short came.deed);
          may = (
            every_listed (IsDeedOf n) came.deed s.0,
            λ unsaid up. ap as_list (quiet May result came.deed call s.1 unsaid up),
          );
          did = did_listed service (kept came.before) (kept t) came.deed came.did;
        };
    matches = matches;
  }

  -- a read
  pub read_steps : (n : ℕ) {R : Type 0} (May : EndFault → Type 0) (result : Result R EndFault)
      → (seen d).doubt ≤ (seen e).doubt → IsCall seen d e May (end_of result) → Stays seen d e
      → Steps seen service n d e (fault_in result)
  read_steps n May result doubt call stays = record {
    doubt = doubt;
    used = use_of May result call;
    deeds = λ z a t l. came_of_none service _ _ t (tt, λ _ _. refl) (stays z t l);
    matches = λ z a t l. a t (stays z t l);
  }

  pub view_steps : (n : ℕ) (kind : Kind) (name : Entity) (result : Result (Option S) EndFault)
      → Views seen d e kind name result → Stays seen d e
      → Steps seen service n d e (fault_in result)
  view_steps n kind name result h stays = read_steps n _ result h.doubt h.call.0 stays

  commit_says : (n : ℕ) (row : JournalRow C) (result : Result Committed EndFault) → is_of n row.input ≡ true
      → Says n result (CommitMay service row result)
  commit_says n row (Ok c) of x deed m = (subst (IsDeedOf n) (sym m.0) of, tt)
  commit_says n row (Err (Business r)) of x deed m = (nothing_of n deed m.0, tt)
  commit_says n row (Err StoreFailed) of x deed m =
      (⊎_elim (λ z. nothing_of n deed z) (λ z. subst (IsDeedOf n) (sym z) of) m, tt)
  commit_says n row (Err Memory) of x deed m = (nothing_of n deed m, m)
  commit_says n row (Err Unusable) of x deed m = (nothing_of n deed m, m)
  commit_says n row (Err NotMine) of x deed m = (nothing_of n deed m, tt)
  commit_says n row (Err TooEarly) of x deed m = (nothing_of n deed m, tt)
  commit_says n row (Err NumberLimit) of x deed m = (nothing_of n deed m, tt)
  commit_says n row (Err NotSent) of x deed m = (nothing_of n deed m, tt)

  pub commit_steps : (n : ℕ) (row : JournalRow C) (result : Result Committed EndFault) → is_of n row.input ≡ true
      → Commits seen d e service row result
      → ComesBy seen d e service (CommitMay service row result) → StillMatches seen d e service
      → Steps seen service n d e (fault_in result)
  commit_steps n row result of h comes matches = steps_of n _ result _ h.doubt h.call.0
      (commit_says n row result of) comes matches

  takes_letter : (deed : Deed C) (row : JournalRow C) → is_of hand_number row.input ≡ true → deed ≡ TakesIn row
      → IsDeedOf hand_number deed
  takes_letter deed row of is = subst (IsDeedOf hand_number) (sym is) of

  pub ingest_says : (l : Letter) (result : Result Ingested EndFault)
      → Says hand_number result (IngestMay service l result)
  ingest_says l (Ok (ingested.Handled pos)) x deed m = (subst (IsDeedOf hand_number) (sym m.0) refl, tt)
  ingest_says l (Ok (ingested.Repeated handled)) x deed m = (nothing_of hand_number deed m.0, tt)
  ingest_says l (Ok ingested.Held) x deed m = (subst (IsDeedOf hand_number) (sym m) refl, tt)
  ingest_says l (Err TooEarly) x deed m = (nothing_of hand_number deed m.0, tt)
  ingest_says l (Err NumberLimit) x deed m = (nothing_of hand_number deed m.0, tt)
  ingest_says l (Err StoreFailed) x deed m = (
    ⊎_elim (λ z. nothing_of hand_number deed z)
        (λ r. ⊎_elim (λ z. subst (IsDeedOf hand_number) (sym z) refl)
        (λ z. subst (IsDeedOf hand_number) (sym z) refl) r) m,
    tt,
  )
  ingest_says l (Err Memory) x deed m = (nothing_of hand_number deed m, m)
  ingest_says l (Err NotMine) x deed m = (nothing_of hand_number deed m.0, tt)
  ingest_says l (Err Unusable) x deed m = (nothing_of hand_number deed m, m)
  ingest_says l (Err (Business r)) x deed m = absurd m
  ingest_says l (Err NotSent) x deed m = absurd m

  pub ingest_steps : (l : Letter) (Reason : EndFault → Type 0) (name : Entity) (result : Result Ingested EndFault)
      → DoesDeed seen d e HELD_WINDOW service Reason name (IngestMay service l) result
      → ComesBy seen d e service (IngestMay service l result) → StillMatches seen d e service
      → Steps seen service hand_number d e (fault_in result)
  ingest_steps l Reason name result h comes matches = steps_of hand_number _ result _ h.doubt h.call.0
      (ingest_says l result) comes matches

  pub drain_says : (p : Pair) (result : Result (Option ℕ) EndFault)
      → Says hand_number result (DrainMay service p result)
  drain_says p (Ok (Some n)) x deed m = (subst (IsDeedOf hand_number) (sym m.1.2) refl, tt)
  drain_says p (Ok None) x deed m = (nothing_of hand_number deed m.0, tt)
  drain_says p (Err NumberLimit) x deed m = (nothing_of hand_number deed m.0, tt)
  drain_says p (Err StoreFailed) x deed m =
      (⊎_elim (λ z. nothing_of hand_number deed z) (λ z. subst (IsDeedOf hand_number) (sym z.2) refl) m, tt)
  drain_says p (Err Memory) x deed m = (nothing_of hand_number deed m, m)
  drain_says p (Err NotMine) x deed m = (nothing_of hand_number deed m.0, tt)
  drain_says p (Err Unusable) x deed m = (nothing_of hand_number deed m, m)
  drain_says p (Err (Business r)) x deed m = absurd m
  drain_says p (Err TooEarly) x deed m = absurd m
  drain_says p (Err NotSent) x deed m = absurd m

  pub drain_steps : (p : Pair) (Reason : EndFault → Type 0) (name : Entity) (result : Result (Option ℕ) EndFault)
      → DoesDeed seen d e HELD_WINDOW service Reason name (DrainMay service p) result
      → ComesBy seen d e service (DrainMay service p result) → StillMatches seen d e service
      → Steps seen service hand_number d e (fault_in result)
  drain_steps p Reason name result h comes matches = steps_of hand_number _ result _ h.doubt h.call.0
      (drain_says p result) comes matches

  pub settle_says : (p : Pair) (n : ℕ) (result : Result ℕ EndFault)
      → Says hand_number result (SettleMay service p n result)
  settle_says p n (Ok mark) x deed m = (subst (IsDeedOf hand_number) (sym m.0) refl, tt)
  settle_says p n (Err NotSent) x deed m = (nothing_of hand_number deed m.0, tt)
  settle_says p n (Err StoreFailed) x deed m =
      (⊎_elim (λ z. nothing_of hand_number deed z) (λ z. subst (IsDeedOf hand_number) (sym z) refl) m, tt)
  settle_says p n (Err Memory) x deed m = (nothing_of hand_number deed m, m)
  settle_says p n (Err NotMine) x deed m = (nothing_of hand_number deed m.0, tt)
  settle_says p n (Err Unusable) x deed m = (nothing_of hand_number deed m, m)
  settle_says p n (Err (Business r)) x deed m = absurd m
  settle_says p n (Err TooEarly) x deed m = absurd m
  settle_says p n (Err NumberLimit) x deed m = absurd m

  pub settle_steps : (p : Pair) (n : ℕ) (Reason : EndFault → Type 0) (name : Entity) (result : Result ℕ EndFault)
      → DoesDeed seen d e HELD_WINDOW service Reason name (SettleMay service p n) result
      → ComesBy seen d e service (SettleMay service p n result) → StillMatches seen d e service
      → Steps seen service hand_number d e (fault_in result)
  settle_steps p n Reason name result h comes matches = steps_of hand_number _ result _ h.doubt h.call.0
      (settle_says p n result) comes matches

module _ {E S C : Type 0} (seen : E → Seen (Tables S C)) (service : Service S C) (d : E) where
  -- a number that is known
  pub count_steps : (n : ℕ) (count : Tables S C → ℕ) (result : Result ℕ EndFault) → Counts seen d count result
      → Steps seen service n d d (fault_in result)
  count_steps n count (Ok r) h = record {
    doubt = omega arith;
    used = (h.0, h.0, refl, stays_armed (seen d).armed);
    deeds = λ z a t l. came_of_none service _ _ t (tt, λ _ _. refl) l;
    matches = λ z a. a;
  }
  count_steps n count (Err fault) h = record {
    doubt = omega arith;
    used = subst (λ (f : EndFault). IsUsed seen d d (Some f)) (sym h.1) (h.0, refl);
    deeds = λ z a t l. came_of_none service _ _ t (tt, λ _ _. refl) l;
    matches = λ z a. a;
  }
