-- What is found after a call that met the store's failure.
use Rattle.std.proofs.Common.{◌≡◌, ℕ, suc, List, [], ◌∷◌, ◌++◌, length, sym, ap, ◌∙◌, subst, arith, ⊎_elim}
use Rattle.std.proofs.Common.{inl, inr}
use Rattle.activities.specs.Service.{Service}
use Rattle.activities.specs.declared.input.JournalRow.{JournalRow}
use Rattle.keep.specs.Law.{HasFailed}
use Rattle.keep.specs.Seen.{Seen, IsSound}
use Rattle.keep.specs.Tables.{Tables}
use Rattle.told_lock.specs.declared.view.ToldToken.{ToldToken}
use Rattle.shared_endpoint.specs.Token.{hand_number, rows_of}
use Rattle.shared_endpoint.specs.Lore.{zero_below}
use Rattle.shared_endpoint.specs.Promises.{WasTheLast, MetTheFailure, FailedCallsAreTheLast}
use Rattle.shared_endpoint.specs.Promises.{FailedCommitsAreFoundOnce}
use Rattle.shared_endpoint.proofs.Telling.{own_row}

module _ {E S C : Type 0} (seen : E → Seen (Tables S C)) (service : Service S C) (sound : (e : E) → IsSound (seen e))
  where
    was_the_last : (Call : E → E → Type 0) (n : ℕ) (v w : ToldToken E) (e : E) → MetTheFailure seen service n v w Call e
        → WasTheLast seen service n v Call e
    was_the_last Call n v w e met =
        let passes = met.turn.passes in
        let taken = met.turn.taken in
        let failed : HasFailed seen taken w.last = passes.used in
        let same : e ≡ w.last = met.later.dead failed.1 in
        let clean : (seen taken).doubt ≡ 0 = zero_below (seen taken).doubt (seen w.last).doubt passes.next.doubt
        (ap (λ (k : E). (seen k).doubt) (sym same) ∙ met.clean) in
        let known = (passes.since failed.0).clean clean met.good.matches in
        record {
          taken = taken;
          matches = known.0;
          continues = record {
            matches = known.0 (seen taken).tables ((sound taken).stays clean failed.0);
            stands = known.1;
          };
          call = subst (λ (k : E). Call taken k) (sym same) met.turn.call;
        }

    pub failed_calls : FailedCallsAreTheLast seen service
    failed_calls = (
      λ n row. was_the_last _ n,
      λ l. was_the_last _ hand_number,
      λ p. was_the_last _ hand_number,
      λ p number. was_the_last _ hand_number,
      λ es. was_the_last _ hand_number,
    )

    pub failed_commits : FailedCommitsAreFoundOnce seen service
    failed_commits n row v w e of met t left =
        let last = was_the_last _ n v w e met in
        let old = (seen last.taken).tables in
        let list = last.continues.stands.rows in
        let found = last.call.clean met.clean last.matches t left in
        ⊎_elim
        (λ same. inl (ap (λ (k : Tables S C). rows_of n 1 k.journal) same ∙ list))
        (λ more. inr (
          suc (length old.journal),
          own_row n old.journal t.journal row (suc (length old.journal)) of more.takes.appended (omega arith)
              ∙ ap (λ (rows : List (ℕ × JournalRow C)). rows ++ (suc (length old.journal), row) ∷ []) list,
        ))
        found.1
