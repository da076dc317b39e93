-- Which sessions a broker has after a repeat: the same.
use Rattle.std.proofs.Common.{◌≡◌, ◌≢◌, ℕ, Bool, true, false, Option, Some, None, Result, Ok, Err, refl, sym, ap, ◌∙◌}
use Rattle.std.proofs.Common.{eqb-true, eq-eqb}
use Rattle.std.specs.Prelude.{◌==◌, is_some}
use Rattle.base.specs.declared.limits.TheConstants.{MAX_QUEUED}
use Rattle.broker_book.specs.declared.parts.Sent.{Sent}
use Rattle.schedule_mail.specs.Mails.{Mail, taken_from, collected}
use Rattle.schedule_mail.specs.Repeating.{FedAgain, SentAgain, Unsent, Repeats, FailsToRepeat, uncollected, unfound}
use Rattle.schedule_mail.specs.Repeating.{unsent}
use Rattle.schedule_mail.specs.Repeating.{refused}
use Rattle.schedule_mail.specs.Sessions.{has_session, KeepsSessions, KeepsOthers}
use Rattle.schedule_mail.specs.Texts.{again_text}
use Rattle.schedule_mail.specs.declared.repeat_fault.RepeatFault.{RepeatFault}
use Rattle.schedule_mail.proofs.Keeping.{unsent_all}
use Rattle.schedule_mail.proofs.Sessions.{answer_keeps, drop_keeps, drop_gone, open_keeps}

fed_others : (sent : Sent) (own : ℕ) (old new : Mail) (r : Result (Option ℕ) RepeatFault)
    → FedAgain sent own old new r
    → KeepsOthers own old.broker new.broker
fed_others sent own old new r h n apart =
    ap (λ (o : Mail). has_session n o.broker) h.left
    ∙ drop_keeps own (taken_from h.fed) n apart
    ∙ answer_keeps MAX_QUEUED own old.broker h.fed (again_text sent) h.answer h.feeds n

fed_gone : (sent : Sent) (own : ℕ) (old new : Mail) (r : Result (Option ℕ) RepeatFault) → FedAgain sent own old new r
    → has_session own new.broker ≡ false
fed_gone sent own old new r h = ap (λ (o : Mail). has_session own o.broker) h.left ∙ drop_gone own (taken_from h.fed)

apart_if : (n m : ℕ) → (n == m) ≡ false → n ≡ m → ⊥
apart_if n m e k = let t : (n == m) ≡ true = eq-eqb n m k in absurd (cc)

again_at : (sent : Sent) (old new : Mail) (r : Result (Option ℕ) RepeatFault) (h : SentAgain sent old new r) (n : ℕ)
    (t : Bool)
    → (n == h.session) ≡ t → has_session n new.broker ≡ has_session n old.broker
again_at sent old new r h n true e =
    let k : n ≡ h.session = eqb-true n h.session e in
    let gone : has_session h.session new.broker ≡ false = fed_gone sent h.session h.opened new r h.feeds in
    let unused : has_session h.session old.broker ≡ false = ap is_some h.opens.unused in
    ap (λ m. has_session m new.broker) k ∙ gone ∙ sym unused ∙ ap (λ m. has_session m old.broker) (sym k)
again_at sent old new r h n false e =
    let apart : n ≢ h.session = λ k. apart_if n h.session e k in
    fed_others sent h.session h.opened new r h.feeds n apart
    ∙ open_keeps old.broker h.opened.broker h.session h.opens n apart

-- a SEND that is sent again leaves the sessions as they are
again_sessions : (sent : Sent) (old new : Mail) (r : Result (Option ℕ) RepeatFault) → SentAgain sent old new r
    → KeepsSessions old.broker new.broker
again_sessions sent old new r h n = again_at sent old new r h n (n == h.session) refl

same_sessions : (old mid new : Mail) → new ≡ mid → KeepsSessions old.broker mid.broker
    → KeepsSessions old.broker new.broker
same_sessions old mid new e k n = ap (λ (o : Mail). has_session n o.broker) e ∙ k n

fails_sessions : (place : ℕ) (old new : Mail) (fault : RepeatFault) → FailsToRepeat place old new fault
    → KeepsSessions old.broker new.broker
fails_sessions place old new fault (uncollected e s) = same_sessions old old new s (λ n. refl)
fails_sessions place old new fault (unfound e s) = same_sessions old (collected old) new s (λ n. refl)
fails_sessions place old new fault (unsent sent found h) =
    same_sessions old (collected old) new (unsent_all (collected old) new fault h) (λ n. refl)
fails_sessions place old new fault (refused sent found h) = again_sessions sent (collected old) new (Err fault) h

-- and so does a repeat
pub repeats_sessions : (place : ℕ) (old new : Mail) (r : Result (Option ℕ) RepeatFault) → Repeats place old new r
    → KeepsSessions old.broker new.broker
repeats_sessions place old new (Ok (Some number)) h =
    again_sessions h.sent (collected old) new (Ok (Some number)) h.again
repeats_sessions place old new (Ok None) h = same_sessions old (collected old) new h.1 (λ n. refl)
repeats_sessions place old new (Err fault) h = fails_sessions place old new fault h
