-- What was accepted stays known.
use Rattle.std.proofs.Common.{◌≡◌, ℕ, ◌⊎◌, List, [], ◌++◌, Option, Some, None, Result, Ok, Err, refl, sym, ap, ◌∙◌}
use Rattle.std.proofs.Common.{append-nil}
use Rattle.broker_core.specs.Calls.{dropped}
use Rattle.broker_core.specs.Serving.{Server, session_of}
use Rattle.broker_core.specs.declared.session.Session.{Session}
use Rattle.broker_book.specs.declared.parts.Accepted.{Accepted}
use Rattle.broker_book.specs.declared.parts.Sent.{Sent}
use Rattle.schedule_mail.specs.Mails.{Mail, all_accepted, collected, taken_from}
use Rattle.schedule_mail.specs.Repeating.{SentAgain, FedAgain, Unsent, Repeats, FailsToRepeat, uncollected, unfound}
use Rattle.schedule_mail.specs.Repeating.{unsent}
use Rattle.schedule_mail.specs.Repeating.{refused}
use Rattle.schedule_mail.specs.declared.repeat_fault.RepeatFault.{RepeatFault}
use Rattle.schedule_mail.specs.declared.repeat_fault.RepeatFault.TheVariants.{QueueFull, Memory, TooMany}

dropped_accepted : (n : ℕ) (b : Server) (o : Option Session) → (dropped n b o).book.accepted ≡ b.book.accepted
dropped_accepted n b None = refl
dropped_accepted n b (Some s) = refl

again_all : (sent : Sent) (old new : Mail) (r : Result (Option ℕ) RepeatFault) → SentAgain sent old new r
    → all_accepted new ≡ old.earlier
again_all sent old new r h =
    let f = h.feeds in
    let d = dropped_accepted h.session (taken_from f.fed) (session_of h.session f.fed) in
    ap all_accepted f.left ∙ ap (λ (xs : List Accepted). h.opened.earlier ++ xs) d ∙ append-nil h.opened.earlier
    ∙ h.earlier

collected_all : (o : Mail) → all_accepted (collected o) ≡ all_accepted o
collected_all o = append-nil (all_accepted o)

-- what wasn't sent changed nothing
pub unsent_all : (old new : Mail) (fault : RepeatFault) → Unsent old new fault → new ≡ old
unsent_all old new Memory h = h
unsent_all old new TooMany h = h.1
unsent_all old new QueueFull h = absurd h

fails_all : (place : ℕ) (old new : Mail) (fault : RepeatFault) → FailsToRepeat place old new fault
    → all_accepted new ≡ all_accepted old
fails_all place old new fault (uncollected e s) = ap all_accepted s
fails_all place old new fault (unfound e s) = ap all_accepted s ∙ collected_all old
fails_all place old new fault (unsent sent found h) =
    ap all_accepted (unsent_all (collected old) new fault h) ∙ collected_all old
fails_all place old new fault (refused sent found h) = again_all sent (collected old) new (Err fault) h

-- a repeat leaves what was accepted
pub repeats_all : (place : ℕ) (old new : Mail) (r : Result (Option ℕ) RepeatFault) → Repeats place old new r
    → all_accepted new ≡ all_accepted old
repeats_all place old new (Ok (Some number)) h = again_all h.sent (collected old) new (Ok (Some number)) h.again
repeats_all place old new (Ok None) h = ap all_accepted h.1 ∙ collected_all old
repeats_all place old new (Err fault) h = fails_all place old new fault h
