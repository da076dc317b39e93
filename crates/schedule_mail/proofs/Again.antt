-- A SEND that was found and sent again.
use Rattle.std.proofs.Common.{◌≡◌, ℕ, Option, Some, None, Result, Ok, Err, inl, inr}
use Rattle.broker_book.specs.declared.parts.Sent.{Sent}
use Rattle.schedule_mail.specs.Accepted.{sent_at}
use Rattle.schedule_mail.specs.Mails.{Mail, all_accepted, collected}
use Rattle.schedule_mail.specs.Repeating.{SendsAgain, Repeats, unsent, refused}
use Rattle.schedule_mail.specs.declared.repeat_fault.RepeatFault.{RepeatFault}

found_repeats : (place : ℕ) (old new : Mail) (sent : Sent) (r : Result (Option ℕ) RepeatFault)
    → sent_at place (all_accepted old) ≡ Some sent → SendsAgain sent (collected old) new r → Repeats place old new r
found_repeats place old new sent (Ok (Some number)) found h = record { sent = sent; found = found; again = h }
found_repeats place old new sent (Ok None) found h = absurd h.feeds.tells
found_repeats place old new sent (Err fault) found h = elim h [
  | inl u ↦ unsent sent found u
  | inr s ↦ refused sent found s
]

-- the same from what was collected
pub again_repeats : (place : ℕ) (old mid new : Mail) (sent : Sent) (r : Result (Option ℕ) RepeatFault)
    → mid ≡ collected old
    → sent_at place mid.earlier ≡ Some sent → SendsAgain sent mid new r → Repeats place old new r
again_repeats place old mid new sent r e found h = found_repeats place old new sent r (rw e at found) (rw e at h)
