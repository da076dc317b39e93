-- What a repeat does and answers.
use Rattle.std.specs.Prelude.{◌≡◌, ◌⊎◌, ℕ, ◌-◌, ◌^◌, List, Option, Some, None, Result, Ok, Err}
use Rattle.base.specs.declared.limits.TheConstants.{MAX_QUEUED}
use Rattle.broker_book.specs.declared.parts.Sent.{Sent}
use Rattle.broker_core.specs.Calls.{OpensSession, dropped, out_in}
use Rattle.broker_core.specs.Feeding.{FeedAnswer}
use Rattle.broker_core.specs.Serving.{Server, session_of}
use Rattle.broker_core.specs.declared.fault.BrokerFault.{BrokerFault}
use Rattle.schedule_mail.specs.Accepted.{TellsRepeat, sent_at}
use Rattle.schedule_mail.specs.Mails.{Mail, all_accepted, taken_from, collected}
use Rattle.schedule_mail.specs.Texts.{again_text}
use Rattle.schedule_mail.specs.declared.repeat_fault.RepeatFault.{RepeatFault}
use Rattle.schedule_mail.specs.declared.repeat_fault.RepeatFault.TheVariants.{QueueFull, Memory, TooMany}

-- a SEND was fed to a session, whatever was answered; then what was accepted was taken, and the session dropped
pub record FedAgain (sent : Sent) (session : ℕ) (old new : Mail) (r : Result (Option ℕ) RepeatFault) : Type 0 where
  pub fed : Server
  pub answer : Result ℕ BrokerFault
  pub feeds : FeedAnswer MAX_QUEUED old.broker session (again_text sent) fed answer
  pub tells : TellsRepeat sent fed.book.accepted (out_in (session_of session fed)) r
  pub left : new ≡ record old { broker = dropped session (taken_from fed) (session_of session fed) }

-- the same in a session of its own
pub record SentAgain (sent : Sent) (old new : Mail) (r : Result (Option ℕ) RepeatFault) : Type 0 where
  pub session : ℕ
  pub opened : Mail
  pub opens : OpensSession old.broker session opened.broker
  pub earlier : opened.earlier ≡ old.earlier
  pub feeds : FedAgain sent session opened new r

-- nothing was sent again, and nothing has changed: memory was refused before, or no session number is left
abbrev pub Unsent : Mail → Mail → RepeatFault → Type 0
Unsent old new Memory = new ≡ old
Unsent old new TooMany = (old.broker.opened ≡ 2 ^ 64 - 1) × (new ≡ old)
Unsent old new QueueFull = ⊥

-- a SEND was sent again, or not
abbrev pub SendsAgain : Sent → Mail → Mail → Result (Option ℕ) RepeatFault → Type 0
SendsAgain sent old new (Ok number) = SentAgain sent old new (Ok number)
SendsAgain sent old new (Err fault) = Unsent old new fault ⊎ SentAgain sent old new (Err fault)

-- Why the SEND of a place isn't repeated: memory was refused before it was found; it wasn't sent; or it was refused.
pub data FailsToRepeat (place : ℕ) (old new : Mail) (fault : RepeatFault) : Type 0 where
  uncollected : fault ≡ Memory → new ≡ old → FailsToRepeat place old new fault
  unfound : fault ≡ Memory → new ≡ collected old → FailsToRepeat place old new fault
  unsent : (sent : Sent) → sent_at place (all_accepted old) ≡ Some sent → Unsent (collected old) new fault
      → FailsToRepeat place old new fault
  refused : (sent : Sent) → sent_at place (all_accepted old) ≡ Some sent
      → SentAgain sent (collected old) new (Err fault)
      → FailsToRepeat place old new fault

-- the SEND of a place was sent again, and is this message
pub record Repeated (place : ℕ) (old new : Mail) (number : ℕ) : Type 0 where
  pub sent : Sent
  pub found : sent_at place (all_accepted old) ≡ Some sent
  pub again : SentAgain sent (collected old) new (Ok (Some number))

-- What `repeat` answers: the new message's number; that fewer were accepted; or why the SEND isn't repeated.
abbrev pub Repeats : ℕ → Mail → Mail → Result (Option ℕ) RepeatFault → Type 0
Repeats place old new (Ok (Some number)) = Repeated place old new number
Repeats place old new (Ok None) = (sent_at place (all_accepted old) ≡ None) × (new ≡ collected old)
Repeats place old new (Err fault) = FailsToRepeat place old new fault
