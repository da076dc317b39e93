-- What is made before the endpoint is asked, and what is told by its answer.
use Rattle.std.specs.Prelude.{◌≡◌, ℕ, ◌+◌, ◌-◌, ◌^◌, ◌≤◌, ◌<◌, length, Result, Ok, Err, ⊤}
use Rattle.base.specs.declared.entity.Kind.{Kind}
use Rattle.stomp_frame.specs.Frames.{Content}
use Rattle.stomp_frame.specs.declared.command.Command.TheVariants.{Ack, Nack}
use Rattle.stomp_client.specs.Clients.{ClientWithRoom}
use Rattle.envelope.specs.declared.message.Letter.{Letter as TheLetter}
use Rattle.endpoint.specs.declared.fault.EndFault.{EndFault}
use Rattle.reception.specs.Answers.{Answers, CarriesLetter, CarriesSettle}
use Rattle.reception.specs.Faults.{IsWant, waiting_after}
use Rattle.reception.specs.Replies.{answer, settling, settled_again, IsTextOf}
use Rattle.reception.specs.declared.fault.ReceptionFault.{ReceptionFault}
use Rattle.reception.specs.declared.fault.ReceptionFault.TheVariants.{End}
use Rattle.reception.specs.declared.fault.Untaken.{Untaken}
use Rattle.endpoint.specs.declared.answer.Ingested.{Ingested}
use Rattle.endpoint.specs.declared.answer.Ingested.TheVariants as ingested
use Rattle.reception.specs.declared.prepared.Prepared.{Prepared}
use Rattle.reception.specs.declared.prepared.Prepared.TheVariants.{Done, Letter, Settle}
use Rattle.reception.specs.declared.prepared.PreparedLetter.{PreparedLetter}
use Rattle.reception.specs.declared.prepared.PreparedSettle.{PreparedSettle}
use Rattle.reception.specs.declared.replies.Acknowledgements.{Acknowledgements}
use Rattle.reception.specs.declared.replies.LetterReplies.{LetterReplies}
use Rattle.reception.specs.declared.taken.Taken.{Taken}
use Rattle.reception.specs.declared.taken.Taken.TheVariants.{Connected, Receipt, Handled, Repeated, Held, Settled}
use Rattle.reception.specs.declared.taken.Taken.TheVariants.{Error}

-- ---- replies

-- the texts of ACK and NACK of a MESSAGE
pub record AreAcknowledgements (message : Content) (a : Acknowledgements) : Type 0 where
  pub ack : IsTextOf (answer Ack message) a.ack.items
  pub nack : IsTextOf (answer Nack message) a.nack.items

-- there is room for either
pub record HasRoom (a : Acknowledgements) (room : ℕ) : Type 0 where
  pub ack : length a.ack.items ≤ room
  pub nack : length a.nack.items ≤ room

-- The replies to a letter that may be written at once, with room for each: that which settles its pair up to its number
-- has the number of the next transaction.
pub record AreLetterReplies (message : Content) (c : ClientWithRoom ℕ) (l : TheLetter) (r : LetterReplies) : Type 0
  where
    pub numbers : c.client.transactions < 2 ^ 64 - 1
    pub text : IsTextOf (settling message (c.client.transactions + 1) l.pair l.number) r.settling.items
    pub answers : AreAcknowledgements message r.answers
    pub room : length r.settling.items ≤ c.room
    pub answers_room : HasRoom r.answers c.room

-- ---- the first half

-- a letter came to this client, and its replies are made
pub record IsReadyLetter (c : ClientWithRoom ℕ) (p : PreparedLetter) : Type 0 where
  pub carries : CarriesLetter p.message c.client p.letter
  pub replies : AreLetterReplies p.message c p.letter p.replies

-- a settle came to it, and its replies are made
pub record IsReadySettle (c : ClientWithRoom ℕ) (p : PreparedSettle) : Type 0 where
  pub carries : CarriesSettle p.message c.client p.pair p.number
  pub answers : AreAcknowledgements p.message p.answers
  pub room : HasRoom p.answers c.room

-- what became of a frame that asks nothing of the endpoint
abbrev pub IsUnaskedFor : Taken → Type 0
IsUnaskedFor Connected = ⊤
IsUnaskedFor (Receipt number) = ⊤
IsUnaskedFor (Error text) = ⊤
IsUnaskedFor _ = ⊥

-- why the endpoint isn't asked, or its answer isn't told
abbrev pub IsUnasked : ReceptionFault → Type 0
IsUnasked (End _) = ⊥
IsUnasked _ = ⊤

-- What `prepare` answers: what became of the frame, or what it asks of the endpoint, with its replies, and nothing is
-- written yet; or why it isn't asked.
abbrev pub PreparesFrame : Kind → Content → (old new : ClientWithRoom ℕ) → Result Prepared Untaken → Type 0
PreparesFrame kind f old new (Ok (Done taken)) = IsUnaskedFor taken × Answers kind f old.client new.client (Ok taken)
PreparesFrame kind f old new (Ok (Letter p)) = (p.message ≡ f) × (new.client ≡ old.client) × IsReadyLetter new p
PreparesFrame kind f old new (Ok (Settle p)) = (p.message ≡ f) × (new.client ≡ old.client) × IsReadySettle new p
PreparesFrame kind f old new (Err untaken) =
    IsUnasked untaken.fault × Answers kind f old.client new.client (Err untaken.fault)
    × (untaken.frame ≡ waiting_after untaken.fault f)

-- ---- the second half

-- What is told of a letter by the endpoint's answer. One that came again may want memory.
abbrev pub ToldOfLetter : TheLetter → Result Ingested EndFault → Result Taken ReceptionFault → Type 0
ToldOfLetter l (Ok (ingested.Handled position)) r = r ≡ Ok (Handled position)
ToldOfLetter l (Ok (ingested.Repeated handled)) (Ok taken) = taken ≡ Repeated (settled_again l.number handled)
ToldOfLetter l (Ok (ingested.Repeated handled)) (Err fault) = IsWant fault
ToldOfLetter l (Ok ingested.Held) r = r ≡ Ok Held
ToldOfLetter l (Err fault) r = r ≡ Err (End fault)

-- and of a settle
abbrev pub ToldOfSettle : Result ℕ EndFault → Result Taken ReceptionFault → Type 0
ToldOfSettle (Ok mark) r = r ≡ Ok (Settled mark)
ToldOfSettle (Err fault) r = r ≡ Err (End fault)

-- nothing of the endpoint's answer is told: why it isn't
abbrev pub IsUntold : Result Taken ReceptionFault → Type 0
IsUntold (Ok taken) = ⊥
IsUntold (Err cause) = IsUnasked cause
