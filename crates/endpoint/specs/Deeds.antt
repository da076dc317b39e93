-- What a call may do to a service, as its journal, its settled marks and its held letters show it. All else follows
-- from these where the tables match their journal.
use Rattle.std.specs.Prelude.{◌≡◌, ℕ, suc, ◌≤◌, ◌<◌, ◌⊎◌, max, List, length, Option, Some, None, Result, Ok, Err}
use Rattle.base.specs.Entity.{Entity}
use Rattle.base.specs.declared.limits.TheConstants.{HELD_WINDOW}
use Rattle.base.specs.declared.pair.Pair.{Pair}
use Rattle.envelope.specs.declared.message.Message.{Message}
use Rattle.envelope.specs.declared.message.Letter.{Letter}
use Rattle.activities.specs.declared.input.Input.{Input}
use Rattle.activities.specs.declared.input.Input.TheVariants.{FromSeat, FromEntity}
use Rattle.activities.specs.declared.input.JournalRow.{JournalRow}
use Rattle.activities.specs.Journal.{sent_of, handled_of}
use Rattle.activities.specs.Service.{Service}
use Rattle.keep.specs.Tables.{Tables, Messages, set_message, set_mark}
use Rattle.endpoint.specs.declared.answer.Committed.{Committed}
use Rattle.endpoint.specs.declared.fault.EndFault.{EndFault}
use Rattle.endpoint.specs.declared.fault.EndFault.TheVariants.{Business, StoreFailed}
use Rattle.endpoint.specs.Answers.{reaction, Takes}
use Rattle.outbox.specs.Numbering.{pair_between}
use Rattle.endpoint.specs.Matches.{MayBeHeld}

-- the journal, the settled marks and the held letters
pub record Kept (C : Type 0) : Type 0 where
  pub journal : List (JournalRow C)
  pub settled : Pair → ℕ
  pub held : Messages

-- those of tables
abbrev pub kept : {S C : Type 0} → Tables S C → Kept C
kept t = record { journal = t.journal; settled = t.settled; held = t.held }

-- what one call does: nothing, or it takes in a row, holds a letter that came too early, or marks letters as settled up
-- to a number
pub data Deed (C : Type 0) : Type 0 where
  Nothing : Deed C
  TakesIn : JournalRow C → Deed C
  Holds : Letter → Deed C
  Settles : Pair → (number : ℕ) → Deed C

-- the held letters after an input was taken in: a letter that was handled isn't held any more
abbrev pub held_after : {C : Type 0} → Entity → Input C → Messages → Messages
held_after e (FromSeat seat command) held = held
held_after e (FromEntity sender number message) held = set_message (pair_between sender e) number None held

-- the first of two messages, or the second where there is no first
abbrev pub or_else : Option Message → Option Message → Option Message
or_else (Some m) other = Some m
or_else None other = other

-- the held letters with one more; where one of its number was held, that one stays
abbrev pub with_held : Letter → Messages → Messages
with_held l held = set_message l.pair l.number (or_else (held l.pair l.number) (Some l.message)) held

module _ {S C : Type 0} (ahead : ℕ) (service : Service S C) where
  -- the deed leads from what was kept to this
  abbrev pub DidWithin : Kept C → Deed C → Kept C → Type 0
  DidWithin x Nothing y = y ≡ x
  DidWithin x (TakesIn row) y = Takes service.reactions service.kind x.journal row y.journal × (y.settled ≡ x.settled)
      × (y.held ≡ held_after row.entity row.input x.held)
  DidWithin x (Holds l) y = MayBeHeld ahead service.kind (handled_of x.journal l.pair) l.pair l.number
      × (suc (handled_of x.journal l.pair) < l.number)
      × (y ≡ record x { held = with_held l x.held })
  DidWithin x (Settles p n) y = (p.from.kind ≡ service.kind) × (n ≤ length (sent_of service.reactions x.journal p))
      × (y ≡ record x { settled = set_mark p (max (x.settled p) n) x.settled })

  -- a content after a call comes of one before it, by a deed that is allowed there
  pub record CameWithin (allowed : Kept C → Deed C → Type 0) (old : Tables S C → Type 0) (now : Tables S C) : Type 0
    where
      pub before : Tables S C
      pub deed : Deed C
      pub was : old before
      pub may : allowed (kept before) deed
      pub did : DidWithin (kept before) deed (kept now)

  -- each content that there is then comes so of one before
  abbrev pub Comes : (Kept C → Deed C → Type 0) → (old new : Tables S C → Type 0) → Type 0
  Comes allowed old new = (t : Tables S C) → new t → CameWithin allowed old t

module _ {S C : Type 0} (service : Service S C) where
  -- ---- the same as far ahead as the product holds letters

  abbrev pub Did : Kept C → Deed C → Kept C → Type 0
  Did x d y = DidWithin HELD_WINDOW service x d y

  abbrev pub Came : (allowed : Kept C → Deed C → Type 0) (old : Tables S C → Type 0) → Tables S C → Type 0
  Came allowed old now = CameWithin HELD_WINDOW service allowed old now

  -- ---- commands

  -- the deed that each answer of a commit tells, and what was the case before it
  abbrev pub CommitMay : JournalRow C → Result Committed EndFault → Kept C → Deed C → Type 0
  CommitMay row (Ok c) x d = (d ≡ TakesIn row) × (c.pos ≡ suc (length x.journal))
  CommitMay row (Err (Business refusal)) x d = (d ≡ Nothing) × (reaction service.reactions x.journal row ≡ Err refusal)
  CommitMay row (Err StoreFailed) x d = (d ≡ Nothing) ⊎ (d ≡ TakesIn row)
  CommitMay row (Err _) x d = d ≡ Nothing
