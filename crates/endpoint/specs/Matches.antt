-- When the tables of a service are those of its journal.
use Rattle.std.specs.Prelude.{◌≡◌, ℕ, ◌+◌, ◌≤◌, ◌<◌, nat_lt, List, length, Option, None, IsSome, if◌then◌else◌}
use Rattle.base.specs.declared.limits.TheConstants.{HELD_WINDOW, MAX_NUMBER}
use Rattle.base.specs.Entity.{Entity}
use Rattle.base.specs.declared.entity.Kind.{Kind}
use Rattle.base.specs.declared.pair.Pair.{Pair}
use Rattle.envelope.specs.declared.message.Message.{Message}
use Rattle.activities.specs.Rows.{row_of}
use Rattle.activities.specs.Service.{Service}
use Rattle.activities.specs.Numbered.{nth}
use Rattle.activities.specs.declared.input.JournalRow.{JournalRow}
use Rattle.activities.specs.Reaction.{Reactions}
use Rattle.activities.specs.Journal.{IsLegal, sent_of, handled_of}
use Rattle.keep.specs.Tables.{Tables, Messages}
use Rattle.outbox.specs.Rows.{unsettled_of}

-- A letter of this pair and number may be held where so many of the pair were handled and letters are held so far
-- ahead: it came too early, by no more than that, and it is for an entity of this kind.
pub record MayBeHeld (ahead : ℕ) (kind : Kind) (handled : ℕ) (p : Pair) (n : ℕ) : Type 0 where
  pub mine : p.to.kind ≡ kind
  pub early : handled < n
  pub near : n ≤ handled + ahead
  pub within : n ≤ MAX_NUMBER

-- The tables are those of their journal, which is legal. An entity has a row exactly where it took something in and its
-- state isn't none, and the row is its state. Of a pair the last number sent is kept, which is within the limit; a
-- settled mark that isn't above it, and the messages sent but those up to the mark; how many letters were handled; and
-- letters that may be held.
pub record TablesMatchWithin (ahead : ℕ) {S C : Type 0} (service : Service S C) (t : Tables S C) : Type 0 where
  pub legal : IsLegal service.reactions service.kind t.journal
  pub entities : (e : Entity) → t.entity e ≡ row_of service t.journal e
  pub sent : (p : Pair) → t.sent p ≡ length (sent_of service.reactions t.journal p)
  pub numbers : (p : Pair) → t.sent p ≤ MAX_NUMBER
  pub settled : (p : Pair) → t.settled p ≤ length (sent_of service.reactions t.journal p)
  pub unsettled : (p : Pair) (n : ℕ) → t.unsettled p n ≡ unsettled_of service.reactions t.journal t.settled p n
  pub handled : (p : Pair) → t.handled p ≡ handled_of t.journal p
  pub held : (p : Pair) (n : ℕ) → IsSome (t.held p n) → MayBeHeld ahead service.kind (handled_of t.journal p) p n

-- all that a stop may leave matches its journal
abbrev pub AllMatchWithin : ℕ → {S C : Type 0} → Service S C → (Tables S C → Type 0) → Type 0
AllMatchWithin ahead {S} {C} service may_leave = (t : Tables S C) → may_leave t → TablesMatchWithin ahead service t

-- ---- the same as far ahead as the product holds letters

abbrev pub TablesMatchJournal : {S C : Type 0} → Service S C → Tables S C → Type 0
TablesMatchJournal service t = TablesMatchWithin HELD_WINDOW service t

abbrev pub AllMatch : {S C : Type 0} → Service S C → (Tables S C → Type 0) → Type 0
AllMatch service may_leave = AllMatchWithin HELD_WINDOW service may_leave
