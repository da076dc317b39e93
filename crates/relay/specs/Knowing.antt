-- What a relay knows of an outbox, so that it needn't go over it from the first row.
use Rattle.std.specs.Prelude.{◌≡◌, ℕ, ◌≤◌, ◌⊎◌, length, take, Option, Some, None, IsSome}
use Rattle.base.specs.declared.pair.Pair.{Pair}
use Rattle.activities.specs.Service.{Service}
use Rattle.keep.specs.declared.change.LetterPlace.{LetterPlace}
use Rattle.keep.specs.Places.{IsBefore}
use Rattle.keep.specs.Tables.{Tables, Messages}
use Rattle.outbox.specs.Rows.{unsettled_of}
use Rattle.endpoint.specs.Deeds.{Kept, kept}
use Rattle.endpoint.specs.Matches.{AllMatch}
use Rattle.relay.specs.Filling.{marks_of}
use Rattle.relay.specs.declared.relay.Relay.{Relay}

-- a place stands before that one, or it is that one
abbrev pub IsUpto : Option LetterPlace → LetterPlace → Type 0
IsUpto None x = ⊥
IsUpto (Some a) x = IsBefore x a ⊎ (x ≡ a)

-- what stands up to a place isn't above what was sent of its pair
abbrev pub AllSent : (Pair → ℕ) → Messages → Option LetterPlace → Type 0
AllSent marks messages behind =
    (x : LetterPlace) → IsUpto behind x → IsSome (messages x.pair x.number) → x.number ≤ marks x.pair

-- The cursor is right of a journal of so many rows, whose first rows sent these messages, as many rows as there were
-- then: it had no more then, and all that stands up to the cursor's place was sent.
abbrev pub KnowsRows : Relay → (rows : ℕ) → Messages → Type 0
KnowsRows r rows messages = (r.rows ≤ rows) × AllSent (marks_of r) messages r.behind

module _ {S C : Type 0} (service : Service S C) where
  -- it is right of what was kept of a service: its journal, and what the rows that it had then sent and isn't settled
  abbrev pub Knows : Relay → Kept C → Type 0
  Knows r k = KnowsRows r (length k.journal) (unsettled_of service.reactions (take r.rows k.journal) k.settled)

  -- all contents match their journals, and it is right of each
  abbrev pub KnowsAll : Relay → (Tables S C → Type 0) → Type 0
  KnowsAll r may_leave = AllMatch service may_leave × ((t : Tables S C) → may_leave t → Knows r (kept t))
