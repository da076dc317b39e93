-- What is read of one service, and shown.
use Rattle.std.specs.Prelude.{◌≡◌, ℕ, ◌-◌, ◌^◌, List, take, Result, Ok, Err, None}
use Rattle.std.specs.Global.{Vec}
use Rattle.base.specs.declared.pair.Pair.{Pair}
use Rattle.base.specs.Entity.{Entity}
use Rattle.envelope.specs.declared.message.Letter.{Letter}
use Rattle.keep.specs.Failing.{through}
use Rattle.keep.specs.Law.{Reads}
use Rattle.keep.specs.Listing.{AreFirst}
use Rattle.keep.specs.Seen.{Seen}
use Rattle.keep.specs.Tables.{Tables}
use Rattle.endpoint.specs.Calls.{Stays}
use Rattle.endpoint.specs.Faults.{end_of}
use Rattle.endpoint.specs.declared.fault.EndFault.{EndFault}
use Rattle.schedule_mail.specs.Mails.{Mail}
use Rattle.schedule_text.specs.declared.outcome.Outcome.{Outcome}
use Rattle.schedule_text.specs.declared.outcome.Outcome.TheVariants.{Shown}
use Rattle.schedule_shows.specs.Printed.{show_line, frame_lines, journal_lines}
use Rattle.schedule_service.specs.Deeds.{DoubtStays}
use Rattle.schedule_service.specs.Channels.{After}
use Rattle.schedule_service.specs.Outcomes.{fault_told}
use Rattle.schedule_service.specs.declared.site.Site.{Site}
use Rattle.schedule_runner.specs.declared.looking.Listing.{Listing}
use Rattle.schedule_runner.specs.declared.looking.Listing.TheVariants.{Frames, Journal}
use Rattle.schedule_runner.specs.declared.looking.Mark.{Mark}
use Rattle.schedule_runner.specs.declared.looking.Mark.TheVariants.{Sent, Settled, Handled}

-- how many rows one read gives at most
abbrev pub most : ℕ
most = 2 ^ 64 - 1

-- a mark of a pair
abbrev pub mark_of : {S C : Type 0} → Mark → Tables S C → Pair → ℕ
mark_of Sent t = t.sent
mark_of Settled t = t.settled
mark_of Handled t = t.handled

-- the line of an entity's row
abbrev pub IsRow : {S C : Type 0} → (S → List ℕ) → Entity → Tables S C → List ℕ → Type 0
IsRow shown e t lines = lines ≡ show_line shown e (t.entity e)

-- the lines of the letters that aren't settled, or of the rows of the journal
abbrev pub AreListed : {S C : Type 0} → (C → List ℕ) → Listing → Tables S C → List ℕ → Type 0
AreListed shown Frames t lines =
    (letters : List Letter) × AreFirst t.unsettled None most letters × (lines ≡ frame_lines letters)
AreListed shown Journal t lines = lines ≡ journal_lines shown (take most t.journal)

-- what is told of a read that ended so: what was read, or the outcome of its fault
abbrev pub read_told : {R : Type 0} → Result R EndFault → Result R Outcome
read_told (Ok r) = Ok r
read_told (Err fault) = Err (fault_told fault)

-- the outcome that shows lines, or that of a fault
abbrev pub shown_told : Result (Vec ℕ) Outcome → Outcome
shown_told (Ok lines) = Shown lines
shown_told (Err told) = told

module _ {H K S C : Type 0} (seen : K → Seen (Tables S C)) where
  -- One service reads its store, whose tables give this, and stay. Where the store failed both connections are cut, and
  -- else they and the mail stay as they are.
  pub record ReadsSite {R : Type 0} (gives : Tables S C → R → Type 0) (result : Result R Outcome) (s : Site H K S C)
      (from : Mail)
      (t : Site H K S C) (to : Mail) : Type 0 where
    pub answer : Result R EndFault
    pub reads : Reads (through seen) s.endpoint t.endpoint gives (end_of answer)
    pub tells : result ≡ read_told answer
    pub after : After answer (record s { endpoint = t.endpoint }) from t to

  -- doubt never falls, and a stop leaves nothing that it mightn't leave before
  pub record StoreStays (s t : Site H K S C) : Type 0 where
    pub doubt : DoubtStays seen s t
    pub stays : Stays (through seen) s.endpoint t.endpoint
